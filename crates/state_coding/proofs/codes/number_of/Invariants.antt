use Rattle.std.proofs.Common.{◌≡◌, ◌≤◌, length, drop}
use Rattle.cnf.specs.Clauses.{lit_values}
use Rattle.cnf.specs.Bounds.{binary_number}
use Rattle.state_coding.proofs.codes.number_of.Given as goal

abbrev pub decreases-loop-place : goal.decreases-loop-place
decreases-loop-place l = l.place

abbrev pub invariant-loop-place : goal.invariant-loop-place
invariant-loop-place l = record {
  within : l.place ≤ length l.row;
  number : l.number ≡ binary_number (drop l.place (lit_values l.model l.row));
}
