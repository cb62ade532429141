use Rattle.std.proofs.Common.{◌≤◌, length}
use Rattle.sat_core.specs.Numbering.{IsNumbered}
use Rattle.sat_core.proofs.log.chains.Given as goal

abbrev pub invariant-loop-place : goal.invariant-loop-place
invariant-loop-place l = record {
  numbered : IsNumbered l.added l.learnt l.assumed l.needed l.place l.numbers.items l.log;
  short : length l.log ≤ l.place;
}
