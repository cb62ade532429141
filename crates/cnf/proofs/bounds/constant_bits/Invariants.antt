use Rattle.std.proofs.Common.{◌≡◌, ◌≤◌, ◌-◌, ◌++◌, length, vec_len}
use Rattle.cnf.specs.Bounds.{constant_bits}
use Rattle.cnf.proofs.BoundLaws.{digits_left}
use Rattle.cnf.proofs.bounds.constant_bits.Given as goal

abbrev pub decreases-loop-digit : goal.decreases-loop-digit
decreases-loop-digit l = l.places - vec_len l.bits

-- with the digits of the rest the bits are the constant's
abbrev pub invariant-loop-digit : goal.invariant-loop-digit
invariant-loop-digit l = record {
  within : vec_len l.bits ≤ l.places;
  bits : l.bits.items ++ digits_left l.negative (l.places - vec_len l.bits) l.rest ≡ constant_bits l.places l.number;
}
