use Rattle.std.proofs.Common.{◌≡◌, drop}
use Rattle.std.specs.Str.{bytes_eq}
use Rattle.std.specs.Cmp.Lexicographic.{pointwise}
use Rattle.state_coding.proofs.names.are_same.Given as goal

-- the lists are the same where what is left is
abbrev pub invariant-loop-i : goal.invariant-loop-i
invariant-loop-i l = pointwise bytes_eq l.names l.others ≡ pointwise bytes_eq (drop l.i l.names) (drop l.i l.others)
