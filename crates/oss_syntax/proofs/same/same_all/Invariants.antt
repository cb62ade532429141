use Rattle.std.proofs.Common.{◌≡◌, ◌↔◌, map, length}
use Rattle.oss_syntax.proofs.same.same_all.Given as goal

-- the lists are the same just where what is left of them is
abbrev pub invariant-pairs : goal.invariant-pairs
invariant-pairs g l =
    (map g.T.Placeless.bare l.lefts ≡ map g.T.Placeless.bare l.rights) ↔ (map g.T.Placeless.bare l.left ≡ map g.T.Placeless.bare l.right)

abbrev pub decreases-pairs : goal.decreases-pairs
decreases-pairs g l = length l.lefts
