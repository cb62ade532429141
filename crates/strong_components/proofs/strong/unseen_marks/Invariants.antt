use Rattle.std.proofs.Common.{◌≡◌, replicate}
use Rattle.strong_components.specs.declared.strong.Mark.TheVariants as mark
use Rattle.strong_components.proofs.strong.unseen_marks.Given as goal

abbrev pub invariant-loop-place : goal.invariant-loop-place
invariant-loop-place l = l.marks.items ≡ replicate l._place mark.Unseen
