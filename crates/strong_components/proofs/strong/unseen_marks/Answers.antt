use Rattle.std.proofs.Common.{[], ◌∷◌, ◌++◌, ap, ◌∙◌}
use Rattle.std.proofs.lemmas.List.{replicate-append-replicate}
use Rattle.strong_components.specs.declared.strong.Mark.TheVariants as mark
use Rattle.strong_components.proofs.strong.unseen_marks.Goals as goal

pub loop-place-preserved : goal.loop-place-preserved
loop-place-preserved c =
    c.in_ok-push.ensures.items ∙ (ap (λ list. list ++ mark.Unseen ∷ []) c.loop-place.invariant ∙ replicate-append-replicate c.loop-place._place 1 mark.Unseen)
