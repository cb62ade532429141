use Rattle.std.proofs.Common.{◌≡◌, List, [], ◌∷◌, ◌++◌, ◌∙◌, Some, slice_get, length, map, filter, true, false, refl, ap}
use Rattle.std.proofs.lemmas.Option.{slice_get_read}
use Rattle.core_ltl.specs.declared.question.SignedNode.{SignedNode}
use Rattle.levels.specs.Steps.{normal_form_node, has_other_sub}
use Rattle.levels.proofs.Asked.{assumes_asks}
use Rattle.levels.proofs.level.Level.assumes.Goals as goal

pub returns : goal.returns
returns c = λ spec item part is at_part.
    let self = c.args.self.now in
    let n = c.index-part.result.now in
    let at_n : slice_get self.parts.items c.args.j ≡ Some n =
    slice_get_read self.parts.items (length self.parts.items) c.args.j n refl c.requires c.index-part.ensures in
    let first : SignedNode = record { node = self.assume; positive = true } in
    let last : SignedNode = record { node = n.assume; positive = false } in
    assumes_asks spec item self c.args.j n part c.put-2.new.question is at_n at_part
    (c.in_ok-put-2.ensures
    ∙ ap (λ (q : List SignedNode). q ++ last ∷ []) (c.in_ok-put_others.ensures
    ∙ (λ j. (c.in_ok-put.ensures ∙ ap (λ (q : List SignedNode). q ++ first ∷ []) c.new-question.ensures) j
    ++ map normal_form_node (filter (has_other_sub n.sub) (c.as_slice.ensures.value j)))))
