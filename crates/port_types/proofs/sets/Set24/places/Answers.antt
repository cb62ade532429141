use Rattle.std.proofs.Common.{◌≡◌, ◌∙◌, ◌++◌, ◌∷◌, [], ℕ, List, Vec, Global, sym, ap}
use Rattle.std.proofs.lemmas.Bool.{eq-eqb, ne_eqb}
use Rattle.port_types.specs.Sets.{has_place}
use Rattle.port_types.proofs.BitLaws.{passing_more, failing_more}
use Rattle.port_types.proofs.sets.Set24.places.Goals as goal
use Rattle.port_types.proofs.sets.Set24.places.Goals.{then-has+in_ok-push, else-has}

pub loop-place-preserved : goal.loop-place-preserved
loop-place-preserved c =
    elim c.if-has.branch [
      | then-has+in_ok-push w ↦
          ap (λ (v : Vec ℕ Global). v.items) w.list-is ∙ w.in_ok-push.ensures.items
          ∙ ap (λ (l : List ℕ). l ++ c.loop-place.place ∷ []) c.loop-place.invariant
          ∙ sym (passing_more (has_place c.args.self) c.loop-place.place (eq-eqb _ _ (c.has.ensures.0 w.if-has.true)))
      | else-has w ↦
          ap (λ (v : Vec ℕ Global). v.items) w.list-is ∙ c.loop-place.invariant
          ∙ sym (failing_more (has_place c.args.self) c.loop-place.place (ne_eqb _ _ (λ one. absurd (cc (c.has.ensures.1 one, w.if-has.false)))))
    ]
