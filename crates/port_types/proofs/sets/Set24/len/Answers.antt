use Rattle.std.proofs.Common.{◌≡◌, ◌∙◌, sym, ap, length, arith}
use Rattle.std.proofs.lemmas.Bool.{eq-eqb, ne_eqb}
use Rattle.port_types.specs.Sets.{has_place}
use Rattle.port_types.proofs.BitLaws.{passing_count, failing_more}
use Rattle.port_types.proofs.sets.Set24.len.Goals as goal
use Rattle.port_types.proofs.sets.Set24.len.Goals.{then-has, else-has}

pub loop-place-preserved : goal.loop-place-preserved
loop-place-preserved c =
    elim c.if-has.branch [
      | then-has w ↦ record {
        counted = omega (arith, w.count-is, passing_count (has_place c.args.self) c.loop-place.place (eq-eqb _ _ (c.has.ensures.0 w.if-has.true)));
        few = omega (arith, w.count-is);
      }
      | else-has w ↦ record {
        counted = w.count-is ∙ c.loop-place.invariant.counted
            ∙ ap length (sym (failing_more (has_place c.args.self) c.loop-place.place (ne_eqb _ _ (λ one. absurd (cc (c.has.ensures.1 one, w.if-has.false))))));
        few = omega (arith, w.count-is);
      }
    ]
