use Rattle.std.proofs.Common.{◌∙◌, List, ℕ, refl, ap, subst}
use Rattle.core_ltl.specs.declared.stop.ClosureStop.TheVariants as stop
use Rattle.levels.specs.Rising.{is_rising}
use Rattle.levels.specs.Steps.{AreNodes, formulas_meaning}
use Rattle.levels.proofs.Adding.{same_error}
use Rattle.levels.proofs.Built.{exceeds_at}
use Rattle.levels.proofs.PlaceLaws.{rises_test}
use Rattle.levels.proofs.building.with_nodes.Goals as goal

pub invariant_of-result : goal.invariant_of-result
invariant_of-result c = record { rises = ap (is_rising 0) c.from_vec.ensures ∙ rises_test 0 c.args.places.items c.requires }

pub returns-in-Ok-clause-level : goal.returns-in-Ok-clause-level
returns-in-Ok-clause-level c =
    let n = subst (λ (ps : List ℕ). AreNodes ps (formulas_meaning c.args.formulas.now) c.in-Ok.nodes) c.as_slice.ensures.value c.in-Ok.ensures.nodes in
    record {
      component = refl;
      places = c.from_vec.ensures;
      ports = refl;
      closure = n.closure;
      within = n.within;
      assume = n.assume;
      guarantee = n.guarantee;
      parts = n.parts;
    }

pub returns-in-Err-clause-too_large : goal.returns-in-Err-clause-too_large
returns-in-Err-clause-too_large c = λ is.
    exceeds_at c.as_slice.result.now c.args.places.items (formulas_meaning c.args.formulas.now) c.as_slice.ensures.value
    (c.in-Err.ensures.too_large (same_error c.in-Err.stop stop.TooLarge is))
