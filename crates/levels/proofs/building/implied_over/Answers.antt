use Rattle.std.proofs.Common.{◌≡◌, subst}
use Rattle.std.specs.Prelude.{IfOk}
use Rattle.typed_ltl.specs.declared.formula.Formula.{Formula}
use Rattle.typed_ltl.specs.Formulas.{Ltl, meaning}
use Rattle.typed_ltl.specs.Formulas as form
use Rattle.levels.specs.Levels.{over_places}
use Rattle.levels.proofs.building.implied_over.Goals as goal

pub returns : goal.returns
returns c =
    subst (λ (g : Ltl). IfOk c.implication.result
    (λ (made : Formula). meaning made ≡ form.Implies (over_places c.args.places.now (meaning c.args.asked.now)) g))
    c.in_ok-given.ensures
    (subst (λ (f : Ltl). IfOk c.implication.result (λ (made : Formula). meaning made ≡ form.Implies f (meaning c.in_ok-given.given))) c.in_ok-asked.ensures
    c.implication.ensures)
