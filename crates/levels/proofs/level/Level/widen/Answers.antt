use Rattle.std.proofs.Common.{◌≡◌, ◌∙◌, ℕ, List, map, sym, ap, subst}
use Rattle.spec_model.specs.FreePlaces.{Rises}
use Rattle.first_lasso.specs.UsedPorts.{widened_state}
use Rattle.spec_model.specs.FreeTypes.{free_types}
use Rattle.levels.specs.Steps.{shown_type}
use Rattle.levels.proofs.PlaceLaws.{test_rises}
use Rattle.levels.proofs.Scopes.{shown_types}
use Rattle.levels.proofs.level.Level.widen.Goals as goal

pub wide_states-requires : goal.wide_states-requires
wide_states-requires c =
    subst (λ (ps : List ℕ). Rises 0 ps) (sym c.as_slice-2.ensures) (test_rises 0 c.args.self.now.places c.args.self.now.rises)

pub returns-clause-states : goal.returns-clause-states
returns-clause-states c =
    let types : map shown_type c.as_slice.result.now ≡ free_types c.args.spec.now c.args.self.now.component =
    ap (map shown_type) c.as_slice.ensures ∙ shown_types c.args.spec.now c.args.self.now.component c.in_ok-free.free c.in_ok-free.ensures in
    c.in_ok-states.ensures
    ∙ (λ j. map (widened_state (types j) (c.as_slice-2.ensures j)) (c.as_slice-3.ensures j))
