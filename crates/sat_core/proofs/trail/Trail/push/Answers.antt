use Rattle.std.proofs.Common.{◌≡◌, ◌∷◌, ◌++◌, ℕ, [], List, Option, set, Some, None, length, ◌∙◌, ◌<◌, get_or, arith}
use Rattle.sat_core.specs.declared.trail.Step.{Step}
use Rattle.sat_core.specs.Search.{IsTrail}
use Rattle.sat_core.proofs.Trails.{IsTrail-push, trail_room}
use Rattle.sat_core.proofs.trail.Trail.push.Goals as goal

pushed : (steps new : List Step) (places : List (Option ℕ)) (step : Step) (n : ℕ) → n ≡ length steps → new ≡ steps
    ++ step ∷ []
    → IsTrail steps places → step.lit.var < length places → get_or places (step.lit.var) None ≡ None
    → IsTrail new (set places (step.lit.var) (Some n))
pushed steps new places step n len grown trail within none = rw (grown, len) (IsTrail-push steps places step trail within none)

pub returns-clause-trail : goal.returns-clause-trail
returns-clause-trail c =
    pushed c.args.self.now.steps.items _ c.args.self.now.places.items c.args.step _ (c.len-place.ensures ∙ c.args.self.now.steps.ok.0)
    c.push_within.ensures.items c.requires.trail c.requires.var c.requires.free

pub push_within-requires : goal.push_within-requires
push_within-requires c =
    let s = c.args.self.now in
    omega (arith, trail_room s.steps.items s.places.items c.args.step.lit.var c.requires.trail c.requires.var c.requires.free, s.room, s.steps.ok.0)
