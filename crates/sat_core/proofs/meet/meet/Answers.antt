use Rattle.std.proofs.Common.{sym, ◌∙◌, None}
use Rattle.sat_core.specs.declared.trail.Step.{Step}
use Rattle.sat_core.proofs.Meetings.{met_again, met_more, some_not_none}
use Rattle.sat_core.proofs.meet.meet.Goals as goal

pub returns-in-Some-clause-has : goal.returns-in-Some-clause-has
returns-in-Some-clause-has c =
    met_again c.args.trail.now.steps.items c.args.trail.now.places.items c.requires.trail c.args.set.now.steps.items c.args.set.now.places.items
    c.args.lit c.requires.met (some_not_none _ _ (sym c.place.ensures ∙ c.in-Some.is))

pub returns-in-None-clause-has : goal.returns-in-None-clause-has
returns-in-None-clause-has c =
    let step : Step = record { lit = c.args.lit; reason = None } in
    met_more c.args.trail.now.steps.items c.args.trail.now.places.items c.requires.trail c.args.set.now.steps.items c.push.new.self.steps.items
    c.args.set.now.places.items step c.requires.met (sym c.place.ensures ∙ c.in-None.is) c.requires.can c.push.ensures.steps
