use Rattle.std.proofs.Common.{arith, None, sym, ◌∙◌, false, ◌<◌, length}
use Rattle.std.proofs.lemmas.List.{get_or_read}
use Rattle.sat_core.proofs.Trails.{sign_by_value, none_of_value, no_sign}
use Rattle.sat_core.proofs.trail.Trail.holds.Goals as goal

pub returns-in-Some : goal.returns-in-Some
returns-in-Some c =
    let s = c.args.self.now in
    let within : c.args.var < length s.values.items = omega (arith, c.requires.var, s.valued) in
    let read = get_or_read s.values.items c.args.var c.index.result.now within c.index.ensures None in
    sign_by_value s.steps.items s.places.items c.args.var c.in-Some.positive c.requires.trail
    (sym (s.values_stand c.args.var) ∙ sym read ∙ c.in-Some.is)

pub returns-in-None : goal.returns-in-None
returns-in-None c =
    let s = c.args.self.now in
    let within : c.args.var < length s.values.items = omega (arith, c.requires.var, s.valued) in
    let read = get_or_read s.values.items c.args.var c.index.result.now within c.index.ensures None in
    no_sign s.steps.items s.places.items c.args.var false c.requires.trail
    (none_of_value s.steps.items _ (sym (s.values_stand c.args.var) ∙ sym read ∙ c.in-None.is))
