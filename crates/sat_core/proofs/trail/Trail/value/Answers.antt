use Rattle.std.proofs.Common.{arith, None, sym, ◌∙◌, ◌<◌, length}
use Rattle.std.proofs.lemmas.List.{get_or_read}
use Rattle.sat_core.proofs.Trails.{value_by_sign, none_of_value}
use Rattle.sat_core.proofs.trail.Trail.value.Goals as goal

pub returns-in-Some : goal.returns-in-Some
returns-in-Some c =
    let s = c.args.self.now in
    let within : c.args.lit.var < length s.values.items = omega (arith, c.requires.var, s.valued) in
    let read = get_or_read s.values.items (c.args.lit.var) c.index.result.now within c.index.ensures None in
    value_by_sign s.steps.items s.places.items c.args.lit c.in-Some.positive c.requires.trail
    (sym (s.values_stand (c.args.lit.var)) ∙ sym read ∙ c.in-Some.is)

pub returns-in-None : goal.returns-in-None
returns-in-None c =
    let s = c.args.self.now in
    let within : c.args.lit.var < length s.values.items = omega (arith, c.requires.var, s.valued) in
    let read = get_or_read s.values.items (c.args.lit.var) c.index.result.now within c.index.ensures None in
    none_of_value s.steps.items _ (sym (s.values_stand (c.args.lit.var)) ∙ sym read ∙ c.in-None.is)
