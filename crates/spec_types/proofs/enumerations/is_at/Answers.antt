use Rattle.std.proofs.Common.{sym, ◌∙◌, bytes_eq}
use Rattle.std.proofs.lemmas.Map.Keys.{any_passes_from_place}
use Rattle.spec_types.proofs.enumerations.is_at.Goals as goal

pub returns-in-Some : goal.returns-in-Some
returns-in-Some c h =
    any_passes_from_place (bytes_eq c.args.name.now) c.args.names.now c.args.place c.in-Some.other.now (sym c.in-Some.ensures) (sym c.same_name.ensures ∙ h)
