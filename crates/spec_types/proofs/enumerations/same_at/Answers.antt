use Rattle.std.proofs.Common.{sym}
use Rattle.std.proofs.lemmas.Map.Keys.{any_passes_from_place}
use Rattle.spec_types.specs.TypeFaults.{is_name_of}
use Rattle.spec_types.proofs.enumerations.same_at.Goals as goal

pub returns-in-Some : goal.returns-in-Some
returns-in-Some c h =
    any_passes_from_place (is_name_of c.args.others.now) c.args.names.now c.args.place c.in-Some.name.now (sym c.in-Some.ensures) (c.is_at.ensures h)
