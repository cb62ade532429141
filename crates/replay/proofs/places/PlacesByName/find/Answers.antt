use Rattle.std.proofs.Common.{ap, ◌∙◌}
use Rattle.replay.specs.Reading.{place_by_key}
use Rattle.replay.proofs.NameTables.{lookup_bytes}
use Rattle.replay.proofs.places.PlacesByName.find.Goals as goal

pub returns : goal.returns
returns c =
    c.copied.ensures
    ∙ (c.get.ensures.value
    ∙ (lookup_bytes c.args.name.now c.self.inside.places.entries ∙ ap (λ es. place_by_key es c.args.name.now) c.self.view_is))
