use Rattle.std.proofs.Common.{ap, ◌∙◌}
use Rattle.spec_names.specs.Tables.{entry_place}
use Rattle.spec_names.proofs.TableLemmas.{lookup_text}
use Rattle.spec_names.proofs.table.PlaceTable.find.Goals as goal

pub returns : goal.returns
returns c =
    c.copied.ensures
    ∙ (c.get.ensures.value
    ∙ (lookup_text c.args.name.now c.self.inside.places.entries ∙ ap (λ es. entry_place es c.args.name.now) c.self.view_is))
