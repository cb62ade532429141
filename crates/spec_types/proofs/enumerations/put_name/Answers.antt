use Rattle.std.proofs.Common.{ap, ◌∙◌}
use Rattle.spec_names.specs.Tables.{with_place}
use Rattle.spec_types.proofs.NameTables.{table_with}
use Rattle.spec_types.proofs.enumerations.put_name.Goals as goal

pub returns : goal.returns
returns c text =
    table_with _ _ c.args.name.now text c.args.place (c.in_ok-add.ensures.ok ∙ ap (λ name. with_place c.args.table.now name c.args.place) c.as_str.ensures)
