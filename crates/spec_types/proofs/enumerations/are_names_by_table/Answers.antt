use Rattle.spec_types.proofs.NameTables.{names_by}
use Rattle.spec_types.proofs.enumerations.are_names_by_table.Goals as goal

pub returns : goal.returns
returns c = names_by _ c.args.names.now c.args.others.now _ c.in_ok-table.ensures c.all_are_entries.ensures
