use Rattle.spec_types.proofs.NameTables.{shared_by}
use Rattle.spec_types.proofs.enumerations.share_by_table.Goals as goal

pub returns : goal.returns
returns c = shared_by _ c.args.names.now c.args.others.now _ c.in_ok-table.ensures c.any_is_entry.ensures
