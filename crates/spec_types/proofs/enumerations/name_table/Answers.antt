use Rattle.spec_types.proofs.NameTables.{name_table_more, name_table_all}
use Rattle.spec_types.proofs.enumerations.name_table.Goals as goal

pub loop-name-preserved : goal.loop-name-preserved
loop-name-preserved c =
    name_table_more c.args.names.now c.loop-name.name-index _ c.loop-name.table c.put_name.new.table c.loop-name-test.true c.name-item.is
    c.in_ok-put_name.ensures c.loop-name.invariant

pub returns : goal.returns
returns c = name_table_all c.args.names.now c.loop-name.name-index c.loop-name.table c.loop-name-test.false c.loop-name.invariant
