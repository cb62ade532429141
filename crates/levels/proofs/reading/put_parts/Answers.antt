use Rattle.std.proofs.Common.{sym}
use Rattle.levels.specs.Steps.{part_reads}
use Rattle.levels.proofs.Stepwise.{read_on}
use Rattle.levels.proofs.reading.put_parts.Goals as goal

pub loop-part-preserved : goal.loop-part-preserved
loop-part-preserved c =
    read_on part_reads c.args.ports.now.items c.loop-part.ports.items c.put_part.new.ports.items c.args.parts.now c.loop-part.part-index
    c.part-item.result c.part-item.result c.loop-part-test.true (sym c.part-item.is) c.loop-part.invariant c.in_ok-put_part.ensures
