use Rattle.spec_names.proofs.NotingFacts.{flat_step}
use Rattle.spec_limits.specs.Counting.{item_parts_past}
use Rattle.spec_limits.proofs.limits.note_items.Goals as goal

pub loop-item-preserved : goal.loop-item-preserved
loop-item-preserved c =
    flat_step item_parts_past c.args.items.now c.loop-item.item-index c.item-item.result c.loop-item.first c.note_item.new.first _
    c.loop-item-test.true c.item-item.is c.note_item.ensures c.loop-item.invariant
