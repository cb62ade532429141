use Rattle.spec_names.specs.Containment.{inner_faults}
use Rattle.spec_names.proofs.NotingFacts.{flat_step}
use Rattle.spec_names.proofs.containment.note_inner.Goals as goal

pub loop-item-preserved : goal.loop-item-preserved
loop-item-preserved c =
    flat_step (inner_faults c.args.names.now c.args.ranks.now c.args.own) c.args.items.now c.loop-item.item-index c.item-item.result c.loop-item.first
    c.note_inner_item.new.first _
    c.loop-item-test.true c.item-item.is c.note_inner_item.ensures c.loop-item.invariant
