use Rattle.spec_names.specs.Refinements.{names_around, faults_of_item}
use Rattle.spec_names.proofs.NotingFacts.{flat_step}
use Rattle.spec_names.proofs.refinements.note_parts.Goals as goal

pub loop-item-preserved : goal.loop-item-preserved
loop-item-preserved c =
    flat_step (faults_of_item (names_around c.args.surroundings)) c.args.items.now c.loop-item.item-index c.item-item.result c.loop-item.first
    c.note_part.new.first _
    c.loop-item-test.true c.item-item.is c.in_ok-note_part.ensures c.loop-item.invariant
