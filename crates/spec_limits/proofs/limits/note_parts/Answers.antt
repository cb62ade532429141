use Rattle.spec_names.proofs.NotingFacts.{flat_step}
use Rattle.spec_limits.specs.Counting.{component_parts_past}
use Rattle.spec_limits.proofs.LimitLemmas.{component_noted}
use Rattle.spec_limits.proofs.limits.note_parts.Goals as goal

pub loop-component-preserved : goal.loop-component-preserved
loop-component-preserved c =
    flat_step component_parts_past c.args.components.now c.loop-component.component-index c.component-item.result c.loop-component.first
    c.note_items.new.first _ c.loop-component-test.true c.component-item.is
    (component_noted c.component-item.result c.refinement_items.result.now c.loop-component.first c.note_items.new.first c.refinement_items.ensures
    c.note_items.ensures)
    c.loop-component.invariant
