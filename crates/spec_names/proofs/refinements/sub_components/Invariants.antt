use Rattle.spec_names.specs.Refinements.{component_of_item}
use Rattle.spec_names.proofs.Building.{Built}
use Rattle.spec_names.proofs.refinements.sub_components.Given as goal

abbrev pub invariant-loop-item : goal.invariant-loop-item
invariant-loop-item l = Built (component_of_item l.components) l.items l.list.items l.item-index
