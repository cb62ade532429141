use Rattle.spec_names.specs.Interfaces.{input_of_item}
use Rattle.spec_names.proofs.Building.{Built}
use Rattle.spec_names.proofs.interfaces.inputs_of.Given as goal

abbrev pub invariant-loop-item : goal.invariant-loop-item
invariant-loop-item l = Built input_of_item l.items l.inputs.items l.item-index
