use Rattle.spec_types.specs.Walks as walks
use Rattle.spec_types.specs.Making as making
use Rattle.spec_types.proofs.Making.{Built}
use Rattle.spec_types.proofs.connections.targets_of.Given as goal

abbrev pub invariant-loop-item : goal.invariant-loop-item
invariant-loop-item l = Built (making.targets_in (walks.target_by (walks.refinement l.scope))) l.items l.targets.items l.item-index
