use Rattle.std.proofs.Common.{Option, ℕ}
use Rattle.spec_names.proofs.Building.{Built}
use Rattle.spec_names.proofs.containment.inner_places.Given as goal

abbrev pub invariant-loop-component : goal.invariant-loop-component
invariant-loop-component l = Built (λ (place : Option ℕ). place) l.tables.components.items l.places.items l.component-index
