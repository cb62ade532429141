use Rattle.std.proofs.Common.{take}
use Rattle.spec_names.specs.Enumerators.{HasPlacesOf}
use Rattle.spec_names.proofs.visible.places_of.Given as goal

abbrev pub invariant-loop-component : goal.invariant-loop-component
invariant-loop-component l = HasPlacesOf (take l.component-index l.components) l.places
