use Rattle.std.proofs.Common.{◌≡◌, map}
use Rattle.architecture.specs.Assembling.{component_by}
use Rattle.architecture.proofs.components.components_of.Given as goal

abbrev pub invariant-loop-component : goal.invariant-loop-component
invariant-loop-component l = l.made ≡ map (λ y. component_by l.names y.0.now y.1.0.0 y.1.0.1 y.1.1) l.yielded
