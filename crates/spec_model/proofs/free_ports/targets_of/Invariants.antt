use Rattle.std.specs.Prelude.{◌≡◌, map, take, length}
use Rattle.spec_model.specs.declared.wire.Wire.{Wire}
use Rattle.spec_model.specs.Architecture.{ports_of}
use Rattle.spec_model.proofs.free_ports.targets_of.Given as goal

abbrev pub invariant-loop-wire : goal.invariant-loop-wire
invariant-loop-wire l = l.targets.items ≡ map (λ (w : Wire). w.target) (take l.wire-index l.wires)
