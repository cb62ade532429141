use Rattle.std.specs.Prelude.{◌≡◌, map, take}
use Rattle.spec_model.specs.declared.port.FreePort.{FreePort}
use Rattle.replay.proofs.free_ports.kinds_of.Given as goal

abbrev pub invariant-loop-port : goal.invariant-loop-port
invariant-loop-port l = l.kinds ≡ map (λ (port : FreePort). port.kind) (take l.port-index l.free)
