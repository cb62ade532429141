use Rattle.std.specs.Prelude.{◌≡◌, map, take, length}
use Rattle.spec_model.specs.declared.sub.Sub.{Sub}
use Rattle.spec_model.specs.Architecture.{ports_of}
use Rattle.spec_model.proofs.free_ports.port_counts.Given as goal

abbrev pub invariant-loop-sub : goal.invariant-loop-sub
invariant-loop-sub l = l.counts.items ≡ map (λ (s : Sub). length (ports_of l.spec s.component)) (take l.sub-index l.subs)
