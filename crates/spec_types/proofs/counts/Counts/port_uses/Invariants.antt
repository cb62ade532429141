use Rattle.std.specs.Prelude.{◌≡◌, take}
use Rattle.spec_types.proofs.counts.Counts.port_uses.Given as goal

abbrev pub invariant-loop-place : goal.invariant-loop-place
invariant-loop-place l = l.uses ≡ take l.place l.self
