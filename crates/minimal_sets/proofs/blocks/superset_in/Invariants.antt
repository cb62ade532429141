use Rattle.std.proofs.Common.{take}
use Rattle.std.specs.Prelude.{All}
use Rattle.port_types.specs.Sets.{IsSubset}
use Rattle.minimal_sets.proofs.blocks.superset_in.Given as goal

abbrev pub invariant-loop-other : goal.invariant-loop-other
invariant-loop-other l = All (λ m. IsSubset l.set m → ⊥) (take l.other-index l.sets)
