use Rattle.std.proofs.Common.{take}
use Rattle.std.specs.Prelude.{All}
use Rattle.port_types.specs.Sets.{IsSubset}
use Rattle.set_vectors.proofs.minimal_members.subset_in.Given as goal

abbrev pub invariant-loop-other : goal.invariant-loop-other
invariant-loop-other l = All (λ m. IsSubset m l.set → ⊥) (take l.other-index l.sets)
