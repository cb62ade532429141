use Rattle.std.proofs.Common.{◌<◌, ℕ}
use Rattle.fault_tree.specs.Trees.{IsMember}
use Rattle.set_vectors.proofs.expansions.stand_first.Given as goal

abbrev pub invariant-loop-node : goal.invariant-loop-node
invariant-loop-node l = (k : ℕ) → k < l.node → (member : ℕ) → IsMember l.nodes k member → member < k
