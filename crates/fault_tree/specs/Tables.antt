-- The sets of the nodes so far. This file serves proofs only: no public contract cites it.
use Rattle.std.specs.Prelude.{◌≡◌, ℕ, Bool, true, List, [], ◌∷◌, Contains}
use Rattle.fault_tree.specs.declared.nodes.TreeNode.{TreeNode}
use Rattle.fault_tree.specs.declared.nodes.TreeNode.TheVariants.{Leaf, Cuts}
use Rattle.fault_tree.specs.Leaves.{IsRising, AreMinimalOf}
use Rattle.fault_tree.specs.Trees.{IsNode, IsFormed, IsWide}

-- the sets of every node rise
abbrev pub AllRising : (ℕ → List (List ℕ)) → Type 0
AllRising sets = (member : ℕ) (s : List ℕ) → Contains (sets member) s → IsRising s

-- These are the sets of a node, by the sets of the nodes before it; of a node that is not reached nothing is said but
-- that they rise.
pub record IsSetsFor (nodes : List TreeNode) (sets : ℕ → List (List ℕ)) (k : ℕ) (reached : Bool)
    (found : List (List ℕ)) : Type 0 where
  pub leaf : reached ≡ true → IsNode nodes k Leaf → found ≡ (k ∷ []) ∷ []
  pub refined : reached ≡ true → (cuts : List (List ℕ)) → IsNode nodes k (Cuts cuts)
      → AreMinimalOf (IsFormed sets cuts) found
  pub narrow : reached ≡ true → IsWide nodes sets k → ⊥
  pub rising : (s : List ℕ) → Contains found s → IsRising s

-- The node is reached and too wide.
pub record IsStopped (nodes : List TreeNode) (sets : ℕ → List (List ℕ)) (k : ℕ) (reached : Bool) : Type 0 where
  pub is : reached ≡ true
  pub wide : IsWide nodes sets k
