-- Marks on the nodes that the top depends on. This file serves proofs only: no public contract cites it.
use Rattle.std.specs.Prelude.{◌≡◌, ℕ, ◌≤◌, Bool, true, false, ◌⊎◌, List, [], length, Contains, slice_index_or}
use Rattle.fault_tree.specs.declared.nodes.TreeNode.{TreeNode}
use Rattle.fault_tree.specs.declared.nodes.TreeNode.TheVariants.{Leaf, Cuts}
use Rattle.fault_tree.specs.Trees.{IsMember, DependsOn}

-- a place has a mark
abbrev pub IsMarked : List Bool → ℕ → Type 0
IsMarked marks p = slice_index_or marks p false ≡ true

-- as many places, and marks at those of which P holds beside the old ones
pub record Marks (old new : List Bool) (P : ℕ → Type 0) : Type 0 where
  pub long : length new ≡ length old
  pub each : (p : ℕ) → IsMarked new p → IsMarked old p ⊎ P p
  pub kept : (p : ℕ) → IsMarked old p → IsMarked new p
  pub every : (p : ℕ) → P p → IsMarked new p

-- a number stands in one of the lists
pub record IsNamedIn (lists : List (List ℕ)) (p : ℕ) : Type 0 where
  pub list : List ℕ
  pub listed : Contains lists list
  pub named : Contains list p

-- the cuts of a node, none at a leaf
abbrev pub cuts_of : TreeNode → List (List ℕ)
cuts_of Leaf = []
cuts_of (Cuts cuts) = cuts

-- Exactly the nodes that the top depends on are marked.
pub record AreReached (nodes : List TreeNode) (top : ℕ) (marks : List Bool) : Type 0 where
  pub long : length marks ≡ length nodes
  pub each : (k : ℕ) → IsMarked marks k → DependsOn nodes top k
  pub every : (k : ℕ) → DependsOn nodes top k → IsMarked marks k

-- Marks stand at nodes that the top depends on, the top among them, and at the members of each marked node from a
-- number on.
pub record IsReaching (nodes : List TreeNode) (top : ℕ) (marks : List Bool) (from : ℕ) : Type 0 where
  pub long : length marks ≡ length nodes
  pub each : (k : ℕ) → IsMarked marks k → DependsOn nodes top k
  pub first : IsMarked marks top
  pub closed : (k : ℕ) → from ≤ k → IsMarked marks k → (member : ℕ) → IsMember nodes k member
      → IsMarked marks member
