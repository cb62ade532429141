-- What an expansion answers, told by the sets of every node that the top depends on.
use Rattle.std.specs.Prelude.{◌≡◌, ℕ, suc, ◌<◌, List}
use Rattle.fault_tree.specs.declared.nodes.TreeNode.{TreeNode}
use Rattle.fault_tree.specs.declared.nodes.Expansion.{Expansion}
use Rattle.fault_tree.specs.declared.nodes.Expansion.TheVariants as answer
use Rattle.fault_tree.specs.Trees.{DependsOn, HasSets, IsWide}

-- Of the nodes below a number that the top depends on, the sets are right, and none is too wide.
pub record IsExpandedBelow (nodes : List TreeNode) (top end : ℕ) (sets : ℕ → List (List ℕ)) : Type 0 where
  pub right : (k : ℕ) → k < end → DependsOn nodes top k → HasSets nodes sets k
  pub narrow : (k : ℕ) → k < end → DependsOn nodes top k → IsWide nodes sets k → ⊥

-- the top's sets, where no node that it depends on is too wide
pub record IsExpandedTo (nodes : List TreeNode) (top : ℕ) (found : List (List ℕ)) : Type 0 where
  pub sets : ℕ → List (List ℕ)
  pub below : IsExpandedBelow nodes top (suc top) sets
  pub is : sets top ≡ found

-- the least node that the top depends on and that is too wide
pub record IsFirstWide (nodes : List TreeNode) (top node : ℕ) : Type 0 where
  pub sets : ℕ → List (List ℕ)
  pub below : IsExpandedBelow nodes top node sets
  pub reached : DependsOn nodes top node
  pub wide : IsWide nodes sets node

abbrev pub IsExpansion : List TreeNode → ℕ → Expansion → Type 0
IsExpansion nodes top (answer.Sets found) = IsExpandedTo nodes top found
IsExpansion nodes top (answer.Wide node) = IsFirstWide nodes top node
