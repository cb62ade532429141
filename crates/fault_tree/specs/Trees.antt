-- Fault trees as lists of nodes, each after its members, and the sets of leaves by which a node fails: its cut sets, as
-- in J. B. Fussell and W. E. Vesely, A new methodology for obtaining cut sets for fault trees (1972).
use Rattle.std.specs.Prelude.{◌≡◌, ℕ, ◌*◌, ◌<◌, List, [], ◌∷◌, map, length, sum_by, slice_index_or, Contains}
use Rattle.std.specs.List.{AllZip}
use Rattle.fault_tree.specs.declared.nodes.TreeNode.{TreeNode}
use Rattle.fault_tree.specs.declared.nodes.TreeNode.TheVariants.{Leaf, Cuts}
use Rattle.fault_tree.specs.Leaves.{IsRising, AreMinimalOf}

-- a node with more unions than this is too wide
abbrev pub most_unions : ℕ
most_unions = 65536

-- the node of a number
pub record IsNode (nodes : List TreeNode) (k : ℕ) (node : TreeNode) : Type 0 where
  pub within : k < length nodes
  pub is : slice_index_or nodes k node ≡ node

-- a number is one of a cut of the node
pub record IsMember (nodes : List TreeNode) (k member : ℕ) : Type 0 where
  pub cuts : List (List ℕ)
  pub cut : List ℕ
  pub node : IsNode nodes k (Cuts cuts)
  pub listed : Contains cuts cut
  pub named : Contains cut member

-- Each member stands earlier in the list than its node.
abbrev pub MembersStandFirst : List TreeNode → Type 0
MembersStandFirst nodes = (k member : ℕ) → IsMember nodes k member → member < k

-- the top depends on itself and, through members of cuts, on the nodes below it
pub data DependsOn (nodes : List TreeNode) (top : ℕ) : ℕ → Type 0 where
  here : DependsOn nodes top top
  step : (k member : ℕ) → DependsOn nodes top k → IsMember nodes k member → DependsOn nodes top member

-- one set of every member of a cut, where the sets of each node are given
abbrev pub IsChoice : (ℕ → List (List ℕ)) → List ℕ → List (List ℕ) → Type 0
IsChoice sets cut chosen = AllZip (λ member s. Contains (sets member) s) cut chosen

-- the rising list of the numbers of some sets
pub record IsUnionOf (chosen : List (List ℕ)) (s : List ℕ) : Type 0 where
  pub rising : IsRising s
  pub each : (x : ℕ) → Contains s x → (c : List ℕ) × Contains chosen c × Contains c x
  pub every : (c : List ℕ) → Contains chosen c → (x : ℕ) → Contains c x → Contains s x

-- a union of one set of every member of some cut
pub record IsFormed (sets : ℕ → List (List ℕ)) (cuts : List (List ℕ)) (s : List ℕ) : Type 0 where
  pub cut : List ℕ
  pub chosen : List (List ℕ)
  pub listed : Contains cuts cut
  pub choice : IsChoice sets cut chosen
  pub union : IsUnionOf chosen s

abbrev pub product : List ℕ → ℕ
product [] = 1
product (n ∷ ns) = n * product ns

-- The number of unions that are formed: for each cut as many as there are choices.
abbrev pub width : (ℕ → List (List ℕ)) → List (List ℕ) → ℕ
width sets cuts = sum_by (λ cut. product (map (λ member. length (sets member)) cut)) cuts

-- The sets of a node are right: a leaf has one, which holds it alone, and a refined node the minimal ones of its
-- unions.
pub record HasSets (nodes : List TreeNode) (sets : ℕ → List (List ℕ)) (k : ℕ) : Type 0 where
  pub leaf : IsNode nodes k Leaf → sets k ≡ (k ∷ []) ∷ []
  pub refined : (cuts : List (List ℕ)) → IsNode nodes k (Cuts cuts) → AreMinimalOf (IsFormed sets cuts) (sets k)

-- too many unions are formed at a node
pub record IsWide (nodes : List TreeNode) (sets : ℕ → List (List ℕ)) (k : ℕ) : Type 0 where
  pub cuts : List (List ℕ)
  pub node : IsNode nodes k (Cuts cuts)
  pub over : most_unions < width sets cuts
