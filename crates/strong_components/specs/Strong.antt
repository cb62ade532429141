-- Strongly connected components of a graph, told by ranks (R. Tarjan, Depth-first search and linear graph
-- algorithms, 1972). Nodes are told by their places, counted from 0.
use Rattle.std.specs.Prelude.{◌≡◌, ℕ, ◌<◌, ◌≤◌, List, [], ◌∷◌, length, slice_index_or, Contains}

-- a graph: for each node the nodes that its edges lead to
abbrev pub targets : List (List ℕ) → ℕ → List ℕ
targets g u = slice_index_or g u []

abbrev pub HasEdge : List (List ℕ) → ℕ → ℕ → Type 0
HasEdge g u v = Contains (targets g u) v

-- the nodes that edges lead to are nodes of the graph
abbrev pub IsInside : List (List ℕ) → Type 0
IsInside g = (u v : ℕ) → HasEdge g u v → v < length g

-- along edges, through the nodes of a list
abbrev pub RunsThrough : List (List ℕ) → ℕ → List ℕ → ℕ → Type 0
RunsThrough g u [] v = u ≡ v
RunsThrough g u (x ∷ xs) v = HasEdge g u x × RunsThrough g x xs v

abbrev pub LeadsTo : List (List ℕ) → ℕ → ℕ → Type 0
LeadsTo g u v = (xs : List ℕ) × RunsThrough g u xs v

-- Numbers of the nodes that do not rise along edges, and are the same only within a component.
pub record IsRanking (g : List (List ℕ)) (ranks : List ℕ) : Type 0 where
  pub count : length ranks ≡ length g
  pub falls : (u v : ℕ) → u < length g → HasEdge g u v → slice_index_or ranks v 0 ≤ slice_index_or ranks u 0
  pub same : (u v : ℕ) → u < length g → v < length g → slice_index_or ranks u 0 ≡ slice_index_or ranks v 0
      → LeadsTo g u v
