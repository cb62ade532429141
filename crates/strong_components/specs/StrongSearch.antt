-- The state of a search for strongly connected components (serves proofs only). The search keeps a stack of nodes
-- that is cut into strongly connected segments (H. N. Gabow, Path-based depth-first search for strong and
-- biconnected components, 2000; its facts are those of P. Lammich, Verified efficient implementation of Gabow's
-- strongly connected component algorithm, 2014).
use Rattle.std.specs.Prelude.{◌≡◌, ℕ, ◌+◌, ◌-◌, ◌<◌, ◌≤◌, ◌⊎◌, List, [], ◌∷◌, ◌++◌, map, length, slice_index_or}
use Rattle.std.specs.Prelude.{slice_set, take, drop, Contains, Option, Some, None}
use Rattle.strong_components.specs.declared.strong.Mark.{Mark}
use Rattle.strong_components.specs.declared.strong.Mark.TheVariants as mark
use Rattle.strong_components.specs.declared.strong.Walk.{Walk}
use Rattle.strong_components.specs.Strong.{targets, HasEdge, LeadsTo}

-- The state of a search: the marks of the nodes, the stack of open nodes, where its segments begin, the edges
-- that are still to be followed, as places on the stack and nodes, and how many components are closed.
pub record Search : Type 0 where
  pub marks : List Mark
  pub stack : List ℕ
  pub bounds : List ℕ
  pub pending : List (ℕ × ℕ)
  pub closed : ℕ

abbrev pub search_mark : Search → ℕ → Mark
search_mark s u = slice_index_or s.marks u mark.Unseen

abbrev pub node_at : Search → ℕ → ℕ
node_at s i = slice_index_or s.stack i 0

abbrev pub bound_at : Search → ℕ → ℕ
bound_at s a = slice_index_or s.bounds a 0

-- no segment begins after place i and up to place j
abbrev pub IsTogether : Search → ℕ → ℕ → Type 0
IsTogether s i j = (a : ℕ) → a < length s.bounds → bound_at s a ≤ j → bound_at s a ≤ i

-- an edge from place i to node v: it is still to be followed, it leads to a closed node, or into the own
-- segment or a later one
abbrev pub LeadsToClosed : Search → ℕ → Type 0
LeadsToClosed s v = (c : ℕ) × (search_mark s v ≡ mark.Closed c)

abbrev pub LeadsToOpen : Search → ℕ → ℕ → Type 0
LeadsToOpen s i v = (q : ℕ) × (search_mark s v ≡ mark.Open q) × IsTogether s q i

abbrev pub IsNodeSettled : Search → ℕ → ℕ → Type 0
IsNodeSettled s i v = LeadsToClosed s v ⊎ LeadsToOpen s i v

abbrev pub IsFollowed : Search → ℕ → ℕ → Type 0
IsFollowed s i v = Contains s.pending (i, v) ⊎ IsNodeSettled s i v

-- what the search keeps, but for edges that are excepted
pub record IsSearchBut (E : ℕ → ℕ → Type 0) (g : List (List ℕ)) (s : Search) : Type 0 where
  pub count : length s.marks ≡ length g
  -- closed nodes
  pub closed_edge : (u v c : ℕ) → search_mark s u ≡ mark.Closed c → HasEdge g u v
      → (d : ℕ) × (search_mark s v ≡ mark.Closed d) × (d ≤ c)
  pub closed_leads : (u v c : ℕ) → search_mark s u ≡ mark.Closed c → search_mark s v ≡ mark.Closed c → LeadsTo g u v
  pub closed_bound : (u c : ℕ) → search_mark s u ≡ mark.Closed c → c < s.closed
  -- open nodes
  pub node_inside : (i : ℕ) → i < length s.stack → node_at s i < length g
  pub node_mark : (i : ℕ) → i < length s.stack → search_mark s (node_at s i) ≡ mark.Open i
  pub mark_node : (u i : ℕ) → search_mark s u ≡ mark.Open i → (i < length s.stack) × (node_at s i ≡ u)
  pub chain : (i j : ℕ) → i ≤ j → j < length s.stack → LeadsTo g (node_at s i) (node_at s j)
  pub back : (i j : ℕ) → i ≤ j → j < length s.stack → IsTogether s i j → LeadsTo g (node_at s j) (node_at s i)
  pub followed : (i v : ℕ) → i < length s.stack → HasEdge g (node_at s i) v → IsFollowed s i v ⊎ E i v
  -- edges still to be followed
  pub pending_edge : (i v : ℕ) → Contains s.pending (i, v) → (i < length s.stack) × HasEdge g (node_at s i) v
  pub pending_rises : (a b : ℕ) → a ≤ b → b < length s.pending
      → (slice_index_or s.pending a (0, 0)).0 ≤ (slice_index_or s.pending b (0, 0)).0
  -- segments
  pub bounds_rise : (a b : ℕ) → a < b → b < length s.bounds → bound_at s a < bound_at s b
  pub bounds_inside : (a : ℕ) → a < length s.bounds → bound_at s a < length s.stack
  pub bounds_begin : 0 < length s.stack → (0 < length s.bounds) × (bound_at s 0 ≡ 0)

abbrev pub IsStrongSearch : List (List ℕ) → Search → Type 0
IsStrongSearch g s = IsSearchBut (λ i v. ⊥) g s

-- the state of the code
abbrev pub search_of : Walk → Search
search_of w = record {
  marks = w.marks.items;
  stack = w.stack.items;
  bounds = w.bounds.items;
  pending = w.pending.items;
  closed = w.closed;
}

-- the edges of a node at a place of the stack
abbrev pub edges_from : ℕ → List ℕ → List (ℕ × ℕ)
edges_from place nodes = map (λ v. (place, v)) nodes

-- a node is opened
abbrev pub opened : Search → List (List ℕ) → ℕ → Search
opened s g node = record {
  marks = slice_set s.marks node (mark.Open (length s.stack));
  stack = s.stack ++ node ∷ [];
  bounds = s.bounds ++ length s.stack ∷ [];
  pending = s.pending ++ edges_from (length s.stack) (targets g node);
  closed = s.closed;
}

-- the bounds after a place are gone
pub record JoinsAt (place : ℕ) (old new : List ℕ) : Type 0 where
  pub front : new ≡ take (length new) old
  pub fewer : length new ≤ length old
  pub last : 0 < length new → slice_index_or old (length new - 1) 0 ≤ place
  pub gone : (a : ℕ) → length new ≤ a → a < length old → place < slice_index_or old a 0

-- nodes are closed
abbrev pub closed_marks : List Mark → List ℕ → ℕ → List Mark
closed_marks marks [] number = marks
closed_marks marks (u ∷ nodes) number = closed_marks (slice_set marks u (mark.Closed number)) nodes number

abbrev pub closed_at : Search → ℕ → Search
closed_at s start = record {
  marks = closed_marks s.marks (drop start s.stack) s.closed;
  stack = take start s.stack;
  bounds = take (length s.bounds - 1) s.bounds;
  pending = s.pending;
  closed = s.closed + 1;
}

-- the number of a closed node
abbrev pub class_of : Mark → ℕ
class_of mark.Unseen = 0
class_of (mark.Open place) = 0
class_of (mark.Closed number) = number

-- what is left to do: the nodes not yet seen with their edges, the edges to be followed, and the segments
abbrev pub unseen_weight : Mark → List ℕ → ℕ
unseen_weight mark.Unseen nodes = 2 + length nodes
unseen_weight (mark.Open place) nodes = 0
unseen_weight (mark.Closed number) nodes = 0

abbrev pub unseen : List Mark → List (List ℕ) → ℕ
unseen [] g = 0
unseen (m ∷ marks) [] = 0
unseen (m ∷ marks) (nodes ∷ g) = unseen_weight m nodes + unseen marks g

abbrev pub search_weight : List (List ℕ) → Search → ℕ
search_weight g s = unseen s.marks g + (length s.pending + length s.bounds)

-- the last edge is taken, if it begins at or after a place
abbrev pub TakesEdge : ℕ → List (ℕ × ℕ) → List (ℕ × ℕ) → Option (ℕ × ℕ) → Type 0
TakesEdge start old new None = (new ≡ old) × (0 < length old → (slice_index_or old (length old - 1) (0, 0)).0 < start)
TakesEdge start old new (Some e) = (old ≡ new ++ e ∷ []) × (start ≤ e.0)

-- an edge to a node is followed, by the mark of that node
abbrev pub FollowsBy : Mark → List (List ℕ) → Search → ℕ → Search → Type 0
FollowsBy mark.Unseen g s node new = new ≡ opened s g node
FollowsBy (mark.Open place) g s node new = (new ≡ record s { bounds = new.bounds }) × JoinsAt place s.bounds new.bounds
FollowsBy (mark.Closed number) g s node new = new ≡ s

abbrev pub GoesOn : List (List ℕ) → Search → ℕ → Search → Type 0
GoesOn g s node new = FollowsBy (search_mark s node) g s node new

-- the last segment begins here
abbrev pub IsLastBound : List ℕ → ℕ → Type 0
IsLastBound bounds start = (0 < length bounds) × (slice_index_or bounds (length bounds - 1) 0 ≡ start)

-- a node that was seen stays so
abbrev pub StaysSeen : Search → Search → Type 0
StaysSeen old new = (u : ℕ) → search_mark new u ≡ mark.Unseen → search_mark old u ≡ mark.Unseen

-- one step of the search
pub record IsStep (g : List (List ℕ)) (old new : Search) : Type 0 where
  pub search : IsStrongSearch g new
  pub seen : StaysSeen old new
  pub less : search_weight g new < search_weight g old

-- the search has closed all nodes that it has seen
pub record IsAtRest (g : List (List ℕ)) (s : Search) : Type 0 where
  pub search : IsStrongSearch g s
  pub empty : length s.bounds ≡ 0

abbrev pub IsSeen : Search → ℕ → Type 0
IsSeen s u = search_mark s u ≡ mark.Unseen → ⊥
