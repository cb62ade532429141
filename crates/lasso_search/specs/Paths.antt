-- Serves proofs only: what is said of the layers of a path, and of the clauses that close its loop.

use Rattle.std.specs.Prelude.{◌≡◌, ℕ, ◌+◌, ◌<◌, ◌≤◌, Bool, true, false, List, [], ◌∷◌, ◌++◌, All, Option, Some, None}
use Rattle.std.specs.Prelude.{length, map, reverse}
use Rattle.std.specs.List.{flat_map}
use Rattle.core_ltl.specs.declared.node.NodeId.{NodeId}
use Rattle.core_ltl.specs.declared.question.SignedNode.{SignedNode}
use Rattle.cnf.specs.declared.lit.Lit.{Lit}
use Rattle.cnf.specs.Clauses.{opposite, lit_holds, clauses_hold, IsModel}
use Rattle.tableau.specs.TableauStates.{ClosureOverPorts, TableauState, IsTableauState, IsTableauStep}
use Rattle.tableau.specs.TableauStates.{fairness, meets_condition}
use Rattle.tableau.specs.Copies.{LayerLits, IsCodedLayer, layer_state, member_literal}
use Rattle.tableau.specs.Questions.{IsSignedIn, signed_literal}
use Rattle.lasso_search.specs.TableauLassos.{tableau_state_at, IsMetInLoop}

-- the states of the layers in a model
abbrev pub path_states : List Bool → ClosureOverPorts → List LayerLits → List TableauState
path_states model t layers = map (layer_state model t) layers

-- Tableau states, each of which steps to the next one, with the question in the first.
pub record IsTableauPath (t : ClosureOverPorts) (question : List SignedNode) (states : List TableauState) : Type 0 where
  pub all_states : All (IsTableauState t) states
  pub steps : (i : ℕ) → i + 1 < length states
      → IsTableauStep t (tableau_state_at states i) (tableau_state_at states (i + 1))
  pub start : 0 < length states → All (IsSignedIn (tableau_state_at states 0)) question

-- The state can come next: the last one steps to it, and the first one has the question.
pub record ContinuesPath (t : ClosureOverPorts) (question : List SignedNode) (states : List TableauState)
    (next : TableauState) : Type 0 where
  pub first : length states ≡ 0 → All (IsSignedIn next) question
  pub step : (last : ℕ) → last + 1 ≡ length states → IsTableauStep t (tableau_state_at states last) next

-- The last state steps back to the one at loop_at, and each fairness condition is met from there on.
pub record ClosesLoop (t : ClosureOverPorts) (loop_at : ℕ) (states : List TableauState) : Type 0 where
  pub back : (last : ℕ) → last + 1 ≡ length states
      → IsTableauStep t (tableau_state_at states last) (tableau_state_at states loop_at)
  pub fair : All (IsMetInLoop states loop_at) (fairness t)

-- some state of the list meets the condition
pub record SomeMeets (states : List TableauState) (condition : Option (NodeId × NodeId)) : Type 0 where
  pub place : ℕ
  pub within : place < length states
  pub met : meets_condition (tableau_state_at states place) condition ≡ true

-- Layers that are a path in each model in which the literal holds, and every path of their number in some such model.
pub record IsCodedPath (n : ℕ) (clauses : List (List Lit)) (t : ClosureOverPorts) (question : List SignedNode)
    (under : Lit) (layers : List LayerLits) : Type 0 where
  pub under_known : under.var < n
  pub coded : All (IsCodedLayer n clauses t) layers
  pub path : (model : List Bool) → n ≤ length model → clauses_hold model clauses ≡ true
      → lit_holds model under ≡ true → IsTableauPath t question (path_states model t layers)
  pub reaches : (states : List TableauState) → IsTableauPath t question states → length states ≡ length layers
      → (model : List Bool) × IsModel n clauses model × (lit_holds model under ≡ true)
      × (path_states model t layers ≡ states)

-- More variables and clauses, and each model in which the literal is false is the front of a newer one.
pub record GrowsWhereOff (under : Lit) (n : ℕ) (older : List (List Lit)) (m : ℕ)
    (newer : List (List Lit)) : Type 0 where
  pub vars : n ≤ m
  pub added : (more : List (List Lit)) × (newer ≡ older ++ more)
  pub off : (model : List Bool) → IsModel n older model → lit_holds model under ≡ false
      → (more : List Bool) × IsModel m newer (model ++ more)

-- where the literal holds, each node has its sign
abbrev pub sign_clauses : Lit → LayerLits → List SignedNode → List (List Lit)
sign_clauses under layer question = map (λ x. opposite under ∷ signed_literal layer x ∷ []) question

-- where the literal holds, a layer meets the condition of an until with this right side
abbrev pub fair_literals : NodeId × NodeId → List LayerLits → List Lit
fair_literals until layers =
    flat_map (λ layer. opposite (member_literal layer until.0.0) ∷ member_literal layer until.1.0 ∷ []) layers

abbrev pub fair_clauses : Lit → List LayerLits → Option (NodeId × NodeId) → List (List Lit)
fair_clauses under layers None = []
fair_clauses under layers (Some until) = (opposite under ∷ fair_literals until layers) ∷ []

abbrev pub all_fair_clauses : Lit → List LayerLits → List (Option (NodeId × NodeId)) → List (List Lit)
all_fair_clauses under layers conditions = flat_map (fair_clauses under layers) conditions

-- the bits of all values, position by position and port by port, each from the highest down
abbrev pub bits_of_layers : List LayerLits → List Lit
bits_of_layers layers = flat_map (λ layer. flat_map reverse layer.bits) layers
