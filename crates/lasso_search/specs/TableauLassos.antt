-- Lassos of tableau states, and the lassos that break a question. A lasso breaks a question where some fair path of
-- tableau states with a loop back shows its states (E. M. Clarke, O. Grumberg and K. Hamaguchi, Another Look at LTL
-- Model Checking, 1994; A. Biere, A. Cimatti, E. M. Clarke and Y. Zhu, Symbolic Model Checking without BDDs, 1999).

use Rattle.std.specs.Prelude.{◌≡◌, ℕ, ◌+◌, ◌<◌, ◌≤◌, true, List, [], All, Option, length, map, slice_index_or}
use Rattle.port_types.specs.declared.types.Value.{Value}
use Rattle.typed_ltl.specs.declared.lasso.Lasso.{Lasso}
use Rattle.core_ltl.specs.declared.node.NodeId.{NodeId}
use Rattle.core_ltl.specs.declared.question.SignedNode.{SignedNode}
use Rattle.tableau.specs.TableauStates.{ClosureOverPorts, TableauState, IsTableauState, IsTableauStep}
use Rattle.tableau.specs.TableauStates.{fairness, meets_condition}
use Rattle.tableau.specs.Questions.{IsSignedIn}

-- a state of a list, by its place
abbrev pub tableau_state_at : List TableauState → ℕ → TableauState
tableau_state_at states i = slice_index_or states i (record { now = []; next = []; holding = [] })

abbrev pub shown_valuations : List TableauState → List (List Value)
shown_valuations states = map (λ s. s.now) states

-- some state of the loop meets the condition
pub record IsMetInLoop (states : List TableauState) (loop_at : ℕ) (condition : Option (NodeId × NodeId)) : Type 0 where
  pub place : ℕ
  pub in_loop : loop_at ≤ place
  pub within : place < length states
  pub met : meets_condition (tableau_state_at states place) condition ≡ true

-- Tableau states, each of which steps to the next one and the last one to the state at loop_at. The question is in the
-- first one, and each fairness condition is met in the loop.
pub record IsTableauLasso (t : ClosureOverPorts) (question : List SignedNode) (states : List TableauState)
    (loop_at : ℕ) : Type 0 where
  pub all_states : All (IsTableauState t) states
  pub steps : (i : ℕ) → i + 1 < length states
      → IsTableauStep t (tableau_state_at states i) (tableau_state_at states (i + 1))
  pub back : (last : ℕ) → last + 1 ≡ length states
      → IsTableauStep t (tableau_state_at states last) (tableau_state_at states loop_at)
  pub start : All (IsSignedIn (tableau_state_at states 0)) question
  pub fair : All (IsMetInLoop states loop_at) (fairness t)

-- a lasso of tableau states that has the shape and the valuations of a lasso
pub record HasTableauLasso (t : ClosureOverPorts) (question : List SignedNode) (lasso : Lasso) : Type 0 where
  pub states : List TableauState
  pub path : IsTableauLasso t question states lasso.loop_at
  pub shown : shown_valuations states ≡ lasso.states
