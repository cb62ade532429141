-- Serves proofs only: what the search says of the loops of paths of one number of states that start at one place.

use Rattle.std.specs.Prelude.{◌≡◌, ℕ, ◌<◌, List, length}
use Rattle.std.specs.List.{flat_map}
use Rattle.port_types.specs.declared.types.PortType.{PortType}
use Rattle.port_types.specs.declared.types.Value.{Value}
use Rattle.typed_ltl.specs.declared.lasso.Lasso.{Lasso}
use Rattle.core_ltl.specs.declared.question.SignedNode.{SignedNode}
use Rattle.tableau.specs.TableauStates.{ClosureOverPorts, TableauState}
use Rattle.first_lasso.specs.FirstLassos.{IsNotAfter, state_ranks}
use Rattle.lasso_search.specs.TableauLassos.{IsTableauLasso, HasTableauLasso, shown_valuations}

abbrev pub ranks_of : List PortType → List (List Value) → List ℕ
ranks_of ports states = flat_map (state_ranks ports) states

-- no lasso of so many tableau states has its loop from this place on
abbrev pub HasNoLoop : ClosureOverPorts → List SignedNode → ℕ → ℕ → Type 0
HasNoLoop t question count loop_at = (states : List TableauState) → length states ≡ count
    → IsTableauLasso t question states loop_at → ⊥

-- of those that have, this one has the least values
pub record IsLeastLoop (t : ClosureOverPorts) (question : List SignedNode) (count loop_at : ℕ)
    (lasso : Lasso) : Type 0 where
  pub place : lasso.loop_at ≡ loop_at
  pub size : length lasso.states ≡ count
  pub has : HasTableauLasso t question lasso
  pub least : (states : List TableauState) → length states ≡ count → IsTableauLasso t question states loop_at
      → IsNotAfter (ranks_of t.ports lasso.states) (ranks_of t.ports (shown_valuations states))

-- of all lassos of so many tableau states, this one has the greatest loop_at, and among these the least values
pub record IsBestLoop (t : ClosureOverPorts) (question : List SignedNode) (count : ℕ) (lasso : Lasso) : Type 0 where
  pub least : IsLeastLoop t question count lasso.loop_at lasso
  pub latest : (loop_at : ℕ) → lasso.loop_at < loop_at → loop_at < count → HasNoLoop t question count loop_at

-- no lasso has so many tableau states
abbrev pub HasNoLoopOf : ClosureOverPorts → List SignedNode → ℕ → Type 0
HasNoLoopOf t question count = (loop_at : ℕ) → loop_at < count → HasNoLoop t question count loop_at
