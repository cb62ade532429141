-- Serves proofs only: what is said of a layer and of a pair of layers in clauses that reach every state and every step.

use Rattle.std.specs.Prelude.{◌≡◌, ℕ, ◌≤◌, Bool, true, List, length}
use Rattle.cnf.specs.declared.lit.Lit.{Lit}
use Rattle.cnf.specs.Clauses.{IsModel, clauses_hold}
use Rattle.tableau.specs.TableauStates.{ClosureOverPorts, TableauState, IsTableauState, IsTableauStep}
use Rattle.tableau.specs.Copies.{LayerLits, IsCodedLayer, layer_state}

-- a layer, in clauses some model of which has any state of the tableau there
pub record IsCodedAlone (n : ℕ) (clauses : List (List Lit)) (t : ClosureOverPorts) (layer : LayerLits) : Type 0 where
  pub coded : IsCodedLayer n clauses t layer
  pub reaches : (s : TableauState) → IsTableauState t s
      → (model : List Bool) × IsModel n clauses model × (layer_state model t layer ≡ s)

-- two layers, of which the one steps to the other in every model, and each step of the tableau is there in some model
pub record IsCodedPair (n : ℕ) (clauses : List (List Lit)) (t : ClosureOverPorts) (from to : LayerLits) : Type 0 where
  pub from_coded : IsCodedLayer n clauses t from
  pub to_coded : IsCodedLayer n clauses t to
  pub steps : (model : List Bool) → n ≤ length model → clauses_hold model clauses ≡ true
      → IsTableauStep t (layer_state model t from) (layer_state model t to)
  pub reaches : (s next : TableauState) → IsTableauState t s → IsTableauState t next → IsTableauStep t s next
      → (model : List Bool) × IsModel n clauses model × (layer_state model t from ≡ s) × (layer_state model t to ≡ next)
