-- Serves proofs only: the least model of clauses under assumptions.

use Rattle.std.specs.Prelude.{◌≡◌, ℕ, Bool, List, ◌++◌, map, if◌then◌else◌}
use Rattle.port_types.specs.declared.types.PortType.{PortType}
use Rattle.typed_ltl.specs.declared.lasso.Lasso.{Lasso}
use Rattle.cnf.specs.declared.lit.Lit.{Lit}
use Rattle.cnf.specs.Clauses.{lit_holds, IsModel}
use Rattle.sat_core.specs.Search.{unit_clause}
use Rattle.state_coding.specs.States.{state_values}
use Rattle.tableau.specs.Copies.{LayerLits}
use Rattle.first_lasso.specs.FirstLassos.{IsNotAfter}
use Rattle.lasso_search.specs.Paths.{bits_of_layers}

-- a model of the clauses in which these literals hold
abbrev pub IsModelUnder : ℕ → List (List Lit) → List Lit → List Bool → Type 0
IsModelUnder n clauses known model = IsModel n (clauses ++ map unit_clause known) model

-- the truth values of the bits as numbers
abbrev pub bit_numbers : List Bool → List Lit → List ℕ
bit_numbers model bits = map (λ lit. if lit_holds model lit then 1 else 0) bits

-- Of the models of the clauses in which the known literals hold, none has lesser bits.
pub record IsLeastBy (n : ℕ) (clauses : List (List Lit)) (known bits : List Lit) (least : List Bool) : Type 0 where
  pub model : IsModelUnder n clauses known least
  pub least_bits : (other : List Bool) → IsModelUnder n clauses known other
      → IsNotAfter (bit_numbers least bits) (bit_numbers other bits)

-- The lasso has the values that layers have in the least of these models, and this loop.
pub record IsLeastShown (n : ℕ) (clauses : List (List Lit)) (known : List Lit) (ports : List PortType)
    (layers : List LayerLits) (loop_at : ℕ) (lasso : Lasso) : Type 0 where
  pub model : List Bool
  pub least : IsLeastBy n clauses known (bits_of_layers layers) model
  pub states : lasso.states ≡ map (λ layer. state_values model ports layer.bits) layers
  pub place : lasso.loop_at ≡ loop_at
