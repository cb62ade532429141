-- A state in clauses: the variables, in order, are the bits of each port's value, lowest bit first, port by
-- port; the clauses are those that exclude codes without a value, port by port.

use Rattle.std.specs.Prelude.{◌≡◌, ℕ, zero, suc, ◌+◌, ◌<◌, Bool, true, List, [], ◌∷◌, ◌++◌, length, All, Contains}
use Rattle.port_types.specs.declared.types.PortType.{PortType}
use Rattle.port_types.specs.declared.types.Value.{Value}
use Rattle.port_types.specs.Types.{values}
use Rattle.cnf.specs.declared.lit.Lit.{Lit}
use Rattle.cnf.specs.Clauses.{lit_values, clauses_hold}
use Rattle.cnf.specs.Gates.{literal}
use Rattle.state_coding.specs.Codes.{IsCodable, type_bits, value_at, code_clauses}

-- the positive literals of so many variables from n on
abbrev pub var_row : ℕ → ℕ → List Lit
var_row n zero = []
var_row n (suc count) = literal n ∷ var_row (n + 1) count

-- the bits of a state, over the number n of variables before it
abbrev pub state_bits : ℕ → List PortType → List (List Lit)
state_bits n [] = []
state_bits n (kind ∷ ports) = var_row n (type_bits kind) ∷ state_bits (n + type_bits kind) ports

-- how many variables a state has
abbrev pub state_width : List PortType → ℕ
state_width [] = 0
state_width (kind ∷ ports) = type_bits kind + state_width ports

-- the clauses of a state with these bits
abbrev pub state_clauses : List PortType → List (List Lit) → List (List Lit)
state_clauses (kind ∷ ports) (row ∷ bits) = code_clauses kind row ++ state_clauses ports bits
state_clauses _ _ = []

-- the valuation that the bits of a state stand for in a model
abbrev pub state_values : List Bool → List PortType → List (List Lit) → List Value
state_values model (kind ∷ ports) (row ∷ bits) = value_at kind (lit_values model row) ∷ state_values model ports bits
state_values model _ _ = []

-- a value of its type for each port
abbrev pub IsValuation : List PortType → List Value → Type 0
IsValuation [] [] = Unit {0}
IsValuation (kind ∷ ports) (v ∷ valuation) = Contains (values kind) v × IsValuation ports valuation
IsValuation _ _ = ⊥

-- bits for the ports: a row for each, as long as its type's codes, over the first n variables
abbrev pub HasBits : ℕ → List PortType → List (List Lit) → Type 0
HasBits n [] [] = Unit {0}
HasBits n (kind ∷ ports) (row ∷ bits) = (length row ≡ type_bits kind) × All (λ lit. lit.var < n) row
    × HasBits n ports bits
HasBits n _ _ = ⊥

-- bits that were coded as a state in these clauses, over n variables: where the clauses hold, so do the
-- state's own. More variables and clauses change nothing of it (law `states_stay`).
pub record IsCodedState (n : ℕ) (clauses : List (List Lit)) (ports : List PortType)
    (bits : List (List Lit)) : Type 0 where
  pub shape : HasBits n ports bits
  pub holds : (model : List Bool) → clauses_hold model clauses ≡ true
      → clauses_hold model (state_clauses ports bits) ≡ true

-- two states over the ports, of which a list of truth values gives each port a value of its type
pub record TwoStates (model : List Bool) (ports : List PortType) (now next : List (List Lit)) : Type 0 where
  pub codable : All IsCodable ports
  pub now_bits : HasBits (length model) ports now
  pub next_bits : HasBits (length model) ports next
  pub now_holds : clauses_hold model (state_clauses ports now) ≡ true
  pub next_holds : clauses_hold model (state_clauses ports next) ≡ true
