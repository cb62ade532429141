-- The first lasso with a property: fewest states, then the shortest loop, then the least values. Shortest
-- counterexamples are those of Schuppan and Biere, Shortest Counterexamples for Symbolic Model Checking of LTL with
-- Past, 2005; among those of one shape the order is that of a dictionary.
use Rattle.std.specs.Prelude.{◌≡◌, ℕ, ◌<◌, ◌≤◌, ◌-ℤ◌, IsTrue, List, [], ◌∷◌, length, Option, Some, None, bytes_eq}
use Rattle.std.specs.Prelude.{if◌then◌else◌}
use Rattle.std.specs.List.{flat_map, position_or_len}
use Rattle.std.specs.Ordering.{is_le, nat_cmp}
use Rattle.std.specs.Cmp.Lexicographic.{slice_cmp}
use Rattle.port_types.specs.declared.types.PortType.{PortType}
use Rattle.port_types.specs.declared.types.PortType.TheVariants as kind
use Rattle.port_types.specs.declared.types.Value.{Value}
use Rattle.port_types.specs.declared.types.Value.TheVariants as value
use Rattle.port_types.specs.Types.{natural_part}
use Rattle.typed_ltl.specs.declared.lasso.Lasso.{Lasso}
use Rattle.first_lasso.specs.Lassos.{IsLassoOver}

-- How many values of its type stand before a value: false before true, whole numbers upwards, names as declared.
abbrev pub value_rank : PortType → Value → ℕ
value_rank kind.Bool (value.Bool truth) = if truth then 1 else 0
value_rank (kind.Range lo hi) (value.Int number) = natural_part (number -ℤ lo)
value_rank (kind.Enum names) (value.Name name) = position_or_len (bytes_eq name) names
value_rank _ _ = 0

-- the ranks of the values of a state, port by port
abbrev pub state_ranks : List PortType → List Value → List ℕ
state_ranks (t ∷ ports) (v ∷ state) = value_rank t v ∷ state_ranks ports state
state_ranks _ _ = []

-- the ranks of all values of a lasso, position by position and port by port
abbrev pub lasso_ranks : List PortType → Lasso → List ℕ
lasso_ranks ports lasso = flat_map (state_ranks ports) lasso.states

-- in the order of a dictionary the first list stands no later than the second
abbrev pub IsNotAfter : List ℕ → List ℕ → Type 0
IsNotAfter xs ys = IsTrue (is_le (slice_cmp nat_cmp xs ys))

-- a lasso over the ports that has what is asked of lassos
pub record IsWitness (ports : List PortType) (has : Lasso → Type 0) (lasso : Lasso) : Type 0 where
  pub typed : IsLassoOver ports lasso
  pub holds : has lasso

-- The first lasso of at most k states: among all with the property it has the fewest states, among these the greatest
-- loop_at, and among these the least values.
pub record IsFirstLasso (ports : List PortType) (has : Lasso → Type 0) (k : ℕ) (lasso : Lasso) : Type 0 where
  pub witness : IsWitness ports has lasso
  pub short : length lasso.states ≤ k
  pub fewest : (other : Lasso) → IsWitness ports has other → length lasso.states ≤ length other.states
  pub greatest : (other : Lasso) → IsWitness ports has other → length other.states ≡ length lasso.states
      → other.loop_at ≤ lasso.loop_at
  pub least : (other : Lasso) → IsWitness ports has other → length other.states ≡ length lasso.states
      → other.loop_at ≡ lasso.loop_at → IsNotAfter (lasso_ranks ports lasso) (lasso_ranks ports other)

-- each lasso with the property has more than k states
abbrev pub HasNoneUpTo : List PortType → (Lasso → Type 0) → ℕ → Type 0
HasNoneUpTo ports has k = (lasso : Lasso) → IsWitness ports has lasso → k < length lasso.states

-- the first lasso of at most k states, or nothing where there is none
abbrev pub IsFirstIfAny : List PortType → (Lasso → Type 0) → ℕ → Option Lasso → Type 0
IsFirstIfAny ports has k (Some lasso) = IsFirstLasso ports has k lasso
IsFirstIfAny ports has k None = HasNoneUpTo ports has k
