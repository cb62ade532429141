-- Valuations as functions, infinite traces, and the ultimately periodic words that lassos stand for (Pnueli, The
-- Temporal Logic of Programs, 1977; Vardi and Wolper, An Automata-Theoretic Approach to Automatic Program
-- Verification, 1986).
use Rattle.std.specs.Prelude.{ℕ, ◌+◌, ◌-◌, ◌%◌, ◌<◌, false, List, [], length, nat_lt, if◌then◌else◌, slice_index_or}
use Rattle.port_types.specs.declared.types.PortType.{PortType}
use Rattle.port_types.specs.declared.types.PortType.TheVariants as kind
use Rattle.port_types.specs.declared.types.Value.{Value}
use Rattle.port_types.specs.declared.types.Value.TheVariants as value
use Rattle.port_types.specs.Types.{IsOfType}

-- A valuation as a function: the value of each port, by port number.
abbrev pub Assignment : Type 0
Assignment = ℕ → Value

-- An infinite trace: at each of the positions 0, 1, 2 and so on a valuation
-- (Pnueli, The Temporal Logic of Programs, 1977: an infinite sequence of states).
abbrev pub Trace : Type 0
Trace = ℕ → Assignment

-- The valuation that a list of values stands for. A port that the list does not give reads as false.
abbrev pub assignment : List Value → Assignment
assignment values port = slice_index_or values port (value.Bool false)

-- The state in which a lasso with n states is at position i: its states in turn, and from the last one
-- back to state loop_at, for ever.
abbrev pub lasso_place : ℕ → ℕ → ℕ → ℕ
lasso_place n loop_at i = if nat_lt i n then i else loop_at + (i - loop_at) % (n - loop_at)

-- The word of a lasso, an ultimately periodic trace (Vardi and Wolper, An Automata-Theoretic Approach
-- to Automatic Program Verification, 1986; Biere, Cimatti, Clarke and Zhu, Symbolic Model Checking
-- without BDDs, 1999: a path with a loop back from its last state).
abbrev pub word : List (List Value) → ℕ → Trace
word states loop_at i = assignment (slice_index_or states (lasso_place (length states) loop_at i) [])

-- A trace over ports: at each position each port has a value of its type.
abbrev pub IsOver : List PortType → Trace → Type 0
IsOver ports w = (i p : ℕ) → p < length ports → IsOfType (slice_index_or ports p kind.Bool) (w i p)
