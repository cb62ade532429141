-- Lassos over ports with types, and linear-time properties: sets of infinite traces (Baier and Katoen, Principles of
-- Model Checking, 2008). A property is told by what it says of a trace; a lasso has it where the lasso's word has.
use Rattle.std.specs.Prelude.{◌≡◌, ℕ, ◌<◌, List, All}
use Rattle.std.specs.List.{AllZip}
use Rattle.port_types.specs.declared.types.PortType.{PortType}
use Rattle.port_types.specs.declared.types.Value.{Value}
use Rattle.port_types.specs.Types.{IsOfType}
use Rattle.typed_ltl.specs.declared.lasso.Lasso.{Lasso}
use Rattle.typed_ltl.specs.Formulas.{Ltl}
use Rattle.typed_ltl.specs.Traces.{Trace, IsOver, word}
use Rattle.typed_ltl.specs.Truth.{Holds}

-- a state of the ports: for each port, in order, a value of its type
abbrev pub IsStateOver : List PortType → List Value → Type 0
IsStateOver ports state = AllZip IsOfType ports state

abbrev pub IsLassoOver : List PortType → Lasso → Type 0
IsLassoOver ports lasso = All (IsStateOver ports) lasso.states

-- the infinite trace that a lasso stands for
abbrev pub lasso_word : Lasso → Trace
lasso_word lasso = word lasso.states lasso.loop_at

abbrev pub WordHas : (Trace → Type 0) → Lasso → Type 0
WordHas property lasso = property (lasso_word lasso)

-- some trace over the ports has the property
abbrev pub HasTraceOver : List PortType → (Trace → Type 0) → Type 0
HasTraceOver ports property = (w : Trace) × IsOver ports w × property w

-- the traces on which a formula holds
abbrev pub Satisfies : Ltl → Trace → Type 0
Satisfies f w = Holds w f 0

-- The values of the first n ports at position 0 decide the property.
abbrev pub IsStateProperty : ℕ → (Trace → Type 0) → Type 0
IsStateProperty n property = (w v : Trace) → ((p : ℕ) → p < n → w 0 p ≡ v 0 p) → property w → property v
