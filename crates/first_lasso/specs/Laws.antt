-- Laws of first lassos, of unused ports and of properties that one position decides, for the properties that formulas
-- have (unused ports: Clarke, Grumberg and Peled, Model Checking, 1999; first lassos: Schuppan and Biere, Shortest
-- Counterexamples for Symbolic Model Checking of LTL with Past, 2005). The same laws for every property are lemmas, in
-- proofs/FirstLassos.antt, proofs/Widening.antt and proofs/OnePosition.antt.
use Rattle.std.specs.Prelude.{◌≡◌, ℕ, ◌<◌, ◌≤◌, ◌↔◌, List, length, Option, Some, All, Contains, slice_get}
use Rattle.port_types.specs.declared.types.PortType.{PortType}
use Rattle.port_types.specs.declared.types.Value.{Value}
use Rattle.port_types.specs.Types.{values, IsOfType, IsDeclarable}
use Rattle.typed_ltl.specs.declared.lasso.Lasso.{Lasso}
use Rattle.typed_ltl.specs.Formulas.{Ltl}
use Rattle.typed_ltl.specs.Traces.{Trace, IsOver}
use Rattle.typed_ltl.specs.Truth.{Holds}
use Rattle.first_lasso.specs.Lassos.{IsLassoOver, lasso_word, WordHas, HasTraceOver, Satisfies, IsStateProperty}
use Rattle.first_lasso.specs.FirstLassos.{value_rank, IsWitness, IsFirstLasso, HasNoneUpTo, IsFirstIfAny}
use Rattle.first_lasso.specs.FormulaPorts.{formula_ports, renamed, seen_through, IsStateFormula}
use Rattle.first_lasso.specs.UsedPorts.{AreUsed, HasValue, types_at, used_place, IsWidened}

-- The word of a lasso over ports is a trace over them.
abbrev pub WordsAreOver : Type 0
WordsAreOver = (ports : List PortType) (lasso : Lasso) → IsLassoOver ports lasso → IsOver ports (lasso_word lasso)

-- The rank of a value is its place among the values of its type, the first one where it has several.
abbrev pub RanksArePlaces : Type 0
RanksArePlaces = (t : PortType) (v : Value) → IsOfType t v → slice_get (values t) (value_rank t v) ≡ Some v

-- No value of a declarable type has another place.
abbrev pub PlacesAreRanks : Type 0
PlacesAreRanks = (t : PortType) (v : Value) (k : ℕ) → IsDeclarable t → slice_get (values t) k ≡ Some v
    → value_rank t v ≡ k

-- A search has one answer: there is at most one first lasso, and none beside a first one.
abbrev pub FirstLassosAreUnique : Type 0
FirstLassosAreUnique = (ports : List PortType) (f : Ltl) (k : ℕ) (a b : Option Lasso)
    → IsFirstIfAny ports (WordHas (Satisfies f)) k a → IsFirstIfAny ports (WordHas (Satisfies f)) k b
    → a ≡ b

-- There is a first lasso exactly where some lasso of at most k states has the property: there is none exactly where none
-- has.
abbrev pub FirstLassosExist : Type 0
FirstLassosExist = (ports : List PortType) (f : Ltl) (k : ℕ)
    → ((first : Lasso) → IsFirstLasso ports (WordHas (Satisfies f)) k first → ⊥)
    ↔ HasNoneUpTo ports (WordHas (Satisfies f)) k

-- The truth of a formula is decided by the values of the ports that it reads.
abbrev pub ReadPortsDecide : Type 0
ReadPortsDecide = (f : Ltl) (w v : Trace) → ((i p : ℕ) → Contains (formula_ports f) p → w i p ≡ v i p)
    → (i : ℕ) → Holds w f i → Holds v f i

-- A formula with its ports renamed has the truth of the formula where each port has the value of the renamed one.
abbrev pub RenamingKeepsTruth : Type 0
RenamingKeepsTruth = (by : ℕ → ℕ) (w : Trace) (f : Ltl) (i : ℕ) → Holds w (renamed by f) i ↔ Holds (seen_through by w)
    f i

-- a formula that reads the used ones of some ports alone
pub record IsOverUsed (ports : List PortType) (used : List ℕ) (f : Ltl) : Type 0 where
  pub used_ports : AreUsed ports used
  pub reads : All (Contains used) (formula_ports f)

-- the same formula over the used ports, numbered anew in their order
abbrev pub over_used : List ℕ → Ltl → Ltl
over_used used f = renamed (used_place used) f

-- Unused ports change nothing: a lasso of the used ports has the property exactly where the widened one has;
abbrev pub WideningKeepsTruth : Type 0
WideningKeepsTruth = (ports : List PortType) (used : List ℕ) (f : Ltl) (lasso wide : Lasso) → IsOverUsed ports used f
    → IsWidened ports used lasso wide
    → WordHas (Satisfies (over_used used f)) lasso ↔ WordHas (Satisfies f) wide

-- the first lasso of the used ports, widened, is the first lasso of all ports, where each type has a value;
abbrev pub FirstLassosWiden : Type 0
FirstLassosWiden = (ports : List PortType) (used : List ℕ) (f : Ltl) (k : ℕ) (lasso wide : Lasso)
    → IsOverUsed ports used f → All HasValue ports
    → IsFirstLasso (types_at ports used) (WordHas (Satisfies (over_used used f))) k lasso
    → IsWidened ports used lasso wide
    → IsFirstLasso ports (WordHas (Satisfies f)) k wide

-- no lasso of the used ports of at most k states has the property exactly where no lasso of all ports has;
abbrev pub NoneUpToIsSame : Type 0
NoneUpToIsSame = (ports : List PortType) (used : List ℕ) (f : Ltl) (k : ℕ) → IsOverUsed ports used f
    → All HasValue ports
    → HasNoneUpTo (types_at ports used) (WordHas (Satisfies (over_used used f))) k
    ↔ HasNoneUpTo ports (WordHas (Satisfies f)) k

-- and a trace of the used ports has the property exactly where a trace of all ports has.
abbrev pub TracesWiden : Type 0
TracesWiden = (ports : List PortType) (used : List ℕ) (f : Ltl) → IsOverUsed ports used f → All HasValue ports
    → HasTraceOver (types_at ports used) (Satisfies (over_used used f)) ↔ HasTraceOver ports (Satisfies f)

-- A state formula is decided at position 0, by the values of the ports that it reads.
abbrev pub StateFormulasAreDecided : Type 0
StateFormulasAreDecided = (n : ℕ) (f : Ltl) → IsStateFormula f → All (λ p. p < n) (formula_ports f)
    → IsStateProperty n (Satisfies f)

-- Where a trace has a property that is decided at position 0, so has a lasso of one state, and conversely; so the first
-- lasso has one state.
abbrev pub OnePositionIsEnough : Type 0
OnePositionIsEnough = (ports : List PortType) (f : Ltl) → IsStateProperty (length ports) (Satisfies f)
    → HasTraceOver ports (Satisfies f)
    ↔ ((lasso : Lasso) × IsWitness ports (WordHas (Satisfies f)) lasso × (length lasso.states ≡ 1))

abbrev pub OnePositionIsFound : Type 0
OnePositionIsFound = (ports : List PortType) (f : Ltl) (k : ℕ) (found : Option Lasso) → 1 ≤ k
    → IsStateProperty (length ports) (Satisfies f) → HasTraceOver ports (Satisfies f)
    → IsFirstIfAny ports (WordHas (Satisfies f)) k found
    → (lasso : Lasso) × (found ≡ Some lasso) × (length lasso.states ≡ 1)
