-- Questions of state formulas (Manna and Pnueli, The Temporal Logic of Reactive and Concurrent Systems, 1992): one
-- position decides them.
use Rattle.std.specs.Prelude.{◌≡◌, ℕ, ◌≤◌, ◌↔◌, Bool, List, length, Option, Some, All}
use Rattle.port_types.specs.declared.types.PortType.{PortType}
use Rattle.typed_ltl.specs.declared.lasso.Lasso.{Lasso}
use Rattle.typed_ltl.specs.Formulas.{Ltl}
use Rattle.spec_model.specs.Expressions.{IsState, ReadsBelow}
use Rattle.first_lasso.specs.Lassos.{WordHas, HasTraceOver}
use Rattle.first_lasso.specs.FirstLassos.{IsWitness, IsFirstIfAny}
use Rattle.narrowed_questions.specs.NarrowedQuestions.{HaveTruths}

-- each formula reads one valuation alone, and of it the first n ports
abbrev pub AreStateFormulas : ℕ → List (Ltl × Bool) → Type 0
AreStateFormulas n formulas = All (λ (e : Ltl × Bool). IsState e.0 × ReadsBelow n e.0) formulas

-- A trace over the ports breaks such a question exactly where a lasso of one state does,
abbrev pub OneStateBreaks : Type 0
OneStateBreaks = (ports : List PortType) (formulas : List (Ltl × Bool)) → AreStateFormulas (length ports) formulas
    → HasTraceOver ports (HaveTruths formulas)
    ↔ ((lasso : Lasso) × IsWitness ports (WordHas (HaveTruths formulas)) lasso × (length lasso.states ≡ 1))

-- and then a search up to any number of states finds a lasso of one state.
abbrev pub OneStateIsFound : Type 0
OneStateIsFound = (ports : List PortType) (formulas : List (Ltl × Bool)) (k : ℕ) (found : Option Lasso) → 1 ≤ k
    → AreStateFormulas (length ports) formulas → HasTraceOver ports (HaveTruths formulas)
    → IsFirstIfAny ports (WordHas (HaveTruths formulas)) k found
    → (lasso : Lasso) × (found ≡ Some lasso) × (length lasso.states ≡ 1)
