-- Serves proofs only: what the functions say by which the questions of a level are decided.
use Rattle.std.specs.Prelude.{◌≡◌, ℕ, ◌↔◌, Bool, true, false, not, ◌&&◌, List, Option, Some, None}
use Rattle.std.specs.List.{list_all}
use Rattle.port_types.specs.declared.types.PortType.{PortType}
use Rattle.cnf.specs.Clauses.{IsModel}
use Rattle.typed_ltl.specs.Formulas.{Number, Choice, Proposition, Ltl, proposition_of}
use Rattle.typed_ltl.specs.Formulas as form
use Rattle.typed_ltl.specs.declared.atom.Atom.{Atom}
use Rattle.typed_ltl.specs.declared.lasso.Lasso.{Lasso}
use Rattle.typed_ltl.specs.declared.lasso.Verdict.{Verdict}
use Rattle.typed_ltl.specs.declared.lasso.Verdict.TheVariants as verdict
use Rattle.first_lasso.specs.UsedPorts.{IsWidened}
use Rattle.core_ltl.specs.declared.node.Node.{Node}
use Rattle.core_ltl.specs.declared.node.Node.TheVariants as node
use Rattle.core_ltl.specs.declared.question.SignedNode.{SignedNode}
use Rattle.core_ltl.specs.Nodes.{Listing}
use Rattle.spec_model.specs.declared.spec.Spec.{Spec}
use Rattle.spec_model.specs.declared.item.Item.{Item}
use Rattle.levels.specs.declared.level.Level.{Level}
use Rattle.narrowed_questions.specs.NarrowedQuestions.{IsKnownOverFree}
use Rattle.level_verdicts.specs.declared.deciding.LevelSearch.{LevelSearch}
use Rattle.level_verdicts.specs.Verdicts.{IsStateLevel, IsVerdict}

-- Tests of closures of state formulas

abbrev pub is_state_number : Number → Bool
is_state_number (form.Literal z) = true
is_state_number (form.NumberAt p next) = not next
is_state_number (form.Sum a b) = is_state_number a && is_state_number b
is_state_number (form.Difference a b) = is_state_number a && is_state_number b
is_state_number (form.Opposite a) = is_state_number a

abbrev pub is_state_choice : Choice → Bool
is_state_choice (form.Named name) = true
is_state_choice (form.NameAt p next) = not next

abbrev pub is_state_test : Proposition → Bool
is_state_test (form.TruthAt p next) = not next
is_state_test (form.Equals a b) = is_state_number a && is_state_number b
is_state_test (form.AtMost a b) = is_state_number a && is_state_number b
is_state_test (form.SameName a b) = is_state_choice a && is_state_choice b

abbrev pub has_state_test : Atom → Bool
has_state_test atom = is_state_test (proposition_of atom)

-- the node is no temporal operator
abbrev pub is_state_node : Node → Bool
is_state_node node.True = true
is_state_node (node.Atom a) = true
is_state_node (node.Not k) = true
is_state_node (node.And k l) = true
is_state_node (node.Next k) = false
is_state_node (node.Until k l) = false

-- no node is a temporal operator, and no atom reads a next valuation
abbrev pub is_state_closure : Listing → Bool
is_state_closure closure = list_all is_state_node closure.nodes && list_all has_state_test closure.atoms

-- Searches

-- the search is over the tableau of the level, and its solver has a model
pub record IsSearchOf (level : Level) (search : LevelSearch) : Type 0 where
  pub closure : search.tableau.closure ≡ level.closure
  pub ports : search.tableau.ports ≡ level.ports
  pub model : (model : List Bool) × IsModel search.solver.vars search.solver.clauses model

-- the lasso is widened, or there is none
abbrev pub AreWidened : List PortType → List ℕ → Option Lasso → Option Lasso → Type 0
AreWidened ports used (Some lasso) (Some wide) = IsWidened ports used lasso wide
AreWidened ports used None None = Unit {0}
AreWidened ports used _ _ = ⊥

abbrev pub verdict_of : Option Lasso → Bool → Verdict
verdict_of (Some lasso) is_state = verdict.Refuted lasso
verdict_of None true = verdict.Proved
verdict_of None false = verdict.Undecided

-- a verdict on each question of formulas that is known by this question of nodes
abbrev pub IsVerdictByNodes : Spec → Level → List SignedNode → ℕ → Bool → Verdict → Type 0
IsVerdictByNodes spec level question k is_state v = (item : Item) (formulas : List (Ltl × Bool))
    → level.component ≡ item.component → IsKnownOverFree spec item level question formulas
    → ((is_state ≡ true) ↔ IsStateLevel spec item) → IsVerdict spec item k formulas v
