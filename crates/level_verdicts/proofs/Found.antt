-- What a search over the ports of a level finds, and what its verdict is over all free ports.
use Rattle.std.proofs.Common.{◌≡◌, ◌↔◌, ℕ, Bool, true, false, List, Option, Some, None, refl, subst}
use Rattle.std.proofs.lemmas.Bool.{false≢true}
use Rattle.port_types.specs.declared.types.PortType.{PortType}
use Rattle.oss_base.specs.declared.ids.ComponentId.{ComponentId}
use Rattle.typed_ltl.specs.Formulas.{Ltl}
use Rattle.typed_ltl.specs.declared.lasso.Lasso.{Lasso}
use Rattle.spec_model.specs.declared.spec.Spec.{Spec}
use Rattle.spec_model.specs.declared.item.Item.{Item}
use Rattle.spec_model.specs.FreeTypes.{free_types}
use Rattle.core_ltl.specs.declared.question.SignedNode.{SignedNode}
use Rattle.core_ltl.specs.Nodes.{Listing, members}
use Rattle.core_ltl.specs.Questions.{Breaks}
use Rattle.first_lasso.specs.Lassos.{WordHas}
use Rattle.first_lasso.specs.FirstLassos.{IsFirstIfAny}
use Rattle.levels.specs.declared.level.Level.{Level}
use Rattle.narrowed_questions.specs.NarrowedQuestions.{HaveTruths, IsKnownOverFree}
use Rattle.tableau.specs.TableauStates.{ClosureOverPorts}
use Rattle.tableau.specs.Questions.{BreaksQuestion}
use Rattle.level_verdicts.specs.Steps.{AreWidened, verdict_of, IsVerdictByNodes}
use Rattle.level_verdicts.specs.Verdicts.{IsStateLevel, IsVerdict}

-- the first lasso over these ports that breaks a question of nodes, or none
abbrev IsFound : List PortType → Listing → List SignedNode → ℕ → Option Lasso → Type 0
IsFound ports closure question k found = IsFirstIfAny ports (WordHas (λ w. Breaks (members closure) w question)) k found

-- what a search over the tableau of a level answers
pub found_in_level : (level : Level) (t : ClosureOverPorts) (question : List SignedNode) (k : ℕ) (found : Option Lasso)
    → t.closure ≡ level.closure → t.ports ≡ level.ports
    → IsFirstIfAny t.ports (WordHas (BreaksQuestion t question)) k found → IsFound level.ports level.closure question k found
found_in_level level t question k found closure ports h =
    subst (λ (ps : List PortType). IsFound ps level.closure question k found) ports
    (subst (λ (c : Listing). IsFound t.ports c question k found) closure h)

found_over_free : (spec : Spec) (item : Item) (level : Level) (question : List SignedNode) (formulas : List (Ltl × Bool))
    (k : ℕ) (found wide : Option Lasso) → IsKnownOverFree spec item level question formulas
    → IsFound level.ports level.closure question k found → AreWidened (free_types spec item.component) level.places found wide
    → IsFirstIfAny (free_types spec item.component) (WordHas (HaveTruths formulas)) k wide
found_over_free spec item level question formulas k (Some lasso) (Some big) known first w = known.first k lasso big w first
found_over_free spec item level question formulas k (Some lasso) None known first w = absurd w
found_over_free spec item level question formulas k None (Some big) known first w = absurd w
found_over_free spec item level question formulas k None None known none w = (known.none k).0 none

verdict_is : (spec : Spec) (item : Item) (formulas : List (Ltl × Bool)) (k : ℕ) (wide : Option Lasso) (is_state : Bool)
    → IsFirstIfAny (free_types spec item.component) (WordHas (HaveTruths formulas)) k wide
    → ((is_state ≡ true) ↔ IsStateLevel spec item) → IsVerdict spec item k formulas (verdict_of wide is_state)
verdict_is spec item formulas k (Some lasso) is_state first state = first
verdict_is spec item formulas k None true none state = (none, state.0 refl)
verdict_is spec item formulas k None false none state = (none, λ s. false≢true (state.1 s))

pub verdict_by_nodes : (spec : Spec) (level : Level) (question : List SignedNode) (k : ℕ) (is_state : Bool)
    (found wide : Option Lasso) → IsFound level.ports level.closure question k found
    → AreWidened (free_types spec level.component) level.places found wide
    → IsVerdictByNodes spec level question k is_state (verdict_of wide is_state)
verdict_by_nodes spec level question k is_state found wide first w item formulas same known state =
    verdict_is spec item formulas k wide is_state
    (found_over_free spec item level question formulas k found wide known first
    (subst (λ (c : ComponentId). AreWidened (free_types spec c) level.places found wide) same w)) state
