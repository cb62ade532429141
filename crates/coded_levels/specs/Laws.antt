-- Laws of levels: they can be coded (T. Walsh, SAT v CSP, 2000: the logarithmic encoding), their questions are over
-- their closures, and they are small where no level has a fault.
use Rattle.std.specs.Prelude.{◌≡◌, ℕ, ◌<◌, ◌≤◌, Bool, List, length, map, Some, None, slice_get, All}
use Rattle.oss_base.specs.declared.ids.ComponentId.{ComponentId}
use Rattle.oss_base.specs.Limits.{most_closure_members, most_level_size}
use Rattle.typed_ltl.specs.Formulas.{Ltl, proposition_of}
use Rattle.core_ltl.specs.declared.question.SignedNode.{SignedNode}
use Rattle.state_coding.specs.Codes.{IsCodable}
use Rattle.state_coding.specs.Reads.{ReadsPorts}
use Rattle.first_lasso.specs.UsedPorts.{HasValue}
use Rattle.spec_model.specs.declared.spec.Spec.{Spec}
use Rattle.spec_model.specs.declared.item.Item.{Item}
use Rattle.spec_model.specs.FreeTypes.{free_types}
use Rattle.connections.specs.Sizes.{level_size}
use Rattle.levels.specs.declared.level.Level.{Level}
use Rattle.levels.specs.Levels.{IsLevel}
use Rattle.levels.specs.LevelQuestions.{Asks}
use Rattle.levels.specs.LevelFaults.{closure_size, first_level_fault}
use Rattle.coded_levels.specs.CodableTypes.{HasCodableTypes}

-- The ports of a level have types that can be coded, and the atoms of its closure read these ports.
abbrev pub LevelsCanBeCoded : Type 0
LevelsCanBeCoded = (spec : Spec) (item : Item) (level : Level) → HasCodableTypes spec → IsLevel spec item level
    → All IsCodable level.ports × All (ReadsPorts level.ports) (map proposition_of level.closure.atoms)

-- Each free port has a type with a value.
abbrev pub FreeTypesHaveValues : Type 0
FreeTypesHaveValues = (spec : Spec) (c : ComponentId) → HasCodableTypes spec → All HasValue (free_types spec c)

-- The nodes of a question of a level are members of its closure.
abbrev pub QuestionsAreOverClosures : Type 0
QuestionsAreOverClosures = (level : Level) (question : List SignedNode) (formulas : List (Ltl × Bool))
    → Asks level question formulas → All (λ x. x.node.0 < length level.closure.nodes) question

-- Where no level has a fault, each is within the limits on the members of its closure and on its size.
abbrev pub ClearLevelsAreSmall : Type 0
ClearLevelsAreSmall = (width : ℕ) (spec : Spec) (n : ℕ) (item : Item) → first_level_fault width spec ≡ None
    → slice_get spec.items n ≡ Some item
    → (closure_size spec item ≤ most_closure_members) × (level_size spec item ≤ most_level_size)

-- The closure of a level has as many members as the specification says.
abbrev pub ClosuresAreCounted : Type 0
ClosuresAreCounted = (spec : Spec) (item : Item) (level : Level) → IsLevel spec item level
    → length level.closure.nodes ≡ closure_size spec item
