-- What is always so of lasso files: no text means a lasso and breaks, none means two, and a printed lasso is read as
-- itself; and of the traces by which contracts are judged, and of judgements.
use Rattle.std.specs.Prelude.{◌≡◌, ◌≢◌, ℕ, ◌≤◌, ◌||◌, Bool, true, not, nat_eq, List, [], length, All, AllPairs}
use Rattle.std.specs.Prelude.{Option, Some}
use Rattle.std.specs.List.{AllZip}
use Rattle.port_types.specs.declared.types.PortType.{PortType}
use Rattle.port_types.specs.declared.types.PortType.TheVariants as kind
use Rattle.port_types.specs.declared.types.Value.{Value}
use Rattle.port_types.specs.Types.{IsOfType, IsSignedNumeral}
use Rattle.oss_base.specs.declared.ids.ComponentId.{ComponentId}
use Rattle.oss_base.specs.Limits.{most_bytes}
use Rattle.oss_base.specs.declared.ids.SubId.{SubId}
use Rattle.typed_ltl.specs.Traces.{word}
use Rattle.spec_model.specs.declared.spec.Spec.{Spec}
use Rattle.spec_values.specs.FreeTypes.{SourcesKeepTypes}
use Rattle.spec_values.specs.SmallNumbers.{HasSmallNumbers}
use Rattle.connections.specs.Laws.{ConnectionsHold}
use Rattle.replay.specs.declared.named.NamedLasso.{NamedLasso}
use Rattle.replay.specs.FreePortNames.{free_names}
use Rattle.spec_model.specs.FreeTypes.{free_types}
use Rattle.replay.specs.LassoBlocks.{lasso_block}
use Rattle.replay.specs.TextLines.{divides_words}
use Rattle.replay.specs.declared.judgement.Judgement.{Judgement}
use Rattle.replay.specs.Judgements.{seen_trace, HasModerateTerms, AreJudgements}
use Rattle.replay.specs.LassoFiles.{IsLasso, IsBreak, place_of_component, is_equals_sign, most_states}

-- No text means a lasso and breaks.
abbrev pub LassosDontBreak : Type 0
LassosDontBreak = (spec : Spec) (bytes : List ℕ) (named : NamedLasso) (number : ℕ)
    → IsLasso spec bytes named → IsBreak spec bytes number → ⊥

-- A text means at most one lasso.
abbrev pub TextsMeanOneLasso : Type 0
TextsMeanOneLasso = (spec : Spec) (bytes : List ℕ) (named other : NamedLasso) → HasSmallNumbers spec
    → IsLasso spec bytes named → IsLasso spec bytes other → named ≡ other

-- a byte that divides no words, ends no line and is no `=`
abbrev pub stands_in_names : ℕ → Bool
stands_in_names byte = not (divides_words byte || nat_eq byte 10 || nat_eq byte 13 || is_equals_sign byte)

-- a name that can stand in a lasso file: at least one byte, all of them such
abbrev pub IsFileName : List ℕ → Type 0
IsFileName name = (name ≢ []) × All (λ byte. stands_in_names byte ≡ true) name

-- each value of the type can stand in a lasso file: numbers are numerals, names are such
abbrev pub HasFileValues : PortType → Type 0
HasFileValues kind.Bool = Unit {0}
HasFileValues (kind.Range lo hi) = IsSignedNumeral lo × IsSignedNumeral hi
HasFileValues (kind.Enum names) = All IsFileName names

-- The names of a component and its free ports, and their values, can stand in a lasso file; no two free ports have one
-- name.
pub record HasFileNames (spec : Spec) (name : List ℕ) (c : ComponentId) : Type 0 where
  pub component : place_of_component spec name ≡ Some c.0
  pub component_name : IsFileName name
  pub port_names : All IsFileName (free_names spec c)
  pub port_values : All HasFileValues (free_types spec c)
  pub distinct : AllPairs (λ a b. a ≢ b) (free_names spec c)

-- each state gives each free port a value of its type
abbrev pub FitsPorts : List PortType → List (List Value) → Type 0
FitsPorts kinds states = All (AllZip IsOfType kinds) states

-- A lasso that is printed is read as itself, within the limits on states and bytes.
abbrev pub BlocksReadBack : Type 0
BlocksReadBack = (spec : Spec) (name : List ℕ) (named : NamedLasso) → HasFileNames spec name named.component
    → FitsPorts (free_types spec named.component) named.lasso.states
    → length named.lasso.states ≤ most_states
    → length (lasso_block name (free_names spec named.component) named.lasso) ≤ most_bytes
    → IsLasso spec (lasso_block name (free_names spec named.component) named.lasso) named

-- On the trace that the ports of a component, or of one of its subcomponents, see, the connections hold.
abbrev pub SeenTracesAreConnected : Type 0
SeenTracesAreConnected = (spec : Spec) (named : NamedLasso) (s : Option SubId)
    → ConnectionsHold spec named.component s (word named.lasso.states named.lasso.loop_at) (seen_trace spec named s)

-- A lasso has one list of judgements.
abbrev pub JudgementsAreUnique : Type 0
JudgementsAreUnique = (spec : Spec) (named : NamedLasso) (judgements others : List Judgement)
    → AreJudgements spec named judgements → AreJudgements spec named others → judgements ≡ others

-- A lasso that a text means can be judged: all terms are moderate, where the specification has small numbers and its
-- connections keep to the types of their targets.
abbrev pub LassosAreModerate : Type 0
LassosAreModerate = (spec : Spec) (bytes : List ℕ) (named : NamedLasso) → HasSmallNumbers spec → SourcesKeepTypes spec
    → IsLasso spec bytes named → HasModerateTerms spec named
