-- What is always so of the specification that a tree stands for (well-formedness as in Cimatti and Tonetta,
-- Contracts-refinement proof system for component-based embedded systems, 2015).
use Rattle.std.specs.Prelude.{◌≡◌, ℕ, ◌≤◌, List, length, Some, None, slice_get}
use Rattle.oss_base.specs.Limits.{most_bytes}
use Rattle.oss_base.specs.declared.ids.ComponentId.{ComponentId}
use Rattle.oss_syntax.specs.Alphabet.{Terminal}
use Rattle.oss_syntax.specs.Terminals.{terminals_of}
use Rattle.oss_syntax.specs.Texts.{IsText}
use Rattle.oss_syntax.specs.Tokens.{AreTokens}
use Rattle.oss_syntax.specs.Trees.{Component}
use Rattle.oss_syntax.specs.declared.token.Token.{Token}
use Rattle.port_types.specs.declared.types.PortType.{PortType}
use Rattle.port_types.specs.declared.types.PortType.TheVariants as kind
use Rattle.spec_model.specs.Architecture.{IsWellFormed, free_targets, port_at, wires_of}
use Rattle.spec_model.specs.Expressions.{NumberReadsBelow, ChoiceReadsBelow, ReadsBelow}
use Rattle.spec_model.specs.declared.port.OwnPort.{OwnPort}
use Rattle.spec_model.specs.declared.spec.Spec.{Spec}
use Rattle.spec_model.specs.declared.wire.Source.{Source}
use Rattle.spec_model.specs.declared.wire.Source.TheVariants as source
use Rattle.spec_model.specs.declared.wire.Wire.{Wire}
use Rattle.spec_values.specs.FreeTypes.{SourcesKeepTypes}
use Rattle.spec_values.specs.SmallNumbers.{HasSmallNumbers}
use Rattle.typed_ltl.specs.Formulas.{meaning, number_of, choice_of}
use Rattle.architecture.specs.FirstFaults.{tree_site}
use Rattle.architecture.specs.Standing.{Stands}
use Rattle.architecture.specs.StateSources.{HasStateSources}

-- a tree of a text stands for one specification alone
abbrev pub StandsIsUnique : Type 0
StandsIsUnique = (bytes : List ℕ) (all : List Component) (a b : Spec) → Stands bytes all a → Stands bytes all b → a ≡ b

-- in a text the connections read one valuation alone
abbrev pub TextsHaveStateSources : Type 0
TextsHaveStateSources = (terminals : List Terminal) (all : List Component) → IsText terminals all → HasStateSources all

-- what a tree without a fault stands for is well formed
abbrev pub ResolvedIsWellFormed : Type 0
ResolvedIsWellFormed =
    (bytes : List ℕ) (all : List Component) (spec : Spec) → tree_site (length bytes) all ≡ None → HasStateSources all
    → Stands bytes all spec → IsWellFormed spec

-- the source of a connection reads ports below n
abbrev pub SourceReadsBelow : ℕ → Source → Type 0
SourceReadsBelow n (source.Truth f) = ReadsBelow n (meaning f)
SourceReadsBelow n (source.Number t) = NumberReadsBelow n (number_of t)
SourceReadsBelow n (source.Choice p) = ChoiceReadsBelow n (choice_of p)

-- each connection reads free ports
abbrev pub SourcesReadFreePorts : Spec → Type 0
SourcesReadFreePorts spec =
    (c : ComponentId) (n : ℕ) (w : Wire) → slice_get (wires_of spec c) n ≡ Some w
    → SourceReadsBelow (length (free_targets spec c)) w.source

-- the source is what a port of this type wants
abbrev pub IsSourceOf : PortType → Source → Type 0
IsSourceOf kind.Bool (source.Truth f) = Unit {0}
IsSourceOf (kind.Range lo hi) (source.Number t) = Unit {0}
IsSourceOf (kind.Enum names) (source.Choice p) = Unit {0}
IsSourceOf _ _ = ⊥

-- each connection drives a port that is there, with a source of its type
abbrev pub SourcesFitTargets : Spec → Type 0
SourcesFitTargets spec =
    (c : ComponentId) (n : ℕ) (w : Wire) → slice_get (wires_of spec c) n ≡ Some w
    → (port : OwnPort) × (port_at spec c w.target ≡ Some port) × IsSourceOf port.kind w.source

-- the same of what a tree without a fault stands for
abbrev pub ResolvedIsConnected : Type 0
ResolvedIsConnected =
    (bytes : List ℕ) (all : List Component) (spec : Spec) → tree_site (length bytes) all ≡ None
    → Stands bytes all spec → SourcesReadFreePorts spec × SourcesFitTargets spec

-- each connection of what a tree without a fault stands for gives its target a value of the target's type
abbrev pub ResolvedKeepsTypes : Type 0
ResolvedKeepsTypes =
    (bytes : List ℕ) (all : List Component) (spec : Spec) → tree_site (length bytes) all ≡ None
    → Stands bytes all spec → SourcesKeepTypes spec

-- what a text of a file stands for has small numbers
abbrev pub ResolvedHasSmallNumbers : Type 0
ResolvedHasSmallNumbers =
    (bytes : List ℕ) (tokens : List Token) (all : List Component) (spec : Spec) → length bytes ≤ most_bytes
    → AreTokens bytes tokens → IsText (terminals_of bytes tokens) all → Stands bytes all spec → HasSmallNumbers spec
