-- What the bytes of a file are: a specification, or a text that is refused for a fault (the phases of a translator:
-- Aho, Lam, Sethi and Ullman, Compilers: Principles, Techniques, and Tools, 2006).
--
-- The faults come in phases: the size of the file, its tokens, its syntax, then its names, types and limits, and last
-- the sizes of its levels, where a level is one refined contract with those that refine it. A phase has a fault only
-- where no earlier one has, and the first of its faults is told. The last one depends on a width, from 1 to 3.
use Rattle.std.specs.Prelude.{◌≡◌, ℕ, ◌<◌, ◌≤◌, ◌⊎◌, List, length, Some, None}
use Rattle.oss_base.specs.Limits.{most_bytes}
use Rattle.oss_base.specs.declared.fault.Fault.{Fault}
use Rattle.oss_base.specs.declared.fault.FaultKind.{FaultKind}
use Rattle.oss_base.specs.declared.fault.FaultKind.TheVariants.{F1}
use Rattle.oss_syntax.specs.declared.token.Token.{Token}
use Rattle.oss_syntax.specs.Tokens.{AreTokens, IsFirstFault}
use Rattle.oss_syntax.specs.Terminals.{terminals_of}
use Rattle.oss_syntax.specs.Texts.{IsText}
use Rattle.oss_syntax.specs.Trees.{Component}
use Rattle.oss_syntax.specs.SyntaxFaults.{IsSyntaxKind}
use Rattle.spec_model.specs.declared.spec.Spec.{Spec}
use Rattle.architecture.specs.FirstFaults.{tree_site, tree_fault}
use Rattle.architecture.specs.Standing.{Stands}
use Rattle.levels.specs.LevelFaults.{first_level_fault}

-- The bytes are a text of the grammar, and this is its tree.
pub record IsTreeOf (bytes : List ℕ) (components : List Component) : Type 0 where
  pub short : length bytes ≤ most_bytes
  pub tokens : List Token
  pub cut : AreTokens bytes tokens
  pub text : IsText (terminals_of bytes tokens) components

-- This is the only tree of the text.
pub record IsSoleTreeOf (bytes : List ℕ) (components : List Component) : Type 0 where
  pub tree : IsTreeOf bytes components
  pub sole : (others : List Component) → IsTreeOf bytes others → others ≡ components

-- The text of the bytes has no fault of names, types or limits, and its tree stands for this specification.
pub record IsSpecOf (bytes : List ℕ) (components : List Component) (spec : Spec) : Type 0 where
  pub faultless : tree_site (length bytes) components ≡ None
  pub stands : Stands bytes components spec

-- The bytes are a text without a fault at this width, and it stands for this specification.
pub record IsSpecification (width : ℕ) (bytes : List ℕ) (spec : Spec) : Type 0 where
  pub components : List Component
  pub tree : IsTreeOf bytes components
  pub of : IsSpecOf bytes components spec
  pub levels : first_level_fault width spec ≡ None

-- This is the only specification that the bytes are.
pub record IsSoleSpecification (width : ℕ) (bytes : List ℕ) (spec : Spec) : Type 0 where
  pub is : IsSpecification width bytes spec
  pub only : (other : Spec) → IsSpecification width bytes other → other ≡ spec

-- a fault at the start of the text
abbrev pub at_start : FaultKind → Fault
at_start kind = record { kind = kind; place = record { line = 1; column = 1 } }

-- The bytes are too many.
pub record IsSizeFault (bytes : List ℕ) (fault : Fault) : Type 0 where
  pub long : most_bytes < length bytes
  pub is : fault ≡ at_start F1

-- Some byte begins no token, or a numeral is too large, and this is the first such place.
pub record IsLexingFault (bytes : List ℕ) (fault : Fault) : Type 0 where
  pub short : length bytes ≤ most_bytes
  pub first : IsFirstFault bytes fault

-- The tokens are no text of the grammar. (Which of the kinds of syntax faults it is, and where it stands, is not said.)
pub record IsSyntaxFault (bytes : List ℕ) (fault : Fault) : Type 0 where
  pub short : length bytes ≤ most_bytes
  pub tokens : List Token
  pub cut : AreTokens bytes tokens
  pub no_text : (components : List Component) → ¬ IsText (terminals_of bytes tokens) components
  pub kind : IsSyntaxKind fault.kind

-- The text has a fault of names, types or limits, and this is the first.
pub record IsTreeFault (bytes : List ℕ) (fault : Fault) : Type 0 where
  pub components : List Component
  pub tree : IsSoleTreeOf bytes components
  pub first : tree_fault bytes components ≡ Some fault

-- Some level of what the text stands for is too large at this width, and this is the first such fault.
pub record IsLevelFault (width : ℕ) (bytes : List ℕ) (fault : Fault) : Type 0 where
  pub components : List Component
  pub spec : Spec
  pub tree : IsSoleTreeOf bytes components
  pub of : IsSpecOf bytes components spec
  pub first : first_level_fault width spec ≡ Some fault

-- what the bytes of a file are refused for at this width
abbrev pub IsFaultOf : ℕ → List ℕ → Fault → Type 0
IsFaultOf width bytes fault = IsSizeFault bytes fault ⊎ IsLexingFault bytes fault ⊎ IsSyntaxFault bytes fault
    ⊎ IsTreeFault bytes fault ⊎ IsLevelFault width bytes fault
