-- What is always so of the types of a specification that a file is: each can be coded in bits, each formula reads ports
-- of the kinds that it wants, and each connection reads free ports (type soundness: B. C. Pierce, Types and Programming
-- Languages, 2002).
use Rattle.std.specs.Prelude.{◌≡◌, ℕ, ◌≤◌, List, length, None}
use Rattle.oss_base.specs.Limits.{most_bytes}
use Rattle.oss_syntax.specs.Terminals.{terminals_of}
use Rattle.oss_syntax.specs.Texts.{IsText}
use Rattle.oss_syntax.specs.Tokens.{AreTokens}
use Rattle.oss_syntax.specs.Trees.{Component}
use Rattle.oss_syntax.specs.declared.token.Token.{Token}
use Rattle.spec_model.specs.declared.spec.Spec.{Spec}
use Rattle.architecture.specs.FirstFaults.{tree_site}
use Rattle.architecture.specs.Standing.{Stands}
use Rattle.coded_levels.specs.CodableTypes.{HasCodableTypes}
use Rattle.narrowed_questions.specs.NarrowedQuestions.{ReadsFreePorts}

-- what a text of a file without a fault stands for has types that can be coded, and formulas over ports of their kinds
abbrev pub FilesHaveCodableTypes : Type 0
FilesHaveCodableTypes =
    (bytes : List ℕ) (tokens : List Token) (all : List Component) (spec : Spec) → length bytes ≤ most_bytes
    → AreTokens bytes tokens → IsText (terminals_of bytes tokens) all → tree_site (length bytes) all ≡ None
    → Stands bytes all spec → HasCodableTypes spec

-- and its contracts read ports of their component, its connections free ports
abbrev pub FilesReadFreePorts : Type 0
FilesReadFreePorts =
    (bytes : List ℕ) (tokens : List Token) (all : List Component) (spec : Spec) → length bytes ≤ most_bytes
    → AreTokens bytes tokens → IsText (terminals_of bytes tokens) all → tree_site (length bytes) all ≡ None
    → Stands bytes all spec → ReadsFreePorts spec
