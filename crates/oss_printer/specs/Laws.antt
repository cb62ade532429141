-- What is printed reads back, and spans make no difference to it: printing as an inverse of parsing, as in T. Rendel and
-- K. Ostermann, Invertible syntax descriptions: unifying parsing and pretty printing (2010).
use Rattle.std.specs.Prelude.{◌≡◌, ℕ, List}
use Rattle.oss_syntax.specs.declared.token.Token.{Token}
use Rattle.oss_syntax.specs.Tokens.{AreTokens}
use Rattle.oss_syntax.specs.Terminals.{terminals_of}
use Rattle.oss_syntax.specs.Texts.{IsText}
use Rattle.oss_syntax.specs.Spanless.{bare_components}
use Rattle.oss_syntax.specs.Trees.{Component}
use Rattle.oss_printer.specs.Canonical.{canonical_text}

-- The canonical text has tokens, and is a text of the same specification but for the places of its parts.
pub record ReadsBack (components : List Component) : Type 0 where
  pub tokens : List Token
  pub again : List Component
  pub cut : AreTokens (canonical_text components) tokens
  pub text : IsText (terminals_of (canonical_text components) tokens) again
  pub same : bare_components again ≡ bare_components components

-- The canonical text of a specification reads back, where some text is read as the same but for the places of its parts.
-- With the law that a text has one list of tokens, and with the clause of reading that its tree is the only one, reading
-- it gives this specification again, where it is no longer than a text may be.
abbrev pub CanonicalTextReadsBack : Type 0
CanonicalTextReadsBack = (bytes : List ℕ) (tokens : List Token) (read components : List Component)
    → AreTokens bytes tokens → IsText (terminals_of bytes tokens) read
    → bare_components components ≡ bare_components read → ReadsBack components

-- Specifications that are the same but for the places of their parts have one canonical text. So the canonical text of
-- what a canonical text is read as is that text again.
abbrev pub SpansMakeNoDifference : Type 0
SpansMakeNoDifference = (a b : List Component) → bare_components a ≡ bare_components b
    → canonical_text a ≡ canonical_text b
