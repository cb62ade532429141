-- Laws on the tokens of a text and its first lexing fault.
use Rattle.std.specs.Prelude.{◌≡◌, ℕ, ◌⊎◌, List, ◌++◌, Option, All}
use Rattle.oss_base.specs.declared.fault.Fault.{Fault}
use Rattle.oss_syntax.specs.Tokens.{IsPieceOf, AreTokens, IsFirstFault, StandsIn, AreInOrder}
use Rattle.oss_syntax.specs.declared.token.Token.{Token}
use Rattle.oss_syntax.specs.declared.token.TokenKind.{TokenKind}

-- no two pieces begin at the same byte
abbrev pub OnePiece : Type 0
OnePiece = (kind other : Option TokenKind) (text more after rest : List ℕ)
    → IsPieceOf kind text after → IsPieceOf other more rest
    → text ++ after ≡ more ++ rest → (kind ≡ other) × (text ≡ more)

-- a text has at most one list of tokens
abbrev pub OneTokenList : Type 0
OneTokenList = (bytes : List ℕ) (tokens others : List Token)
    → AreTokens bytes tokens → AreTokens bytes others → tokens ≡ others

-- a text has at most one first lexing fault
abbrev pub OneFirstFault : Type 0
OneFirstFault = (bytes : List ℕ) (fault other : Fault)
    → IsFirstFault bytes fault → IsFirstFault bytes other → fault ≡ other

-- a text that has tokens has no lexing fault
abbrev pub TokensWithoutFault : Type 0
TokensWithoutFault = (bytes : List ℕ) (tokens : List Token) (fault : Fault)
    → AreTokens bytes tokens → IsFirstFault bytes fault → ⊥

-- each text has tokens or a first lexing fault
abbrev pub TokensOrFault : Type 0
TokensOrFault = (bytes : List ℕ)
    → ((tokens : List Token) × AreTokens bytes tokens) ⊎ ((fault : Fault) × IsFirstFault bytes fault)

-- the tokens of a text stand in it, in order
abbrev pub TokensStand : Type 0
TokensStand = (bytes : List ℕ) (tokens : List Token)
    → AreTokens bytes tokens → All (StandsIn bytes) tokens × AreInOrder 0 tokens
