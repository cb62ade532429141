-- What lexing answers, seen from the text: nothing is answered in place of its tokens or of its first fault but want
-- of memory.
use Rattle.std.specs.Prelude.{◌≡◌, ℕ, List, Result, IfOk, OnOk}
use Rattle.oss_base.specs.Faults.{IfFault}
use Rattle.oss_base.specs.declared.fault.Fault.{Fault}
use Rattle.oss_base.specs.declared.fault.Stop.{Stop}
use Rattle.oss_syntax.specs.Tokens.{AreTokens, IsFirstFault}
use Rattle.oss_syntax.specs.declared.token.Token.{Token}

-- where the text has tokens, these are answered, and no fault
abbrev pub GivesTokens : List ℕ → Result (List Token) Stop → Type 0
GivesTokens bytes result =
    (tokens : List Token) → AreTokens bytes tokens → IfOk result (λ found. found ≡ tokens) × IfFault result (λ _. ⊥)

-- where the text has a first lexing fault, this is answered, and no tokens
abbrev pub GivesFault : List ℕ → Result (List Token) Stop → Type 0
GivesFault bytes result =
    (fault : Fault) → IsFirstFault bytes fault → OnOk result ⊥ × IfFault result (λ found. found ≡ fault)
