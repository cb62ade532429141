use Rattle.std.proofs.Common.{sym, ◌∙◌, arith}
use Rattle.std.specs.Char.{is_ascii_digit}
use Rattle.oss_lexer.proofs.Pieces.{front_stops, front_all}
use Rattle.oss_lexer.proofs.bytes.numeral_len.Goals as goal

pub returns-then-not-is_ascii_digit : goal.returns-then-not-is_ascii_digit
returns-then-not-is_ascii_digit c =
    front_stops is_ascii_digit _ _ c.loop-i-test.true c.loop-i.invariant (sym c.is_ascii_digit.ensures.value ∙ c.if-not-is_ascii_digit.true)

pub returns : goal.returns
returns c = front_all is_ascii_digit _ c.loop-i.i (omega arith) c.loop-i.invariant
