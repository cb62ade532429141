use Rattle.std.proofs.Common.{sym, ◌∙◌, arith}
use Rattle.oss_syntax.specs.Tokens.{is_word_byte}
use Rattle.oss_lexer.proofs.Pieces.{front_stops, front_all}
use Rattle.oss_lexer.proofs.bytes.word_len.Goals as goal

pub returns-then-not-is_word_byte : goal.returns-then-not-is_word_byte
returns-then-not-is_word_byte c =
    front_stops is_word_byte _ _ c.loop-i-test.true c.loop-i.invariant (sym c.is_word_byte.ensures ∙ c.if-not-is_word_byte.true)

pub returns : goal.returns
returns c = front_all is_word_byte _ c.loop-i.i (omega arith) c.loop-i.invariant
