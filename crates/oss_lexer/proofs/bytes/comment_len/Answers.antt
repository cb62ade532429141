use Rattle.std.proofs.Common.{refl, arith}
use Rattle.oss_syntax.specs.Tokens.{is_comment_byte}
use Rattle.oss_lexer.proofs.Pieces.{front_stops, front_all}
use Rattle.oss_lexer.proofs.bytes.comment_len.Goals as goal

pub returns-then-byte-eq10 : goal.returns-then-byte-eq10
returns-then-byte-eq10 c = front_stops is_comment_byte _ _ c.loop-i-test.true c.loop-i.invariant (rw c.if-byte-eq10.true refl)

pub returns : goal.returns
returns c = front_all is_comment_byte _ c.loop-i.i (omega arith) c.loop-i.invariant
