use Rattle.std.proofs.Common.{◌≡◌, ℕ, ◌<◌, true, get_or}
use Rattle.oss_syntax.specs.Tokens.{is_comment_byte}
use Rattle.oss_lexer.proofs.bytes.comment_len.Given as goal

-- the bytes so far pass
abbrev pub invariant-loop-i : goal.invariant-loop-i
invariant-loop-i l = (k : ℕ) → k < l.i → is_comment_byte (get_or l.bytes k 0) ≡ true
