use Rattle.std.proofs.Common.{◌-◌, ◌≤◌, length}
use Rattle.oss_lexer.proofs.Cuts.{LexedTo}
use Rattle.oss_lexer.proofs.lexing.lex.Given as goal

-- the bytes so far are cut into pieces that have the tokens so far
abbrev pub invariant-loop-at : goal.invariant-loop-at
invariant-loop-at l = record {
  lexed : LexedTo l.bytes l.at l.tokens;
  within : l.at ≤ length l.bytes;
}

abbrev pub decreases-loop-at : goal.decreases-loop-at
decreases-loop-at l = length l.bytes - l.at
