use Rattle.std.proofs.Common.{drop, arith}
use Rattle.std.proofs.lemmas.List.{take_rest, length-drop}
use Rattle.oss_lexer.specs.Fronts.{IsFrontWithinLimit}
use Rattle.oss_lexer.proofs.Cuts.{lexed_more, lexed_end, lexed_fault, one_token_list, one_first_fault, tokens_without_fault}
use Rattle.oss_lexer.proofs.lexing.lex.Goals as goal

pub loop-at-preserved : goal.loop-at-preserved
loop-at-preserved c =
    let stands : IsFrontWithinLimit (drop c.loop-at.at c.args.bytes.now) c.in-Ok.front = rw take_rest at c.in-Ok.ensures.piece in
    record {
      lexed = lexed_more _ _ _ _ c.in-Ok.front c.loop-at.invariant.lexed stands c.in_ok-add_token-in-Ok.ensures;
      within = omega (arith, stands.is_front.within, length-drop c.loop-at.at c.args.bytes.now);
    }

pub returns-in-Err-clause-accepted : goal.returns-in-Err-clause-accepted
returns-in-Err-clause-accepted c = λ tokens are. (
  tt,
  tokens_without_fault _ tokens _ are
      (lexed_fault _ c.loop-at.at c.loop-at.tokens c.in-Err.kind _ c.loop-at.invariant.lexed
      (rw take_rest at c.in-Err.ensures.fault) c.place_of-place.ensures),
)

pub returns-in-Err-clause-refused : goal.returns-in-Err-clause-refused
returns-in-Err-clause-refused c = λ fault first. (
  tt,
  one_first_fault _ _ fault
      (lexed_fault _ c.loop-at.at c.loop-at.tokens c.in-Err.kind _ c.loop-at.invariant.lexed
      (rw take_rest at c.in-Err.ensures.fault) c.place_of-place.ensures) first,
)

pub returns-clause-accepted : goal.returns-clause-accepted
returns-clause-accepted c = λ tokens are. (one_token_list _ _ tokens (lexed_end _ c.loop-at.at _ c.loop-at.invariant.lexed c.loop-at-test.false) are, tt)

pub returns-clause-refused : goal.returns-clause-refused
returns-clause-refused c = λ fault first. (
  tokens_without_fault _ _ fault
      (lexed_end _ c.loop-at.at _ c.loop-at.invariant.lexed c.loop-at-test.false) first,
  tt,
)
