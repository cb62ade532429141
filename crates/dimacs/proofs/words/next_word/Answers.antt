use Rattle.std.proofs.Common.{◌∷◌, ◌∙◌, ap, sym, drop}
use Rattle.dimacs.specs.Dimacs.{words_between_blanks}
use Rattle.dimacs.proofs.Cutting.{no_word, one_word}
use Rattle.dimacs.proofs.words.next_word.Goals as goal

pub returns-then-end-eq0-clause-none : goal.returns-then-end-eq0-clause-none
returns-then-end-eq0-clause-none c =
    no_word c.args.line.now c.split_at.result.1.now c.run_len-end.result
    (c.split_at.ensures.back ∙ ap (λ n. drop n c.args.line.now) c.run_len.ensures.place) c.run_len-end.ensures.place c.if-end-eq0.true

pub returns-clause-some : goal.returns-clause-some
returns-clause-some c =
    one_word c.args.line.now c.split_at.result.1.now c.run_len-end.result
    (c.split_at.ensures.back ∙ ap (λ n. drop n c.args.line.now) c.run_len.ensures.place) c.run_len-end.ensures.place c.if-end-eq0.false
    ∙ (λ j. sym c.split_at-2.ensures.front j ∷ words_between_blanks (sym c.split_at-2.ensures.back j))
