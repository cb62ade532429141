use Rattle.std.proofs.Common.{refl, ◌∙◌}
use Rattle.std.proofs.lemmas.Bool.{false≢true}
use Rattle.dimacs.proofs.Bodies.{AreNumbers, whole_text, too_few, taken_can}
use Rattle.dimacs.proofs.Breaks.{breaks_behind}
use Rattle.dimacs.proofs.reading.read_clauses.Goals as goal

pub returns-then-are_whole-clause-ok : goal.returns-then-are_whole-clause-ok
returns-then-are_whole-clause-ok c =
    let numbers : AreNumbers c.args.header.vars c.args.header.count = record { vars_most = c.requires.vars; count_most = c.requires.count } in
    let at = c.words.invariant.taken in
    whole_text c.args.text.now at.0 _ _ _ _ c.words.ended _ numbers at.2 (c.in-Err.ensures.end c.args.text.now at.0 at.1).0
    (c.if-are_whole.ensures.0 refl) c.words.invariant.ended c.words.invariant.vars

pub returns-in-Err-clause-err : goal.returns-in-Err-clause-err
returns-in-Err-clause-err c =
    let numbers : AreNumbers c.args.header.vars c.args.header.count = record { vars_most = c.requires.vars; count_most = c.requires.count } in
    let at = c.words.invariant.taken in
    breaks_behind c.args.text.now c.in-Err.end.lines at.0 (taken_can at.0 _ _ _ _ numbers at.2)
    (c.in-Err.ensures.end c.args.text.now at.0 at.1)
    (too_few at.0 _ _ _ _ numbers at.2
    (λ none same. false≢true (c.if-are_whole.ensures.1 (none, c.words.invariant.ended ∙ same))))

pub returns-in-Err-take_word-clause-err : goal.returns-in-Err-take_word-clause-err
returns-in-Err-take_word-clause-err c =
    let at = c.words.invariant.taken in
    c.in-Err-take_word.ensures.err c.args.text.now at.0 (c.in-Ok.ensures.word c.args.text.now at.0 at.1)
    (c.in-Ok.ensures.line c.args.text.now at.0 at.1) at.2
