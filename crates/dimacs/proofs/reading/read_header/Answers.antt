use Rattle.std.proofs.Common.{[], ◌∷◌, decimal}
use Rattle.std.specs.Prelude.{codes}
use Rattle.dimacs.proofs.Breaks.{first_p, then_cnf, then_vars, then_count, can_begin, can_after_p, can_after_cnf, can_after_vars}
use Rattle.dimacs.proofs.ReadingLaws.{nothing_read}
use Rattle.dimacs.proofs.reading.read_header.Goals as goal

pub returns-in-Err-clause-err : goal.returns-in-Err-clause-err
returns-in-Err-clause-err c = c.in-Err.ensures.err c.args.text.now [] (nothing_read c.args.text.now) first_p can_begin

pub returns-in-Err-fixed_word-clause-err : goal.returns-in-Err-fixed_word-clause-err
returns-in-Err-fixed_word-clause-err c =
    let text = c.args.text.now in
    let read = c.in-Ok.ensures.word text [] (nothing_read text) in
    c.in-Err-fixed_word.ensures.err text (codes "p" ∷ []) read then_cnf can_after_p

pub returns-in-Err-number_word-clause-err : goal.returns-in-Err-number_word-clause-err
returns-in-Err-number_word-clause-err c =
    let text = c.args.text.now in
    let read = c.in-Ok-fixed_word.ensures.word text (codes "p" ∷ []) (c.in-Ok.ensures.word text [] (nothing_read text)) in
    c.in-Err-number_word.ensures.err text (codes "p" ∷ codes "cnf" ∷ []) read then_vars can_after_cnf

pub returns-in-Ok-number_word-2-clause-words : goal.returns-in-Ok-number_word-2-clause-words
returns-in-Ok-number_word-2-clause-words c =
    let text = c.args.text.now in
    let read = c.in-Ok-fixed_word.ensures.word text (codes "p" ∷ []) (c.in-Ok.ensures.word text [] (nothing_read text)) in
    let numbered = c.in-Ok-number_word.ensures.word text (codes "p" ∷ codes "cnf" ∷ []) read in
    c.in-Ok-number_word-2.ensures.word text (codes "p" ∷ codes "cnf" ∷ decimal c.in-Ok-number_word.vars.number ∷ []) numbered

pub returns-in-Err-number_word-2-clause-err : goal.returns-in-Err-number_word-2-clause-err
returns-in-Err-number_word-2-clause-err c =
    let text = c.args.text.now in
    let vars = c.in-Ok-number_word.vars.number in
    let read = c.in-Ok-fixed_word.ensures.word text (codes "p" ∷ []) (c.in-Ok.ensures.word text [] (nothing_read text)) in
    let numbered = c.in-Ok-number_word.ensures.word text (codes "p" ∷ codes "cnf" ∷ []) read in
    c.in-Err-number_word-2.ensures.err text (codes "p" ∷ codes "cnf" ∷ decimal vars ∷ []) numbered (then_count vars)
    (can_after_vars vars c.in-Ok-number_word.ensures.most)
