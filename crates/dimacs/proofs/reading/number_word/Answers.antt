use Rattle.std.proofs.Common.{List, ℕ, ◌++◌, ◌∷◌, [], subst}
use Rattle.dimacs.specs.DimacsReading.{IsReadUpTo}
use Rattle.dimacs.proofs.Breaks.{breaks_here, breaks_behind, ends_before, other_word}
use Rattle.dimacs.proofs.reading.number_word.Goals as goal

pub returns-in-Err-clause-err : goal.returns-in-Err-clause-err
returns-in-Err-clause-err c = λ text words read goes can.
    breaks_behind text c.in-Err.end.lines words can (c.in-Err.ensures.end text words read) (ends_before words _ goes)

pub returns-in-Some-clause-word : goal.returns-in-Some-clause-word
returns-in-Some-clause-word c = λ text words read.
    let after = c.in-Ok.found.ahead in
    subst (λ (w : List ℕ). IsReadUpTo text after.number after.rest.now after.behind.now (words ++ w ∷ [])) c.in-Some.ensures.some
    (c.in-Ok.ensures.word text words read)

pub returns-in-None-clause-err : goal.returns-in-None-clause-err
returns-in-None-clause-err c = λ text words read goes can.
    breaks_here text _ _ _ words c.in-Ok.found.word.now can (c.in-Ok.ensures.line text words read)
    (other_word words c.in-Ok.found.word.now _ (λ fits. c.in-None.ensures.none fits.0 fits.1 fits.2) goes) (c.in-Ok.ensures.word text words read)
