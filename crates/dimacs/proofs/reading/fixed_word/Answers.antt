use Rattle.std.proofs.Common.{List, ℕ, ◌++◌, ◌∷◌, [], refl, subst}
use Rattle.std.proofs.lemmas.Bool.{false≢true}
use Rattle.dimacs.specs.DimacsReading.{IsReadUpTo}
use Rattle.dimacs.proofs.Breaks.{breaks_here, breaks_behind, ends_before, other_word}
use Rattle.dimacs.proofs.reading.fixed_word.Goals as goal

pub returns-in-Err-clause-err : goal.returns-in-Err-clause-err
returns-in-Err-clause-err c = λ text words read goes can.
    breaks_behind text c.in-Err.end.lines words can (c.in-Err.ensures.end text words read) (ends_before words _ goes)

pub returns-then-is_wanted-clause-word : goal.returns-then-is_wanted-clause-word
returns-then-is_wanted-clause-word c = λ text words read.
    let after = c.in-Ok.found.ahead in
    subst (λ (w : List ℕ). IsReadUpTo text after.number after.rest.now after.behind.now (words ++ w ∷ [])) (c.if-is_wanted.ensures.0 refl)
    (c.in-Ok.ensures.word text words read)

pub returns-else-is_wanted-clause-err : goal.returns-else-is_wanted-clause-err
returns-else-is_wanted-clause-err c = λ text words read goes can.
    breaks_here text _ _ _ words c.in-Ok.found.word.now can (c.in-Ok.ensures.line text words read)
    (other_word words c.in-Ok.found.word.now _ (λ same. false≢true (c.if-is_wanted.ensures.1 same)) goes) (c.in-Ok.ensures.word text words read)
