use Rattle.std.proofs.Common.{sym, ◌∙◌}
use Rattle.dimacs.proofs.Bodies.{AreNumbers, refused_word, taken_can}
use Rattle.dimacs.proofs.Breaks.{breaks_here}
use Rattle.dimacs.proofs.reading.take_word.Goals as goal

pub returns-in-Err-clause-err : goal.returns-in-Err-clause-err
returns-in-Err-clause-err c = λ text words read begins taken.
    let numbers : AreNumbers c.args.header.vars c.args.header.count = record { vars_most = c.requires.vars; count_most = c.requires.count } in
    breaks_here text _ _ _ words c.args.found.word.now (taken_can words _ _ _ _ numbers taken) begins
    (refused_word words _ _ _ _ c.args.found.word.now numbers taken
    (λ entry below e. sym c.requires.ended ∙ c.are_ended.ensures.0 (c.in-Err.ensures.err entry below e)))
    read
