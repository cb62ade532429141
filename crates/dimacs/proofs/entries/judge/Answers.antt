use Rattle.std.proofs.Common.{refl, sym, ◌∙◌}
use Rattle.dimacs.specs.Dimacs.{most_of_kind}
use Rattle.dimacs.proofs.EntryLaws.{below_more}
use Rattle.dimacs.proofs.Bodies.{below_by_word}
use Rattle.dimacs.proofs.entries.judge.Goals as goal

pub returns-in-None-clause-err : goal.returns-in-None-clause-err
returns-in-None-clause-err c = λ entry below e.
    absurd (c.in-None.ensures.none entry (below_more c.args.vars most_of_kind entry c.requires below) e)

pub returns-then-is_beyond-clause-err : goal.returns-then-is_beyond-clause-err
returns-then-is_beyond-clause-err c = λ entry below e.
    absurd (c.if-is_beyond.ensures.beyond refl
    (below_by_word c.args.vars c.in-Some.entry entry c.requires c.in-Some.ensures.small below (sym c.in-Some.ensures.some ∙ e)))
