use Rattle.std.proofs.Common.{refl, arith, decimal}
use Rattle.dimacs.proofs.EntryLaws.{plain_literal, plain_end}
use Rattle.dimacs.proofs.entries.numbered_entry.Goals as goal

pub returns-in-Some-clause-word : goal.returns-in-Some-clause-word
returns-in-Some-clause-word c =
    plain_literal (decimal c.args.number) c.in-Some.lit c.args.number refl c.in-Some.ensures.var c.in-Some.ensures.sign

pub returns-in-Some-clause-small : goal.returns-in-Some-clause-small
returns-in-Some-clause-small c = λ h. omega (arith, c.in-Some.ensures.var)

pub returns-in-None-clause-word : goal.returns-in-None-clause-word
returns-in-None-clause-word c = plain_end (decimal c.args.number) c.args.number refl c.in-None.ensures.none
