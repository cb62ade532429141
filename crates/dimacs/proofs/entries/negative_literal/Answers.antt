use Rattle.dimacs.proofs.EntryLaws.{minus_some, literal_small, minus_none, no_minus_number}
use Rattle.dimacs.proofs.entries.negative_literal.Goals as goal

pub returns-in-Some-clause-some : goal.returns-in-Some-clause-some
returns-in-Some-clause-some c =
    minus_some c.literal_of.result c.args.digits.now c.in-Some.number c.literal_of.ensures.var c.literal_of.ensures.sign c.in-Some.ensures.some

pub returns-in-Some-clause-small : goal.returns-in-Some-clause-small
returns-in-Some-clause-small c = literal_small c.literal_of.result c.in-Some.number c.literal_of.ensures.var c.in-Some.ensures.most

pub returns-in-Some-clause-none : goal.returns-in-Some-clause-none
returns-in-Some-clause-none c = minus_none c.literal_of.result c.args.digits.now c.in-Some.number c.literal_of.ensures.none c.in-Some.ensures.some

pub returns-in-None-clause-none : goal.returns-in-None-clause-none
returns-in-None-clause-none c = no_minus_number c.args.digits.now c.in-None.ensures.none
