use Rattle.replay.proofs.Numerals.{negative_only, minus_printed, minus_small, zero_has_none}
use Rattle.replay.proofs.numbers.read_negative.Goals as goal

pub returns-in-Some-clause-some : goal.returns-in-Some-clause-some
returns-in-Some-clause-some c =
    minus_printed c.with_minus.result c.args.digits.now c.in-Some.number c.with_minus.ensures.some c.with_minus.ensures.positive c.in-Some.ensures.some

pub returns-in-Some-clause-most : goal.returns-in-Some-clause-most
returns-in-Some-clause-most c = minus_small c.with_minus.result c.in-Some.number c.with_minus.ensures.some c.in-Some.ensures.most

pub returns-in-Some-clause-none : goal.returns-in-Some-clause-none
returns-in-Some-clause-none c =
    zero_has_none c.with_minus.result c.args.digits.now c.in-Some.number c.with_minus.ensures.none c.in-Some.ensures.most c.in-Some.ensures.some

pub returns-in-None-clause-none : goal.returns-in-None-clause-none
returns-in-None-clause-none c = negative_only c.args.digits.now (λ n h some e. c.in-None.ensures.none n h e)
