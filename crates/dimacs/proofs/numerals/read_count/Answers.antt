use Rattle.std.proofs.lemmas.Bool.{false≢true}
use Rattle.dimacs.proofs.PrintedNumbers.{not_another, digits_where_printed, too_many_digits}
use Rattle.dimacs.proofs.numerals.read_count.Goals as goal

pub returns-else-is_printed-clause-none : goal.returns-else-is_printed-clause-none
returns-else-is_printed-clause-none c = λ n h e.
    let same = not_another c.args.text.now c.in-Some.number n h c.in-Some.ensures.some e in absurd (false≢true (c.if-is_printed.ensures.1 same))

pub returns-in-None-clause-none : goal.returns-in-None-clause-none
returns-in-None-clause-none c = λ n h e.
    too_many_digits c.args.text.now n h e (c.in-None.ensures.none (digits_where_printed c.args.text.now n h e))
