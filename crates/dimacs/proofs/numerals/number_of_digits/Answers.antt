use Rattle.std.proofs.Common.{◌+◌, ◌∙◌, sym, arith, get_or, refl}
use Rattle.dimacs.proofs.PrintedNumbers.{value_more, too_large, not_a_digit}
use Rattle.dimacs.proofs.numerals.number_of_digits.Goals as goal

pub returns-then-not-is_ascii_digit-clause-none : goal.returns-then-not-is_ascii_digit-clause-none
returns-then-not-is_ascii_digit-clause-none c = λ d.
    absurd (not_a_digit c.args.text.now c.loop-byte.byte-index d c.loop-byte-test.true c.if-not-is_ascii_digit.ensures.cases)

pub returns-in-None-clause-none : goal.returns-in-None-clause-none
returns-in-None-clause-none c = λ d.
    let more = value_more c.args.text.now c.loop-byte.byte-index (get_or c.args.text.now c.loop-byte.byte-index 0) _ c.loop-byte.number
    c.loop-byte-test.true refl c.if-not-is_ascii_digit.ensures.cases refl c.loop-byte.invariant in
    let large = c.in-None.ensures.none in
    too_large c.args.text.now (c.loop-byte.byte-index + 1) 18446744073709551616 (omega arith)

pub loop-byte-preserved : goal.loop-byte-preserved
loop-byte-preserved c =
    c.in-Some.ensures.some ∙ sym (value_more c.args.text.now c.loop-byte.byte-index (get_or c.args.text.now c.loop-byte.byte-index 0) _ c.loop-byte.number
    c.loop-byte-test.true refl c.if-not-is_ascii_digit.ensures.cases refl c.loop-byte.invariant)
