use Rattle.std.proofs.Common.{◌≡◌, arith, rules}
use Rattle.dimacs.proofs.PrintedNumbers.{printed_once}
use Rattle.dimacs.proofs.numerals.read_numeral.Goals as goal

pub returns-else-number-clause-none : goal.returns-else-number-clause-none
returns-else-number-clause-none c = λ n h e.
    let same : c.in-Some.number ≡ n = printed_once c.args.text.now c.in-Some.number n (search rules) (omega arith) c.in-Some.ensures.some e in
    absurd (omega arith)
