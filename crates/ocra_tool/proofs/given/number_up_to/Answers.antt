use Rattle.std.proofs.Common.{arith, refl}
use Rattle.std.proofs.lemmas.Bool.{false≢true}
use Rattle.ocra_tool.proofs.Numbers.{number_is, parsed_no_number, parsed_another}
use Rattle.ocra_tool.proofs.given.number_up_to.Goals as goal
use Rattle.ocra_tool.proofs.given.number_up_to.Goals.{else-number-ge1-via-then-number-ge1+then-number-most+else-is_numeral}
use Rattle.ocra_tool.proofs.given.number_up_to.Goals.{else-number-ge1-via-then-number-ge1+else-number-most, else-number-ge1-via-else-number-ge1}

pub returns-then-is_numeral : goal.returns-then-is_numeral
returns-then-is_numeral c =
    number_is c.args.most c.in-Ok.number c.args.word.now (omega arith) c.if-number-ge1.true c.if-number-most.true (c.if-is_numeral.ensures.0 refl)

pub returns-else-number-ge1 : goal.returns-else-number-ge1
returns-else-number-ge1 c =
    parsed_another c.args.most c.in-Ok.number c.args.word.now c.parse.result (omega arith) c.in-Ok.is c.parse.ensures.value.0
    (λ low high e. elim c.else-number-ge1.branch [
      | else-number-ge1-via-then-number-ge1+then-number-most+else-is_numeral w ↦ false≢true (w.if-is_numeral.ensures.1 e)
      | else-number-ge1-via-then-number-ge1+else-number-most w ↦ omega (arith, w.if-number-most.false)
      | else-number-ge1-via-else-number-ge1 w ↦ omega (arith, w.if-number-ge1.false)
    ])

pub returns-in-Err : goal.returns-in-Err
returns-in-Err c = parsed_no_number c.args.most c.args.word.now c.parse.result c.in-Err.field-0 (omega arith) c.in-Err.is c.parse.ensures.value.0
