use Rattle.std.proofs.Common.{◌+◌, arith}
use Rattle.std.proofs.lemmas.Str.Parse.{digits_value-take-le}
use Rattle.oss_reader.proofs.Digits.{digit_range, value_more}
use Rattle.oss_reader.proofs.terminals.number.Goals as goal

pub overflow_mul-value : goal.overflow_mul-value
overflow_mul-value c =
    let digits = c.args.digits.now in
    let i = c.loop-digit.digit-index in
    let same = c.loop-digit.invariant in
    let limit = c.requires.limit in
    omega (arith, digits_value-take-le 10 digits i (omega arith))

pub overflow_add-value : goal.overflow_add-value
overflow_add-value c =
    let digits = c.args.digits.now in
    let i = c.loop-digit.digit-index in
    let same = c.loop-digit.invariant in
    let limit = c.requires.limit in
    let range = digit_range digits c.requires.digits i c.loop-digit-test.true in
    omega (arith, range.0, value_more digits c.requires.digits i c.loop-digit-test.true, digits_value-take-le 10 digits (i + 1) (omega arith))

pub loop-digit-preserved : goal.loop-digit-preserved
loop-digit-preserved c =
    let digits = c.args.digits.now in
    let i = c.loop-digit.digit-index in
    let same = c.loop-digit.invariant in
    let range = digit_range digits c.requires.digits i c.loop-digit-test.true in
    omega (arith, range.0, value_more digits c.requires.digits i c.loop-digit-test.true)
