use Rattle.std.proofs.Common.{◌+◌, arith}
use Rattle.std.proofs.lemmas.Bool.{false≢true}
use Rattle.std.proofs.lemmas.Str.Parse.{digits_value-take-le}
use Rattle.oss_lexer.proofs.Digits.{digit_range, value_more}
use Rattle.oss_lexer.proofs.front.is_small.Goals as goal

pub returns-then-value-gt-LARGEST_NUMERAL : goal.returns-then-value-gt-LARGEST_NUMERAL
returns-then-value-gt-LARGEST_NUMERAL c =
    let digits = c.args.digits.now in
    let i = c.loop-digit.digit-index in
    let range = digit_range digits c.requires i c.loop-digit-test.true in (
      (λ h. absurd (false≢true h)),
      λ h. absurd (omega (arith, range.0, value_more digits c.requires i c.loop-digit-test.true, digits_value-take-le 10 digits (i + 1) (omega arith))),
    )

pub loop-digit-preserved : goal.loop-digit-preserved
loop-digit-preserved c =
    let digits = c.args.digits.now in
    let i = c.loop-digit.digit-index in
    let range = digit_range digits c.requires i c.loop-digit-test.true in
    record { value = omega (arith, range.0, value_more digits c.requires i c.loop-digit-test.true); small = omega arith }
