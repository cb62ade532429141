use Rattle.std.proofs.Common.{◌≡◌, ◌∙◌, ◌-◌, ◌%◌, ap, refl, arith, rules, SFits, w64, vec_len, nat_eq}
use Rattle.std.proofs.lemmas.Int.{to_z-of_z}
use Rattle.cnf.specs.Arithmetic.{signed_number}
use Rattle.cnf.specs.Bounds.{constant_bits}
use Rattle.cnf.proofs.BoundLaws.{digits_go_on, digits_end, constant_number}
use Rattle.cnf.proofs.bounds.constant_bits.Goals as goal

pub loop-digit-preserved : goal.loop-digit-preserved
loop-digit-preserved c = record {
  within = omega (arith, c.in_ok-push.ensures.len, c.loop-digit-test.true, c.len.ensures);
  bits = digits_go_on c.sign_and_magnitude-negative.result.0
      (nat_eq (c.loop-digit.rest % 2) 1) c.signed_digit.result _ _ c.loop-digit.rest _ c.loop-digit.bits.items _ _
      refl c.signed_digit.ensures refl (omega (arith, c.in_ok-push.ensures.len, c.loop-digit-test.true, c.len.ensures)) c.in_ok-push.ensures.items
      c.loop-digit.invariant.bits;
}

pub returns-clause-bits : goal.returns-clause-bits
returns-clause-bits c =
    let fits : SFits w64 c.args.number = search rules in
    digits_end _ (c.args.places - vec_len c.loop-digit.bits) c.loop-digit.rest _ _
    (omega (arith, c.loop-digit-test.false, c.len.ensures)) c.loop-digit.invariant.bits
    ∙ ap (constant_bits c.args.places) (to_z-of_z w64 c.args.number fits)

pub returns-clause-value : goal.returns-clause-value
returns-clause-value c = λ has. ap signed_number (returns-clause-bits c) ∙ constant_number c.args.places c.args.number has
