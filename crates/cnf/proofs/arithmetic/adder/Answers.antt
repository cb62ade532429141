use Rattle.std.proofs.Common.{◌≡◌, ◌+◌, ◌*◌, ◌<◌, ◌≤◌, ◌∙◌, ap, arith, length}
use Rattle.cnf.proofs.ModelLaws.{IsConservative_trans}
use Rattle.cnf.proofs.GateSteps.{All_later, no_lit, lit_below, known_bits, first_of, place_of, sum_begins, sum_goes_on, sum_bits_begin, sum_bits_go_on}
use Rattle.cnf.proofs.GateSteps.{sum_ends, sum_bits_end, sum_means, length-sum_bits}
use Rattle.cnf.proofs.arithmetic.adder.Goals as goal

pub returns-in_err-carry-clause-grows : goal.returns-in_err-carry-clause-grows
returns-in_err-carry-clause-grows g c = IsConservative_trans _ _ _ _ _ _ c.gate_xor.ensures.grows c.gate_and.ensures.grows

pub returns-in_err-push-clause-grows : goal.returns-in_err-push-clause-grows
returns-in_err-push-clause-grows g c = IsConservative_trans _ _ _ _ _ _ c.gate_xor.ensures.grows c.gate_and.ensures.grows

pub loop-i-init : goal.loop-i-init
loop-i-init g c =
    let some : 0 < length c.args.b.now = omega (arith, c.requires.same, c.requires.some) in
    record {
      vars = omega (arith, c.in_ok-differ.ensures.vars, c.in_ok-carry.ensures.vars);
      differ = lit_below _ _ c.in_ok-differ.differ c.in_ok-differ.ensures.answer (omega (arith, c.in_ok-differ.ensures.vars, c.in_ok-carry.ensures.vars));
      carry = lit_below _ _ c.in_ok-carry.carry c.in_ok-carry.ensures.answer (omega (arith, c.in_ok-carry.ensures.vars));
      clauses = sum_begins _ _ _ _ _ (g.B.ClauseBase.clauses c.gate_xor.new.base) c.args.a.now c.args.b.now _ _ c.in_ok-differ.differ c.in_ok-carry.carry _ _
          (record { first = first_of c.args.a.now no_lit c.requires.some; second = first_of c.args.b.now no_lit some })
          (record { vars = c.in_ok-differ.ensures.vars; is_next = c.in_ok-differ.ensures.answer; clauses = c.in_ok-differ.ensures.clauses })
          (record { vars = c.in_ok-carry.ensures.vars; is_next = c.in_ok-carry.ensures.answer; clauses = c.in_ok-carry.ensures.clauses });
      bits = sum_bits_begin _ _ c.new-sum.result _ c.args.a.now _ _ c.in_ok-differ.differ (first_of c.args.a.now no_lit c.requires.some)
          (omega (arith, c.in_ok-differ.ensures.vars, c.in_ok-carry.ensures.vars)) c.in_ok-differ.ensures.answer c.new-sum.ensures c.in_ok-push.ensures.ok;
      grows = IsConservative_trans _ _ _ _ _ _ c.gate_xor.ensures.grows c.gate_and.ensures.grows;
    }

pub full_adder-requires-clause-first : goal.full_adder-requires-clause-first
full_adder-requires-clause-first g c = All_later _ _ c.args.a.now c.loop-i.invariant.grows.vars c.requires.left c.loop-i.i no_lit c.loop-i-test.true

pub full_adder-requires-clause-second : goal.full_adder-requires-clause-second
full_adder-requires-clause-second g c =
    All_later _ _ c.args.b.now c.loop-i.invariant.grows.vars c.requires.right c.loop-i.i no_lit (omega (arith, c.loop-i-test.true, c.requires.same))

pub full_adder-requires-clause-third : goal.full_adder-requires-clause-third
full_adder-requires-clause-third g c = c.loop-i.invariant.carry

pub returns-in_err-place-clause-grows : goal.returns-in_err-place-clause-grows
returns-in_err-place-clause-grows g c = IsConservative_trans _ _ _ _ _ _ c.loop-i.invariant.grows c.full_adder.ensures.grows

pub returns-in_err-push-2-clause-grows : goal.returns-in_err-push-2-clause-grows
returns-in_err-push-2-clause-grows g c = IsConservative_trans _ _ _ _ _ _ c.loop-i.invariant.grows c.full_adder.ensures.grows

pub loop-i-preserved : goal.loop-i-preserved
loop-i-preserved g c =
    let within : c.loop-i.i < length c.args.b.now = omega (arith, c.loop-i-test.true, c.requires.same) in
    record {
      vars = omega (arith, c.in_ok-place.ensures.vars, c.loop-i.invariant.vars);
      differ = lit_below _ _ c.in_ok-place.place.either c.in_ok-place.ensures.either (omega (arith, c.in_ok-place.ensures.vars));
      carry = lit_below _ _ c.in_ok-place.place.carry c.in_ok-place.ensures.carry (omega (arith, c.in_ok-place.ensures.vars));
      clauses = sum_goes_on _ _ (g.B.ClauseBase.clauses c.loop-i.base) _ _ _ _ _ _ _ _ c.loop-i.differ c.loop-i.carry c.in_ok-place.place.either
          c.in_ok-place.place.carry
          (record { first = place_of c.args.a.now c.loop-i.i no_lit c.loop-i-test.true; second = place_of c.args.b.now c.loop-i.i no_lit within })
          c.in_ok-place.ensures.vars c.in_ok-place.ensures.either c.in_ok-place.ensures.carry c.in_ok-place.ensures.clauses c.loop-i.invariant.clauses;
      bits = sum_bits_go_on _ _ c.loop-i.sum _ _ _ _ _ c.in_ok-place.place.sum (place_of c.args.a.now c.loop-i.i no_lit c.loop-i-test.true)
          c.in_ok-place.ensures.vars c.in_ok-place.ensures.sum c.in_ok-push-2.ensures.ok c.loop-i.invariant.bits;
      grows = IsConservative_trans _ _ _ _ _ _ c.loop-i.invariant.grows c.full_adder.ensures.grows;
    }

pub gate_xor-requires-2-clause-left : goal.gate_xor-requires-2-clause-left
gate_xor-requires-2-clause-left g c = c.loop-i.invariant.differ

pub gate_xor-requires-2-clause-right : goal.gate_xor-requires-2-clause-right
gate_xor-requires-2-clause-right g c = c.loop-i.invariant.carry

pub returns-in_err-sign-clause-grows : goal.returns-in_err-sign-clause-grows
returns-in_err-sign-clause-grows g c = IsConservative_trans _ _ _ _ _ _ c.loop-i.invariant.grows c.gate_xor-2.ensures.grows

pub returns-in_err-push-3-clause-grows : goal.returns-in_err-push-3-clause-grows
returns-in_err-push-3-clause-grows g c = IsConservative_trans _ _ _ _ _ _ c.loop-i.invariant.grows c.gate_xor-2.ensures.grows

pub returns-clause-grows : goal.returns-clause-grows
returns-clause-grows g c = IsConservative_trans _ _ _ _ _ _ c.loop-i.invariant.grows c.gate_xor-2.ensures.grows

pub returns-clause-clauses : goal.returns-clause-clauses
returns-clause-clauses g c =
    let past : length c.args.b.now ≤ c.loop-i.i = omega (arith, c.loop-i-test.false, c.requires.same) in
    sum_ends _ _ _ _ _ c.loop-i.differ c.loop-i.carry c.args.a.now c.args.b.now c.loop-i-test.false past c.in_ok-sign.ensures.clauses c.loop-i.invariant.clauses

pub returns-clause-answer : goal.returns-clause-answer
returns-clause-answer g c =
    sum_bits_end _ _ c.loop-i.sum _ _ c.args.a.now c.in_ok-sign.sign c.loop-i-test.false c.in_ok-sign.ensures.answer c.in_ok-push-3.ensures.ok
    c.loop-i.invariant.bits

pub returns-clause-vars : goal.returns-clause-vars
returns-clause-vars g c =
    let whole : c.loop-i.i ≡ length c.args.a.now = omega (arith, c.loop-i-test.false, c.requires.some) in
    c.in_ok-sign.ensures.vars ∙ c.loop-i.invariant.vars ∙ ap (λ k. g.B.ClauseBase.vars c.args.base.now + 3 * k) whole

pub returns-clause-value : goal.returns-clause-value
returns-clause-value g c =
    sum_means _ _ _ _ c.args.a.now c.args.b.now _
    (record { same = c.requires.same; some = c.requires.some; left = c.requires.left; right = c.requires.right })
    (returns-clause-vars g c) (returns-clause-answer g c) (returns-clause-clauses g c)

pub returns-clause-known : goal.returns-clause-known
returns-clause-known g c = known_bits _ _ c.args.a.now _ (returns-clause-answer g c) (returns-clause-vars g c)

pub returns-clause-len : goal.returns-clause-len
returns-clause-len g c = ap length (returns-clause-answer g c) ∙ length-sum_bits _ c.args.a.now c.requires.some
