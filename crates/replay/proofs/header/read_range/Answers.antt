use Rattle.std.proofs.Common.{◌≡◌, ◌<◌, ◌≤◌, arith, rules}
use Rattle.std.proofs.lemmas.Bool.{false≢true}
use Rattle.replay.proofs.Numerals.{printed_once}
use Rattle.replay.proofs.header.read_range.Goals as goal

pub returns-else-is_in_range-clause-none : goal.returns-else-is_in_range-clause-none
returns-else-is_in_range-clause-none c = λ n l e f most range.
    let m : n ≤ 256 = most in
    let states : c.in-Some-Some.states ≡ n =
    printed_once c.args.states.now c.in-Some-Some.states n (search rules) (omega arith) c.in-Some-Some.ensures.some e in
    let loop : c.in-Some-Some.loop_at ≡ l =
    printed_once c.args.loop_at.now c.in-Some-Some.loop_at l (search rules) (omega arith) c.in-Some-Some.ensures'.some f in
    let fits : (c.in-Some-Some.states ≤ 256) × (c.in-Some-Some.loop_at < c.in-Some-Some.states) = (omega arith, omega arith) in
    absurd (false≢true (c.if-is_in_range.ensures.1 fits))
