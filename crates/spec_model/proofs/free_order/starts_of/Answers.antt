use Rattle.std.proofs.Common.{arith, rules, subst, sym}
use Rattle.spec_model.proofs.FreePlaces.{Starts, starts_begin, starts_more, starts_all, starts_total}
use Rattle.spec_model.proofs.free_order.starts_of.Goals as goal

pub loop-count-init : goal.loop-count-init
loop-count-init c =
    subst (λ starts. Starts c.args.own c.args.counts.now starts c.args.own 0) (sym c.new-starts.ensures.items) (starts_begin c.args.own c.args.counts.now
    (omega arith))

pub loop-count-preserved : goal.loop-count-preserved
loop-count-preserved c =
    starts_more c.args.own c.args.counts.now c.loop-count.starts.items c.put_start.new.starts.items c.loop-count.next _ c.loop-count.count-index _
    c.loop-count-test.true (search rules) c.in_ok-next.ensures.starts c.in_ok-next.ensures.next c.in_ok-next.ensures.fits c.loop-count.invariant

pub returns-clause-starts : goal.returns-clause-starts
returns-clause-starts c = starts_all c.args.own c.args.counts.now c.loop-count.starts.items c.loop-count.next c.loop-count.count-index
    c.loop-count-test.false c.loop-count.invariant

pub returns-clause-room : goal.returns-clause-room
returns-clause-room c =
    let total = starts_total c.args.own c.args.counts.now c.loop-count.starts.items c.loop-count.next c.loop-count.count-index c.loop-count-test.false
    c.loop-count.invariant in
    let fits = c.loop-count.invariant.fits in
    omega (arith, total, fits)
