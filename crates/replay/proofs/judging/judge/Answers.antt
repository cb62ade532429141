use Rattle.std.proofs.Common.{[], ◌∙◌}
use Rattle.replay.proofs.Judged.{sub_row, judged_next, judged_all}
use Rattle.replay.proofs.judging.judge.Goals as goal

pub put_row-requires-in-loop-place-clause-row : goal.put_row-requires-in-loop-place-clause-row
put_row-requires-in-loop-place-clause-row c =
    sub_row c.args.spec.now c.args.named.now.component c.as_slice-rows.result.now c.row_at-in-loop-place.result.now c.subs_of-place-end.result.now
    c.in_ok-number.field-0 c.loop-place.place (c.as_slice-rows.ensures ∙ c.in_ok-drivers.ensures.rows) c.subs_of-place-end.ensures c.loop-place-test.true
    c.in_ok-number.ensures c.row_at-in-loop-place.ensures

pub loop-place-preserved : goal.loop-place-preserved
loop-place-preserved c =
    judged_next c.args.spec.now c.args.named.now c.in_ok-number.field-0 c.loop-place.place [] c.loop-place.judgements
    c.put_row-in-loop-place.new.judgements c.in_ok-number.ensures c.in_ok-put_row-2.ensures c.loop-place.invariant

pub returns : goal.returns
returns c =
    judged_all c.args.spec.now c.args.named.now c.subs_of-place-end.result.now c.loop-place.place c.loop-place.judgements c.subs_of-place-end.ensures
    c.loop-place.auto.place-end c.loop-place-test.false c.loop-place.invariant
