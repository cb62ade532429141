use Rattle.typed_ltl.specs.Traces.{word}
use Rattle.replay.proofs.Judged.{judged_more, judgement_is}
use Rattle.replay.proofs.judging.put_judgements.Goals as goal

pub loop-place-preserved : goal.loop-place-preserved
loop-place-preserved c =
    judged_more c.args.spec.now c.args.named.now c.args.sub c.in_ok-number.field-0 c.loop-place.place c.args.judgements.now c.loop-place.judgements
    c.push.new.self c.in_ok-judgement.judgement c.in_ok-number.ensures
    (judgement_is c.args.spec.now c.args.named.now c.args.sub c.in_ok-number.field-0 c.loop-place.place c.contracts_at-contracts.result.now
    c.index-contracts-place.result (word c.args.seen.now.states c.args.seen.now.loop_at) c.in_ok-judgement.judgement c.contracts_at-contracts.ensures
    c.loop-place-test.true c.index-contracts-place.is c.in_ok-number.ensures c.requires.seen c.in_ok-judgement.ensures.component
    c.in_ok-judgement.ensures.sub c.in_ok-judgement.ensures.contract c.in_ok-judgement.ensures.truths)
    c.in_ok-push.ensures.ok c.loop-place.invariant
