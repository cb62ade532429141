use Rattle.state_coding.proofs.AtomSteps.{match_goes_on, match_ends}
use Rattle.state_coding.proofs.compare.match_lits.Goals as goal

pub loop-i-preserved : goal.loop-i-preserved
loop-i-preserved c =
    match_goes_on c.args.row.now c.loop-i.lits.items _ _ c.args.bits.now c.loop-i.i _ c.match_lit.result _ c.requires c.loop-i-test.true
    c.match_lit.ensures c.in_ok-push.ensures.items c.loop-i.invariant

pub returns : goal.returns
returns c = match_ends c.args.row.now c.loop-i.lits.items _ c.args.bits.now c.loop-i.i c.loop-i-test.false c.loop-i.invariant
