use Rattle.spec_sample.specs.SampleTexts.{chain_component}
use Rattle.spec_sample.proofs.Chains.{chain_more}
use Rattle.spec_sample.proofs.sampling.append_chain.Goals as goal

pub loop-place-preserved : goal.loop-place-preserved
loop-place-preserved c =
    chain_more (chain_component c.args.n) c.args.text.now c.loop-place.text c.append_chain_component.new.text c.loop-place.place
    c.loop-place.invariant
    c.in_ok-append_chain_component.ensures
