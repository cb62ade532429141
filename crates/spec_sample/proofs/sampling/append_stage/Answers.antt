use Rattle.std.proofs.Common.{codes}
use Rattle.spec_sample.specs.SampleTexts.{stage_interface}
use Rattle.spec_sample.proofs.Chains.{joined}
use Rattle.spec_sample.proofs.sampling.append_stage.Goals as goal

pub returns : goal.returns
returns c =
    joined c.args.text.now c.append.new.self c.append_interface.new.text (codes "COMPONENT Stage\n") stage_interface
    c.in_ok-append.ensures.ok
    c.in_ok-append_interface.ensures
