use Rattle.std.proofs.Common.{codes, decimal}
use Rattle.spec_sample.specs.SampleTexts.{stage_interface, chain_refinement, system_word, chain_component}
use Rattle.spec_sample.proofs.Chains.{joined}
use Rattle.spec_sample.proofs.chain.append_chain_component.Goals as goal

pub returns : goal.returns
unfolding chain_component
returns c =
    let numbered = joined c.args.text.now c.append.new.self c.append_number.new.text (codes "COMPONENT L") (decimal c.args.i)
    c.in_ok-append.ensures.ok c.in_ok-append_number.ensures in
    let marked = joined c.args.text.now _ c.append_system_word.new.text _ (system_word c.args.i) numbered
    c.in_ok-append_system_word.ensures in
    let ended = joined c.args.text.now _ c.append-2.new.self _ (codes "\n") marked c.in_ok-append-2.ensures.ok in
    let faced = joined c.args.text.now _ c.append_interface.new.text _ stage_interface ended c.in_ok-append_interface.ensures in
    let refined = joined c.args.text.now _ c.append_refinement.new.text _ (chain_refinement c.args.n c.args.i) faced
    c.in_ok-append_refinement.ensures in
    joined c.args.text.now _ c.append-3.new.self _ (codes "\n") refined c.in_ok-append-3.ensures.ok
