use Rattle.ocra_tool.specs.Words.{default_width}
use Rattle.ocra_tool.proofs.Replayed.{replay_of}
use Rattle.ocra_tool.proofs.replaying.judged_text.Goals as goal

pub judge-requires : goal.judge-requires
judge-requires c =
    c.replays_are_moderate.ensures default_width c.args.bytes.now c.args.second.now c.args.spec.now c.args.named.now c.requires.sole.is c.requires.lasso

pub returns : goal.returns
returns c =
    replay_of c.args.bytes.now c.args.second.now c.args.spec.now c.args.named.now c.in_ok-judgements.judgements c.render_judgements.result
    c.replays_have_one_text.ensures (record { sole = c.requires.sole; lasso = c.requires.lasso; judged = c.in_ok-judgements.ensures })
    c.render_judgements.ensures
