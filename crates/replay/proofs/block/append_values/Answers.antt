use Rattle.std.proofs.Common.{◌++◌, ◌∙◌, ap, arith}
use Rattle.std.specs.List.{flat_map}
use Rattle.replay.specs.LassoBlocks.{port_value_text}
use Rattle.replay.proofs.Zips.{zip_more, zip_whole}
use Rattle.replay.proofs.block.append_values.Goals as goal

pub loop-i-preserved : goal.loop-i-preserved
loop-i-preserved c =
    c.in_ok-append_port_value.ensures
    ∙ zip_more port_value_text c.args.text.now c.loop-i.text c.args.ports.now c.args.values.now c.loop-i.i c.index-ports-i.result
    c.index-values-i.result (omega arith) (omega arith)
    c.index-ports-i.is c.index-values-i.is c.loop-i.invariant

pub returns : goal.returns
returns c =
    c.loop-i.invariant
    ∙ ap (λ u. c.args.text.now ++ flat_map port_value_text u) (zip_whole c.args.ports.now c.args.values.now c.loop-i.i (omega arith))
