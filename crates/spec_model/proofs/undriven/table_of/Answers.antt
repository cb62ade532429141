use Rattle.std.proofs.Common.{◌≡◌, ap, ◌∙◌, sym, rules}
use Rattle.std.proofs.lemmas.List.{take_all}
use Rattle.std.specs.List.{list_any}
use Rattle.spec_model.specs.Architecture.{same_target}
use Rattle.spec_model.proofs.FreeRows.{table_more}
use Rattle.spec_model.proofs.undriven.table_of.Goals as goal

pub loop-target-preserved : goal.loop-target-preserved
loop-target-preserved c =
    table_more c.loop-target.table c.add.new.self c.args.targets.now c.loop-target.target-index _ c.loop-target-test.true (search rules)
    c.in_ok-add.ensures c.loop-target.invariant

pub returns : goal.returns
returns c t = c.loop-target.invariant t ∙ ap (list_any (same_target t)) (take_all c.loop-target.target-index c.args.targets.now c.loop-target-test.false)
