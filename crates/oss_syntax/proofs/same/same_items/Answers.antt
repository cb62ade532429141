use Rattle.std.proofs.Common.{IsTrue}
use Rattle.oss_syntax.specs.Spanless.{bare_item}
use Rattle.oss_syntax.specs.Trees.{item_tree}
use Rattle.oss_syntax.proofs.Lists.{along_both}
use Rattle.oss_syntax.proofs.same.same_items.Goals as goal

pub returns : goal.returns
returns c =
    along_both bare_item item_tree c.args.left.now c.args.right.now c.as_slice.result.now c.as_slice-2.result.now (IsTrue c.same_all.result)
    c.as_slice.ensures c.as_slice-2.ensures c.same_all.ensures
