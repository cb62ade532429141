use Rattle.std.proofs.Common.{IsTrue}
use Rattle.oss_syntax.specs.Spanless.{bare_component}
use Rattle.oss_syntax.specs.Trees.{component_tree}
use Rattle.oss_syntax.proofs.Lists.{along_both}
use Rattle.oss_syntax.proofs.component.SpecTree.same.Goals as goal

pub returns : goal.returns
returns c =
    along_both bare_component component_tree c.args.self.now c.args.other.now c.as_slice.result.now c.as_slice-2.result.now (IsTrue c.same_all.result)
    c.as_slice.ensures c.as_slice-2.ensures c.same_all.ensures
