use Rattle.oss_syntax.specs.Trees.{component_trees}
use Rattle.ocra_tool.proofs.Printed.{print_of}
use Rattle.ocra_tool.proofs.printing.printed.Goals as goal

pub returns : goal.returns
returns c =
    print_of c.args.bytes.now c.args.source.now.spec (component_trees c.args.source.now.tree) c.print.result c.requires.tree c.requires.sole
    c.print.ensures
