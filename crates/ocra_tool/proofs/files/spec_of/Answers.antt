use Rattle.oss_syntax.specs.Trees.{component_trees}
use Rattle.ocra_tool.proofs.Reading.{spec_of, first_fault}
use Rattle.ocra_tool.proofs.files.spec_of.Goals as goal

pub returns-clause-spec : goal.returns-clause-spec
returns-clause-spec c = spec_of c.args.bytes.now (component_trees c.args.tree.now) c.resolve.result c.resolve.ensures.spec

pub returns-clause-fault : goal.returns-clause-fault
returns-clause-fault c = λ width.
    first_fault width c.args.bytes.now (component_trees c.args.tree.now) c.resolve.result c.requires.sole c.resolve.ensures.refused
