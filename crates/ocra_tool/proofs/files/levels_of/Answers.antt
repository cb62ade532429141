use Rattle.oss_syntax.specs.Trees.{component_trees}
use Rattle.ocra_tool.proofs.Reading.{level_spec, level_fault}
use Rattle.ocra_tool.proofs.files.levels_of.Goals as goal

pub returns-clause-sole : goal.returns-clause-sole
returns-clause-sole c =
    level_spec c.stands_is_unique.ensures c.args.width c.args.bytes.now (component_trees c.args.tree.now) c.args.spec.now c.levels.result
    c.requires.sole c.requires.of c.levels.ensures.clear

pub returns-clause-fault : goal.returns-clause-fault
returns-clause-fault c =
    level_fault c.args.width c.args.bytes.now (component_trees c.args.tree.now) c.args.spec.now c.levels.result
    c.requires.sole c.requires.of c.levels.ensures.fault
