use Rattle.ocra_tool.proofs.Reading.{sole_tree, syntax_fault}
use Rattle.ocra_tool.proofs.files.tree_of.Goals as goal

pub returns-clause-tree : goal.returns-clause-tree
returns-clause-tree c =
    sole_tree c.one_token_list.ensures c.args.bytes.now c.in_ok-tokens.tokens c.read_tree.result c.requires
    c.in_ok-tokens.ensures.tokens c.read_tree.ensures.text c.read_tree.ensures.only

pub returns-clause-fault : goal.returns-clause-fault
returns-clause-fault c = λ width.
    syntax_fault width c.args.bytes.now c.in_ok-tokens.tokens c.read_tree.result c.requires
    c.in_ok-tokens.ensures.tokens c.read_tree.ensures.none c.read_tree.ensures.kind
