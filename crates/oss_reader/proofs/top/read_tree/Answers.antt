use Rattle.oss_syntax.specs.Terminals.{terminals_of}
use Rattle.oss_reader.specs.Ahead.{ahead}
use Rattle.oss_reader.proofs.Results.{read_text, read_only, read_none}
use Rattle.oss_reader.proofs.top.read_tree.Goals as goal

pub whole-requires : goal.whole-requires
whole-requires c = rw c.as_slice.ensures (c.tokens_stand.ensures c.args.bytes.now c.args.tokens.now c.requires.tokens).0

pub returns-clause-text : goal.returns-clause-text
returns-clause-text c =
    read_text (ahead c.whole.result) (terminals_of c.args.bytes.now c.args.tokens.now) c.read_rest.result
    (let a = c.whole.ensures.terminals in let d = c.as_slice.ensures in cc) c.read_rest.ensures.text

pub returns-clause-only : goal.returns-clause-only
returns-clause-only c =
    read_only (ahead c.whole.result) (terminals_of c.args.bytes.now c.args.tokens.now) c.read_rest.result
    (let a = c.whole.ensures.terminals in let d = c.as_slice.ensures in cc) c.read_rest.ensures.text

pub returns-clause-none : goal.returns-clause-none
returns-clause-none c =
    read_none (ahead c.whole.result) (terminals_of c.args.bytes.now c.args.tokens.now) c.read_rest.result
    (let a = c.whole.ensures.terminals in let d = c.as_slice.ensures in cc) c.read_rest.ensures.text
