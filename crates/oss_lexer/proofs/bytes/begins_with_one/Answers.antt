use Rattle.oss_lexer.proofs.Symbols.{too_few}
use Rattle.oss_lexer.proofs.bytes.begins_with_one.Goals as goal

pub returns-in-empty : goal.returns-in-empty
returns-in-empty c = too_few 1 c.args.bytes.now c.in-empty.len_below
