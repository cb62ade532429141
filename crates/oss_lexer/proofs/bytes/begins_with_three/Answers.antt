use Rattle.oss_lexer.proofs.Symbols.{too_few}
use Rattle.oss_lexer.proofs.bytes.begins_with_three.Goals as goal

pub returns-in_default : goal.returns-in_default
returns-in_default c = too_few 3 c.args.bytes.now c.in_default.len_below
