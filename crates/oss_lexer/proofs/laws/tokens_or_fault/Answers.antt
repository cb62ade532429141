use Rattle.oss_lexer.proofs.Cuts.{tokens_or_fault}
use Rattle.oss_lexer.proofs.laws.tokens_or_fault.Goals as goal

pub returns : goal.returns
returns c = tokens_or_fault
