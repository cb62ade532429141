use Rattle.oss_lexer.proofs.Cuts.{tokens_without_fault}
use Rattle.oss_lexer.proofs.laws.tokens_without_fault.Goals as goal

pub returns : goal.returns
returns c = tokens_without_fault
