use Rattle.oss_lexer.proofs.Cuts.{one_first_fault}
use Rattle.oss_lexer.proofs.laws.one_first_fault.Goals as goal

pub returns : goal.returns
returns c = one_first_fault
