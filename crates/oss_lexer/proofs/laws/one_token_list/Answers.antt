use Rattle.oss_lexer.proofs.Cuts.{one_token_list}
use Rattle.oss_lexer.proofs.laws.one_token_list.Goals as goal

pub returns : goal.returns
returns c = one_token_list
