use Rattle.oss_lexer.proofs.Places.{tokens_stand}
use Rattle.oss_lexer.proofs.laws.tokens_stand.Goals as goal

pub returns : goal.returns
returns c = tokens_stand
