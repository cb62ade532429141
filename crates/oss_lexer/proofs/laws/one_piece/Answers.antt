use Rattle.oss_lexer.proofs.Fronts.{one_piece}
use Rattle.oss_lexer.proofs.laws.one_piece.Goals as goal

pub returns : goal.returns
returns c = one_piece
