use Rattle.replay.proofs.Exclusion.{lassos_dont_break}
use Rattle.replay.proofs.laws.lassos_dont_break.Goals as goal

pub returns : goal.returns
returns c = lassos_dont_break
