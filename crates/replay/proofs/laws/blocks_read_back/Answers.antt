use Rattle.replay.proofs.Printing.{blocks_read_back}
use Rattle.replay.proofs.laws.blocks_read_back.Goals as goal

pub returns : goal.returns
returns c = blocks_read_back
