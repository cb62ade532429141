use Rattle.std.proofs.Common.{[], refl}
use Rattle.replay.proofs.Judged.{default_at}
use Rattle.replay.proofs.judging.row_at.Goals as goal

pub returns-in-None : goal.returns-in-None
returns-in-None c = default_at c.args.rows.now c.args.rows.now c.args.place [] refl c.in-None.ensures
