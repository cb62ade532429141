use Rattle.oss_reader.specs.Ahead.{ahead}
use Rattle.oss_reader.proofs.Results.{refusal_reads}
use Rattle.oss_reader.proofs.top.read_rest.Goals as goal

pub returns-in-Err-clause-text : goal.returns-in-Err-clause-text
returns-in-Err-clause-text c = refusal_reads (ahead c.args.whole) c.in-Err.halt c.refusal.result c.refusal.ensures.cause c.in-Err.ensures
