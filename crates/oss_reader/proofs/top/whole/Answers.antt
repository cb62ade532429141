use Rattle.oss_reader.proofs.Spans.{tokens_readable}
use Rattle.oss_reader.proofs.top.whole.Goals as goal

pub invariant_of-result : goal.invariant_of-result
invariant_of-result c = record { readable = tokens_readable c.args.bytes.now c.args.tokens.now c.requires }
