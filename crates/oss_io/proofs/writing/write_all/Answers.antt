use Rattle.std.proofs.Common.{rules}
use Rattle.oss_io.proofs.Fronts.{Appends-front}
use Rattle.oss_io.proofs.writing.write_all.Goals as goal

pub loop-at-preserved : goal.loop-at-preserved
loop-at-preserved g c = record {
  within = search rules;
  taken = Appends-front _ _ _ _ _ _ c.loop-at.invariant.taken c.in_ok-count.ensures.bytes;
  later = search rules;
}
