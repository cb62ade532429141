use Rattle.counter_cert.specs.StepClauses.{progress_clauses}
use Rattle.counter_cert.proofs.Added.{each_goes_on}
use Rattle.counter_cert.proofs.counting.put_all_progress.Goals as goal

pub loop-b-preserved : goal.loop-b-preserved
loop-b-preserved c = each_goes_on (progress_clauses c.args.firsts.conditions c.args.firsts.over c.args.firsts.met c.args.firsts.over_next) c.loop-b.b _ _ _ c.loop-b.invariant c.in_ok-put_progress.ensures
