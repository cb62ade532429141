use Rattle.counter_cert.specs.StepClauses.{falling_clauses}
use Rattle.counter_cert.proofs.Added.{each_goes_on}
use Rattle.counter_cert.proofs.counting.put_falling.Goals as goal

pub loop-b-preserved : goal.loop-b-preserved
loop-b-preserved c = each_goes_on (falling_clauses c.args.over) c.loop-b.b _ _ _ c.loop-b.invariant c.in_ok-put_fall.ensures
