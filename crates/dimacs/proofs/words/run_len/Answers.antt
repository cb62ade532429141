use Rattle.std.proofs.Common.{sym, ◌∙◌, arith}
use Rattle.dimacs.specs.DimacsReading.{ends_run}
use Rattle.dimacs.proofs.Cutting.{run_stops, run_ends}
use Rattle.dimacs.proofs.words.run_len.Goals as goal

pub returns-then-ends-clause-place : goal.returns-then-ends-clause-place
returns-then-ends-clause-place c =
    run_stops (ends_run c.args.end) _ _ c.loop-i-test.true c.loop-i.invariant (sym c.ends.ensures ∙ c.if-ends.true)

pub returns-clause-place : goal.returns-clause-place
returns-clause-place c = run_ends (ends_run c.args.end) _ c.loop-i.i (omega arith) c.loop-i.invariant
