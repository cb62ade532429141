use Rattle.std.proofs.Common.{sym, ◌∙◌, arith}
use Rattle.replay.specs.Reading.{is_stop}
use Rattle.replay.proofs.Cutting.{run_stops, run_ends}
use Rattle.replay.proofs.lines.run_len.Goals as goal

pub returns-then-stops-clause-place : goal.returns-then-stops-clause-place
returns-then-stops-clause-place c =
    run_stops (is_stop c.args.stop) _ _ c.loop-i-test.true c.loop-i.invariant (sym c.stops.ensures ∙ c.if-stops.true)

pub returns-clause-place : goal.returns-clause-place
returns-clause-place c = run_ends (is_stop c.args.stop) _ c.loop-i.i (omega arith) c.loop-i.invariant
