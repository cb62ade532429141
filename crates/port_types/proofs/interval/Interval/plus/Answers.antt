use Rattle.std.proofs.Common.{◌≡◌, sym, subst, ap, arith}
use Rattle.std.proofs.lemmas.Int.{ints, to_z-of_z}
use Rattle.port_types.specs.Intervals.{AreSums}
use Rattle.port_types.specs.declared.interval.Interval.{Interval}
use Rattle.port_types.proofs.IntervalLaws.{sums_exact, same_interval}
use Rattle.port_types.proofs.interval.Interval.plus.Goals as goal

pub returns-clause-ends : goal.returns-clause-ends
returns-clause-ends c = same_interval _ _ _ _ (omega (arith, ints)) (omega (arith, ints))

pub returns-clause-exact : goal.returns-clause-exact
returns-clause-exact c = subst (AreSums c.args.self c.args.other) (sym (returns-clause-ends c)) (sums_exact c.args.self c.args.other)
