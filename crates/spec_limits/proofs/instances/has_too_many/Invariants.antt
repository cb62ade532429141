use Rattle.std.proofs.Common.{◌-◌}
use Rattle.oss_base.specs.Limits.{most_instances}
use Rattle.spec_limits.proofs.LimitLemmas.{Counted}
use Rattle.spec_limits.proofs.instances.has_too_many.Given as goal

abbrev pub decreases-count : goal.decreases-count
decreases-count l = most_instances - l.counted

abbrev pub invariant-count : goal.invariant-count
invariant-count l = Counted l.refinements l.root l.counted l.waiting.items
