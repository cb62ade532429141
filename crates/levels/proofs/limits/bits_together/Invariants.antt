use Rattle.std.proofs.Common.{◌≡◌, ◌+◌, min, take}
use Rattle.std.specs.List.{sum_by}
use Rattle.oss_base.specs.Limits.{most_value_bits}
use Rattle.state_coding.specs.Codes.{type_bits}
use Rattle.levels.proofs.limits.bits_together.Given as goal

abbrev pub invariant-loop-kind : goal.invariant-loop-kind
invariant-loop-kind l = l.bits ≡ min (sum_by type_bits (take l.kind-index l.kinds)) (most_value_bits + 1)
