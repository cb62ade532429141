use Rattle.std.proofs.Common.{◌≡◌, map, take}
use Rattle.sat_core.specs.Numbering.{log_pivot}
use Rattle.sat_core.proofs.log.pivots.Given as goal

abbrev pub invariant-loop-resolution : goal.invariant-loop-resolution
invariant-loop-resolution l = l.pivots ≡ map (log_pivot l.added l.numbers) (take l.resolution-index l.resolutions)
