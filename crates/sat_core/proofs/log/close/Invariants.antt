use Rattle.std.proofs.Common.{◌≤◌, length}
use Rattle.sat_core.specs.Numbering.{AllNeeded}
use Rattle.sat_core.proofs.Logs.{NeededFrom}
use Rattle.sat_core.proofs.log.close.Given as goal

abbrev pub invariant-loop-at : goal.invariant-loop-at
invariant-loop-at l = record {
  within : l.at ≤ length l.derivations;
  last : AllNeeded l.needed l.last.first l.last.rest.items;
  each : NeededFrom l.needed l.derivations l.at;
}

abbrev pub decreases-loop-at : goal.decreases-loop-at
decreases-loop-at l = l.at
