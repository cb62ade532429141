use Rattle.std.proofs.Common.{◌≡◌, [], take}
use Rattle.std.specs.List.{flat_map}
use Rattle.levels.specs.LevelFaults.{level_faults}
use Rattle.levels.specs.Levels.{AreLevels}
use Rattle.levels.specs.Steps.{IsScope}
use Rattle.levels.proofs.deciding.add_levels.Given as goal

abbrev pub invariant-loop-item : goal.invariant-loop-item
invariant-loop-item l = record {
  scope : IsScope l.spec l.scope;
  levels : AreLevels l.spec (take l.item-index l.items) l.list;
  clear : flat_map (level_faults l.width l.spec) (take l.item-index l.items) ≡ [];
}
