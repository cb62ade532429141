use Rattle.std.proofs.Common.{◌≡◌, List, [], Some, slice_get, subst}
use Rattle.std.specs.List.{flat_map}
use Rattle.std.specs.Prelude.{IfOk, OnOk}
use Rattle.oss_base.specs.Faults.{IfFault}
use Rattle.oss_base.specs.declared.fault.Fault.{Fault}
use Rattle.spec_model.specs.declared.item.Item.{Item}
use Rattle.levels.specs.LevelFaults.{level_faults}
use Rattle.levels.specs.Levels.{AreLevels}
use Rattle.levels.proofs.Faults.{none_first}
use Rattle.levels.proofs.deciding.levels.Goals as goal

pub returns-clause-levels : goal.returns-clause-levels
returns-clause-levels c =
    subst (λ (items : List Item). IfOk c.levels_of.result (AreLevels c.args.spec.now items)) c.as_slice.ensures c.levels_of.ensures.levels

pub returns-clause-clear : goal.returns-clause-clear
returns-clause-clear c =
    none_first c.levels_of.result (flat_map (level_faults c.args.width c.args.spec.now) c.args.spec.now.items)
    (subst (λ (items : List Item). OnOk c.levels_of.result (flat_map (level_faults c.args.width c.args.spec.now) items ≡ [])) c.as_slice.ensures
    c.levels_of.ensures.clear)

pub returns-clause-fault : goal.returns-clause-fault
returns-clause-fault c =
    subst (λ (items : List Item). IfFault c.levels_of.result (λ (f : Fault). slice_get (flat_map (level_faults c.args.width c.args.spec.now) items) 0 ≡ Some f))
    c.as_slice.ensures c.levels_of.ensures.fault
