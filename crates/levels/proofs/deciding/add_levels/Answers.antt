use Rattle.std.proofs.Common.{◌≡◌, List, [], take, refl, sym, subst}
use Rattle.std.proofs.lemmas.List.{take_all}
use Rattle.std.proofs.lemmas.Result.{err_from_is_err_and}
use Rattle.std.specs.List.{flat_map}
use Rattle.spec_model.specs.declared.item.Item.{Item}
use Rattle.levels.specs.declared.level.Level.{Level}
use Rattle.levels.specs.LevelFaults.{level_faults}
use Rattle.levels.specs.Levels.{AreLevels}
use Rattle.levels.proofs.Faults.{fault_here}
use Rattle.levels.proofs.Lists.{levels_more, none_more}
use Rattle.levels.proofs.deciding.add_levels.Goals as goal

pub loop-item-init : goal.loop-item-init
loop-item-init c = record {
  scope = c.requires.scope;
  levels = subst (λ (list : List Level). AreLevels c.args.spec.now [] list) (sym c.requires.empty) tt;
  clear = refl;
}

pub loop-item-preserved : goal.loop-item-preserved
loop-item-preserved c =
    let items = c.args.items.now in
    let i = c.loop-item.item-index in
    let item = c.item-item.result in
    record {
      scope = c.in_ok-add_level.ensures.scope;
      levels = levels_more c.args.spec.now items c.add_level.new.list i item item c.loop-item-test.true (sym c.item-item.is)
          (c.in_ok-add_level.ensures.levels (take i items) c.loop-item.invariant.levels);
      clear = none_more (level_faults c.args.width c.args.spec.now) items i item item c.loop-item-test.true (sym c.item-item.is)
          c.loop-item.invariant.clear c.in_ok-add_level.ensures.clear;
    }

pub returns-in_err-add_level-clause-fault : goal.returns-in_err-add_level-clause-fault
returns-in_err-add_level-clause-fault c =
    let p = err_from_is_err_and c.from_residual.result c.from_residual.ensures.1 in
    rw (p.1, p.2) (fault_here c.args.width c.args.spec.now c.args.items.now c.loop-item.item-index c.item-item.result c.item-item.result
    c.in_err-add_level.field-0.0 c.loop-item-test.true (sym c.item-item.is) c.loop-item.invariant.clear c.in_err-add_level.ensures.fault)

pub returns-clause-levels : goal.returns-clause-levels
returns-clause-levels c =
    subst (λ (items : List Item). AreLevels c.args.spec.now items c.loop-item.list)
    (take_all c.loop-item.item-index c.args.items.now c.loop-item-test.false) c.loop-item.invariant.levels

pub returns-clause-clear : goal.returns-clause-clear
returns-clause-clear c =
    subst (λ (items : List Item). flat_map (level_faults c.args.width c.args.spec.now) items ≡ [])
    (take_all c.loop-item.item-index c.args.items.now c.loop-item-test.false) c.loop-item.invariant.clear
