use Rattle.std.proofs.Common.{◌≡◌, Some, slice_get, sym, subst}
use Rattle.std.proofs.lemmas.Result.{err_from_is_err_and}
use Rattle.oss_base.specs.Faults.{IfFault}
use Rattle.oss_base.specs.declared.fault.Fault.{Fault}
use Rattle.oss_base.specs.declared.fault.Stop.{Stop}
use Rattle.levels.specs.declared.level.Level.{Level}
use Rattle.levels.specs.LevelFaults.{level_faults}
use Rattle.levels.proofs.Adding.{err_of}
use Rattle.levels.proofs.Faults.{large_told, level_clear, level_few, level_over}
use Rattle.levels.proofs.deciding.level_of.Goals as goal

pub excess-requires-clause-few : goal.excess-requires-clause-few
excess-requires-clause-few c =
    level_few c.args.spec.now c.args.item.now c.in_ok-level.level c.in_ok-level.ensures.level c.in_ok-level.ensures.members

pub returns-in-None-clause-clear : goal.returns-in-None-clause-clear
returns-in-None-clause-clear c =
    level_clear c.args.width c.args.spec.now c.args.item.now c.in_ok-level.level c.in_ok-level.ensures.level c.in_ok-level.ensures.within
    (sym c.in-None.ensures)

pub returns-in-Some-clause-fault : goal.returns-in-Some-clause-fault
returns-in-Some-clause-fault c =
    let spec = c.args.spec.now in
    let item = c.args.item.now in
    subst (λ (s : Stop). IfFault (err_of Level s) (λ (f : Fault). slice_get (level_faults c.args.width spec item) 0 ≡ Some f)) (sym c.fault.ensures)
    (level_over c.args.width spec item c.in_ok-level.level c.in-Some.kind c.in_ok-level.ensures.level c.in_ok-level.ensures.within (sym c.in-Some.ensures))

pub returns-in_err-level-clause-fault : goal.returns-in_err-level-clause-fault
returns-in_err-level-clause-fault c =
    let p = err_from_is_err_and c.from_residual.result c.from_residual.ensures.1 in
    rw (p.1, p.2) (large_told c.args.width c.args.spec.now c.args.item.now c.in_err-level.field-0.0 c.in_err-level.ensures.large
    c.in_err-level.ensures.fault)
