use Rattle.std.proofs.Common.{◌++◌, ◌∷◌, List, [], sym, subst}
use Rattle.std.proofs.lemmas.Result.{err_from_is_err_and}
use Rattle.levels.specs.declared.level.Level.{Level}
use Rattle.levels.specs.Levels.{AreLevels}
use Rattle.levels.proofs.Lists.{levels_pushed}
use Rattle.levels.proofs.deciding.add_level.Goals as goal

pub returns-clause-levels : goal.returns-clause-levels
returns-clause-levels c = λ before h.
    subst (λ (levels : List Level). AreLevels c.args.spec.now (before ++ c.args.item.now ∷ []) levels) (sym c.in_ok-push.ensures.ok)
    (levels_pushed c.args.spec.now before c.args.list.now c.args.item.now c.in_ok-level.level h c.in_ok-level.ensures.level)

pub returns-in_err-level-clause-fault : goal.returns-in_err-level-clause-fault
returns-in_err-level-clause-fault c =
    let p = err_from_is_err_and c.from_residual-in_err-level.result c.from_residual-in_err-level.ensures.1 in
    rw (p.1, p.2) c.in_err-level.ensures.fault
