use Rattle.std.proofs.Common.{refl}
use Rattle.lasso_search.proofs.Growing.{grows_as, model_on, grows_from, kept_as, closed_as}
use Rattle.lasso_search.proofs.search.shortest.Goals as goal

pub returns-in_err-new_var-clause-models : goal.returns-in_err-new_var-clause-models
returns-in_err-new_var-clause-models c = grows_as _ _ _ _ c.in_err-new_var.ensures.err c.new_var.ensures.clauses

pub search_paths-requires-clause-model : goal.search_paths-requires-clause-model
search_paths-requires-clause-model c =
    model_on _ _ c.in_ok-new_var.field-0 _ _ c.in_ok-new_var.ensures.number c.in_ok-new_var.ensures.ok c.new_var.ensures.clauses c.requires.model

pub returns-in_err-found-clause-models : goal.returns-in_err-found-clause-models
returns-in_err-found-clause-models c =
    kept_as _ _ _ _ _ _
    (grows_from _ _ c.in_ok-new_var.field-0 _ _ _ _ c.in_ok-new_var.ensures.number c.in_ok-new_var.ensures.ok c.new_var.ensures.clauses
    c.search_paths.ensures.grows) refl refl

pub returns-in_err-add-clause-models : goal.returns-in_err-add-clause-models
returns-in_err-add-clause-models c =
    kept_as _ _ _ _ _ _
    (grows_from _ _ c.in_ok-new_var.field-0 _ _ _ _ c.in_ok-new_var.ensures.number c.in_ok-new_var.ensures.ok c.new_var.ensures.clauses
    c.search_paths.ensures.grows) c.add.ensures.vars c.in_err-add.ensures.err

pub returns-clause-models : goal.returns-clause-models
returns-clause-models c =
    closed_as _ _ c.in_ok-new_var.field-0 _ _ _ _ c.negated.result
    (grows_from _ _ c.in_ok-new_var.field-0 _ _ _ _ c.in_ok-new_var.ensures.number c.in_ok-new_var.ensures.ok c.new_var.ensures.clauses
    c.search_paths.ensures.grows) c.add.ensures.vars c.in_ok-new_var.ensures.number c.negated.ensures c.in_ok-add.ensures.ok
