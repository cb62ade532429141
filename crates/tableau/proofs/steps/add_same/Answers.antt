use Rattle.tableau.proofs.StepFronts.{same_front}
use Rattle.tableau.proofs.steps.add_same.Goals as goal

pub returns-in_err-add_clauses-clause-front : goal.returns-in_err-add_clauses-clause-front
returns-in_err-add_clauses-clause-front g c =
    same_front c.in_err-add_clauses.ensures.err.0 _ _ c.args.under c.args.x c.args.y c.negated-not_under.result c.negated-not_x.result c.negated-not_y.result
    c.negated-not_under.ensures c.negated-not_x.ensures c.negated-not_y.ensures c.in_err-add_clauses.ensures.err.1

pub returns-clause-front : goal.returns-clause-front
returns-clause-front g c =
    same_front 2 _ _ c.args.under c.args.x c.args.y c.negated-not_under.result c.negated-not_x.result c.negated-not_y.result
    c.negated-not_under.ensures c.negated-not_x.ensures c.negated-not_y.ensures c.in_ok-add_clauses.ensures.ok
