use Rattle.std.proofs.Common.{◌∙◌, arith}
use Rattle.state_coding.proofs.CodeSteps.{variables_extend}
use Rattle.tableau.proofs.UntilLaws.{until_begins, until_ends}
use Rattle.tableau.proofs.untils.gate_until.Goals as goal

pub returns-in_err-new_var-2-clause-grows : goal.returns-in_err-new_var-2-clause-grows
returns-in_err-new_var-2-clause-grows g c =
    variables_extend _ _ _ _ (omega (arith, c.in_err-new_var-2.ensures.err, c.in_ok-new_var.ensures.ok))
    (c.new_var-2.ensures.clauses ∙ c.new_var.ensures.clauses)

pub returns-in_err-add_clauses-clause-grows : goal.returns-in_err-add_clauses-clause-grows
returns-in_err-add_clauses-clause-grows g c =
    until_begins _ _ c.in_ok-new_var.field-0 c.in_ok-new_var-2.field-0 c.in_err-add_clauses.ensures.err.0 _ _ _ c.args.left c.args.right
    c.negated-not_left.result c.negated-not_until.result c.negated-not_next.result
    (record {
      known_left = c.requires.left;
      known_right = c.requires.right;
      vars = omega (arith, c.add_clauses.ensures.vars, c.in_ok-new_var-2.ensures.ok, c.in_ok-new_var.ensures.ok);
      first = c.in_ok-new_var.ensures.number;
      second = c.in_ok-new_var-2.ensures.number ∙ c.in_ok-new_var.ensures.ok;
      not_until = c.negated-not_until.ensures;
      not_left = c.negated-not_left.ensures;
      not_next = c.negated-not_next.ensures;
      clauses = c.new_var-2.ensures.clauses ∙ c.new_var.ensures.clauses;
    }) c.in_err-add_clauses.ensures.err.1

pub returns-in_err-add-clause-grows : goal.returns-in_err-add-clause-grows
returns-in_err-add-clause-grows g c =
    until_begins _ _ c.in_ok-new_var.field-0 c.in_ok-new_var-2.field-0 3 _ (g.B.ClauseBase.clauses c.new_var-2.new.self) _ c.args.left c.args.right
    c.negated-not_left.result c.negated-not_until.result c.negated-not_next.result
    (record {
      known_left = c.requires.left;
      known_right = c.requires.right;
      vars = omega (arith, c.add.ensures.vars, c.add_clauses.ensures.vars, c.in_ok-new_var-2.ensures.ok, c.in_ok-new_var.ensures.ok);
      first = c.in_ok-new_var.ensures.number;
      second = c.in_ok-new_var-2.ensures.number ∙ c.in_ok-new_var.ensures.ok;
      not_until = c.negated-not_until.ensures;
      not_left = c.negated-not_left.ensures;
      not_next = c.negated-not_next.ensures;
      clauses = c.new_var-2.ensures.clauses ∙ c.new_var.ensures.clauses;
    }) (c.in_err-add.ensures.err ∙ c.in_ok-add_clauses.ensures.ok)

pub returns-clause-grows : goal.returns-clause-grows
returns-clause-grows g c =
    until_ends _ _ c.in_ok-new_var.field-0 c.in_ok-new_var-2.field-0 _ (g.B.ClauseBase.clauses c.new_var-2.new.self)
    (g.B.ClauseBase.clauses c.add_clauses.new.base) _ c.args.left c.args.right
    c.negated-not_left.result c.negated.result c.negated-not_until.result c.negated-not_next.result
    (record {
      known_left = c.requires.left;
      known_right = c.requires.right;
      vars = omega (arith, c.add.ensures.vars, c.add_clauses.ensures.vars, c.in_ok-new_var-2.ensures.ok, c.in_ok-new_var.ensures.ok);
      first = c.in_ok-new_var.ensures.number;
      second = c.in_ok-new_var-2.ensures.number ∙ c.in_ok-new_var.ensures.ok;
      not_until = c.negated-not_until.ensures;
      not_left = c.negated-not_left.ensures;
      not_next = c.negated-not_next.ensures;
      clauses = c.new_var-2.ensures.clauses ∙ c.new_var.ensures.clauses;
    }) c.negated.ensures c.in_ok-add_clauses.ensures.ok c.in_ok-add.ensures.ok
