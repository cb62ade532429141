use Rattle.std.proofs.Common.{◌∙◌}
use Rattle.cnf.proofs.GateSteps.{and_gate_begins, gate_grows_whole, and_gate_whole}
use Rattle.cnf.proofs.GateLaws.{and_fits}
use Rattle.cnf.proofs.gates.gate_and.Goals as goal

pub returns-in_err-add_all-clause-grows : goal.returns-in_err-add_all-clause-grows
returns-in_err-add_all-clause-grows g c =
    and_gate_begins _ _ c.in_ok-new_var.field-0 c.in_err-add_all.ensures.err.0 _ _ _ c.args.a c.args.b
    c.negated-not_a.result c.negated-not_b.result c.negated-not_c.result
    (record { known = c.requires.left; negated = c.negated-not_a.ensures })
    (record { known = c.requires.right; negated = c.negated-not_b.ensures })
    (record {
      vars = c.add_all.ensures.vars ∙ c.in_ok-new_var.ensures.ok;
      next = c.in_ok-new_var.ensures.number;
      negated = c.negated-not_c.ensures;
      clauses = c.new_var.ensures.clauses;
    })
    c.in_err-add_all.ensures.err.1

pub returns-in_err-add-clause-grows : goal.returns-in_err-add-clause-grows
returns-in_err-add-clause-grows g c =
    and_gate_begins _ _ c.in_ok-new_var.field-0 2 _ (g.B.ClauseBase.clauses c.new_var.new.self) _ c.args.a c.args.b
    c.negated-not_a.result c.negated-not_b.result c.negated-not_c.result
    (record { known = c.requires.left; negated = c.negated-not_a.ensures })
    (record { known = c.requires.right; negated = c.negated-not_b.ensures })
    (record {
      vars = c.add.ensures.vars ∙ c.add_all.ensures.vars ∙ c.in_ok-new_var.ensures.ok;
      next = c.in_ok-new_var.ensures.number;
      negated = c.negated-not_c.ensures;
      clauses = c.new_var.ensures.clauses;
    })
    (c.in_err-add.ensures.err ∙ c.in_ok-add_all.ensures.ok)

pub returns-clause-grows : goal.returns-clause-grows
returns-clause-grows g c =
    gate_grows_whole _ _ _ _ _ (and_fits _ c.args.a c.args.b c.requires.left c.requires.right)
    (c.add.ensures.vars ∙ c.add_all.ensures.vars ∙ c.in_ok-new_var.ensures.ok)
    (and_gate_whole _ _ c.in_ok-new_var.field-0 _ (g.B.ClauseBase.clauses c.new_var.new.self) (g.B.ClauseBase.clauses c.add_all.new.base) _ c.args.a c.args.b
    c.negated-not_a.result c.negated-not_b.result c.negated-not_c.result
    (record { known = c.requires.left; negated = c.negated-not_a.ensures })
    (record { known = c.requires.right; negated = c.negated-not_b.ensures })
    (record {
      vars = c.in_ok-new_var.ensures.ok;
      next = c.in_ok-new_var.ensures.number;
      negated = c.negated-not_c.ensures;
      clauses = c.new_var.ensures.clauses;
    })
    c.in_ok-add_all.ensures.ok c.in_ok-add.ensures.ok)
