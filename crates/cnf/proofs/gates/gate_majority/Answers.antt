use Rattle.std.proofs.Common.{◌∙◌, ap}
use Rattle.cnf.specs.Gates.{literal}
use Rattle.cnf.proofs.GateSteps.{majority_gate_begins, gate_grows_whole, majority_gate_whole, majority_gate_means}
use Rattle.cnf.proofs.GateLaws.{majority_fits}
use Rattle.cnf.proofs.gates.gate_majority.Goals as goal

pub returns-in_err-add_all-clause-grows : goal.returns-in_err-add_all-clause-grows
returns-in_err-add_all-clause-grows g c =
    majority_gate_begins _ _ c.in_ok-new_var.field-0 c.in_err-add_all.ensures.err.0 _ _ _ c.args.a c.args.b c.args.c
    c.negated-not_a.result c.negated-not_b.result c.negated-not_c.result c.negated-not_v.result
    (record { known = c.requires.first; negated = c.negated-not_a.ensures })
    (record { known = c.requires.second; negated = c.negated-not_b.ensures })
    (record { known = c.requires.third; negated = c.negated-not_c.ensures })
    (record {
      vars = c.add_all.ensures.vars ∙ c.in_ok-new_var.ensures.ok;
      next = c.in_ok-new_var.ensures.number;
      negated = c.negated-not_v.ensures;
      clauses = c.new_var.ensures.clauses;
    })
    c.in_err-add_all.ensures.err.1

pub returns-clause-clauses : goal.returns-clause-clauses
returns-clause-clauses g c =
    majority_gate_whole _ _ c.in_ok-new_var.field-0 _ (g.B.ClauseBase.clauses c.new_var.new.self) _ c.args.a c.args.b c.args.c
    c.negated-not_a.result c.negated-not_b.result c.negated-not_c.result c.negated-not_v.result
    (record { known = c.requires.first; negated = c.negated-not_a.ensures })
    (record { known = c.requires.second; negated = c.negated-not_b.ensures })
    (record { known = c.requires.third; negated = c.negated-not_c.ensures })
    (record {
      vars = c.in_ok-new_var.ensures.ok;
      next = c.in_ok-new_var.ensures.number;
      negated = c.negated-not_v.ensures;
      clauses = c.new_var.ensures.clauses;
    })
    c.in_ok-add_all.ensures.ok

pub returns-clause-grows : goal.returns-clause-grows
returns-clause-grows g c =
    gate_grows_whole _ _ _ _ _ (majority_fits _ c.args.a c.args.b c.args.c c.requires.first c.requires.second c.requires.third)
    (c.add_all.ensures.vars ∙ c.in_ok-new_var.ensures.ok) (returns-clause-clauses g c)

pub returns-clause-value : goal.returns-clause-value
returns-clause-value g c =
    majority_gate_means _ _ _ _ c.args.a c.args.b c.args.c _ c.requires.first c.requires.second c.requires.third
    (c.add_all.ensures.vars ∙ c.in_ok-new_var.ensures.ok) (returns-clause-clauses g c) (ap literal c.in_ok-new_var.ensures.number)
