use Rattle.std.proofs.Common.{◌≡◌, ◌↔◌, subst}
use Rattle.std.specs.Prelude.{IsTrue}
use Rattle.clause_log.specs.Derivations.{Derives}
use Rattle.counter_cert.proofs.CheckLaws.{kept_by_steps}
use Rattle.counter_cert.proofs.verification.shows_step.Goals as goal

pub returns-clause-derives : goal.returns-clause-derives
returns-clause-derives c =
    subst (λ xs. IsTrue c.in_ok-ok.ok ↔ Derives xs c.args.log.now) c.in_ok-cnf.ensures.clauses c.in_ok-ok.ensures.derives

pub returns-clause-kept : goal.returns-clause-kept
returns-clause-kept c = λ on.
    kept_by_steps c.args.tab.now c.args.k c.args.cert.now c.in_ok-cnf.cnf c.in_ok-cnf.ensures.models
    (c.in_ok-ok.ensures.refutes on)
