use Rattle.std.proofs.Common.{◌≡◌, ◌↔◌, subst}
use Rattle.std.specs.Prelude.{IsTrue}
use Rattle.clause_log.specs.Derivations.{Derives}
use Rattle.counter_cert.proofs.CheckLaws.{met_at_start}
use Rattle.counter_cert.proofs.verification.shows_start.Goals as goal

pub returns-clause-derives : goal.returns-clause-derives
returns-clause-derives c =
    subst (λ xs. IsTrue c.in_ok-ok.ok ↔ Derives xs c.args.log.now) c.in_ok-cnf.ensures.clauses c.in_ok-ok.ensures.derives

pub returns-clause-met : goal.returns-clause-met
returns-clause-met c = λ on.
    met_at_start c.args.tab.now c.args.question.now c.args.cert.now c.in_ok-cnf.cnf c.in_ok-cnf.ensures.models
    (c.in_ok-ok.ensures.refutes on)
