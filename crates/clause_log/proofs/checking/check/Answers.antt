use Rattle.std.proofs.Common.{refl}
use Rattle.clause_log.proofs.Soundness.{refutes, derived_by, derives_where}
use Rattle.clause_log.proofs.checking.check.Goals as goal

pub returns-clause-refutes : goal.returns-clause-refutes
returns-clause-refutes c = λ h.
    refutes c.args.cnf.now.vars c.args.cnf.now.clauses c.args.log.now
    (derived_by c.args.cnf.now.clauses c.clauses-clauses.result.now c.args.log.now c.as_slice-chains.result.now
    c.clauses-clauses.ensures.clauses c.as_slice-chains.ensures (c.all_follow.ensures.result.0 h) (c.if-not-ends_empty.ensures.0 refl))

pub returns-clause-derives : goal.returns-clause-derives
returns-clause-derives c =
    derives_where c.args.cnf.now.clauses c.clauses-clauses.result.now c.args.log.now c.as_slice-chains.result.now c.all_follow.result
    c.clauses-clauses.ensures.clauses c.as_slice-chains.ensures c.all_follow.ensures.result (c.if-not-ends_empty.ensures.0 refl)
