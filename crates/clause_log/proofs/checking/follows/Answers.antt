use Rattle.std.proofs.Common.{refl}
use Rattle.std.proofs.lemmas.Bool.{false≢true}
use Rattle.clause_log.specs.Derivations.{clauses_by_number}
use Rattle.clause_log.proofs.StepLaws.{began, not_led, led}
use Rattle.clause_log.proofs.checking.follows.Goals as goal

pub returns-then-not-take_steps-clause-result : goal.returns-then-not-take_steps-clause-result
returns-then-not-take_steps-clause-result c = (
  λ h. absurd (false≢true h),
  λ is.
      absurd (not_led (clauses_by_number c.args.cnf.now c.args.log.now) c.args.chain.now c.in-Some.first.now c.put_all.new.set c.as_slice-steps.result.now
      c.in-Some.ensures.1 (began c.args.set.now c.put_all.new.set c.in-Some.first.now c.requires.empty c.put_all.ensures.puts) c.as_slice-steps.ensures
      (c.if-not-take_steps.ensures.no refl) is),
)

pub returns-else-not-take_steps-clause-result : goal.returns-else-not-take_steps-clause-result
returns-else-not-take_steps-clause-result c =
    led (clauses_by_number c.args.cnf.now c.args.log.now) c.args.chain.now c.in-Some.first.now c.as_slice-lits.result.now c.put_all.new.set c.take_steps.new.set
    c.as_slice-steps.result.now c.take_exactly.result
    c.in-Some.ensures (began c.args.set.now c.put_all.new.set c.in-Some.first.now c.requires.empty c.put_all.ensures.puts)
    c.as_slice-steps.ensures c.as_slice-lits.ensures (c.if-not-take_steps.ensures.yes refl) c.take_exactly.ensures.result
