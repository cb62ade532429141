use Rattle.std.proofs.Common.{refl}
use Rattle.std.proofs.lemmas.Bool.{false≢true}
use Rattle.clause_log.proofs.StepLaws.{all_marked, all_known, exactly}
use Rattle.clause_log.proofs.checking.take_exactly.Goals as goal

pub returns-then-not-has_all-clause-result : goal.returns-then-not-has_all-clause-result
returns-then-not-has_all-clause-result c = (λ h. absurd (false≢true h), λ same. c.if-not-has_all.ensures.1 (all_marked c.args.set.now c.args.lits.now same))

pub put_all-requires : goal.put_all-requires
put_all-requires c = all_known c.args.set.now c.args.lits.now (c.if-not-has_all.ensures.0 refl)

pub returns-clause-result : goal.returns-clause-result
returns-clause-result c =
    let same = exactly c.args.set.now c.put_all.new.set c.args.lits.now (c.if-not-has_all.ensures.0 refl) c.put_all.ensures.puts in
    (λ h. same.0 (c.is_empty.ensures.0 h), λ h. c.is_empty.ensures.1 (same.1 h))

pub returns-clause-known : goal.returns-clause-known
returns-clause-known c = λ h. all_known c.args.set.now c.args.lits.now (c.if-not-has_all.ensures.0 refl)
