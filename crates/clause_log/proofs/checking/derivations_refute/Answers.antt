use Rattle.clause_log.proofs.Soundness.{refutes}
use Rattle.clause_log.proofs.checking.derivations_refute.Goals as goal

pub returns : goal.returns
returns c = refutes
