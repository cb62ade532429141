use Rattle.counter_cert.proofs.CountedProgress.{certificates_valid}
use Rattle.counter_cert.proofs.laws.certificates_make_valid.Goals as goal

pub returns : goal.returns
returns c = certificates_valid c.values_by_kind.ensures
