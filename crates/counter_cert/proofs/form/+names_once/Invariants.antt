use Rattle.std.proofs.Common.{length}
use Rattle.counter_cert.proofs.form.+names_once.Given as goal

abbrev pub decreases-names_once : goal.decreases-names_once
decreases-names_once l = length l.guard.now
