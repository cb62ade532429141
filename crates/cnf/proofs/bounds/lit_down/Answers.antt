use Rattle.cnf.specs.Clauses.{opposite}
use Rattle.cnf.proofs.GateSteps.{no_lit}
use Rattle.cnf.proofs.BoundLaws.{first_place_is, lower_place_at}
use Rattle.cnf.proofs.bounds.lit_down.Goals as goal

pub returns-then-i-eq0-clause-at : goal.returns-then-i-eq0-clause-at
returns-then-i-eq0-clause-at c = first_place_is opposite c.args.row.now no_lit c.args.i c.negated.result c.if-i-eq0.true c.requires c.negated.ensures

pub returns-else-i-eq0-clause-at : goal.returns-else-i-eq0-clause-at
returns-else-i-eq0-clause-at c = lower_place_at opposite c.args.row.now no_lit c.args.i c.if-i-eq0.false c.requires
