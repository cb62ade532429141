use Rattle.counter_cert.proofs.Once.{once_when, once_not}
use Rattle.counter_cert.proofs.form.+names_once.Goals as goal

pub returns-then-lacks : goal.returns-then-lacks
returns-then-lacks t c =
    once_when c.args.guard.now c.in-Some.first.now c.in-Some.rest.now c.names_once.result c.in-Some.ensures.cases.0
    (c.lacks.ensures.0 c.if-lacks.true) c.names_once.ensures

pub returns-else-lacks : goal.returns-else-lacks
returns-else-lacks t c =
    once_not c.args.guard.now c.in-Some.first.now c.in-Some.rest.now c.lacks.result c.in-Some.ensures.cases.0 c.lacks.ensures
    c.if-lacks.false
