use Rattle.cnf.proofs.GateSteps.{pairs_last, pairs_front}
use Rattle.cnf.proofs.arithmetic.comparison_pair.Goals as goal

pub returns-then-place-a-clause-bits : goal.returns-then-place-a-clause-bits
returns-then-place-a-clause-bits c = pairs_last c.args.a.now c.args.b.now c.args.place _ _ c.requires.same c.requires.within c.if-place-a.true

pub returns-else-place-a-clause-bits : goal.returns-else-place-a-clause-bits
returns-else-place-a-clause-bits c = pairs_front c.args.a.now c.args.b.now c.args.place _ _ c.requires.same c.requires.within c.if-place-a.false
