use Rattle.state_coding.proofs.TermLaws.{opposite_within}
use Rattle.state_coding.proofs.compare.difference.Goals as goal

pub plus-requires-clause-right : goal.plus-requires-clause-right
plus-requires-clause-right g c =
    rw c.in_ok-y.ensures (opposite_within (g.B.ClauseBase.vars c.args.base.now) c.args.y.now c.requires.right)
