use Rattle.std.proofs.Common.{arith}
use Rattle.tableau.proofs.MemberSteps.{next_coded}
use Rattle.tableau.proofs.members.code_next.Goals as goal

pub returns-clause-coded : goal.returns-clause-coded
returns-clause-coded g c =
    next_coded _ _ _ _ _ c.member.result _ c.args.tableau.now.closure.nodes c.nodes.result.now c.args.node.0 _ c.is_until-until.result c.nodes.ensures.nodes
    (omega (arith, c.requires.node, c.requires.count)) c.is_until-until.ensures c.member.ensures c.in_ok-lit.ensures.coded
