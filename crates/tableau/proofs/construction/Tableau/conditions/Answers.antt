use Rattle.std.proofs.Common.{rules}
use Rattle.tableau.proofs.Conditions.{conditions_few}
use Rattle.tableau.proofs.construction.Tableau.conditions.Goals as goal

pub returns-else-is_empty-clause-few : goal.returns-else-is_empty-clause-few
returns-else-is_empty-clause-few c =
    conditions_few c.len.result c.self.inside.untils.items c.self.inside.nodes.items (search (rules, c.len.ensures)) c.self.invariant.1 c.self.invariant.0.few
