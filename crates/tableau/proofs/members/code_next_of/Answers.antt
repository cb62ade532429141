use Rattle.std.proofs.Common.{arith}
use Rattle.state_coding.proofs.CodeSteps.{variables_extend}
use Rattle.tableau.proofs.members.code_next_of.Goals as goal

pub returns-clause-grows : goal.returns-clause-grows
returns-clause-grows g c = variables_extend _ _ _ _ (omega (arith, c.in_ok-var.ensures.ok)) c.new_var.ensures.clauses
