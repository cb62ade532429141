use Rattle.core_ltl.proofs.NodeFormulas.{each_node, one_formula, one_node}
use Rattle.core_ltl.proofs.Once.{once}
use Rattle.core_ltl.proofs.laws.closure_laws.Goals as goal

pub returns : goal.returns
returns c = record { formulas = each_node; one_formula = one_formula; one_node = one_node; once = once }
