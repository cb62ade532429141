use Rattle.std.proofs.Common.{◌≡◌, ◌++◌, drop}
use Rattle.tableau.specs.TableauStates.{untils_from}
use Rattle.tableau.proofs.construction.untils_of.Given as goal

-- with the nodes that are left, these are all untils
abbrev pub invariant-loop-i : goal.invariant-loop-i
invariant-loop-i l = l.untils.items ++ untils_from l.i (drop l.i l.nodes) ≡ untils_from 0 l.nodes
