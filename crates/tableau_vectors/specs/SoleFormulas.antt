-- Serves tests only: the facts that the atoms of a closure state, where one formula alone was added to it.

use Rattle.std.specs.Prelude.{List, []}
use Rattle.typed_ltl.specs.Formulas.{Proposition}
use Rattle.core_ltl.specs.CoreFormulas.{Core}
use Rattle.core_ltl.specs.Nodes.{Members}
use Rattle.core_ltl.specs.Order.{after_formula}

abbrev pub sole_atoms : Core → List Proposition
sole_atoms f = (after_formula (record { nodes = []; atoms = [] }) f).0.atoms
