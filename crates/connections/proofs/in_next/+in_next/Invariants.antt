use Rattle.std.proofs.Common.{◌+◌, ◌*◌}
use Rattle.typed_ltl.specs.Formulas.{meaning}
use Rattle.typed_ltl.specs.Sizes.{formula_size}
use Rattle.connections.proofs.in_next.+in_next.Given as goal

abbrev pub decreases-formula_in_next : goal.decreases-formula_in_next
decreases-formula_in_next l = 2 * formula_size (meaning l.f.now)

abbrev pub decreases-unary_in_next : goal.decreases-unary_in_next
decreases-unary_in_next l = 2 * formula_size (meaning l.f.now) + 1

abbrev pub decreases-binary_in_next : goal.decreases-binary_in_next
decreases-binary_in_next l = 2 * (formula_size (meaning l.f.now) + formula_size (meaning l.g.now)) + 1
