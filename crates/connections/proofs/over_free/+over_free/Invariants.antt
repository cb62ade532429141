use Rattle.std.proofs.Common.{◌+◌, ◌*◌}
use Rattle.typed_ltl.specs.Formulas.{meaning}
use Rattle.typed_ltl.specs.Sizes.{formula_size}
use Rattle.connections.proofs.over_free.+over_free.Given as goal

abbrev pub decreases-formula_over_free : goal.decreases-formula_over_free
decreases-formula_over_free l = 2 * formula_size (meaning l.f.now)

abbrev pub decreases-unary_over_free : goal.decreases-unary_over_free
decreases-unary_over_free l = 2 * formula_size (meaning l.f.now) + 1

abbrev pub decreases-binary_over_free : goal.decreases-binary_over_free
decreases-binary_over_free l = 2 * (formula_size (meaning l.f.now) + formula_size (meaning l.g.now)) + 1
