use Rattle.std.proofs.Common.{◌+◌, ◌*◌}
use Rattle.typed_ltl.specs.Formulas.{meaning}
use Rattle.typed_ltl.specs.Sizes.{formula_size}
use Rattle.typed_ltl.proofs.truth.+fill.Given as goal

abbrev pub decreases-fill : goal.decreases-fill
decreases-fill l = 2 * formula_size (meaning l.f.now)

abbrev pub decreases-fill_unary : goal.decreases-fill_unary
decreases-fill_unary l = 2 * formula_size (meaning l.f.now) + 1

abbrev pub decreases-fill_binary : goal.decreases-fill_binary
decreases-fill_binary l = 2 * (formula_size (meaning l.f.now) + formula_size (meaning l.g.now)) + 1
