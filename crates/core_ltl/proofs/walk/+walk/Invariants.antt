use Rattle.std.proofs.Common.{◌+◌, ◌*◌}
use Rattle.typed_ltl.specs.Formulas.{meaning}
use Rattle.typed_ltl.specs.Sizes.{formula_size}
use Rattle.core_ltl.proofs.walk.+walk.Given as goal

abbrev pub decreases-walk : goal.decreases-walk
decreases-walk l = 3 * formula_size (meaning l.f.now)

abbrev pub decreases-walk_unary : goal.decreases-walk_unary
decreases-walk_unary l = 3 * formula_size (meaning l.f.now) + 1

abbrev pub decreases-walk_temporal : goal.decreases-walk_temporal
decreases-walk_temporal l = 3 * formula_size (meaning l.f.now) + 1

abbrev pub decreases-walk_binary : goal.decreases-walk_binary
decreases-walk_binary l = 3 * (formula_size (meaning l.f.now) + formula_size (meaning l.g.now)) + 2

abbrev pub decreases-walk_left : goal.decreases-walk_left
decreases-walk_left l = 3 * formula_size (meaning l.f.now) + 1
