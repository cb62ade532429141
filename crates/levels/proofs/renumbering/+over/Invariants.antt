use Rattle.std.proofs.Common.{◌+◌, ◌*◌}
use Rattle.typed_ltl.specs.Formulas.{meaning}
use Rattle.typed_ltl.specs.Sizes.{formula_size}
use Rattle.levels.proofs.renumbering.+over.Given as goal

abbrev pub decreases-formula_over_places : goal.decreases-formula_over_places
decreases-formula_over_places l = 2 * formula_size (meaning l.f.now)

abbrev pub decreases-one_over_places : goal.decreases-one_over_places
decreases-one_over_places l = 2 * formula_size (meaning l.f.now) + 1

abbrev pub decreases-two_over_places : goal.decreases-two_over_places
decreases-two_over_places l = 2 * (formula_size (meaning l.f.now) + formula_size (meaning l.g.now)) + 1
