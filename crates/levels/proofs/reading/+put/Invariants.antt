use Rattle.std.proofs.Common.{◌+◌, ◌*◌}
use Rattle.typed_ltl.specs.Formulas.{meaning}
use Rattle.typed_ltl.specs.Sizes.{formula_size}
use Rattle.levels.proofs.reading.+put.Given as goal

abbrev pub decreases-put_formula : goal.decreases-put_formula
decreases-put_formula l = 2 * formula_size (meaning l.f.now)

abbrev pub decreases-put_both : goal.decreases-put_both
decreases-put_both l = 2 * (formula_size (meaning l.f.now) + formula_size (meaning l.g.now)) + 1
