use Rattle.std.proofs.Common.{◌+◌, ◌*◌}
use Rattle.typed_ltl.specs.Formulas.{number_of}
use Rattle.typed_ltl.specs.Sizes.{number_size}
use Rattle.levels.proofs.reading.+terms.Given as goal

abbrev pub decreases-put_term : goal.decreases-put_term
decreases-put_term l = 2 * number_size (number_of l.term.now)

abbrev pub decreases-put_terms : goal.decreases-put_terms
decreases-put_terms l = 2 * (number_size (number_of l.a.now) + number_size (number_of l.b.now)) + 1
