use Rattle.std.proofs.Common.{◌+◌, ◌*◌}
use Rattle.typed_ltl.specs.Formulas.{number_of}
use Rattle.typed_ltl.specs.Sizes.{number_size}
use Rattle.state_coding.proofs.terms.+terms.Given as goal

abbrev pub decreases-code_term : goal.decreases-code_term
decreases-code_term g l = 2 * number_size (number_of l.term.now)

abbrev pub decreases-code_sum : goal.decreases-code_sum
decreases-code_sum g l = 2 * (number_size (number_of l.a.now) + number_size (number_of l.b.now)) + 1

abbrev pub decreases-code_difference : goal.decreases-code_difference
decreases-code_difference g l = 2 * (number_size (number_of l.a.now) + number_size (number_of l.b.now)) + 1

abbrev pub decreases-code_opposite : goal.decreases-code_opposite
decreases-code_opposite g l = 2 * number_size (number_of l.a.now) + 1
