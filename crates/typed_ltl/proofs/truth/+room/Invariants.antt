use Rattle.std.proofs.Common.{◌+◌, ◌*◌}
use Rattle.typed_ltl.specs.Formulas.{meaning}
use Rattle.typed_ltl.specs.Sizes.{formula_size}
use Rattle.typed_ltl.proofs.truth.+room.Given as goal

abbrev pub decreases-room_for : goal.decreases-room_for
decreases-room_for l = 2 * formula_size (meaning l.f.now)

abbrev pub decreases-room_above : goal.decreases-room_above
decreases-room_above l = 2 * formula_size (meaning l.f.now) + 1

abbrev pub decreases-room_above_both : goal.decreases-room_above_both
decreases-room_above_both l = 2 * (formula_size (meaning l.f.now) + formula_size (meaning l.g.now)) + 1
