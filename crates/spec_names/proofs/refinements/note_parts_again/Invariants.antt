use Rattle.std.proofs.Common.{◌≡◌, map, take}
use Rattle.spec_names.specs.NamesFaults.{words_of_part}
use Rattle.spec_names.specs.Words.{pair_at}
use Rattle.spec_names.proofs.refinements.note_parts_again.Given as goal

abbrev pub invariant-loop-part : goal.invariant-loop-part
invariant-loop-part l = map pair_at l.pairs.items ≡ map words_of_part (take l.part-index l.parts)
