use Rattle.std.proofs.Common.{map}
use Rattle.spec_names.specs.Words.{word_at, word_of_part}
use Rattle.spec_names.proofs.Building.{Built}
use Rattle.spec_names.proofs.words.refinement_words.Given as goal

abbrev pub invariant-loop-item : goal.invariant-loop-item
invariant-loop-item l = Built (word_of_part l.kind) l.items (map word_at l.words.items) l.item-index
