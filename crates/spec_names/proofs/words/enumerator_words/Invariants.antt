use Rattle.std.proofs.Common.{◌≡◌, map, take}
use Rattle.std.specs.List.{flat_map}
use Rattle.spec_names.specs.Words.{word_at, enumerators_of_item}
use Rattle.spec_names.proofs.words.enumerator_words.Given as goal

abbrev pub invariant-loop-item : goal.invariant-loop-item
invariant-loop-item l = map word_at l.words.items ≡ flat_map enumerators_of_item (take l.item-index l.items)
