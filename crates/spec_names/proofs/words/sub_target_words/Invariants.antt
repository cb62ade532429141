use Rattle.std.proofs.Common.{map}
use Rattle.spec_names.specs.Words.{pair_at, sub_target_of_item}
use Rattle.spec_names.proofs.Building.{Built}
use Rattle.spec_names.proofs.words.sub_target_words.Given as goal

abbrev pub invariant-loop-item : goal.invariant-loop-item
invariant-loop-item l = Built (sub_target_of_item) l.items (map pair_at l.pairs.items) l.item-index
