use Rattle.std.proofs.Common.{map, take}
use Rattle.std.specs.List.{list_any}
use Rattle.spec_names.specs.Enumerators.{IsIndex, HasDeclarerOfAll}
use Rattle.spec_names.specs.Scopes.{is_named}
use Rattle.spec_names.specs.Words.{word_at}
use Rattle.spec_names.proofs.enumerators.EnumeratorIndex.add_all.Given as goal

abbrev pub invariant-loop-word : goal.invariant-loop-word
invariant-loop-word l = record {
  index : IsIndex l.self;
  declarer : HasDeclarerOfAll l.fn.self l.self (λ text. list_any (is_named text) (map word_at (take l.word-index l.words))) l.place;
}
