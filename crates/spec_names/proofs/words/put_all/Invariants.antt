use Rattle.std.proofs.Common.{◌≡◌, ◌++◌, map, take}
use Rattle.spec_names.specs.Words.{word_at}
use Rattle.spec_names.proofs.words.put_all.Given as goal

abbrev pub invariant-loop-word : goal.invariant-loop-word
invariant-loop-word l = map word_at l.words.items ≡ map word_at l.fn.words.items ++ take l.word-index l.more
