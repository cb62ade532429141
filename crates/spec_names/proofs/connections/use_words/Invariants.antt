use Rattle.std.proofs.Common.{◌≡◌, map, take}
use Rattle.spec_names.specs.Uses.{word_of_use}
use Rattle.spec_names.specs.Words.{word_at}
use Rattle.spec_names.proofs.connections.use_words.Given as goal

abbrev pub invariant-loop-name : goal.invariant-loop-name
invariant-loop-name l = map word_at l.words.items ≡ map word_of_use (take l.name-index l.uses)
