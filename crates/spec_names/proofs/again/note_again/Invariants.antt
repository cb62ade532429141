use Rattle.std.proofs.Common.{◌≡◌, map, take, drop}
use Rattle.spec_names.specs.NamesFaults.{again, again_after, same_name, start_of}
use Rattle.spec_names.specs.Noting.{noted}
use Rattle.spec_names.specs.Words.{word_at}
use Rattle.spec_names.proofs.again.note_again.Given as goal

abbrev pub invariant-loop-place : goal.invariant-loop-place
invariant-loop-place l =
    noted (again_after l.kind same_name start_of (take l.place (map word_at l.words)) (drop l.place (map word_at l.words))) l.first
    ≡ noted (again l.kind same_name start_of (map word_at l.words)) l.fn.first
