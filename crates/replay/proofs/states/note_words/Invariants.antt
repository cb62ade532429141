use Rattle.std.specs.Prelude.{length}
use Rattle.replay.specs.Reading.{AreNotedTo}
use Rattle.replay.proofs.states.note_words.Given as goal

-- the words before the rest are noted
abbrev pub invariant-loop-word : goal.invariant-loop-word
invariant-loop-word l = AreNotedTo l.table.names l.table.kinds l.fn.words l.rest l.slots.items

abbrev pub decreases-loop-word : goal.decreases-loop-word
decreases-loop-word l = length l.rest
