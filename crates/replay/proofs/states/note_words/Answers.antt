use Rattle.replay.proofs.Noting.{breaks_at_word, noted_to_more}
use Rattle.replay.proofs.states.note_words.Goals as goal

pub returns-then-not-branch-clause-breaks : goal.returns-then-not-branch-clause-breaks
returns-then-not-branch-clause-breaks c = λ _.
    breaks_at_word c.args.table.now.names c.args.table.now.kinds c.args.words.now c.loop-word.rest.now c.in-Some.word.now c.in-Some.after.now
    c.loop-word.slots.items c.loop-word.invariant c.in-Some.ensures.some (c.in_ok-note_word.ensures.nothing c.if-not-branch.true)

pub loop-word-preserved : goal.loop-word-preserved
loop-word-preserved c =
    noted_to_more c.args.table.now.names c.args.table.now.kinds c.args.words.now c.loop-word.rest.now c.in-Some.word.now c.in-Some.after.now
    c.loop-word.slots.items c.note_word.new.slots.items c.loop-word.invariant c.in-Some.ensures.some (c.in_ok-note_word.ensures.puts c.if-not-branch.false)
