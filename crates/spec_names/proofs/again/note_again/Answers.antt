use Rattle.spec_names.specs.Words.{word_at}
use Rattle.spec_names.proofs.NotingFacts.{again_step}
use Rattle.spec_names.proofs.again.note_again.Goals as goal

pub loop-place-preserved : goal.loop-place-preserved
loop-place-preserved c =
    again_step c.args.kind word_at c.args.words.now c.loop-place.place c.index-words-place.result c.args.table.now c.stood_before-is_new.result
    c.loop-place.first c.note_unless.new.first _ (record { within = c.loop-place-test.true; same = c.index-words-place.is }) c.requires
    c.stood_before-is_new.ensures c.note_unless.ensures c.loop-place.invariant
