use Rattle.std.proofs.Common.{ap, ◌∙◌, map, position}
use Rattle.std.proofs.lemmas.List.{take_all}
use Rattle.spec_names.specs.Scopes.{is_named}
use Rattle.spec_names.specs.Words.{word_at}
use Rattle.spec_names.proofs.TableLemmas.{table_step}
use Rattle.spec_names.proofs.again.table_of.Goals as goal

pub loop-place-preserved : goal.loop-place-preserved
loop-place-preserved c =
    table_step word_at c.args.words.now c.loop-place.place c.index-words-place.result c.loop-place.table c.add.new.self c.as_str.result.now
    c.loop-place-test.true c.index-words-place.is c.as_str.ensures c.in_ok-add.ensures.ok c.loop-place.invariant

pub returns : goal.returns
returns c = λ text.
    c.loop-place.invariant text ∙ ap (λ ws. position (is_named text) (map word_at ws)) (take_all c.loop-place.place c.args.words.now c.loop-place-test.false)
