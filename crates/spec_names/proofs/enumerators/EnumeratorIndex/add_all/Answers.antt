use Rattle.std.proofs.Common.{map, subst}
use Rattle.std.proofs.lemmas.List.{take_all}
use Rattle.std.specs.List.{list_any}
use Rattle.spec_names.specs.Enumerators.{HasDeclarerOfAll}
use Rattle.spec_names.specs.Scopes.{is_named}
use Rattle.spec_names.specs.Words.{word_at}
use Rattle.spec_names.proofs.EnumeratorFacts.{all_start, all_more}
use Rattle.spec_names.proofs.enumerators.EnumeratorIndex.add_all.Goals as goal

pub loop-word-init : goal.loop-word-init
loop-word-init c = record { index = c.requires; declarer = all_start c.args.self.now c.args.place }

pub loop-word-preserved : goal.loop-word-preserved
loop-word-preserved c = record {
  index = c.in_ok-add.ensures.index;
  declarer = all_more word_at c.args.words.now c.loop-word.word-index c.word-item.result c.args.self.now c.loop-word.self c.add.new.self
      c.as_str.result.now c.args.place c.loop-word-test.true c.word-item.is c.as_str.ensures c.loop-word.invariant.declarer
      c.in_ok-add.ensures.declarer;
}

pub returns-clause-declarer : goal.returns-clause-declarer
returns-clause-declarer c =
    subst (λ ws. HasDeclarerOfAll c.args.self.now c.loop-word.self (λ text. list_any (is_named text) (map word_at ws)) c.args.place)
    (take_all c.loop-word.word-index c.args.words.now c.loop-word-test.false) c.loop-word.invariant.declarer
