use Rattle.std.proofs.Common.{map, ap, ◌∙◌}
use Rattle.std.proofs.lemmas.List.{take_all}
use Rattle.std.specs.List.{flat_map}
use Rattle.oss_syntax.specs.Trees.{component_trees}
use Rattle.spec_names.specs.Scopes.{is_enumerator, interface_at}
use Rattle.spec_names.specs.Words.{word_at, enumerators_of_item}
use Rattle.spec_names.proofs.EnumeratorFacts.{index_more}
use Rattle.spec_names.proofs.enumerators.enumerator_index.Goals as goal

pub loop-place-init : goal.loop-place-init
loop-place-init c = record { index = c.new-index.ensures.index; told = c.new-index.ensures.empty }

pub loop-place-preserved : goal.loop-place-preserved
loop-place-preserved c = record {
  index = c.in_ok-add_all.ensures.index;
  told = index_more c.args.components.now c.loop-place.place c.index-components-place.result c.loop-place.index c.add_all.new.self
      (map word_at c.as_slice-in-loop-place.result.now) c.loop-place-test.true c.index-components-place.is
      (ap (map word_at) c.as_slice-in-loop-place.ensures.value ∙ (c.in_ok-words.ensures ∙ ap (flat_map enumerators_of_item) c.as_slice.ensures))
      c.loop-place.invariant.told c.in_ok-add_all.ensures.declarer;
}

pub returns : goal.returns
returns c = λ text place.
    c.loop-place.invariant.told text place
    ∙ ap (λ cs. is_enumerator (interface_at (component_trees cs) place) text) (take_all c.loop-place.place c.args.components.now c.loop-place-test.false)
