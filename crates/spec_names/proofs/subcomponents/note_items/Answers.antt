use Rattle.std.proofs.Common.{map, ap, ◌∙◌}
use Rattle.oss_base.specs.declared.fault.FaultKind.TheVariants.{F15, F20}
use Rattle.spec_names.specs.NamesFaults.{again, same_dotted, dotted_start}
use Rattle.spec_names.specs.Refinements.{names_around}
use Rattle.spec_names.specs.Words.{word_at, pair_at}
use Rattle.spec_names.specs.Noting.{noted}
use Rattle.spec_names.proofs.NotingFacts.{again_along}
use Rattle.spec_names.proofs.RefinementFacts.{items_noted}
use Rattle.spec_names.proofs.subcomponents.note_items.Goals as goal

pub returns : goal.returns
returns c =
    items_noted (names_around c.args.surroundings) c.args.items.now c.args.first.now c.note_parts.new.first c.note_words_again.new.first
    c.note_pairs_again.new.first c.note_words_again-2.new.first c.note_sources.new.first
    c.in_ok-note_parts.ensures
    (again_along F15 _ _ c.note_parts.new.first c.note_words_again.new.first (ap (map word_at) c.as_slice.ensures.value ∙ c.in_ok-own_targets.ensures)
    c.in_ok-note_words_again.ensures)
    (c.in_ok-note_pairs_again.ensures
    ∙ ap (λ ps. noted (again F15 same_dotted dotted_start ps) c.note_words_again.new.first)
    (ap (map pair_at) c.as_slice-2.ensures.value ∙ c.in_ok-sub_targets.ensures))
    (again_along F20 _ _ c.note_pairs_again.new.first c.note_words_again-2.new.first (ap (map word_at) c.as_slice-3.ensures.value ∙ c.in_ok-refined.ensures)
    c.in_ok-note_words_again-2.ensures)
    c.in_ok-note_sources.ensures
