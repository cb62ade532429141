use Rattle.std.proofs.Common.{map, filter_map, ap, ◌∙◌}
use Rattle.oss_base.specs.declared.fault.FaultKind.TheVariants.{F12}
use Rattle.spec_names.specs.declared.words.RefinementWord.TheVariants as words
use Rattle.spec_names.specs.NamesFaults.{again, same_name, start_of}
use Rattle.spec_names.specs.Refinements.{item_faults}
use Rattle.spec_names.specs.Words.{word_at, word_of_part}
use Rattle.spec_names.proofs.NotingFacts.{again_along, noted_two}
use Rattle.spec_names.proofs.subcomponents.refinement_tables.Goals as goal

pub returns-clause-noted : goal.returns-clause-noted
returns-clause-noted c =
    noted_two (again F12 same_name start_of (filter_map (word_of_part words.Sub) c.args.items.now))
    (item_faults (record {
      components = c.args.components.now;
      own = c.args.own.now;
      subs = record
          { subs = c.in_ok-subs.subs; components = c.in_ok-places.places };
      interfaces = c.args.interfaces.now;
    }) c.args.items.now)
    c.args.first.now c.note_again.new.first c.note_items.new.first
    (again_along F12 _ _ c.args.first.now c.note_again.new.first (ap (map word_at) c.as_slice-2.ensures.value ∙ c.in_ok-words.ensures) c.note_again.ensures)
    c.in_ok-note_items.ensures
