use Rattle.std.proofs.Common.{◌≡◌, map, ap, ◌∙◌}
use Rattle.oss_base.specs.declared.fault.FaultKind.TheVariants.{F13}
use Rattle.spec_names.specs.NamesFaults.{site, start_of, use_start}
use Rattle.spec_names.specs.Noting.{noted, none_if}
use Rattle.spec_names.specs.Refinements.{names_around, sees_in, is_read_in, is_read_by}
use Rattle.spec_names.specs.Uses.{use_at, word_of_use}
use Rattle.spec_names.specs.Words.{word_at}
use Rattle.spec_names.proofs.Building.{mapped_more}
use Rattle.spec_names.proofs.ConnectionFacts.{sees_use, knows_seen}
use Rattle.spec_names.proofs.NotingFacts.{lacking_map_step}
use Rattle.spec_names.proofs.TableLemmas.{table_along}
use Rattle.spec_names.proofs.connections.note_unread.Goals as goal

pub is_seen-is_seen-requires-clause-seen : goal.is_seen-is_seen-requires-clause-seen
is_seen-is_seen-requires-clause-seen c =
    knows_seen (names_around c.args.visible.surroundings) c.args.uses.now c.in_ok-table.table c.as_slice-in-loop-name.result.now c.loop-name.name-index
    c.word-word.result.now
    (table_along (map word_at c.as_slice.result.now) (map word_of_use c.args.uses.now) c.in_ok-table.table
    (ap (map word_at) c.as_slice.ensures.value ∙ c.in_ok-words.ensures) c.in_ok-table.ensures)
    (c.as_slice-in-loop-name.ensures.value ∙ c.loop-name.invariant.seen)

pub loop-name-preserved : goal.loop-name-preserved
loop-name-preserved c =
    let s = names_around c.args.visible.surroundings in
    let same : c.is_seen-is_seen.result ≡ sees_use s c.name-item.result = c.is_seen-is_seen.ensures ∙ ap (λ w. sees_in s w.text) c.word-word.ensures in
    record {
      seen =
          mapped_more (sees_use s) c.args.uses.now c.loop-name.seen.items c.push.new.self.items c.loop-name.name-index c.name-item.result
          c.is_seen-is_seen.result
          c.loop-name-test.true c.name-item.is same c.in_ok-push.ensures.items c.loop-name.invariant.seen;
      noted =
          lacking_map_step F13 (is_read_by s) use_start use_at c.args.uses.now c.loop-name.name-index c.name-item.result c.is_read-is_read.result
          c.loop-name.first c.note_unless.new.first _
          c.loop-name-test.true c.name-item.is (c.is_read-is_read.ensures ∙ ap (is_read_in s (use_at c.name-item.result)) same)
          (c.note_unless.ensures ∙ ap (λ w. noted (none_if c.is_read-is_read.result (site F13 (start_of w))) c.loop-name.first) c.word-word.ensures)
          c.loop-name.invariant.noted;
    }
