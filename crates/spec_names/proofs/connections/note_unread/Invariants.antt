use Rattle.std.proofs.Common.{◌≡◌, map, take, drop}
use Rattle.oss_base.specs.declared.fault.FaultKind.TheVariants.{F13}
use Rattle.spec_names.specs.NamesFaults.{lacking, use_start}
use Rattle.spec_names.specs.Refinements.{names_around, is_read_by}
use Rattle.spec_names.specs.Noting.{noted}
use Rattle.spec_names.specs.Uses.{use_at}
use Rattle.spec_names.proofs.ConnectionFacts.{sees_use}
use Rattle.spec_names.proofs.connections.note_unread.Given as goal

abbrev pub invariant-loop-name : goal.invariant-loop-name
invariant-loop-name l = record {
  seen : l.seen.items ≡ map (sees_use (names_around l.visible.surroundings)) (take l.name-index l.uses);
  noted : noted (lacking F13 (is_read_by (names_around l.visible.surroundings)) use_start
      (drop l.name-index (map use_at l.uses))) l.first
      ≡ noted (lacking F13 (is_read_by (names_around l.visible.surroundings)) use_start (map use_at l.uses)) l.fn.first;
}
