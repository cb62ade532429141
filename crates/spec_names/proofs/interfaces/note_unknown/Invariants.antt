use Rattle.std.proofs.Common.{◌≡◌, map, drop}
use Rattle.oss_base.specs.declared.fault.FaultKind.TheVariants.{F13}
use Rattle.spec_names.specs.Interfaces.{is_known_in}
use Rattle.spec_names.specs.NamesFaults.{lacking, use_start}
use Rattle.spec_names.specs.Noting.{noted}
use Rattle.spec_names.specs.Uses.{use_at}
use Rattle.spec_names.proofs.interfaces.note_unknown.Given as goal

abbrev pub invariant-loop-name : goal.invariant-loop-name
invariant-loop-name l =
    noted (lacking F13 (is_known_in l.tables) use_start (drop l.name-index (map use_at l.uses))) l.first
    ≡ noted (lacking F13 (is_known_in l.tables) use_start (map use_at l.uses)) l.fn.first
