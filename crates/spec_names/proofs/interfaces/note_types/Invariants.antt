use Rattle.std.proofs.Common.{◌≡◌, drop}
use Rattle.std.specs.List.{flat_map}
use Rattle.spec_names.specs.Interfaces.{enumerator_faults}
use Rattle.spec_names.specs.Noting.{noted}
use Rattle.spec_names.proofs.interfaces.note_types.Given as goal

abbrev pub invariant-loop-item : goal.invariant-loop-item
invariant-loop-item l = noted (flat_map enumerator_faults (drop l.item-index l.items)) l.first ≡ noted (flat_map enumerator_faults l.items) l.fn.first
