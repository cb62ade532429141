use Rattle.std.proofs.Common.{◌≡◌, drop}
use Rattle.std.specs.List.{flat_map}
use Rattle.spec_names.specs.Containment.{inner_faults}
use Rattle.spec_names.specs.Noting.{noted}
use Rattle.spec_names.proofs.containment.note_inner.Given as goal

abbrev pub invariant-loop-item : goal.invariant-loop-item
invariant-loop-item l =
    noted (flat_map (inner_faults l.names l.ranks l.own) (drop l.item-index l.items)) l.first
    ≡ noted (flat_map (inner_faults l.names l.ranks l.own) l.items) l.fn.first
