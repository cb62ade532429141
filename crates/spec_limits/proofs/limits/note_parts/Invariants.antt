use Rattle.std.proofs.Common.{◌≡◌, drop}
use Rattle.std.specs.List.{flat_map}
use Rattle.spec_names.specs.Noting.{noted}
use Rattle.spec_limits.specs.Counting.{component_parts_past}
use Rattle.spec_limits.proofs.limits.note_parts.Given as goal

abbrev pub invariant-loop-component : goal.invariant-loop-component
invariant-loop-component l =
    noted (flat_map component_parts_past (drop l.component-index l.components)) l.first ≡ noted (flat_map component_parts_past l.components) l.fn.first
