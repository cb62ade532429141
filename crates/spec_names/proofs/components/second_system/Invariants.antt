use Rattle.std.proofs.Common.{◌≡◌, filter_map, drop, slice_get, if◌then◌else◌}
use Rattle.spec_names.specs.Components.{system_of}
use Rattle.spec_names.proofs.components.second_system.Given as goal

abbrev pub invariant-loop-component : goal.invariant-loop-component
invariant-loop-component l =
    slice_get (filter_map system_of (drop l.component-index l.components)) (if l.is_there then 0 else 1) ≡ slice_get (filter_map system_of l.components) 1
