use Rattle.std.specs.Prelude.{◌≡◌, true, take}
use Rattle.spec_types.specs.TypeFaults as faults
use Rattle.spec_types.proofs.enumerations.Sightings.show_members.Given as goal

abbrev pub invariant-loop-name : goal.invariant-loop-name
invariant-loop-name l = faults.are_names_of l.others (take l.name-index l.names) ≡ true
