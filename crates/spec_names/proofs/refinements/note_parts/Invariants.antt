use Rattle.std.proofs.Common.{◌≡◌, drop}
use Rattle.std.specs.List.{flat_map}
use Rattle.spec_names.specs.Refinements.{names_around, faults_of_item}
use Rattle.spec_names.specs.Noting.{noted}
use Rattle.spec_names.proofs.refinements.note_parts.Given as goal

abbrev pub invariant-loop-item : goal.invariant-loop-item
invariant-loop-item l = noted (flat_map (faults_of_item (names_around l.surroundings)) (drop l.item-index l.items)) l.first ≡ noted
    (flat_map (faults_of_item (names_around l.surroundings)) l.items) l.fn.first
