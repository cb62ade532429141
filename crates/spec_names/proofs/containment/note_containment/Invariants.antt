use Rattle.std.proofs.Common.{◌≡◌, drop}
use Rattle.oss_syntax.specs.Trees.{component_trees}
use Rattle.spec_names.specs.Containment.{leads_word}
use Rattle.spec_names.specs.NamesFaults.{containment_from}
use Rattle.spec_names.specs.Noting.{noted}
use Rattle.spec_names.proofs.containment.note_containment.Given as goal

abbrev pub invariant-loop-own : goal.invariant-loop-own
invariant-loop-own l =
    noted (containment_from (leads_word l.names l.ranks) l.own (component_trees (drop l.own l.components))) l.first
    ≡ noted (containment_from (leads_word l.names l.ranks) 0 (component_trees l.components)) l.fn.first
