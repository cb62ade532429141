use Rattle.std.proofs.Common.{map, codes}
use Rattle.std.specs.List.{flat_map}
use Rattle.oss_syntax.specs.Trees.{refinement_item_tree}
use Rattle.oss_printer.specs.Canonical.{refinement_item_text}
use Rattle.oss_printer.proofs.Appends.{on_ok, more}
use Rattle.oss_printer.proofs.printing.append_refinement.Goals as goal

pub returns-in_ok-append-in-Some : goal.returns-in_ok-append-in-Some
returns-in_ok-append-in-Some c =
    rw c.in-Some.is
    (on_ok c.append_refinement_items.result _ _
    (more c.args.text.now c.append.new.self c.append_refinement_items.new.text (codes "  REFINEMENT\n")
    (flat_map refinement_item_text (map refinement_item_tree c.in-Some.items)) c.in_ok-append-in-Some.ensures.ok)
    (rw c.as_slice.ensures at c.append_refinement_items.ensures))
