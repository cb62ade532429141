use Rattle.std.proofs.Common.{◌++◌, ◌∙◌, ap}
use Rattle.std.specs.List.{flat_map}
use Rattle.std.proofs.lemmas.List.{take_all}
use Rattle.oss_printer.specs.Lines.{refinement_item_line}
use Rattle.oss_printer.proofs.Lines.{refinement_item_lines}
use Rattle.oss_printer.proofs.printing.append_refinement_items.Goals as goal

pub returns : goal.returns
returns c =
    c.loop-item.invariant
    ∙ ap (λ t. c.args.text.now ++ t)
    (ap (flat_map refinement_item_line) (take_all c.loop-item.item-index c.args.items.now c.loop-item-test.false) ∙ refinement_item_lines c.args.items.now)
