use Rattle.std.proofs.Common.{◌++◌, ◌∙◌, ap}
use Rattle.std.specs.List.{flat_map}
use Rattle.std.proofs.lemmas.List.{take_all}
use Rattle.oss_printer.specs.Lines.{item_line}
use Rattle.oss_printer.proofs.Lines.{item_lines}
use Rattle.oss_printer.proofs.printing.append_items.Goals as goal

pub returns : goal.returns
returns c =
    c.loop-item.invariant
    ∙ ap (λ t. c.args.text.now ++ t)
    (ap (flat_map item_line) (take_all c.loop-item.item-index c.args.items.now c.loop-item-test.false) ∙ item_lines c.args.items.now)
