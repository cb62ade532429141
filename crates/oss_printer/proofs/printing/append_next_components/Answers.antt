use Rattle.std.proofs.Common.{◌++◌, ◌∙◌, ap}
use Rattle.std.specs.List.{flat_map}
use Rattle.std.proofs.lemmas.List.{take_all}
use Rattle.oss_printer.specs.Lines.{next_component_line}
use Rattle.oss_printer.proofs.Lines.{component_lines}
use Rattle.oss_printer.proofs.printing.append_next_components.Goals as goal

pub returns : goal.returns
returns c =
    c.loop-component.invariant
    ∙ ap (λ t. c.args.text.now ++ t)
    (ap (flat_map next_component_line) (take_all c.loop-component.component-index c.args.components.now c.loop-component-test.false)
    ∙ component_lines c.args.components.now)
