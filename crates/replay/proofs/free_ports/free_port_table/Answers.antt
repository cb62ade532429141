use Rattle.std.proofs.Common.{◌∙◌, ap, map}
use Rattle.spec_model.specs.declared.port.FreePort.{FreePort}
use Rattle.spec_model.specs.Architecture.{free_targets}
use Rattle.replay.specs.Reading.{free_text}
use Rattle.replay.proofs.FreeTexts.{shown_texts, shown_kinds}
use Rattle.replay.proofs.free_ports.free_port_table.Goals as goal

pub returns-clause-names : goal.returns-clause-names
returns-clause-names c =
    c.in_ok-names.ensures ∙ (ap (map (free_text c.args.spec.now c.args.c)) c.as_slice.ensures
    ∙ shown_texts c.args.spec.now c.args.c (free_targets c.args.spec.now c.args.c) c.in_ok-free.free c.in_ok-free.ensures)

pub returns-clause-kinds : goal.returns-clause-kinds
returns-clause-kinds c =
    c.in_ok-kinds.ensures ∙ (ap (map (λ (f : FreePort). f.kind)) c.as_slice-2.ensures
    ∙ shown_kinds c.args.spec.now c.args.c (free_targets c.args.spec.now c.args.c) c.in_ok-free.free c.in_ok-free.ensures)
