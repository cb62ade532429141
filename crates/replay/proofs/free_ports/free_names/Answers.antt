use Rattle.std.proofs.Common.{◌≡◌, List, ℕ, ◌∙◌, ap, subst, map, IfOk}
use Rattle.spec_model.specs.Architecture.{free_targets}
use Rattle.replay.specs.Reading.{free_text}
use Rattle.replay.proofs.FreeTexts.{shown_texts}
use Rattle.replay.proofs.free_ports.free_names.Goals as goal

pub returns : goal.returns
returns c =
    subst (λ (list : List (List ℕ)). IfOk c.names_of.result (λ names. names ≡ list))
    (ap (map (free_text c.args.spec.now c.args.c)) c.as_slice.ensures
    ∙ shown_texts c.args.spec.now c.args.c (free_targets c.args.spec.now c.args.c) c.in_ok-free.free c.in_ok-free.ensures)
    c.names_of.ensures
