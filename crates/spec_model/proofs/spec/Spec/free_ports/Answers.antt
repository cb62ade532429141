use Rattle.std.proofs.Common.{◌∙◌}
use Rattle.spec_model.proofs.FreeShown.{shown_free}
use Rattle.spec_model.proofs.spec.Spec.free_ports.Goals as goal

pub returns : goal.returns
returns c = shown_free c.args.self.now c.args.c c.as_slice.result.now c.shown.result (c.as_slice.ensures.value ∙ c.in_ok-targets.ensures) c.shown.ensures
