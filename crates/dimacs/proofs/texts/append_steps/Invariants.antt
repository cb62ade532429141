use Rattle.std.proofs.Common.{◌≡◌, ◌++◌, take}
use Rattle.std.specs.List.{flat_map}
use Rattle.dimacs.specs.SolverTexts.{spaced_step}
use Rattle.dimacs.proofs.texts.append_steps.Given as goal

abbrev pub invariant-loop-step : goal.invariant-loop-step
invariant-loop-step l = l.text ≡ l.fn.text ++ flat_map spaced_step (take l.step-index l.steps)
