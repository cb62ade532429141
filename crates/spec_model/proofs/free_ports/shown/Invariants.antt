use Rattle.spec_model.specs.TargetKeys.{shown_port}
use Rattle.spec_model.proofs.Building.{Built}
use Rattle.spec_model.proofs.free_ports.shown.Given as goal

abbrev pub invariant-loop-target : goal.invariant-loop-target
invariant-loop-target l = Built (shown_port l.spec l.c) l.targets l.free l.target-index
