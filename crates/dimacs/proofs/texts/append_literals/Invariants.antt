use Rattle.std.proofs.Common.{◌≡◌, ◌++◌, take}
use Rattle.std.specs.List.{flat_map}
use Rattle.dimacs.specs.SolverTexts.{spaced_literal}
use Rattle.dimacs.proofs.texts.append_literals.Given as goal

abbrev pub invariant-loop-lit : goal.invariant-loop-lit
invariant-loop-lit l = l.text ≡ l.fn.text ++ flat_map spaced_literal (take l.lit-index l.lits)
