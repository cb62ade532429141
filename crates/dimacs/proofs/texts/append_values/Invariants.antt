use Rattle.std.proofs.Common.{◌≡◌, ◌++◌, drop}
use Rattle.dimacs.specs.SolverTexts.{values_text}
use Rattle.dimacs.proofs.texts.append_values.Given as goal

-- what is still to come
abbrev pub invariant-loop-var : goal.invariant-loop-var
invariant-loop-var l = l.text ++ values_text l.var (drop l.var l.model) ≡ l.fn.text ++ values_text 0 l.model
