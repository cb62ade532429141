use Rattle.std.proofs.Common.{◌≡◌, ◌++◌, ◌+◌, drop}
use Rattle.dimacs.specs.SolverTexts.{given_lines}
use Rattle.dimacs.proofs.texts.append_all_given.Given as goal

-- what is still to come
abbrev pub invariant-loop-place : goal.invariant-loop-place
invariant-loop-place l = l.text ++ given_lines (l.place + 1) (drop l.place l.clauses) ≡ l.fn.text ++ given_lines 1 l.clauses
