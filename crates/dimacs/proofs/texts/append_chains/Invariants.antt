use Rattle.std.proofs.Common.{◌≡◌, ◌++◌, drop}
use Rattle.dimacs.specs.SolverTexts.{chain_lines}
use Rattle.dimacs.proofs.texts.append_chains.Given as goal

-- what is still to come
abbrev pub invariant-loop-chain : goal.invariant-loop-chain
invariant-loop-chain l = l.text ++ chain_lines l.number (drop l.chain-index l.log) ≡ l.fn.text ++ chain_lines l.fn.first l.log
