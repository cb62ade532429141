use Rattle.std.proofs.Common.{◌≡◌, ◌++◌, drop}
use Rattle.state_coding.specs.States.{state_values}
use Rattle.state_coding.proofs.states.decode.Given as goal

abbrev pub invariant-loop-i : goal.invariant-loop-i
invariant-loop-i l = l.valuation ++ state_values l.model (drop l.i l.ports) (drop l.i l.bits) ≡ state_values l.model l.ports l.bits
