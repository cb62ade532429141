use Rattle.std.proofs.Common.{◌≡◌, ◌++◌, take}
use Rattle.std.specs.List.{flat_map}
use Rattle.replay.specs.LassoBlocks.{state_line}
use Rattle.replay.proofs.block.append_states.Given as goal

abbrev pub invariant-loop-state : goal.invariant-loop-state
invariant-loop-state l = l.text ≡ l.fn.text ++ flat_map (state_line l.ports) (take l.state-index l.states)
