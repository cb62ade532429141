use Rattle.std.proofs.Common.{◌≡◌, ◌++◌, take}
use Rattle.std.specs.List.{flat_map, zip}
use Rattle.replay.specs.LassoBlocks.{port_value_text}
use Rattle.replay.proofs.block.append_values.Given as goal

abbrev pub invariant-loop-i : goal.invariant-loop-i
invariant-loop-i l = l.text ≡ l.fn.text ++ flat_map port_value_text (take l.i (zip l.ports l.values))
