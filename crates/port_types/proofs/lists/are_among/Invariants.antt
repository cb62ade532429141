use Rattle.std.proofs.Common.{take}
use Rattle.std.specs.Prelude.{All, Contains}
use Rattle.port_types.proofs.lists.are_among.Given as goal

-- the names so far are among the others
abbrev pub invariant-loop-name : goal.invariant-loop-name
invariant-loop-name l = All (Contains l.others) (take l.name-index l.names)
