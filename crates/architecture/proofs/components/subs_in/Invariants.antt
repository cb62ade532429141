use Rattle.std.proofs.Common.{[]}
use Rattle.architecture.specs.Assembling.{sub_in}
use Rattle.architecture.proofs.Building.{Put}
use Rattle.architecture.proofs.components.subs_in.Given as goal

abbrev pub invariant-loop-item : goal.invariant-loop-item
invariant-loop-item l = Put (sub_in l.names) l.items [] l.subs l.item-index
