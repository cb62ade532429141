use Rattle.std.proofs.Common.{◌≡◌, ◌++◌, take}
use Rattle.strong_components.specs.StrongSearch.{edges_from}
use Rattle.strong_components.proofs.strong.push_edges.Given as goal

abbrev pub invariant-loop-target : goal.invariant-loop-target
invariant-loop-target l = l.pending.items ≡ l.fn.pending.items ++ edges_from l.place (take l.target-index l.targets)
