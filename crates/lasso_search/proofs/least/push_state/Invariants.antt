use Rattle.std.proofs.Common.{◌≡◌, ◌++◌, drop, reverse}
use Rattle.std.specs.List.{flat_map}
use Rattle.lasso_search.proofs.least.push_state.Given as goal

abbrev pub invariant-loop-row : goal.invariant-loop-row
invariant-loop-row l = l.bits.items ++ flat_map reverse (drop l.row-index l.state) ≡ l.fn.bits.items ++ flat_map reverse l.state
