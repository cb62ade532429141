use Rattle.std.proofs.Common.{◌≡◌, ◌++◌, drop}
use Rattle.lasso_search.specs.Paths.{bits_of_layers}
use Rattle.lasso_search.proofs.least.bits_of.Given as goal

abbrev pub invariant-loop-layer : goal.invariant-loop-layer
invariant-loop-layer l = l.bits.items ++ bits_of_layers (drop l.layer-index l.layers) ≡ bits_of_layers l.layers
