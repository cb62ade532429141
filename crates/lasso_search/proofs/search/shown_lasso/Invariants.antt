use Rattle.std.proofs.Common.{◌≡◌, map, take}
use Rattle.tableau.specs.Copies.{LayerLits}
use Rattle.state_coding.specs.States.{state_values}
use Rattle.lasso_search.proofs.search.shown_lasso.Given as goal

abbrev pub invariant-loop-layer : goal.invariant-loop-layer
invariant-loop-layer l = l.states.items ≡ map (λ (layer : LayerLits). state_values l.model l.ports layer.bits) (take l.layer-index l.layers)
