-- Layers under more variables.
use Rattle.std.proofs.Common.{◌≡◌, ℕ, ◌≤◌, ◌<◌, Bool, List, [], ◌∷◌, ◌++◌, length, refl, arith}
use Rattle.std.specs.Prelude.{All}
use Rattle.std.proofs.lemmas.List.Elements.{All-head, All-tail}
use Rattle.cnf.specs.declared.lit.Lit.{Lit}
use Rattle.cnf.specs.Clauses.{lit_holds, lit_values}
use Rattle.cnf.proofs.ModelLaws.{lit_holds-append}
use Rattle.state_coding.proofs.StateLaws.{bits_later, within_later}
use Rattle.tableau.specs.TableauStates.{ClosureOverPorts}
use Rattle.tableau.specs.Copies.{LayerLits, IsCodedLayer, layer_state}
use Rattle.tableau.proofs.Agreement.{values_more}

row_stays : (model more : List Bool) (row : List Lit) → All (λ lit. lit.var < length model) row
    → lit_values (model ++ more) row ≡ lit_values model row
row_stays model more [] h = refl
row_stays model more (x ∷ row) h =
    let first : lit_holds (model ++ more) x ≡ lit_holds model x = lit_holds-append model more x (All-head (λ lit. lit.var < length model) x row h) in
    let rest : lit_values (model ++ more) row ≡ lit_values model row = row_stays model more row (All-tail (λ lit. lit.var < length model) x row h) in
    λ j. first j ∷ rest j

pub layer_stays : (n : ℕ) (clauses : List (List Lit)) (model more : List Bool) (t : ClosureOverPorts) (layer : LayerLits)
    → IsCodedLayer n clauses t layer → n ≤ length model → layer_state (model ++ more) t layer ≡ layer_state model t layer
layer_stays n clauses model more t layer is le =
    let now = values_more model more t.ports layer.bits (bits_later n (length model) t.ports layer.bits le is.now.shape) in
    let next = values_more model more t.ports layer.next_bits (bits_later n (length model) t.ports layer.next_bits le is.next.shape) in
    let holding = row_stays model more layer.members (within_later n (length model) layer.members le is.members) in
    λ j. record { now = now j; next = next j; holding = holding j }
