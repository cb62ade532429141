-- What follows from the definitions of layers and steps.

use Rattle.std.specs.Prelude.{◌≡◌, ℕ, ◌≤◌, List, ◌++◌}
use Rattle.cnf.specs.declared.lit.Lit.{Lit}
use Rattle.tableau.specs.TableauStates.{ClosureOverPorts}
use Rattle.tableau.specs.Copies.{LayerLits, IsCodedLayer}

-- A layer stays one where variables and clauses are added.
abbrev pub LayersStay : Type 0
LayersStay = (n m : ℕ) (older newer added : List (List Lit)) (t : ClosureOverPorts) (layer : LayerLits)
    → n ≤ m → newer ≡ older ++ added → IsCodedLayer n older t layer → IsCodedLayer m newer t layer
