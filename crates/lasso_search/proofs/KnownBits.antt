-- The bits of coded layers are of variables that are there.
use Rattle.std.proofs.Common.{ℕ, ◌<◌, List, [], ◌∷◌, ◌++◌, reverse, sym, subst}
use Rattle.std.specs.Prelude.{All}
use Rattle.std.specs.List.{flat_map}
use Rattle.std.proofs.lemmas.List.{reverse-append}
use Rattle.std.proofs.lemmas.List.Elements.{All-nil, All-head, All-tail, All-push, All-append}
use Rattle.port_types.specs.declared.types.PortType.{PortType}
use Rattle.cnf.specs.declared.lit.Lit.{Lit}
use Rattle.state_coding.specs.States.{HasBits}
use Rattle.tableau.specs.TableauStates.{ClosureOverPorts}
use Rattle.tableau.specs.Copies.{LayerLits, IsCodedLayer}
use Rattle.lasso_search.specs.Paths.{bits_of_layers}

abbrev Known : ℕ → List Lit → Type 0
Known n lits = All (λ (lit : Lit). lit.var < n) lits

turned_known : (n : ℕ) (row : List Lit) → Known n row → Known n (reverse row)
turned_known n [] h = All-nil (λ (lit : Lit). lit.var < n)
turned_known n (x ∷ row) h =
    subst (Known n) (sym (reverse-append (x ∷ []) row))
    (All-push (λ (lit : Lit). lit.var < n) (reverse row) x (turned_known n row (All-tail (λ (lit : Lit). lit.var < n) x row h))
    (All-head (λ (lit : Lit). lit.var < n) x row h))

state_known : (n : ℕ) (ports : List PortType) (bits : List (List Lit)) → HasBits n ports bits → Known n (flat_map reverse bits)
state_known n [] [] h = All-nil (λ (lit : Lit). lit.var < n)
state_known n [] (row ∷ bits) h = absurd h
state_known n (kind ∷ ports) [] h = absurd h
state_known n (kind ∷ ports) (row ∷ bits) h =
    All-append (λ (lit : Lit). lit.var < n) (reverse row) (flat_map reverse bits) (turned_known n row h.1) (state_known n ports bits h.2)

pub bits_known : (n : ℕ) (clauses : List (List Lit)) (t : ClosureOverPorts) (layers : List LayerLits) → All (IsCodedLayer n clauses t) layers
    → All (λ (lit : Lit). lit.var < n) (bits_of_layers layers)
bits_known n clauses t [] is = All-nil (λ (lit : Lit). lit.var < n)
bits_known n clauses t (layer ∷ layers) is =
    All-append (λ (lit : Lit). lit.var < n) (flat_map reverse layer.bits) (bits_of_layers layers)
    (state_known n t.ports layer.bits (All-head (IsCodedLayer n clauses t) layer layers is).now.shape)
    (bits_known n clauses t layers (All-tail (IsCodedLayer n clauses t) layer layers is))
