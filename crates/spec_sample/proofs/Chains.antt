-- Texts of a chain that grow by its next component.
use Rattle.std.proofs.Common.{◌≡◌, ℕ, ◌+◌, List, [], ◌∷◌, ◌++◌, sym, ap, ◌∙◌, append_assoc, arith}
use Rattle.std.specs.List.{flat_map, range_with_len}
use Rattle.std.proofs.lemmas.List.{map-id, flat_map_more}
use Rattle.std.proofs.lemmas.List.FromFn.{map-range_with_len_more}

-- one number more
range_more : (k : ℕ) → range_with_len 1 (k + 1) ≡ range_with_len 1 k ++ (k + 1) ∷ []
range_more k =
    sym (map-id (range_with_len 1 (k + 1)))
    ∙ map-range_with_len_more (λ (x : ℕ). x) 1 k (k + 1) (omega arith)
    ∙ ap (λ xs. xs ++ (k + 1) ∷ []) (map-id (range_with_len 1 k))

-- one component more
pub chain_more : (f : ℕ → List ℕ) (old now new : List ℕ) (k : ℕ) → now ≡ old ++ flat_map f (range_with_len 1 k)
    → new ≡ now ++ f (k + 1) → new ≡ old ++ flat_map f (range_with_len 1 (k + 1))
chain_more f old now new k e next =
    next
    ∙ ap (λ t. t ++ f (k + 1)) e
    ∙ flat_map_more f old (range_with_len 1 k) (k + 1)
    ∙ ap (λ xs. old ++ flat_map f xs) (sym (range_more k))

-- two pieces, one after the other
pub joined : (old mid new a b : List ℕ) → mid ≡ old ++ a → new ≡ mid ++ b → new ≡ old ++ (a ++ b)
joined old mid new a b e f = f ∙ ap (λ t. t ++ b) e ∙ append_assoc old a b
