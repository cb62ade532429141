-- Texts that are written piece by piece.
use Rattle.std.proofs.Common.{◌≡◌, ℕ, ◌+◌, ◌<◌, List, ◌∷◌, ◌++◌, length, drop, get_or, sym, ap, ◌∙◌}
use Rattle.std.proofs.lemmas.List.{append_assoc, at_drop_more}

-- one more piece of a text that has one for each item, by its number
pub piece_more : {X : Type 0} (whole : ℕ → List X → List ℕ) (piece : ℕ → X → List ℕ)
    → ((n : ℕ) (x : X) (xs : List X) → whole n (x ∷ xs) ≡ piece n x ++ whole (n + 1) xs)
    → (xs : List X) (i n : ℕ) (d : X) (text : List ℕ) → i < length xs
    → (text ++ piece n (get_or xs i d)) ++ whole (n + 1) (drop (i + 1) xs) ≡ text ++ whole n (drop i xs)
piece_more whole piece on xs i n d text l = append_assoc text (piece n (get_or xs i d)) (whole (n + 1) (drop (i + 1) xs))
    ∙ ap (λ (u : List ℕ). text ++ u) (sym (at_drop_more (whole n) xs i d l ∙ on n (get_or xs i d) (drop (i + 1) xs)))
