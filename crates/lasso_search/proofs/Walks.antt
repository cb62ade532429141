-- A walk along a list that puts a piece for each element at the end of what it makes.
use Rattle.std.proofs.Common.{◌≡◌, ℕ, ◌+◌, ◌<◌, ◌≤◌, List, [], ◌++◌, length, get_or, drop, sym, ap, ◌∙◌, append_assoc}
use Rattle.std.specs.List.{flat_map}
use Rattle.std.proofs.lemmas.List.{drop_more, drop_all}
use Rattle.cnf.proofs.ModelLaws.{append_nil}

pub walk_on : {X A : Type 0} (f : X → List A) (made now whole : List A) (xs : List X) (i : ℕ) (d : X) → i < length xs
    → made ++ flat_map f (drop i xs) ≡ whole → now ≡ made ++ f (get_or xs i d) → now ++ flat_map f (drop (i + 1) xs) ≡ whole
walk_on f made now whole xs i d h e en =
    ap (λ l. l ++ flat_map f (drop (i + 1) xs)) en
    ∙ (append_assoc made (f (get_or xs i d)) (flat_map f (drop (i + 1) xs)) ∙ (ap (λ l. made ++ flat_map f l) (sym (drop_more xs i d h)) ∙ e))

pub walk_done : {X A : Type 0} (f : X → List A) (made whole : List A) (xs : List X) (i : ℕ) → length xs ≤ i
    → made ++ flat_map f (drop i xs) ≡ whole → made ≡ whole
walk_done f made whole xs i h e = sym (append_nil made) ∙ (ap (λ l. made ++ flat_map f l) (sym (drop_all i xs h)) ∙ e)
