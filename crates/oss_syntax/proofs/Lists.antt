use Rattle.std.proofs.Common.{◌≡◌, ◌↔◌, ◌∙◌, List, [], ◌∷◌, map, ap, sym, refl}

-- one function after another along a list
map_map : {A B C : Type 0} → (f : B → C) → (g : A → B) → (xs : List A) → map f (map g xs) ≡ map (λ (x : A). f (g x)) xs
map_map f g [] = refl
map_map f g (x ∷ xs) = ap (λ ys. f (g x) ∷ ys) (map_map f g xs)

-- what tells whether two lists are equal, each taken through both functions at once, tells it of the
-- functions one after another
pub along_both : {A B C : Type 0} → (f : B → C) → (g : A → B) → (xs ys xs' ys' : List A) → (P : Type 0)
    → xs' ≡ xs → ys' ≡ ys
    → P ↔ (map (λ (x : A). f (g x)) xs' ≡ map (λ (x : A). f (g x)) ys')
    → P ↔ (map f (map g xs) ≡ map f (map g ys))
along_both {A} f g xs ys xs' ys' P xs_is ys_is told =
    let both = λ (x : A). f (g x) in
    let left : map f (map g xs) ≡ map both xs' = map_map f g xs ∙ ap (map both) (sym xs_is) in
    let right : map f (map g ys) ≡ map both ys' = map_map f g ys ∙ ap (map both) (sym ys_is) in
    (λ p. left ∙ told.0 p ∙ sym right, λ same. told.1 (sym left ∙ same ∙ right))
