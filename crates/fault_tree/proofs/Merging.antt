-- Two rising lists merged into one.
use Rattle.std.proofs.Common.{◌≡◌, ℕ, ◌-◌, ◌<◌, ◌≤◌, ◌⊎◌, inl, inr, List, [], ◌∷◌, ◌++◌, length, take, drop, refl, sym, ap, ◌∙◌, arith, subst, append_assoc}
use Rattle.std.specs.Prelude.{◌==◌, nat_lt, if◌then◌else◌, Contains}
use Rattle.std.proofs.lemmas.List.{append-nil, take_rest, nil_from_length, length-drop}
use Rattle.std.proofs.lemmas.Bool.{cases_lt, cond_both, ltb-true, ltb-false, eqb-true, eqb-false}
use Rattle.fault_tree.specs.Leaves.{IsRising}
use Rattle.fault_tree.specs.Forming.{merged}
use Rattle.fault_tree.proofs.Elements.{in_head, in_tail, in_cases, in_none, rising_tail, rising_head, rising_cons, rising_least}

-- ---- the end of the code's loop

pub merged_none : (xs : List ℕ) → merged xs [] ≡ xs
merged_none [] = refl
merged_none (x ∷ xs) = refl

-- past its end a list has no rest
pub rest_none : (xs : List ℕ) (i : ℕ) → length xs ≤ i → drop i xs ≡ []
rest_none xs i past = nil_from_length (drop i xs) (omega (arith, length-drop i xs))

-- one of the lists is done, and the rests are appended
pub merged_end : (xs ys whole so_far first second : List ℕ) (i j : ℕ) → (length xs ≤ i) ⊎ (length ys ≤ j)
    → first ≡ so_far ++ take (length xs - i) (drop i xs) → second ≡ first ++ take (length ys - j) (drop j ys)
    → so_far ++ merged (drop i xs) (drop j ys) ≡ whole → second ≡ whole
merged_end xs ys whole so_far first second i j done e e' is =
    e' ∙ ap (λ (l : List ℕ). l ++ take (length ys - j) (drop j ys)) e
    ∙ ap (λ (l : List ℕ). (so_far ++ l) ++ take (length ys - j) (drop j ys)) (take_rest xs i)
    ∙ ap (λ (l : List ℕ). (so_far ++ drop i xs) ++ l) (take_rest ys j)
    ∙ elim done [
      | inl past ↦
          let none : drop i xs ≡ [] = rest_none xs i past in
          append_assoc so_far (drop i xs) (drop j ys) ∙ ap (λ (l : List ℕ). so_far ++ (l ++ drop j ys)) none
          ∙ ap (λ (l : List ℕ). so_far ++ merged l (drop j ys)) (sym none) ∙ is
      | inr past ↦
          let none : drop j ys ≡ [] = rest_none ys j past in
          ap (λ (l : List ℕ). (so_far ++ drop i xs) ++ l) none ∙ append-nil (so_far ++ drop i xs)
          ∙ ap (λ (l : List ℕ). so_far ++ l) (sym (merged_none (drop i xs)))
          ∙ ap (λ (l : List ℕ). so_far ++ merged (drop i xs) l) (sym none) ∙ is
    ]

-- ---- its numbers

with_has : (x : ℕ) (xs : List ℕ) → ((ys : List ℕ) (z : ℕ) → Contains (merged xs ys) z → Contains xs z ⊎ Contains ys z)
    → (ys : List ℕ) (z : ℕ) → Contains (merged (x ∷ xs) ys) z → Contains (x ∷ xs) z ⊎ Contains ys z
with_has x xs rest [] z at = inl at
with_has x xs rest (y ∷ ys) z at =
    (cond_both (nat_lt x y) (x ∷ merged xs (y ∷ ys)) (if x == y then x ∷ merged xs ys else y ∷ merged (x ∷ xs) ys)
    (λ l. Contains l z → Contains (x ∷ xs) z ⊎ Contains (y ∷ ys) z)
    (λ _ at. elim (in_cases x z (merged xs (y ∷ ys)) at) [
      | inl first ↦ inl (subst (Contains (x ∷ xs)) first (in_head x xs))
      | inr later ↦ elim (rest (y ∷ ys) z later) [ inl left ↦ inl (in_tail x z xs left) | inr right ↦ inr right ]
    ])
    (λ _. cond_both (x == y) (x ∷ merged xs ys) (y ∷ merged (x ∷ xs) ys)
    (λ l. Contains l z → Contains (x ∷ xs) z ⊎ Contains (y ∷ ys) z)
    (λ _ at. elim (in_cases x z (merged xs ys) at) [
      | inl first ↦ inl (subst (Contains (x ∷ xs)) first (in_head x xs))
      | inr later ↦ elim (rest ys z later) [ inl left ↦ inl (in_tail x z xs left) | inr right ↦ inr (in_tail y z ys right) ]
    ])
    (λ _ at. elim (in_cases y z (merged (x ∷ xs) ys) at) [
      | inl first ↦ inr (subst (Contains (y ∷ ys)) first (in_head y ys))
      | inr later ↦ elim (with_has x xs rest ys z later) [ inl left ↦ inl left | inr right ↦ inr (in_tail y z ys right) ]
    ]))) at

pub merged_has : (xs ys : List ℕ) (z : ℕ) → Contains (merged xs ys) z → Contains xs z ⊎ Contains ys z
merged_has [] ys z at = inr at
merged_has (x ∷ xs) ys z at = with_has x xs (merged_has xs) ys z at

with_keeps : (x : ℕ) (xs : List ℕ) → ((ys : List ℕ) (z : ℕ) → Contains xs z ⊎ Contains ys z → Contains (merged xs ys) z)
    → (ys : List ℕ) (z : ℕ) → Contains (x ∷ xs) z ⊎ Contains ys z → Contains (merged (x ∷ xs) ys) z
with_keeps x xs rest [] z either = elim either [ inl left ↦ left | inr right ↦ absurd (in_none z right) ]
with_keeps x xs rest (y ∷ ys) z either =
    cond_both (nat_lt x y) (x ∷ merged xs (y ∷ ys)) (if x == y then x ∷ merged xs ys else y ∷ merged (x ∷ xs) ys)
    (λ l. Contains l z)
    (λ _. elim either [
      | inl left ↦ elim (in_cases x z xs left) [
        | inl first ↦ subst (Contains (x ∷ merged xs (y ∷ ys))) first (in_head x (merged xs (y ∷ ys)))
        | inr later ↦ in_tail x z (merged xs (y ∷ ys)) (rest (y ∷ ys) z (inl later))
      ]
      | inr right ↦ in_tail x z (merged xs (y ∷ ys)) (rest (y ∷ ys) z (inr right))
    ])
    (λ _. cond_both (x == y) (x ∷ merged xs ys) (y ∷ merged (x ∷ xs) ys) (λ l. Contains l z)
    (λ same. elim either [
      | inl left ↦ elim (in_cases x z xs left) [
        | inl first ↦ subst (Contains (x ∷ merged xs ys)) first (in_head x (merged xs ys))
        | inr later ↦ in_tail x z (merged xs ys) (rest ys z (inl later))
      ]
      | inr right ↦ elim (in_cases y z ys right) [
        | inl first ↦ subst (Contains (x ∷ merged xs ys)) (eqb-true x y same ∙ first) (in_head x (merged xs ys))
        | inr later ↦ in_tail x z (merged xs ys) (rest ys z (inr later))
      ]
    ])
    (λ _. elim either [
      | inl left ↦ in_tail y z (merged (x ∷ xs) ys) (with_keeps x xs rest ys z (inl left))
      | inr right ↦ elim (in_cases y z ys right) [
        | inl first ↦ subst (Contains (y ∷ merged (x ∷ xs) ys)) first (in_head y (merged (x ∷ xs) ys))
        | inr later ↦ in_tail y z (merged (x ∷ xs) ys) (with_keeps x xs rest ys z (inr later))
      ]
    ]))

pub merged_keeps : (xs ys : List ℕ) (z : ℕ) → Contains xs z ⊎ Contains ys z → Contains (merged xs ys) z
merged_keeps [] ys z either = elim either [ inl left ↦ absurd (in_none z left) | inr right ↦ right ]
merged_keeps (x ∷ xs) ys z either = with_keeps x xs (merged_keeps xs) ys z either

with_rising : (x : ℕ) (xs : List ℕ) → IsRising (x ∷ xs) → ((ys : List ℕ) → IsRising ys → IsRising (merged xs ys))
    → (ys : List ℕ) → IsRising ys → IsRising (merged (x ∷ xs) ys)
with_rising x xs up rest [] up' = up
with_rising x xs up rest (y ∷ ys) up' =
    cond_both (nat_lt x y) (x ∷ merged xs (y ∷ ys)) (if x == y then x ∷ merged xs ys else y ∷ merged (x ∷ xs) ys) IsRising
    (λ less. rising_cons x (merged xs (y ∷ ys))
    (λ z at. elim (merged_has xs (y ∷ ys) z at) [
      | inl left ↦ rising_head x xs up z left
      | inr right ↦ omega (arith, ltb-true x y less, rising_least y ys up' z right)
    ]) (rest (y ∷ ys) up'))
    (λ not_less. cond_both (x == y) (x ∷ merged xs ys) (y ∷ merged (x ∷ xs) ys) IsRising
    (λ same. rising_cons x (merged xs ys)
    (λ z at. elim (merged_has xs ys z at) [
      | inl left ↦ rising_head x xs up z left
      | inr right ↦ omega (arith, eqb-true x y same, rising_head y ys up' z right)
    ]) (rest ys (rising_tail y ys up')))
    (λ other. rising_cons y (merged (x ∷ xs) ys)
    (λ z at. elim (merged_has (x ∷ xs) ys z at) [
      | inl left ↦
          let apart : x ≡ y → ⊥ = eqb-false x y other in
          let below : y < x = elim (cases_lt y x) [
            | inl lower ↦ lower
            | inr past ↦ absurd (apart (omega (arith, past, ltb-false x y not_less)))
          ] in
          omega (arith, below, rising_least x xs up z left)
      | inr right ↦ rising_head y ys up' z right
    ]) (with_rising x xs up rest ys (rising_tail y ys up'))))

pub merged_rising : (xs ys : List ℕ) → IsRising xs → IsRising ys → IsRising (merged xs ys)
merged_rising [] ys up up' = up'
merged_rising (x ∷ xs) ys up up' = with_rising x xs up (λ zs up''. merged_rising xs zs (rising_tail x xs up) up'') ys up'
