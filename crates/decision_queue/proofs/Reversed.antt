-- Lists from their end, and links that lead on from the last member.
use Rattle.std.proofs.Common.{◌≡◌, ◌≢◌, ◌<◌, ◌≤◌, ◌+◌, ◌⊎◌, ℕ, List, [], ◌∷◌, ◌++◌, length, reverse, Option, Some, None, refl, sym, ◌∙◌, ap, subst, inl}
use Rattle.std.proofs.Common.{inr, arith, append_assoc}
use Rattle.std.specs.List.{Contains, slice_get}
use Rattle.std.proofs.lemmas.List.{reverse-append, reverse-reverse}
use Rattle.std.proofs.lemmas.List.Elements.{Contains-push_cases}
use Rattle.std.proofs.lemmas.Option.{none-some, same_Some}
use Rattle.clause_links.specs.Records.{GoesThrough}
use Rattle.clause_links.proofs.Members.{no_member, has_head, has_tail, has_middle}
use Rattle.clause_links.proofs.Walks.{not_behind}

pub reverse_cons : (x : ℕ) (xs : List ℕ) → reverse (x ∷ xs) ≡ reverse xs ++ x ∷ []
reverse_cons x xs = reverse-append (x ∷ []) xs

pub reverse_middle : (xs : List ℕ) (y : ℕ) (ys : List ℕ) → reverse (xs ++ y ∷ ys) ≡ reverse ys ++ y ∷ reverse xs
reverse_middle xs y ys =
    reverse-append xs (y ∷ ys) ∙ ap (λ (l : List ℕ). l ++ reverse xs) (reverse_cons y ys) ∙ append_assoc (reverse ys) (y ∷ []) (reverse xs)

pub reverse_last : (xs : List ℕ) (y : ℕ) → reverse (xs ++ y ∷ []) ≡ y ∷ reverse xs
reverse_last xs y = reverse_middle xs y []

-- what a list is whose reverse begins with a number, and whose reverse is empty
pub ends_from : (xs : List ℕ) (y : ℕ) (ys : List ℕ) → reverse xs ≡ y ∷ ys → xs ≡ reverse ys ++ y ∷ []
ends_from xs y ys e = sym (reverse-reverse xs) ∙ ap (λ (l : List ℕ). reverse l) e ∙ reverse_cons y ys

pub none_from : (xs : List ℕ) → reverse xs ≡ [] → xs ≡ []
none_from xs e = sym (reverse-reverse xs) ∙ ap (λ (l : List ℕ). reverse l) e

pub member_of_reverse : (xs : List ℕ) (y : ℕ) → Contains (reverse xs) y → Contains xs y
member_of_reverse [] y m = m
member_of_reverse (x ∷ xs) y m =
    elim (Contains-push_cases (reverse xs) x y (subst (λ (l : List ℕ). Contains l y) (reverse_cons x xs) m)) [
      | inl there ↦ has_tail x xs y (member_of_reverse xs y there)
      | inr e ↦ subst (λ (z : ℕ). Contains (x ∷ xs) z) e (has_head x xs)
    ]

-- a list by its first member
pub begins : (xs : List ℕ) (x : ℕ) → slice_get xs 0 ≡ Some x → (tail : List ℕ) × (xs ≡ x ∷ tail)
begins [] x e = absurd (none-some x e)
begins (y ∷ ys) x e = (ys, ap (λ (z : ℕ). z ∷ ys) (same_Some y x e))

-- links that lead on from the last member to one more
pub way_longer : (next other : ℕ → Option ℕ) (from : Option ℕ) (init : List ℕ) (last x : ℕ)
    → GoesThrough next from (init ++ last ∷ [])
    → (Contains (init ++ last ∷ []) x → ⊥) → other last ≡ Some x → other x ≡ None
    → ((y : ℕ) → y ≢ last → y ≢ x → other y ≡ next y)
    → GoesThrough other from (init ++ last ∷ x ∷ [])
way_longer next other from [] last x h absent here end same = (h.0, (here, end))
way_longer next other from (y ∷ ys) last x h absent here end same =
    let unlike_last : y ≢ last =
    λ e. not_behind next from y (ys ++ last ∷ []) h (subst (λ (z : ℕ). Contains (ys ++ last ∷ []) z) (sym e) (has_middle ys last [])) in
    let unlike : y ≢ x = λ e. absent (subst (λ (z : ℕ). Contains (y ∷ (ys ++ last ∷ [])) z) e (has_head y (ys ++ last ∷ []))) in (
      h.0,
      subst (λ (o : Option ℕ). GoesThrough other o (ys ++ last ∷ x ∷ [])) (sym (same y unlike_last unlike))
          (way_longer next other (next y) ys last x h.1 (λ m. absent (has_tail y (ys ++ last ∷ []) x m)) here end same),
    )
