-- Which literals a list has, one element on.
use Rattle.std.proofs.Common.{◌≡◌, ◌<◌, ◌+◌, ◌⊎◌, ℕ, List, [], ◌∷◌, ◌++◌, length, take, get_or, Contains, sym, ap, ◌∙◌, subst, inl, inr, arith, false}
use Rattle.std.proofs.lemmas.List.{take_more, get_or_read, get_or_default}
use Rattle.std.proofs.lemmas.List.Elements.{Contains-append_left, Contains-push, Contains-push_cases}
use Rattle.cnf.specs.declared.lit.Lit.{Lit}
use Rattle.sat_core.specs.Search.{IsWithout}

abbrev pub any_lit : Lit
any_lit = record { var = 0; positive = false }

-- what a read of a place gives, at itself
pub self_read : (xs : List Lit) (i : ℕ) → i < length xs → get_or xs i any_lit ≡ get_or xs i (get_or xs i any_lit)
self_read xs i h = get_or_default xs i any_lit (get_or xs i any_lit) h

taken : (xs : List Lit) (i : ℕ) (x : Lit) → i < length xs → x ≡ get_or xs i x → take (i + 1) xs ≡ take i xs ++ x ∷ []
taken xs i x h e = take_more xs i any_lit h ∙ ap (λ (y : Lit). take i xs ++ y ∷ []) (sym (get_or_read xs i x h e any_lit))

pub no_lits : (m : Lit) → Contains [] m → ⊥
no_lits m h = omega (arith, h.1)

module _ (xs : List Lit) (i : ℕ) (x : Lit) (h : i < length xs) (e : x ≡ get_or xs i x) where
  pub more_cases : (m : Lit) → Contains (take (i + 1) xs) m → Contains (take i xs) m ⊎ (x ≡ m)
  more_cases m c = Contains-push_cases (take i xs) x m (subst (λ l. Contains l m) (taken xs i x h e) c)

  pub more_old : (m : Lit) → Contains (take i xs) m → Contains (take (i + 1) xs) m
  more_old m c = subst (λ l. Contains l m) (sym (taken xs i x h e)) (Contains-append_left (take i xs) (x ∷ []) m c)

  pub more_new : Contains (take (i + 1) xs) x
  more_new = subst (λ l. Contains l x) (sym (taken xs i x h e)) (Contains-push (take i xs) x)

  pub without-keep : (lit : Lit) (out : List Lit) → (x ≡ lit → ⊥) → IsWithout (take i xs) lit out
      → IsWithout (take (i + 1) xs) lit (out ++ x ∷ [])
  without-keep lit out n w m = (
    λ c. elim (Contains-push_cases out x m c) [
      | inl old ↦ (more_old m ((w m).0 old).0, ((w m).0 old).1)
      | inr new ↦ (subst (λ l. Contains (take (i + 1) xs) l) new more_new, λ q. n (new ∙ q))
    ],
    λ c. elim (more_cases m c.0) [
      | inl old ↦ Contains-append_left out (x ∷ []) m ((w m).1 (old, c.1))
      | inr new ↦ subst (λ l. Contains (out ++ x ∷ []) l) new (Contains-push out x)
    ],
  )

  pub without-drop : (lit : Lit) (out : List Lit) → x ≡ lit → IsWithout (take i xs) lit out
      → IsWithout (take (i + 1) xs) lit out
  without-drop lit out s w m = (
    λ c. (more_old m ((w m).0 c).0, ((w m).0 c).1),
    λ c. elim (more_cases m c.0) [
      | inl old ↦ (w m).1 (old, c.1)
      | inr new ↦ absurd (c.1 (sym new ∙ s))
    ],
  )
