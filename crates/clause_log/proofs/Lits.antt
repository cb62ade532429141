-- literals: when two are the same, and which a list has
use Rattle.std.proofs.Common.{◌≡◌, ◌<◌, ◌+◌, ◌⊎◌, ℕ, Bool, true, false, not, List, [], ◌∷◌, ◌++◌, length, take, get_or, refl, sym, ◌∙◌, ap}
use Rattle.std.proofs.Common.{subst, inl, inr, arith}
use Rattle.std.specs.List.{Contains}
use Rattle.std.proofs.lemmas.Bool.{false≢true, true≢false, cases_eq}
use Rattle.std.proofs.lemmas.List.{take_more}
use Rattle.std.proofs.lemmas.List.Elements.{Contains-append_left, Contains-append_right, Contains-append_cases, Contains-push, Contains-push_cases}
use Rattle.cnf.specs.declared.lit.Lit.{Lit}
use Rattle.cnf.specs.Clauses.{opposite}

pub lit_same : (a b : Lit) → a.var ≡ b.var → a.positive ≡ b.positive → a ≡ b
lit_same a b e f = λ i. record { var = e i; positive = f i }

sign_cases : (a b : Bool) → (a ≡ b) ⊎ (a ≡ not b)
sign_cases true true = inl refl
sign_cases true false = inr refl
sign_cases false true = inr refl
sign_cases false false = inl refl

not_same : (b : Bool) → b ≡ not b → ⊥
not_same true e = true≢false e
not_same false e = false≢true e

not_twice : (b : Bool) → not (not b) ≡ b
not_twice true = refl
not_twice false = refl

pub opposite-opposite : (lit : Lit) → opposite (opposite lit) ≡ lit
opposite-opposite lit = lit_same (opposite (opposite lit)) lit refl (not_twice lit.positive)

pub opposite_differs : (lit : Lit) → lit ≡ opposite lit → ⊥
opposite_differs lit e = not_same lit.positive (ap (λ (l : Lit). l.positive) e)

-- two literals of one variable
pub same_var : (a b : Lit) → a.var ≡ b.var → (a ≡ b) ⊎ (a ≡ opposite b)
same_var a b e =
    elim (sign_cases a.positive b.positive) [
      | inl s ↦ inl (lit_same a b e s)
      | inr s ↦ inr (lit_same a (opposite b) e s)
    ]

pub lit_cases : (a b : Lit) → (a ≡ b) ⊎ (a ≡ b → ⊥)
lit_cases a b =
    elim (cases_eq a.var b.var) [
      | inl e ↦ elim (same_var a b e) [
        | inl same ↦ inl same
        | inr other ↦ inr (λ q. opposite_differs b (sym q ∙ other))
      ]
      | inr n ↦ inr (λ q. n (ap (λ (l : Lit). l.var) q))
    ]

abbrev pub no_lit : Lit
no_lit = record { var = 0; positive = false }

pub no_member : (lit : Lit) → Contains [] lit → ⊥
no_member lit h = omega (arith, h.1)

pub has_head : (x : Lit) (xs : List Lit) → Contains (x ∷ xs) x
has_head x xs = Contains-append_left (x ∷ []) xs x (Contains-push [] x)

pub has_tail : (x : Lit) (xs : List Lit) (lit : Lit) → Contains xs lit → Contains (x ∷ xs) lit
has_tail x xs lit h = Contains-append_right (x ∷ []) xs lit h

pub has_cases : (x : Lit) (xs : List Lit) (lit : Lit) → Contains (x ∷ xs) lit → (x ≡ lit) ⊎ Contains xs lit
has_cases x xs lit h =
    elim (Contains-append_cases (x ∷ []) xs lit h) [
      | inl here ↦ elim (Contains-push_cases [] x lit here) [
        | inl none ↦ absurd (no_member lit none)
        | inr e ↦ inl e
      ]
      | inr there ↦ inr there
    ]

-- whether a list has a literal can be decided
pub has_or_not : (xs : List Lit) (lit : Lit) → Contains xs lit ⊎ (Contains xs lit → ⊥)
has_or_not [] lit = inr (no_member lit)
has_or_not (x ∷ xs) lit =
    elim (lit_cases x lit) [
      | inl e ↦ inl (subst (λ (l : Lit). Contains (x ∷ xs) l) e (has_head x xs))
      | inr n ↦ elim (has_or_not xs lit) [
        | inl there ↦ inl (has_tail x xs lit there)
        | inr none ↦ inr (λ h. elim (has_cases x xs lit h) [ inl e ↦ n e | inr there ↦ none there ])
      ]
    ]

-- ---- one literal more of a list that is gone through

taken : (xs : List Lit) (i : ℕ) (d : Lit) → i < length xs → take (i + 1) xs ≡ take i xs ++ get_or xs i d ∷ []
taken xs i d h = take_more xs i d h

pub taken_cases : (xs : List Lit) (i : ℕ) (d lit : Lit) → i < length xs → Contains (take (i + 1) xs) lit
    → Contains (take i xs) lit ⊎ (get_or xs i d ≡ lit)
taken_cases xs i d lit h c = Contains-push_cases (take i xs) (get_or xs i d) lit (subst (λ (l : List Lit). Contains l lit) (taken xs i d h) c)

pub taken_old : (xs : List Lit) (i : ℕ) (d lit : Lit) → i < length xs → Contains (take i xs) lit
    → Contains (take (i + 1) xs) lit
taken_old xs i d lit h c = subst (λ (l : List Lit). Contains l lit) (sym (taken xs i d h)) (Contains-append_left (take i xs) (get_or xs i d ∷ []) lit c)

pub taken_new : (xs : List Lit) (i : ℕ) (d : Lit) → i < length xs → Contains (take (i + 1) xs) (get_or xs i d)
taken_new xs i d h = subst (λ (l : List Lit). Contains l (get_or xs i d)) (sym (taken xs i d h)) (Contains-push (take i xs) (get_or xs i d))
