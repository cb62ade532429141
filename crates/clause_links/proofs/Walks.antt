-- The lists that links go through.
use Rattle.std.proofs.Common.{◌≡◌, ◌≢◌, ◌<◌, ◌≤◌, ◌+◌, ◌⊎◌, ℕ, zero, suc, false, List, [], ◌∷◌, ◌++◌, length, get_or, Option, Some, None, refl, sym, ◌∙◌}
use Rattle.std.proofs.Common.{ap, subst, inl, inr, arith, length-append, append_assoc}
use Rattle.std.specs.Prelude.{nat_eq}
use Rattle.std.specs.List.{Contains, IsDistinct, slice_get}
use Rattle.std.proofs.lemmas.Bool.{ne_eqb}
use Rattle.std.proofs.lemmas.List.Elements.{Contains-get_or, Contains-append_right, Contains-append_cases, recursion_from_All}
use Rattle.std.proofs.lemmas.Map.Keys.{IsDistinct-cons, IsDistinct-from_apart}
use Rattle.std.proofs.lemmas.Option.{none-some, same_Some}
use Rattle.clause_links.specs.Records.{GoesThrough, walk}
use Rattle.clause_links.proofs.Members.{Cut, cut_at, has_head, has_tail, has_middle}

-- links go through one list alone
pub one_way : (next : ℕ → Option ℕ) (from : Option ℕ) (xs ys : List ℕ) → GoesThrough next from xs
    → GoesThrough next from ys → xs ≡ ys
one_way next from [] [] h k = refl
one_way next from [] (y ∷ ys) h k = absurd (none-some y (sym h ∙ k.0))
one_way next from (x ∷ xs) [] h k = absurd (none-some x (sym k ∙ h.0))
one_way next from (x ∷ xs) (y ∷ ys) h k =
    let e : x ≡ y = same_Some x y (sym h.0 ∙ k.0) in
    let behind : GoesThrough next (next x) ys = subst (λ (z : ℕ). GoesThrough next (next z) ys) (sym e) k.1 in
    ap (λ (z : ℕ). z ∷ xs) e ∙ ap (λ (zs : List ℕ). y ∷ zs) (one_way next (next x) xs ys h.1 behind)

-- links that agree at each member go through the same list
pub same_way : (next other : ℕ → Option ℕ) (from : Option ℕ) (xs : List ℕ)
    → ((x : ℕ) → Contains xs x → other x ≡ next x) → GoesThrough next from xs → GoesThrough other from xs
same_way next other from [] same h = h
same_way next other from (x ∷ xs) same h = (
  h.0,
  subst (λ (o : Option ℕ). GoesThrough other o xs) (sym (same x (has_head x xs)))
      (same_way next other (next x) xs (λ y m. same y (has_tail x xs y m)) h.1),
)

-- behind a front of the list
pub way_on : (next : ℕ → Option ℕ) (from : Option ℕ) (front : List ℕ) (x : ℕ) (back : List ℕ)
    → GoesThrough next from (front ++ x ∷ back) → GoesThrough next (next x) back
way_on next from [] x back h = h.1
way_on next from (y ∷ ys) x back h = way_on next (next y) ys x back h.1

pub first_is : (next : ℕ → Option ℕ) (from : Option ℕ) (xs : List ℕ) → GoesThrough next from xs → from ≡ slice_get xs 0
first_is next from [] h = h
first_is next from (x ∷ xs) h = h.0

-- no member stands behind itself
pub not_behind : (next : ℕ → Option ℕ) (from : Option ℕ) (x : ℕ) (xs : List ℕ) → GoesThrough next from (x ∷ xs)
    → Contains xs x → ⊥
not_behind next from x xs h m =
    let cut : Cut xs x = cut_at xs x m in
    let along : GoesThrough next (next x) (cut.front ++ x ∷ cut.back) = subst (λ (l : List ℕ). GoesThrough next (next x) l) cut.is h.1 in
    let same : xs ≡ cut.back = one_way next (next x) xs cut.back h.1 (way_on next (next x) cut.front x cut.back along) in
    omega (arith, ap length cut.is, ap length same, length-append cut.front (x ∷ cut.back))

apart_from_rest : (x : ℕ) (xs : List ℕ) → (Contains xs x → ⊥) → (k d : ℕ) → k < length xs → nat_eq x (get_or xs k d)
    ≡ false
apart_from_rest x xs none k d h =
    ne_eqb x (get_or xs k d) (λ e. none (subst (λ (y : ℕ). Contains xs y) (sym e) (Contains-get_or xs k d h)))

-- no member stands twice
pub goes_once : (next : ℕ → Option ℕ) (from : Option ℕ) (xs : List ℕ) → GoesThrough next from xs → IsDistinct nat_eq xs
goes_once next from [] h = IsDistinct-from_apart nat_eq [] (λ i j d less within. absurd (omega arith))
goes_once next from (x ∷ xs) h =
    IsDistinct-cons nat_eq x xs
    (recursion_from_All (λ (y : ℕ). nat_eq x y ≡ false) xs (apart_from_rest x xs (not_behind next from x xs h)))
    (goes_once next (next x) xs h.1)

-- a walk of enough steps goes the whole way
pub walk_whole : (next : ℕ → Option ℕ) (n : ℕ) (from : Option ℕ) (xs : List ℕ) → GoesThrough next from xs
    → length xs ≤ n → walk next n from ≡ xs
walk_whole next zero from [] h le = refl
walk_whole next (suc n) from [] h le = subst (λ (o : Option ℕ). walk next (suc n) o ≡ []) (sym h) refl
walk_whole next zero from (x ∷ xs) h le = absurd (omega arith)
walk_whole next (suc n) from (x ∷ xs) h le =
    subst (λ (o : Option ℕ). walk next (suc n) o ≡ x ∷ xs) (sym h.0) (ap (λ (zs : List ℕ). x ∷ zs) (walk_whole next n (next x) xs h.1 (omega arith)))

-- links that lead past a member, and otherwise agree, go through the rest of the list
pub way_past :
    (next other : ℕ → Option ℕ) (from : Option ℕ) (front : List ℕ) (before x : ℕ) (back : List ℕ)
    → GoesThrough next from (front ++ before ∷ x ∷ back)
    → other before ≡ next x
    → ((y : ℕ) → y ≢ before → y ≢ x → other y ≡ next y)
    → GoesThrough other from (front ++ before ∷ back)
way_past next other from [] before x back h here same =
    let unlike_before : (y : ℕ) → Contains back y → y ≢ before =
    λ y m e. not_behind next from before (x ∷ back) h (has_tail x back before (subst (λ (z : ℕ). Contains back z) e m)) in
    let unlike : (y : ℕ) → Contains back y → y ≢ x = λ y m e. not_behind next (next before) x back h.1 (subst (λ (z : ℕ). Contains back z) e m) in (
      h.0,
      subst (λ (o : Option ℕ). GoesThrough other o back) (sym here)
          (same_way next other (next x) back (λ y m. same y (unlike_before y m) (unlike y m)) h.1.1),
    )
way_past next other from (y ∷ ys) before x back h here same =
    let alone : (z : ℕ) → Contains (ys ++ before ∷ x ∷ back) z → y ≢ z =
    λ z m e. not_behind next from y (ys ++ before ∷ x ∷ back) h (subst (λ (w : ℕ). Contains (ys ++ before ∷ x ∷ back) w) (sym e) m) in
    let unlike_before : y ≢ before = alone before (has_middle ys before (x ∷ back)) in
    let unlike : y ≢ x = alone x (Contains-append_right ys (before ∷ x ∷ back) x (has_tail before (x ∷ back) x (has_head x back))) in (
      h.0,
      subst (λ (o : Option ℕ). GoesThrough other o (ys ++ before ∷ back)) (sym (same y unlike_before unlike))
          (way_past next other (next y) ys before x back h.1 here same),
    )

-- a member stands at one place alone
pub stands_once : (next : ℕ → Option ℕ) (from : Option ℕ) (front : List ℕ) (x : ℕ) (back : List ℕ)
    → GoesThrough next from (front ++ x ∷ back) → Contains (front ++ back) x → ⊥
stands_once next from front x back h m =
    elim (Contains-append_cases front back x m) [
      | inl left ↦
          let cut : Cut front x = cut_at front x left in
          let whole : front ++ x ∷ back ≡ cut.front ++ x ∷ (cut.back ++ x ∷ back) =
          ap (λ (l : List ℕ). l ++ x ∷ back) cut.is ∙ append_assoc cut.front (x ∷ cut.back) (x ∷ back) in
          let on : GoesThrough next (next x) (cut.back ++ x ∷ back) =
          way_on next from cut.front x (cut.back ++ x ∷ back) (subst (λ (l : List ℕ). GoesThrough next from l) whole h) in
          not_behind next (Some x) x (cut.back ++ x ∷ back) (refl, on) (has_middle cut.back x back)
      | inr right ↦ not_behind next (Some x) x back (refl, way_on next from front x back h) right
    ]

-- a list is cut at a member in one way
pub one_cut : (next : ℕ → Option ℕ) (from : Option ℕ) (front back other behind : List ℕ) (x : ℕ)
    → GoesThrough next from (front ++ x ∷ back)
    → front ++ x ∷ back ≡ other ++ x ∷ behind → front ++ back ≡ other ++ behind
one_cut next from [] back [] behind x h e = cc
one_cut next from [] back (y ∷ ys) behind x h e =
    let rest : back ≡ ys ++ x ∷ behind = cc in
    absurd (not_behind next from x back h (subst (λ (l : List ℕ). Contains l x) (sym rest) (has_middle ys x behind)))
one_cut next from (y ∷ ys) back [] behind x h e =
    let first : y ≡ x = cc in
    absurd (not_behind next from y (ys ++ x ∷ back) h (subst (λ (z : ℕ). Contains (ys ++ x ∷ back) z) (sym first) (has_middle ys x back)))
one_cut next from (y ∷ ys) back (z ∷ zs) behind x h e =
    let first : y ≡ z = cc in
    let rest : ys ++ x ∷ back ≡ zs ++ x ∷ behind = cc in
    ap (λ (w : ℕ). w ∷ (ys ++ back)) first ∙ ap (λ (l : List ℕ). z ∷ l) (one_cut next (next y) ys back zs behind x h.1 rest)
