-- rows of bits against constants: the clauses say the comparison, and constants have their bits
use Rattle.std.proofs.Common.{add-one, add-zero, ◌≡◌, ◌+◌, ◌<◌, ◌≤◌, ◌-◌, ◌*◌, ◌/◌, ◌%◌, ◌^◌, ℕ, zero, suc, Bool, true, false, not, ◌&&◌, ◌||◌, List, []}
use Rattle.std.proofs.Common.{◌∷◌, ◌++◌, length, take, drop, get_or, refl, sym, ◌∙◌, ap, arith, length-append, append_assoc}
use Rattle.std.specs.Prelude.{map, ℤ, pos, negsuc, ◌+ℤ◌, ◌-ℤ◌, ◌*ℤ◌, ◌<ℤ◌, unsigned_abs, int_lt, int_le, nat_eq, nat_lt, nat_le, reverse, if◌then◌else◌}
use Rattle.std.specs.List.{All, list_any, list_all}
use Rattle.std.proofs.Math.Nat.{pow-suc, pow-le-pow_right}
use Rattle.std.proofs.lemmas.List.{reverse-append, length-reverse, get_or-reverse}
use Rattle.std.proofs.lemmas.Int.{ints}
use Rattle.std.proofs.lemmas.Nat.{one_shl}
use Rattle.std.specs.Ordering.{int_eq}
use Rattle.std.proofs.lemmas.Bool.{false≢true}
use Rattle.std.proofs.lemmas.List.Folds.{list_any-append}
use Rattle.std.proofs.lemmas.List.{map-append, length-map}
use Rattle.std.proofs.Math.Seq.{drop-cons}
use Rattle.std.proofs.lemmas.Bool.Decides.{nat_tests}
use Rattle.std.proofs.lemmas.List.Elements.{All-nil, All-cons, All-head, All-tail, All-append}
use Rattle.cnf.specs.declared.lit.Lit.{Lit}
use Rattle.cnf.specs.Clauses.{opposite, lit_holds, clause_holds, clauses_hold, lit_values, IsModel, Represents, IsConservative}
use Rattle.cnf.specs.Gates.{literal, xor, majority}
use Rattle.cnf.specs.Arithmetic.{bit, signed_number}
use Rattle.cnf.specs.Bounds.{binary_digits, constant_bits, has_places, binary_number, turn_first, sign_first, limit_down, at_most_down, limit_clauses}
use Rattle.cnf.specs.Bounds.{at_most_const_clauses}
use Rattle.cnf.specs.Signs.{signed_by, signed_digit}
use Rattle.cnf.proofs.ModelLaws.{lit_holds-opposite, lit_holds-append, lit_holds-last, append_nil, IsConservative-front}
use Rattle.cnf.proofs.GateSteps.{All_later, last_hold}
use Rattle.cnf.proofs.ListLaws.{same_where_met, met_where_same}
use Rattle.cnf.proofs.NumberLaws.{compare_places, at_least}

-- ---- clauses and truth values

-- at most, from the highest place down; e stands for the places below the last
abbrev pub at_most_from : Bool → List Bool → List Bool → Bool
at_most_from e (x ∷ xs) (true ∷ bs) = not x || at_most_from e xs bs
at_most_from e (x ∷ xs) (false ∷ bs) = not x && at_most_from e xs bs
at_most_from e _ _ = e

or_true : (a : Bool) → (a || true) ≡ true
or_true true = refl
or_true false = refl

limit_set : (s o x l : Bool) → o ≡ not x → ((s || (o || false)) || l) ≡ (s || (not x || l))
limit_set true o x l e = refl
limit_set false o true l e = rw e refl
limit_set false o false l e = rw e refl

limit_unset : (s o x l : Bool) → o ≡ not x → ((s || (o || false)) && (s || l)) ≡ (s || (not x && l))
limit_unset true o x l e = refl
limit_unset false o true l e = rw e refl
limit_unset false o false l e = rw e refl

ends : (g s : Bool) → (g && true) ≡ ((g || not true) && (s || true))
ends true true = refl
ends true false = refl
ends false true = refl
ends false false = refl

at_most_set : (g s x l : Bool)
    → ((g || (x || false)) && ((g || not l) && ((s || (not x || false)) || l))) ≡ ((g || not (not x || l)) && (s || (not x || l)))
at_most_set true true x l = refl
at_most_set true false true l = refl
at_most_set true false false l = refl
at_most_set false true true l = refl
at_most_set false true false l = refl
at_most_set false false true true = refl
at_most_set false false true false = refl
at_most_set false false false l = refl

at_most_unset : (g s x l : Bool)
    → ((s || (not x || false)) && (((g || (x || false)) || not l) && (s || l))) ≡ ((g || not (not x && l)) && (s || (not x && l)))
at_most_unset true true x l = refl
at_most_unset true false true l = refl
at_most_unset true false false l = refl
at_most_unset false true true l = refl
at_most_unset false true false l = refl
at_most_unset false false true l = refl
at_most_unset false false false true = refl
at_most_unset false false false false = refl

set_step : (c r g g' s s' o x l : Bool) → c ≡ (g' && r) → r ≡ ((g || not l) && (s' || l)) → g' ≡ (g || (x || false))
    → s' ≡ (s || (o || false)) → o ≡ not x → c ≡ ((g || not (not x || l)) && (s || (not x || l)))
set_step c r g g' s s' o x l ec er eg es eo = ec ∙ rw (er, eg, es, eo) (at_most_set g s x l)

unset_step : (c r g g' s s' o x l : Bool) → c ≡ (s' && r) → r ≡ ((g' || not l) && (s || l)) → g' ≡ (g || (x || false))
    → s' ≡ (s || (o || false)) → o ≡ not x → c ≡ ((g || not (not x && l)) && (s || (not x && l)))
unset_step c r g g' s s' o x l ec er eg es eo = ec ∙ rw (er, eg, es, eo) (at_most_unset g s x l)

pub limit_says : (model : List Bool) (less row : List Lit) (bound : List Bool) → All (λ lit. lit.var < length model) row
    → clauses_hold model (limit_down less row bound) ≡ (list_any (lit_holds model) less || at_most_from true (lit_values model row) bound)
limit_says model less [] bound h = sym (or_true (list_any (lit_holds model) less))
limit_says model less (x ∷ row) [] h = sym (or_true (list_any (lit_holds model) less))
limit_says model less (x ∷ row) (true ∷ bound) h =
    limit_says model (less ++ opposite x ∷ []) row bound (All-tail (λ lit. lit.var < length model) x row h)
    ∙ ap (λ s. s || at_most_from true (lit_values model row) bound) (list_any-append (lit_holds model) less (opposite x ∷ []))
    ∙ limit_set (list_any (lit_holds model) less) (lit_holds model (opposite x)) (lit_holds model x) (at_most_from true (lit_values model row) bound)
    (lit_holds-opposite model x (All-head (λ lit. lit.var < length model) x row h))
limit_says model less (x ∷ row) (false ∷ bound) h =
    ap (λ r. clause_holds model (less ++ opposite x ∷ []) && r) (limit_says model less row bound (All-tail (λ lit. lit.var < length model) x row h))
    ∙ ap (λ s. s && (list_any (lit_holds model) less || at_most_from true (lit_values model row) bound))
    (list_any-append (lit_holds model) less (opposite x ∷ []))
    ∙ limit_unset (list_any (lit_holds model) less) (lit_holds model (opposite x)) (lit_holds model x) (at_most_from true (lit_values model row) bound)
    (lit_holds-opposite model x (All-head (λ lit. lit.var < length model) x row h))

pub at_most_says : (model : List Bool) (greater less row : List Lit) (bound : List Bool)
    → All (λ lit. lit.var < length model) row
    → clauses_hold model (at_most_down greater less row bound) ≡ ((list_any (lit_holds model) greater || not
    (at_most_from true (lit_values model row) bound)) && (list_any (lit_holds model) less || at_most_from true (lit_values model row) bound))
at_most_says model greater less [] bound h = ends (list_any (lit_holds model) greater) (list_any (lit_holds model) less)
at_most_says model greater less (x ∷ row) [] h = ends (list_any (lit_holds model) greater) (list_any (lit_holds model) less)
at_most_says model greater less (x ∷ row) (true ∷ bound) h =
    set_step (clauses_hold model (at_most_down greater less (x ∷ row) (true ∷ bound)))
    (clauses_hold model (at_most_down greater (less ++ opposite x ∷ []) row bound))
    (list_any (lit_holds model) greater) (list_any (lit_holds model) (greater ++ x ∷ [])) (list_any (lit_holds model) less)
    (list_any (lit_holds model) (less ++ opposite x ∷ []))
    (lit_holds model (opposite x)) (lit_holds model x) (at_most_from true (lit_values model row) bound)
    refl
    (at_most_says model greater (less ++ opposite x ∷ []) row bound (All-tail (λ lit. lit.var < length model) x row h))
    (list_any-append (lit_holds model) greater (x ∷ [])) (list_any-append (lit_holds model) less (opposite x ∷ []))
    (lit_holds-opposite model x (All-head (λ lit. lit.var < length model) x row h))
at_most_says model greater less (x ∷ row) (false ∷ bound) h =
    unset_step (clauses_hold model (at_most_down greater less (x ∷ row) (false ∷ bound)))
    (clauses_hold model (at_most_down (greater ++ x ∷ []) less row bound))
    (list_any (lit_holds model) greater) (list_any (lit_holds model) (greater ++ x ∷ [])) (list_any (lit_holds model) less)
    (list_any (lit_holds model) (less ++ opposite x ∷ []))
    (lit_holds model (opposite x)) (lit_holds model x) (at_most_from true (lit_values model row) bound)
    refl
    (at_most_says model (greater ++ x ∷ []) less row bound (All-tail (λ lit. lit.var < length model) x row h))
    (list_any-append (lit_holds model) greater (x ∷ [])) (list_any-append (lit_holds model) less (opposite x ∷ []))
    (lit_holds-opposite model x (All-head (λ lit. lit.var < length model) x row h))

-- ---- truth values and numbers

-- one more place below
abbrev pub at_most_place : Bool → Bool → Bool → Bool
at_most_place x true e = not x || e
at_most_place x false e = not x && e

at_most_low : (e x : Bool) (xs : List Bool) (b : Bool) (bs : List Bool) → length xs ≡ length bs
    → at_most_from e (xs ++ x ∷ []) (bs ++ b ∷ []) ≡ at_most_from (at_most_place x b e) xs bs
at_most_low e x [] true [] h = refl
at_most_low e x [] false [] h = refl
at_most_low e x [] b (c ∷ cs) h = absurd (omega arith)
at_most_low e x (y ∷ ys) b [] h = absurd (omega arith)
at_most_low e x (y ∷ ys) b (true ∷ cs) h = ap (λ l. not y || l) (at_most_low e x ys b cs (omega arith))
at_most_low e x (y ∷ ys) b (false ∷ cs) h = ap (λ l. not y && l) (at_most_low e x ys b cs (omega arith))

length-turn_first : {A : Type 0} (turn : A → A) (xs : List A) → length (turn_first turn xs) ≡ length xs
length-turn_first turn [] = refl
length-turn_first turn (x ∷ xs) = refl

pub length-sign_first : {A : Type 0} (turn : A → A) (xs : List A) → length (sign_first turn xs) ≡ length xs
length-sign_first turn xs = length-turn_first turn (reverse xs) ∙ length-reverse xs

turn_first-append : {A : Type 0} (turn : A → A) (xs ys : List A) → 0 < length xs
    → turn_first turn (xs ++ ys) ≡ turn_first turn xs ++ ys
turn_first-append turn [] ys h = absurd (omega arith)
turn_first-append turn (x ∷ xs) ys h = refl

pub sign_first-cons : {A : Type 0} (turn : A → A) (x y : A) (xs : List A)
    → sign_first turn (x ∷ y ∷ xs) ≡ sign_first turn (y ∷ xs) ++ x ∷ []
sign_first-cons turn x y xs =
    ap (turn_first turn) (reverse-append (x ∷ []) (y ∷ xs))
    ∙ turn_first-append turn (reverse (y ∷ xs)) (x ∷ []) (let e : length (reverse (y ∷ xs)) ≡ length (y ∷ xs) = length-reverse (y ∷ xs) in omega arith)

place_as_majority : (x b e : Bool) → not (at_most_place x b e) ≡ majority x (not b) (not e)
place_as_majority true true true = refl
place_as_majority true true false = refl
place_as_majority true false true = refl
place_as_majority true false false = refl
place_as_majority false true true = refl
place_as_majority false true false = refl
place_as_majority false false true = refl
place_as_majority false false false = refl

signs_at_most : (e x b : Bool)
    → at_most_from e (not x ∷ []) (not b ∷ []) ≡ not (int_lt (pos 0 -ℤ bit b) ((pos 0 -ℤ bit x) +ℤ bit (not e)))
signs_at_most true true true = refl
signs_at_most true true false = refl
signs_at_most true false true = refl
signs_at_most true false false = refl
signs_at_most false true true = refl
signs_at_most false true false = refl
signs_at_most false false true = refl
signs_at_most false false false = refl

sign_first_compares : (e : Bool) (xs bs : List Bool) → length xs ≡ length bs → 0 < length xs
    → at_most_from e (sign_first not xs) (sign_first not bs) ≡ not (int_lt (signed_number bs) (signed_number xs +ℤ bit (not e)))
sign_first_compares e [] bs same some = absurd (omega arith)
sign_first_compares e (x ∷ xs) [] same some = absurd (omega arith)
sign_first_compares e (x ∷ []) (b ∷ []) same some = signs_at_most e x b
sign_first_compares e (x ∷ []) (b ∷ b' ∷ bs) same some = absurd (omega arith)
sign_first_compares e (x ∷ x' ∷ xs) (b ∷ []) same some = absurd (omega arith)
sign_first_compares e (x ∷ x' ∷ xs) (b ∷ b' ∷ bs) same some =
    ap (λ l. at_most_from e l (sign_first not (b ∷ b' ∷ bs))) (sign_first-cons not x x' xs)
    ∙ ap (λ l. at_most_from e (sign_first not (x' ∷ xs) ++ x ∷ []) l) (sign_first-cons not b b' bs)
    ∙ at_most_low e x (sign_first not (x' ∷ xs)) b (sign_first not (b' ∷ bs))
    (length-sign_first not (x' ∷ xs) ∙ (let h : length (x' ∷ xs) ≡ length (b' ∷ bs) = omega arith in h) ∙ sym (length-sign_first not (b' ∷ bs)))
    ∙ sign_first_compares (at_most_place x b e) (x' ∷ xs) (b' ∷ bs) (omega arith) (omega arith)
    ∙ ap (λ g. not (int_lt (signed_number (b' ∷ bs)) (signed_number (x' ∷ xs) +ℤ bit g))) (place_as_majority x b e)
    ∙ ap not (compare_places x b (not e) (signed_number (x' ∷ xs)) (signed_number (b' ∷ bs)))

pub at_most_compares : (xs bs : List Bool) → length xs ≡ length bs
    → at_most_from true (sign_first not xs) (sign_first not bs) ≡ int_le (signed_number xs) (signed_number bs)
at_most_compares [] [] same = refl
at_most_compares [] (b ∷ bs) same = absurd (omega arith)
at_most_compares (x ∷ xs) bs same = sign_first_compares true (x ∷ xs) bs same (omega arith) ∙ at_least (signed_number (x ∷ xs)) (signed_number bs)

-- the row's bits from the sign down
pub values_sign_first : (model : List Bool) (row : List Lit) → All (λ lit. lit.var < length model) row
    → lit_values model (sign_first opposite row) ≡ sign_first not (lit_values model row)
values_sign_first model [] h = refl
values_sign_first model (x ∷ []) h = ap (λ v. v ∷ []) (lit_holds-opposite model x (All-head (λ lit. lit.var < length model) x [] h))
values_sign_first model (x ∷ y ∷ row) h =
    ap (lit_values model) (sign_first-cons opposite x y row)
    ∙ map-append (lit_holds model) (sign_first opposite (y ∷ row)) (x ∷ [])
    ∙ ap (λ v. v ++ lit_holds model x ∷ []) (values_sign_first model (y ∷ row) (All-tail (λ lit. lit.var < length model) x (y ∷ row) h))
    ∙ sym (sign_first-cons not (lit_holds model x) (lit_holds model y) (lit_values model row))

pub All-sign_first : (n : ℕ) (row : List Lit) → All (λ lit. lit.var < n) row
    → All (λ lit. lit.var < n) (sign_first opposite row)
All-sign_first n [] h = All-nil (λ lit. lit.var < n)
All-sign_first n (x ∷ []) h = All-cons (λ lit. lit.var < n) (opposite x) [] (All-head (λ lit. lit.var < n) x [] h) (All-nil (λ lit. lit.var < n))
All-sign_first n (x ∷ y ∷ row) h =
    rw (sign_first-cons opposite x y row)
    (All-append (λ lit. lit.var < n) (sign_first opposite (y ∷ row)) (x ∷ []) (All-sign_first n (y ∷ row) (All-tail (λ lit. lit.var < n) x (y ∷ row) h))
    (All-cons (λ lit. lit.var < n) x [] (All-head (λ lit. lit.var < n) x (y ∷ row) h) (All-nil (λ lit. lit.var < n))))

-- ---- binary digits from the highest down

place_compares : (x b e : Bool) (m n : ℕ)
    → nat_le (m + (if not (at_most_place x b e) then 1 else 0)) n ≡ nat_le (((if x then 1 else 0) + 2 * m) + (if not e then 1 else 0))
    ((if b then 1 else 0) + 2 * n)
place_compares true true true m n = grind (arith, nat_tests)
place_compares true true false m n = grind (arith, nat_tests)
place_compares true false true m n = grind (arith, nat_tests)
place_compares true false false m n = grind (arith, nat_tests)
place_compares false true true m n = grind (arith, nat_tests)
place_compares false true false m n = grind (arith, nat_tests)
place_compares false false true m n = grind (arith, nat_tests)
place_compares false false false m n = grind (arith, nat_tests)

none_compares : (e : Bool) → e ≡ nat_le (0 + (if not e then 1 else 0)) 0
none_compares true = refl
none_compares false = refl

reverse_compares : (e : Bool) (xs bs : List Bool) → length xs ≡ length bs
    → at_most_from e (reverse xs) (reverse bs) ≡ nat_le (binary_number xs + (if not e then 1 else 0)) (binary_number bs)
reverse_compares e [] [] same = none_compares e
reverse_compares e [] (b ∷ bs) same = absurd (omega arith)
reverse_compares e (x ∷ xs) [] same = absurd (omega arith)
reverse_compares e (x ∷ xs) (b ∷ bs) same =
    ap (λ l. at_most_from e l (reverse (b ∷ bs))) (reverse-append (x ∷ []) xs)
    ∙ ap (λ l. at_most_from e (reverse xs ++ x ∷ []) l) (reverse-append (b ∷ []) bs)
    ∙ at_most_low e x (reverse xs) b (reverse bs) (length-reverse xs ∙ (let h : length xs ≡ length bs = omega arith in h) ∙ sym (length-reverse bs))
    ∙ reverse_compares (at_most_place x b e) xs bs (omega arith)
    ∙ place_compares x b e (binary_number xs) (binary_number bs)

values-reverse : (model : List Bool) (row : List Lit) → lit_values model (reverse row) ≡ reverse (lit_values model row)
values-reverse model [] = refl
values-reverse model (x ∷ row) =
    ap (lit_values model) (reverse-append (x ∷ []) row)
    ∙ map-append (lit_holds model) (reverse row) (x ∷ [])
    ∙ ap (λ v. v ++ lit_holds model x ∷ []) (values-reverse model row)
    ∙ sym (reverse-append (lit_holds model x ∷ []) (lit_values model row))

pub All-reverse : (n : ℕ) (row : List Lit) → All (λ lit. lit.var < n) row → All (λ lit. lit.var < n) (reverse row)
All-reverse n [] h = All-nil (λ lit. lit.var < n)
All-reverse n (x ∷ row) h =
    rw (reverse-append (x ∷ []) row)
    (All-append (λ lit. lit.var < n) (reverse row) (x ∷ []) (All-reverse n row (All-tail (λ lit. lit.var < n) x row h))
    (All-cons (λ lit. lit.var < n) x [] (All-head (λ lit. lit.var < n) x row h) (All-nil (λ lit. lit.var < n))))

pub limit_compares : (model : List Bool) (row : List Lit) (bound : List Bool) → length row ≡ length bound
    → All (λ lit. lit.var < length model) row
    → clauses_hold model (limit_clauses row bound) ≡ nat_le (binary_number (lit_values model row)) (binary_number bound)
limit_compares model row bound same known =
    limit_says model [] (reverse row) (reverse bound) (All-reverse (length model) row known)
    ∙ ap (λ v. at_most_from true v (reverse bound)) (values-reverse model row)
    ∙ reverse_compares true (lit_values model row) bound (length-map row (lit_holds model) ∙ same)
    ∙ ap (λ k. nat_le k (binary_number bound)) (add-zero (binary_number (lit_values model row)))

at_most_joined : (v f : Bool) → (((v || false) || not f) && ((not v || false) || f)) ≡ ((not v || f) && (v || not f))
at_most_joined true true = refl
at_most_joined true false = refl
at_most_joined false true = refl
at_most_joined false false = refl

at_most_joins : (v n f : Bool) → n ≡ not v
    → (((v || false) || not f) && ((n || false) || f)) ≡ ((not v || f) && (v || not f))
at_most_joins v n f e = rw e (at_most_joined v f)

pub at_most_const_says : (model : List Bool) (n : ℕ) (row : List Lit) (bound : List Bool) → length row ≡ length bound
    → n < length model → All (λ lit. lit.var < length model) row
    → clauses_hold model (at_most_const_clauses n row bound)
    ≡ ((not (lit_holds model (literal n)) || int_le (signed_number (lit_values model row)) (signed_number bound)) &&
    (lit_holds model (literal n) || not (int_le (signed_number (lit_values model row)) (signed_number bound))))
at_most_const_says model n row bound same room known =
    at_most_says model (literal n ∷ []) (opposite (literal n) ∷ []) (sign_first opposite row) (sign_first not bound)
    (All-sign_first (length model) row known)
    ∙ ap (λ f. ((lit_holds model (literal n) || false) || not f) && ((lit_holds model (opposite (literal n)) || false) || f))
    (ap (λ v. at_most_from true v (sign_first not bound)) (values_sign_first model row known) ∙ at_most_compares (lit_values model row) bound
    (length-map row (lit_holds model) ∙ same))
    ∙ at_most_joins (lit_holds model (literal n)) (lit_holds model (opposite (literal n)))
    (int_le (signed_number (lit_values model row)) (signed_number bound)) (lit_holds-opposite model (literal n) room)

pub lit_values-append : (model more : List Bool) (row : List Lit) → All (λ lit. lit.var < length model) row
    → lit_values (model ++ more) row ≡ lit_values model row
lit_values-append model more [] h = refl
lit_values-append model more (x ∷ row) h =
    rw (
      lit_holds-append model more x (All-head (λ lit. lit.var < length model) x row h),
      lit_values-append model more row
          (All-tail (λ lit. lit.var < length model) x row h),
    ) refl

-- the value that meets the clauses of a comparison with a constant
pub at_most_const_fits : (n : ℕ) (row : List Lit) (bound : List Bool) → length row ≡ length bound
    → All (λ lit. lit.var < n) row → (model : List Bool) → length model ≡ n
    → (value : Bool) × (clauses_hold (model ++ value ∷ []) (at_most_const_clauses n row bound) ≡ true)
at_most_const_fits n row bound same known model e =
    let value : Bool = int_le (signed_number (lit_values model row)) (signed_number bound) in
    let more : List Bool = model ++ value ∷ [] in
    let wide : length more ≡ n + 1 = length-append model (value ∷ []) ∙ ap (λ k. k + 1) e in
    let old : All (λ lit. lit.var < length model) row = All_later n (length model) row (omega arith) known in (
      value,
      met_where_same (clauses_hold more (at_most_const_clauses n row bound)) (lit_holds more (literal n))
          (int_le (signed_number (lit_values more row)) (signed_number bound))
          (at_most_const_says more n row bound same (omega arith) (All_later n (length more) row (omega arith) known))
          (lit_holds-last model value n e ∙ ap (λ v. int_le (signed_number v) (signed_number bound)) (sym (lit_values-append model (value ∷ []) row old))),
    )

pub at_most_const_is : (model : List Bool) (n : ℕ) (row : List Lit) (bound : List Bool) → length row ≡ length bound
    → n < length model → All (λ lit. lit.var < length model) row
    → clauses_hold model (at_most_const_clauses n row bound) ≡ true
    → lit_holds model (literal n) ≡ int_le (signed_number (lit_values model row)) (signed_number bound)
at_most_const_is model n row bound same room known h =
    same_where_met (clauses_hold model (at_most_const_clauses n row bound)) (lit_holds model (literal n))
    (int_le (signed_number (lit_values model row)) (signed_number bound)) (at_most_const_says model n row bound same room known) h

pub at_most_const_means : (n m : ℕ) (older newer : List (List Lit)) (row : List Lit) (bound : List Bool) (c : Lit)
    → length row ≡ length bound → All (λ lit. lit.var < n) row → m ≡ n + 1
    → newer ≡ older ++ at_most_const_clauses n row bound → c ≡ literal n
    → Represents m newer c (λ model. int_le (signed_number (lit_values model row)) (signed_number bound))
at_most_const_means n m older newer row bound c same known em en ec =
    λ model is.
    let wide : length model ≡ n + 1 = is.vars ∙ em in
    ap (lit_holds model) ec
    ∙ same_where_met (clauses_hold model (at_most_const_clauses n row bound)) (lit_holds model (literal n))
    (int_le (signed_number (lit_values model row)) (signed_number bound))
    (at_most_const_says model n row bound same (omega arith) (All_later n (length model) row (omega arith) known))
    (last_hold model older (at_most_const_clauses n row bound) newer en is.holds)

-- ---- constants

digit : (r q m : ℕ) → r < 2 → m ≡ 2 * q + r → bit (nat_eq r 1) +ℤ (pos 2 *ℤ pos q) ≡ pos m
digit zero q m h e = omega (arith, ints)
digit (suc zero) q m h e = omega (arith, ints)
digit (suc (suc r)) q m h e = absurd (omega arith)

negated_digit : (r q m : ℕ) → r < 2 → m ≡ 2 * q + r → bit (not (nat_eq r 1)) +ℤ (pos 2 *ℤ negsuc q) ≡ negsuc m
negated_digit zero q m h e = omega (arith, ints)
negated_digit (suc zero) q m h e = omega (arith, ints)
negated_digit (suc (suc r)) q m h e = absurd (omega arith)

halves : (m : ℕ) → m ≡ 2 * (m / 2) + m % 2
halves m = omega arith

half_below : (w m : ℕ) → m < 2 ^ suc w → m / 2 < 2 ^ w
half_below w m h = let e : 2 ^ suc w ≡ 2 ^ w * 2 = pow-suc 2 w in omega arith

digits_number : (w m : ℕ) → m < 2 ^ w → signed_number (binary_digits (suc w) m) ≡ pos m
digits_number zero m h = let e : m ≡ 0 = omega arith in rw e refl
digits_number (suc w) m h =
    ap (λ z. bit (nat_eq (m % 2) 1) +ℤ (pos 2 *ℤ z)) (digits_number w (m / 2) (half_below w m h))
    ∙ digit (m % 2) (m / 2) m (omega arith) (halves m)

negated_digits_number : (w m : ℕ) → m < 2 ^ w → signed_number (map not (binary_digits (suc w) m)) ≡ negsuc m
negated_digits_number zero m h = let e : m ≡ 0 = omega arith in rw e refl
negated_digits_number (suc w) m h =
    ap (λ z. bit (not (nat_eq (m % 2) 1)) +ℤ (pos 2 *ℤ z)) (negated_digits_number w (m / 2) (half_below w m h))
    ∙ negated_digit (m % 2) (m / 2) m (omega arith) (halves m)

below_from : (a b : ℕ) → nat_lt a b ≡ true → a < b
below_from a b h = grind (arith, nat_tests)

pub constant_number : (places : ℕ) (z : ℤ) → has_places places z ≡ true → signed_number (constant_bits places z) ≡ z
constant_number zero (pos m) h = let e : m ≡ 0 = (let k : 2 * m < 2 ^ 0 = below_from (2 * m) (2 ^ 0) h in omega arith) in rw e refl
constant_number zero (negsuc m) h = let k : 2 * m + 1 < 2 ^ 0 = below_from (2 * m + 1) (2 ^ 0) h in absurd (omega arith)
constant_number (suc w) (pos m) h =
    let k : 2 * m < 2 ^ suc w = below_from (2 * m) (2 ^ suc w) h in
    digits_number w m (let e : 2 ^ suc w ≡ 2 ^ w * 2 = pow-suc 2 w in omega arith)
constant_number (suc w) (negsuc m) h =
    let k : 2 * m + 1 < 2 ^ suc w = below_from (2 * m + 1) (2 ^ suc w) h in
    negated_digits_number w m (let e : 2 ^ suc w ≡ 2 ^ w * 2 = pow-suc 2 w in omega arith)

-- the bits that are left to write, where a negative number's are negated
abbrev pub digits_left : Bool → ℕ → ℕ → List Bool
digits_left true places m = map not (binary_digits places m)
digits_left false places m = binary_digits places m

pub digits_begin : (negative : Bool) (places m : ℕ) (z : ℤ) → z ≡ signed_by negative m
    → digits_left negative places m ≡ constant_bits places z
digits_begin true places m z e = rw e refl
digits_begin false places m z e = rw e refl

pub digits_go_on : (negative digit bit : Bool) (left left' m m' : ℕ) (bits bits' total : List Bool)
    → digit ≡ nat_eq (m % 2) 1 → bit ≡ signed_digit negative digit → m' ≡ m / 2 → left ≡ suc left'
    → bits' ≡ bits ++ bit ∷ []
    → bits ++ digits_left negative left m ≡ total → bits' ++ digits_left negative left' m' ≡ total
digits_go_on true digit bit left left' m m' bits bits' total ed eb em el en h = rw (en, eb, ed, em) (append_assoc bits _ _ ∙ (rw el at h))
digits_go_on false digit bit left left' m m' bits bits' total ed eb em el en h = rw (en, eb, ed, em) (append_assoc bits _ _ ∙ (rw el at h))

pub digits_end : (negative : Bool) (left m : ℕ) (bits total : List Bool) → left ≡ 0
    → bits ++ digits_left negative left m ≡ total → bits ≡ total
digits_end true left m bits total e h = sym (append_nil bits) ∙ (rw e at h)
digits_end false left m bits total e h = sym (append_nil bits) ∙ (rw e at h)

-- ---- places

pub reverse_place : {A : Type 0} (xs : List A) (d : A) (i : ℕ) → i < length xs
    → drop i (reverse xs) ≡ get_or xs (length xs - 1 - i) d ∷ drop (i + 1) (reverse xs)
reverse_place xs d i h =
    rw (add-one i) (drop-cons (reverse xs) i d (rw (length-reverse xs) h) ∙ ap (λ y. y ∷ drop (suc i) (reverse xs)) (get_or-reverse xs i d h))

pub reverse_place_in : {A : Type 0} (xs : List A) (d : A) (i n : ℕ) → n ≡ length xs → i < n
    → drop i (reverse xs) ≡ get_or xs (n - 1 - i) d ∷ drop (i + 1) (reverse xs)
reverse_place_in xs d i n e h = rw e (reverse_place xs d i (omega arith))

turned_place : {A : Type 0} (turn : A → A) (xs rest : List A) (y : A) → xs ≡ y ∷ rest
    → turn_first turn xs ≡ turn y ∷ drop 1 (turn_first turn xs)
turned_place turn xs rest y e = rw e refl

later_place : {A : Type 0} (turn : A → A) (xs : List A) (i : ℕ) → 0 < i → drop i (turn_first turn xs) ≡ drop i xs
later_place turn [] i h = refl
later_place turn (x ∷ xs) zero h = absurd (omega arith)
later_place turn (x ∷ xs) (suc i) h = refl

drop_none : {A : Type 0} (xs : List A) → drop 0 xs ≡ xs
drop_none [] = refl
drop_none (x ∷ xs) = refl

pub first_place_is : {A : Type 0} (turn : A → A) (xs : List A) (d : A) (i : ℕ) (first : A) → i ≡ 0 → i < length xs
    → first ≡ turn (get_or xs (length xs - 1) d)
    → drop i (sign_first turn xs) ≡ first ∷ drop (i + 1) (sign_first turn xs)
first_place_is turn xs d i first e h f =
    let at : length xs - 1 - 0 ≡ length xs - 1 = omega arith in
    let first_of : reverse xs ≡ get_or xs (length xs - 1) d ∷ drop 1 (reverse xs) =
    sym (drop_none (reverse xs)) ∙ reverse_place xs d 0 (omega arith) ∙ ap (λ k. get_or xs k d ∷ drop 1 (reverse xs)) at in
    rw (f, e) (drop_none (sign_first turn xs) ∙ turned_place turn (reverse xs) (drop 1 (reverse xs)) (get_or xs (length xs - 1) d) first_of)

pub first_place_at : {A : Type 0} (turn : A → A) (xs : List A) (d : A) (i : ℕ) → i ≡ 0 → i < length xs
    → drop i (sign_first turn xs) ≡ turn (get_or xs (length xs - 1) d) ∷ drop (i + 1) (sign_first turn xs)
first_place_at turn xs d i e h = first_place_is turn xs d i (turn (get_or xs (length xs - 1) d)) e h refl

pub lower_place_at : {A : Type 0} (turn : A → A) (xs : List A) (d : A) (i : ℕ) → (i ≡ 0 → ⊥) → i < length xs
    → drop i (sign_first turn xs) ≡ get_or xs (length xs - 1 - i) d ∷ drop (i + 1) (sign_first turn xs)
lower_place_at turn xs d i e h =
    rw (later_place turn (reverse xs) i (omega arith), later_place turn (reverse xs) (i + 1) (omega arith)) (reverse_place xs d i h)

-- ---- the gate's code

-- a part of the clauses, after which those of the lower places are left
pub at_most_begun : (n m : ℕ) (older now newer : List (List Lit)) (row : List Lit) (bound : List Bool) (front rest : List (List Lit))
    → length row ≡ length bound → All (λ lit. lit.var < n) row → m ≡ n + 1
    → now ≡ older ++ front → front ++ rest ≡ at_most_const_clauses n row bound → newer ≡ now
    → IsConservative n older m newer
at_most_begun n m older now newer row bound front rest same known em en ef ew =
    IsConservative-front n m older (at_most_const_clauses n row bound) newer rest front (at_most_const_fits n row bound same known) em (ew ∙ en)
    (ap (λ l. l ++ rest) (ew ∙ en) ∙ append_assoc older front rest ∙ ap (λ l. older ++ l) ef)

pub at_most_go_on : (i : ℕ) (older now newer gate : List (List Lit)) (greater less greater' less' turned : List Lit) (turned_bound : List Bool)
    (lit : Lit) (set : Bool) (front added : List (List Lit))
    → drop i turned ≡ lit ∷ drop (i + 1) turned → drop i turned_bound ≡ set ∷ drop (i + 1) turned_bound
    → now ≡ older ++ front → front ++ at_most_down greater less (drop i turned) (drop i turned_bound) ≡ gate
    → newer ≡ now ++ added
    → ((row : List Lit) (bound : List Bool) → at_most_down greater less (lit ∷ row) (set ∷ bound) ≡ added ++ at_most_down greater' less' row bound)
    → (f : List (List Lit)) × (newer ≡ older ++ f) × (f ++ at_most_down greater' less' (drop (i + 1) turned) (drop (i + 1) turned_bound) ≡ gate)
at_most_go_on i older now newer gate greater less greater' less' turned turned_bound lit set front added et eb en eg ew step = (
  front ++ added,
  ew ∙ ap (λ l. l ++ added) en ∙ append_assoc older front added,
  append_assoc front added _
      ∙ ap (λ l. front ++ l) (sym (step (drop (i + 1) turned) (drop (i + 1) turned_bound)))
      ∙ ap (λ l. front ++ at_most_down greater less l (set ∷ drop (i + 1) turned_bound)) (sym et)
      ∙ ap (λ l. front ++ at_most_down greater less (drop i turned) l) (sym eb)
      ∙ eg,
)

drop_past : {A : Type 0} (n : ℕ) (xs : List A) → length xs ≤ n → drop n xs ≡ []
drop_past zero [] h = refl
drop_past zero (x ∷ xs) h = absurd (omega arith)
drop_past (suc n) [] h = refl
drop_past (suc n) (x ∷ xs) h = drop_past n xs (omega arith)

pub at_most_whole : (n i : ℕ) (older now newer : List (List Lit)) (row : List Lit) (bound : List Bool) (greater less : List Lit)
    (front : List (List Lit)) → length row ≤ i
    → now ≡ older ++ front
    → front ++ at_most_down greater less (drop i (sign_first opposite row)) (drop i (sign_first not bound)) ≡ at_most_const_clauses n row bound
    → newer ≡ now ++ greater ∷ [] → newer ≡ older ++ at_most_const_clauses n row bound
at_most_whole n i older now newer row bound greater less front past en eg ew =
    let none : drop i (sign_first opposite row) ≡ [] = drop_past i (sign_first opposite row)
    (let e : length (sign_first opposite row) ≡ length row = length-sign_first opposite row in omega arith) in
    ew ∙ ap (λ l. l ++ greater ∷ []) en ∙ append_assoc older front (greater ∷ [])
    ∙ ap (λ l. older ++ l) (ap (λ r. front ++ at_most_down greater less r (drop i (sign_first not bound))) (sym none) ∙ eg)

-- ---- the limit's code

pub limit_go_on : (i : ℕ) (older now newer limit : List (List Lit)) (less less' turned : List Lit) (turned_bound : List Bool) (lit : Lit) (set : Bool)
    (front added : List (List Lit))
    → drop i turned ≡ lit ∷ drop (i + 1) turned → drop i turned_bound ≡ set ∷ drop (i + 1) turned_bound
    → now ≡ older ++ front → front ++ limit_down less (drop i turned) (drop i turned_bound) ≡ limit
    → newer ≡ now ++ added
    → ((row : List Lit) (bound : List Bool) → limit_down less (lit ∷ row) (set ∷ bound) ≡ added ++ limit_down less' row bound)
    → (f : List (List Lit)) × (newer ≡ older ++ f) × (f ++ limit_down less' (drop (i + 1) turned) (drop (i + 1) turned_bound) ≡ limit)
limit_go_on i older now newer limit less less' turned turned_bound lit set front added et eb en eg ew step = (
  front ++ added,
  ew ∙ ap (λ l. l ++ added) en ∙ append_assoc older front added,
  append_assoc front added _
      ∙ ap (λ l. front ++ l) (sym (step (drop (i + 1) turned) (drop (i + 1) turned_bound)))
      ∙ ap (λ l. front ++ limit_down less l (set ∷ drop (i + 1) turned_bound)) (sym et)
      ∙ ap (λ l. front ++ limit_down less (drop i turned) l) (sym eb)
      ∙ eg,
)

pub reverse_lit : (n : ℕ) (row : List Lit) (i : ℕ) (d : Lit) → All (λ lit. lit.var < n) row → i < length row
    → (get_or row (length row - 1 - i) d).var < n
reverse_lit n row i d known h = known (length row - 1 - i) d (omega arith)

-- ---- constants in code

pub from_negative : (z : ℤ) → z <ℤ pos 0 → z ≡ negsuc (unsigned_abs (negsuc 0 -ℤ z))
from_negative (pos n) h = absurd (omega (arith, ints))
from_negative (negsuc n) h = omega (arith, ints)

pub places_none : (z : ℤ) → int_eq z (pos 0) ≡ has_places 0 z
places_none (pos zero) = refl
places_none (pos (suc n)) = grind (arith, nat_tests)
places_none (negsuc n) = grind (arith, nat_tests)

nat_lt_is : (a b : ℕ) → a < b → nat_lt a b ≡ true
nat_lt_is a b h = grind (arith, nat_tests)

pub places_many : (negative : Bool) (places m : ℕ) (z : ℤ) → z ≡ signed_by negative m → m < 2 ^ 63 → 63 < places
    → true ≡ has_places places z
places_many true places m z e small many =
    let p : 2 ^ 64 ≤ 2 ^ places = pow-le-pow_right {n = 2} (omega arith) {i = 64} {j = places} (omega arith) in rw e
    (sym (nat_lt_is (2 * m + 1) (2 ^ places) (omega arith)))
places_many false places m z e small many =
    let p : 2 ^ 64 ≤ 2 ^ places = pow-le-pow_right {n = 2} (omega arith) {i = 64} {j = places} (omega arith) in rw e
    (sym (nat_lt_is (2 * m) (2 ^ places) (omega arith)))

same_below : (m k p : ℕ) → p ≡ k * 2 → nat_lt m k ≡ nat_lt (2 * m) p
same_below m k p e = grind (arith, nat_tests)

same_below_odd : (m k p : ℕ) → p ≡ k * 2 → nat_lt m k ≡ nat_lt (2 * m + 1) p
same_below_odd m k p e = grind (arith, nat_tests)

pub places_few : (negative : Bool) (places m : ℕ) (z : ℤ) → z ≡ signed_by negative m → 0 < places → places ≤ 63
    → nat_lt m ((1 * 2 ^ (places - 1)) % 2 ^ 64) ≡ has_places places z
places_few true places m z e some few =
    let shifted : (1 * 2 ^ (places - 1)) % 2 ^ 64 ≡ 2 ^ (places - 1) = one_shl (places - 1) 64 (omega arith) in
    let next : suc (places - 1) ≡ places = omega arith in
    rw (e, shifted) (same_below_odd m (2 ^ (places - 1)) (2 ^ places) (ap (λ k. 2 ^ k) (sym next) ∙ pow-suc 2 (places - 1)))
places_few false places m z e some few =
    let shifted : (1 * 2 ^ (places - 1)) % 2 ^ 64 ≡ 2 ^ (places - 1) = one_shl (places - 1) 64 (omega arith) in
    let next : suc (places - 1) ≡ places = omega arith in
    rw (e, shifted) (same_below m (2 ^ (places - 1)) (2 ^ places) (ap (λ k. 2 ^ k) (sym next) ∙ pow-suc 2 (places - 1)))
