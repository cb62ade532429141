-- rows as numbers: codes, opposites, wider rows, sums, and rows that are the same
use Rattle.std.proofs.Common.{◌≡◌, ◌+◌, ◌<◌, ◌≤◌, ◌-◌, ◌*◌, ◌^◌, ℕ, zero, suc, Bool, true, false, not, ◌&&◌, List, [], ◌∷◌, length}
use Rattle.std.proofs.Common.{refl, sym, ◌∙◌, ap, ◌⊎◌, inl, inr, arith}
use Rattle.std.specs.Prelude.{map, replicate, ℤ, pos, negsuc, ◌+ℤ◌, ◌-ℤ◌, ◌*ℤ◌, ◌≤ℤ◌, ◌<ℤ◌, neg_ℤ, int_le, nat_lt, if◌then◌else◌}
use Rattle.std.specs.Ordering.{int_eq}
use Rattle.std.specs.List.{All, list_all}
use Rattle.std.proofs.Math.Nat.{pow-suc}
use Rattle.std.proofs.lemmas.Int.{ints}
use Rattle.std.proofs.lemmas.Bool.Decides.{nat_tests}
use Rattle.std.proofs.lemmas.List.Elements.{All-nil, All-cons, All-head, All-tail}
use Rattle.cnf.specs.declared.lit.Lit.{Lit}
use Rattle.cnf.specs.Clauses.{opposite, lit_holds, clauses_hold, lit_values}
use Rattle.cnf.specs.Gates.{literal, xor, xor_clauses}
use Rattle.cnf.specs.Arithmetic.{bit, signed_number}
use Rattle.cnf.specs.Bounds.{binary_number, has_places}
use Rattle.cnf.specs.Laws.{GatesAreRight}
use Rattle.state_coding.specs.States.{var_row}
use Rattle.state_coding.specs.Numbers.{half, signed_row, repeat_top, widen, common_places, row_sum, row_sum_clauses, row_sum_vars}
use Rattle.state_coding.specs.Atoms.{match_lits, differ_clauses}
use Rattle.state_coding.proofs.StateLaws.{parts_hold}

-- the number of a row in a model
abbrev pub row_number : List Bool → List Lit → ℤ
row_number model row = signed_number (lit_values model row)

-- ---- codes

code_end : (b n : Bool) → n ≡ not b → (pos 0 -ℤ bit n) +ℤ pos 1 ≡ pos ((if b then 1 else 0) + 2 * 0)
code_end true n e = rw e refl
code_end false n e = rw e refl

code_place : (b : Bool) (s : ℤ) (h p m : ℕ) → s +ℤ pos h ≡ pos m → p ≡ h * 2
    → (bit b +ℤ (pos 2 *ℤ s)) +ℤ pos p ≡ pos ((if b then 1 else 0) + 2 * m)
code_place true s h p m e f = omega (arith, ints)
code_place false s h p m e f = omega (arith, ints)

-- a row of digits is half of all codes and its signed row
pub code_number : (g : GatesAreRight) (model : List Bool) (row : List Lit) → All (λ lit. lit.var < length model) row
    → row_number model (signed_row row) +ℤ pos (half (length row)) ≡ pos (binary_number (lit_values model row))
code_number g model [] known = refl
code_number g model (x ∷ []) known = code_end (lit_holds model x) (lit_holds model (opposite x))
    (g.opposites model x (All-head (λ lit. lit.var < length model) x [] known))
code_number g model (x ∷ y ∷ []) known =
    code_place (lit_holds model x) (row_number model (signed_row (y ∷ []))) 1 2 (binary_number (lit_values model (y ∷ [])))
    (code_number g model (y ∷ []) (All-tail (λ lit. lit.var < length model) x (y ∷ []) known)) refl
code_number g model (x ∷ y ∷ z ∷ row) known =
    code_place (lit_holds model x) (row_number model (signed_row (y ∷ z ∷ row))) (2 ^ length (z ∷ row)) (2 ^ length (y ∷ z ∷ row))
    (binary_number (lit_values model (y ∷ z ∷ row)))
    (code_number g model (y ∷ z ∷ row) (All-tail (λ lit. lit.var < length model) x (y ∷ z ∷ row) known)) (pow-suc 2 (length (z ∷ row)))

pub signed_row-within : (n : ℕ) (row : List Lit) → All (λ lit. lit.var < n) row
    → All (λ lit. lit.var < n) (signed_row row)
signed_row-within n [] h = All-nil (λ lit. lit.var < n)
signed_row-within n (x ∷ []) h = All-cons (λ lit. lit.var < n) (opposite x) [] (All-head (λ lit. lit.var < n) x [] h) (All-nil (λ lit. lit.var < n))
signed_row-within n (x ∷ y ∷ row) h =
    All-cons (λ lit. lit.var < n) x (signed_row (y ∷ row)) (All-head (λ lit. lit.var < n) x (y ∷ row) h)
    (signed_row-within n (y ∷ row) (All-tail (λ lit. lit.var < n) x (y ∷ row) h))

-- ---- opposites

opposite_end : (b n : Bool) → n ≡ not b → pos 0 -ℤ bit n ≡ negsuc 0 -ℤ (pos 0 -ℤ bit b)
opposite_end true n e = rw e refl
opposite_end false n e = rw e refl

opposite_place : (b n : Bool) (s t : ℤ) → n ≡ not b → t ≡ negsuc 0 -ℤ s
    → bit n +ℤ (pos 2 *ℤ t) ≡ negsuc 0 -ℤ (bit b +ℤ (pos 2 *ℤ s))
opposite_place true n s t e f = rw (e, f) (omega (arith, ints))
opposite_place false n s t e f = rw (e, f) (omega (arith, ints))

-- the opposite literals are the number -1 less the row's
pub opposite_number : (g : GatesAreRight) (model : List Bool) (x : Lit) (row : List Lit)
    → All (λ lit. lit.var < length model) (x ∷ row)
    → row_number model (map opposite (x ∷ row)) ≡ negsuc 0 -ℤ row_number model (x ∷ row)
opposite_number g model x [] known = opposite_end (lit_holds model x) (lit_holds model (opposite x))
    (g.opposites model x (All-head (λ lit. lit.var < length model) x [] known))
opposite_number g model x (y ∷ row) known =
    opposite_place (lit_holds model x) (lit_holds model (opposite x)) (row_number model (y ∷ row)) (row_number model (map opposite (y ∷ row)))
    (g.opposites model x (All-head (λ lit. lit.var < length model) x (y ∷ row) known))
    (opposite_number g model y row (All-tail (λ lit. lit.var < length model) x (y ∷ row) known))

pub opposites-within : (n : ℕ) (row : List Lit) → All (λ lit. lit.var < n) row
    → All (λ lit. lit.var < n) (map opposite row)
opposites-within n [] h = All-nil (λ lit. lit.var < n)
opposites-within n (x ∷ row) h = All-cons (λ lit. lit.var < n) (opposite x) (map opposite row) (All-head (λ lit. lit.var < n) x row h)
    (opposites-within n row (All-tail (λ lit. lit.var < n) x row h))

-- ---- wider rows

sign_again : (b : Bool) (s : ℤ) → s ≡ pos 0 -ℤ bit b → bit b +ℤ (pos 2 *ℤ s) ≡ pos 0 -ℤ bit b
sign_again true s e = rw e refl
sign_again false s e = rw e refl

top_repeated : (model : List Bool) (x : Lit) (more : ℕ)
    → row_number model (x ∷ replicate more x) ≡ pos 0 -ℤ bit (lit_holds model x)
top_repeated model x zero = refl
top_repeated model x (suc more) = sign_again (lit_holds model x) (row_number model (x ∷ replicate more x)) (top_repeated model x more)

repeat_cons : (more : ℕ) (x y : Lit) (row : List Lit) (model : List Bool)
    → row_number model (x ∷ repeat_top more (y ∷ row)) ≡ bit (lit_holds model x) +ℤ
    (pos 2 *ℤ row_number model (repeat_top more (y ∷ row)))
repeat_cons more x y [] model = refl
repeat_cons more x y (z ∷ row) model = refl

pub repeat_number : (model : List Bool) (more : ℕ) (row : List Lit)
    → row_number model (repeat_top more row) ≡ row_number model row
repeat_number model more [] = refl
repeat_number model more (x ∷ []) = top_repeated model x more
repeat_number model more (x ∷ y ∷ row) =
    repeat_cons more x y row model ∙ ap (λ s. bit (lit_holds model x) +ℤ (pos 2 *ℤ s)) (repeat_number model more (y ∷ row))

length-replicate_lit : (x : Lit) (more : ℕ) → length (replicate more x) ≡ more
length-replicate_lit x zero = refl
length-replicate_lit x (suc more) = ap suc (length-replicate_lit x more)

length-repeat : (more : ℕ) (row : List Lit) → 0 < length row → length (repeat_top more row) ≡ length row + more
length-repeat more [] h = absurd (omega arith)
length-repeat more (x ∷ []) h = let e : length (replicate more x) ≡ more = length-replicate_lit x more in omega arith
length-repeat more (x ∷ y ∷ row) h = let e : length (repeat_top more (y ∷ row)) ≡ length (y ∷ row) + more = length-repeat more (y ∷ row) (omega arith) in
    omega arith

pub length-widen : (places : ℕ) (row : List Lit) → 0 < length row → length row ≤ places
    → length (widen places row) ≡ places
length-widen places row some le = length-repeat (places - length row) row some ∙ omega arith

replicate-within : (n : ℕ) (x : Lit) (more : ℕ) → x.var < n → All (λ lit. lit.var < n) (replicate more x)
replicate-within n x zero h = All-nil (λ lit. lit.var < n)
replicate-within n x (suc more) h = All-cons (λ lit. lit.var < n) x (replicate more x) h (replicate-within n x more h)

pub repeat-within : (n more : ℕ) (row : List Lit) → All (λ lit. lit.var < n) row
    → All (λ lit. lit.var < n) (repeat_top more row)
repeat-within n more [] h = All-nil (λ lit. lit.var < n)
repeat-within n more (x ∷ []) h = let low : x.var < n = All-head (λ lit. lit.var < n) x [] h in All-cons (λ lit. lit.var < n) x (replicate more x) low
    (replicate-within n x more low)
repeat-within n more (x ∷ y ∷ row) h =
    All-cons (λ lit. lit.var < n) x (repeat_top more (y ∷ row)) (All-head (λ lit. lit.var < n) x (y ∷ row) h)
    (repeat-within n more (y ∷ row) (All-tail (λ lit. lit.var < n) x (y ∷ row) h))

-- ---- sums

zero_left : (z : ℤ) → z ≡ pos 0 +ℤ z
zero_left z = omega (arith, ints)

zero_right : (z : ℤ) → z ≡ z +ℤ pos 0
zero_right z = omega (arith, ints)

pub row_sum_number : (g : GatesAreRight) (model : List Bool) (n : ℕ) (a b : List Lit)
    → n + row_sum_vars a b ≤ length model → All (λ lit. lit.var < length model) a
    → All (λ lit. lit.var < length model) b
    → clauses_hold model (row_sum_clauses n a b) ≡ true
    → row_number model (row_sum n a b) ≡ row_number model a +ℤ row_number model b
row_sum_number g model n [] b room la lb h = zero_left (row_number model b)
row_sum_number g model n (x ∷ a) [] room la lb h = zero_right (row_number model (x ∷ a))
row_sum_number g model n (x ∷ a) (y ∷ b) room la lb h =
    let p : ℕ = common_places (x ∷ a) (y ∷ b) in
    let wa : length (widen p (x ∷ a)) ≡ p = length-widen p (x ∷ a) (omega arith) (omega arith) in
    let wb : length (widen p (y ∷ b)) ≡ p = length-widen p (y ∷ b) (omega arith) (omega arith) in
    g.sum model n (widen p (x ∷ a)) (widen p (y ∷ b)) (omega arith) (wa ∙ sym wb) (omega arith)
    (repeat-within (length model) (p - length (x ∷ a)) (x ∷ a) la) (repeat-within (length model) (p - length (y ∷ b)) (y ∷ b) lb) h
    ∙ rw (repeat_number model (p - length (x ∷ a)) (x ∷ a), repeat_number model (p - length (y ∷ b)) (y ∷ b)) refl

-- ---- the reach of a row

pub record InReach (h : ℕ) (s : ℤ) : Type 0 where
  pub low : neg_ℤ (pos h) ≤ℤ s
  pub high : s <ℤ pos h

reach_end : (b : Bool) → InReach 1 (pos 0 -ℤ bit b)
reach_end true = record { low = omega (arith, ints); high = omega (arith, ints) }
reach_end false = record { low = omega (arith, ints); high = omega (arith, ints) }

reach_place : (b : Bool) (s : ℤ) (h p : ℕ) → p ≡ h * 2 → InReach h s → InReach p (bit b +ℤ (pos 2 *ℤ s))
reach_place true s h p e r = let l : neg_ℤ (pos h) ≤ℤ s = r.low in let u : s <ℤ pos h = r.high in record
    { low = omega (arith, ints); high = omega (arith, ints) }
reach_place false s h p e r = let l : neg_ℤ (pos h) ≤ℤ s = r.low in let u : s <ℤ pos h = r.high in record
    { low = omega (arith, ints); high = omega (arith, ints) }

pub reach : (b : Bool) (bits : List Bool) → InReach (2 ^ length bits) (signed_number (b ∷ bits))
reach b [] = reach_end b
reach b (c ∷ bits) = reach_place b (signed_number (c ∷ bits)) (2 ^ length bits) (2 ^ suc (length bits)) (pow-suc 2 (length bits)) (reach c bits)

not_below : (a b : ℕ) → nat_lt a b ≡ false → b ≤ a
not_below a b h = grind (arith, nat_tests)

far_equal : (h m : ℕ) (s c : ℤ) → InReach h s → h ≤ m → (c ≡ pos m) ⊎ (c ≡ negsuc m) → int_eq s c ≡ false
far_equal h m s c r far (inl e) = let l : neg_ℤ (pos h) ≤ℤ s = r.low in let u : s <ℤ pos h = r.high in rw e (grind (arith, ints))
far_equal h m s c r far (inr e) = let l : neg_ℤ (pos h) ≤ℤ s = r.low in let u : s <ℤ pos h = r.high in rw e (grind (arith, ints))

far_at_most : (h m : ℕ) (s c : ℤ) → InReach h s → h ≤ m → (c ≡ pos m) ⊎ (c ≡ negsuc m) → int_le s c ≡ int_le (pos 0) c
far_at_most h m s c r far (inl e) = let l : neg_ℤ (pos h) ≤ℤ s = r.low in let u : s <ℤ pos h = r.high in rw e (grind (arith, ints))
far_at_most h m s c r far (inr e) = let l : neg_ℤ (pos h) ≤ℤ s = r.low in let u : s <ℤ pos h = r.high in rw e (grind (arith, ints))

pub out_equal : (b : Bool) (bits : List Bool) (c : ℤ) → has_places (suc (length bits)) c ≡ false
    → int_eq (signed_number (b ∷ bits)) c ≡ false
out_equal b bits (pos m) h =
    let far : 2 ^ suc (length bits) ≤ 2 * m = not_below (2 * m) (2 ^ suc (length bits)) h in
    far_equal (2 ^ length bits) m (signed_number (b ∷ bits)) (pos m) (reach b bits)
    (let e : 2 ^ suc (length bits) ≡ 2 ^ length bits * 2 = pow-suc 2 (length bits) in omega arith) (inl refl)
out_equal b bits (negsuc m) h =
    let far : 2 ^ suc (length bits) ≤ 2 * m + 1 = not_below (2 * m + 1) (2 ^ suc (length bits)) h in
    far_equal (2 ^ length bits) m (signed_number (b ∷ bits)) (negsuc m) (reach b bits)
    (let e : 2 ^ suc (length bits) ≡ 2 ^ length bits * 2 = pow-suc 2 (length bits) in omega arith) (inr refl)

pub out_at_most : (b : Bool) (bits : List Bool) (c : ℤ) → has_places (suc (length bits)) c ≡ false
    → int_le (signed_number (b ∷ bits)) c ≡ int_le (pos 0) c
out_at_most b bits (pos m) h =
    let far : 2 ^ suc (length bits) ≤ 2 * m = not_below (2 * m) (2 ^ suc (length bits)) h in
    far_at_most (2 ^ length bits) m (signed_number (b ∷ bits)) (pos m) (reach b bits)
    (let e : 2 ^ suc (length bits) ≡ 2 ^ length bits * 2 = pow-suc 2 (length bits) in omega arith) (inl refl)
out_at_most b bits (negsuc m) h =
    let far : 2 ^ suc (length bits) ≤ 2 * m + 1 = not_below (2 * m + 1) (2 ^ suc (length bits)) h in
    far_at_most (2 ^ length bits) m (signed_number (b ∷ bits)) (negsuc m) (reach b bits)
    (let e : 2 ^ suc (length bits) ≡ 2 ^ length bits * 2 = pow-suc 2 (length bits) in omega arith) (inr refl)

-- ---- the same bits

-- rows of the same length have the same bits
abbrev pub same_bits : List Bool → List Bool → Bool
same_bits (x ∷ xs) (y ∷ ys) = not (xor x y) && same_bits xs ys
same_bits _ _ = true

same_signs : (x y : Bool) → int_eq (pos 0 -ℤ bit x) (pos 0 -ℤ bit y) ≡ (not (xor x y) && true)
same_signs true true = refl
same_signs true false = refl
same_signs false true = refl
same_signs false false = refl

same_place : (x y : Bool) (s t : ℤ) → int_eq (bit x +ℤ (pos 2 *ℤ s)) (bit y +ℤ (pos 2 *ℤ t)) ≡
    (not (xor x y) && int_eq s t)
same_place true true s t = grind (arith, ints)
same_place true false s t = grind (arith, ints)
same_place false true s t = grind (arith, ints)
same_place false false s t = grind (arith, ints)

pub same_numbers : (xs ys : List Bool) → length xs ≡ length ys
    → int_eq (signed_number xs) (signed_number ys) ≡ same_bits xs ys
same_numbers [] [] e = refl
same_numbers [] (y ∷ ys) e = absurd (omega arith)
same_numbers (x ∷ xs) [] e = absurd (omega arith)
same_numbers (x ∷ []) (y ∷ []) e = same_signs x y
same_numbers (x ∷ []) (y ∷ y' ∷ ys) e = absurd (omega arith)
same_numbers (x ∷ x' ∷ xs) (y ∷ []) e = absurd (omega arith)
same_numbers (x ∷ x' ∷ xs) (y ∷ y' ∷ ys) e =
    same_place x y (signed_number (x' ∷ xs)) (signed_number (y' ∷ ys)) ∙ ap (λ b. not (xor x y) && b) (same_numbers (x' ∷ xs) (y' ∷ ys) (omega arith))

match_true : (x r s : Bool) → r ≡ s → (x && r) ≡ (not (xor x true) && s)
match_true true r s e = e
match_true false r s e = refl

match_false : (x o r s : Bool) → o ≡ not x → r ≡ s → (o && r) ≡ (not (xor x false) && s)
match_false true o r s eo e = rw eo refl
match_false false o r s eo e = rw eo e

-- the literals of a match all hold where the row has the bits
pub match_says : (g : GatesAreRight) (model : List Bool) (row : List Lit) (bits : List Bool)
    → All (λ lit. lit.var < length model) row → list_all (lit_holds model) (match_lits row bits) ≡ same_bits
    (lit_values model row) bits
match_says g model [] bits known = refl
match_says g model (x ∷ row) [] known = refl
match_says g model (x ∷ row) (true ∷ bits) known =
    match_true (lit_holds model x) (list_all (lit_holds model) (match_lits row bits)) (same_bits (lit_values model row) bits)
    (match_says g model row bits (All-tail (λ lit. lit.var < length model) x row known))
match_says g model (x ∷ row) (false ∷ bits) known =
    match_false (lit_holds model x) (lit_holds model (opposite x)) (list_all (lit_holds model) (match_lits row bits))
    (same_bits (lit_values model row) bits)
    (g.opposites model x (All-head (λ lit. lit.var < length model) x row known))
    (match_says g model row bits (All-tail (λ lit. lit.var < length model) x row known))

pub match-within : (n : ℕ) (row : List Lit) (bits : List Bool) → All (λ lit. lit.var < n) row
    → All (λ lit. lit.var < n) (match_lits row bits)
match-within n [] bits h = All-nil (λ lit. lit.var < n)
match-within n (x ∷ row) [] h = All-nil (λ lit. lit.var < n)
match-within n (x ∷ row) (true ∷ bits) h =
    All-cons (λ lit. lit.var < n) x (match_lits row bits) (All-head (λ lit. lit.var < n) x row h)
    (match-within n row bits (All-tail (λ lit. lit.var < n) x row h))
match-within n (x ∷ row) (false ∷ bits) h =
    All-cons (λ lit. lit.var < n) (opposite x) (match_lits row bits) (All-head (λ lit. lit.var < n) x row h)
    (match-within n row bits (All-tail (λ lit. lit.var < n) x row h))

differ_step : (o d x y r s : Bool) → o ≡ not d → d ≡ xor x y → r ≡ s → (o && r) ≡ (not (xor x y) && s)
differ_step o d x y r s eo ed er = rw (eo, ed, er) refl

-- the variables of the places at which rows differ are all false where the rows have the same bits
pub differ_says : (g : GatesAreRight) (model : List Bool) (n : ℕ) (a b : List Lit) → length a ≡ length b
    → n + length a ≤ length model → All (λ lit. lit.var < length model) a → All (λ lit. lit.var < length model) b
    → clauses_hold model (differ_clauses n a b) ≡ true
    → list_all (lit_holds model) (map opposite (var_row n (length a))) ≡ same_bits (lit_values model a)
    (lit_values model b)
differ_says g model n [] [] same room la lb h = refl
differ_says g model n [] (y ∷ b) same room la lb h = absurd (omega arith)
differ_says g model n (x ∷ a) [] same room la lb h = absurd (omega arith)
differ_says g model n (x ∷ a) (y ∷ b) same room la lb h =
    let both = parts_hold model (xor_clauses n x y) (differ_clauses (n + 1) a b) h in
    differ_step (lit_holds model (opposite (literal n))) (lit_holds model (literal n)) (lit_holds model x) (lit_holds model y)
    (list_all (lit_holds model) (map opposite (var_row (n + 1) (length a)))) (same_bits (lit_values model a) (lit_values model b))
    (g.opposites model (literal n) (omega arith))
    (g.xor model n x y (omega arith) (All-head (λ lit. lit.var < length model) x a la) (All-head (λ lit. lit.var < length model) y b lb) both.0)
    (differ_says g model (n + 1) a b (omega arith) (omega arith) (All-tail (λ lit. lit.var < length model) x a la)
    (All-tail (λ lit. lit.var < length model) y b lb) both.1)
