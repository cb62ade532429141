-- rows of bits as numbers: full adders add, and comparisons compare
use Rattle.std.proofs.Common.{◌≡◌, ◌+◌, ◌<◌, ◌≤◌, ◌*◌, ℕ, Bool, true, false, not, ◌&&◌, List, [], ◌∷◌, ◌++◌, length, refl, sym, ◌∙◌, ap, arith}
use Rattle.std.specs.Prelude.{ℤ, pos, ◌+ℤ◌, ◌-ℤ◌, ◌*ℤ◌, int_lt, int_le}
use Rattle.std.proofs.lemmas.Int.{ints}
use Rattle.std.proofs.lemmas.Bool.{and_parts}
use Rattle.std.proofs.lemmas.List.Elements.{All-head, All-tail}
use Rattle.std.specs.List.{All}
use Rattle.cnf.specs.declared.lit.Lit.{Lit}
use Rattle.cnf.specs.Clauses.{opposite, lit_holds, clauses_hold, lit_values}
use Rattle.cnf.specs.Gates.{literal, xor, majority, and_clauses, xor_clauses, majority_clauses}
use Rattle.cnf.specs.Arithmetic.{bit, signed_number, comparison_pairs, later_greater_clauses, greater_clauses, later_sum_clauses, sum_clauses}
use Rattle.cnf.specs.Arithmetic.{later_sum_bits, sum_bits}
use Rattle.cnf.proofs.ModelLaws.{lit_holds-opposite, clauses_hold-append}
use Rattle.cnf.proofs.GateLaws.{and_means, xor_means, majority_means}

-- the number of a row after a bit s, which is the sign where the row is empty
abbrev pub signed_after : Bool → List Bool → ℤ
signed_after s [] = pos 0 -ℤ bit s
signed_after s (b ∷ bs) = bit b +ℤ (pos 2 *ℤ signed_after b bs)

sign_bit : (b : Bool) → pos 0 -ℤ bit b ≡ bit b +ℤ (pos 2 *ℤ (pos 0 -ℤ bit b))
sign_bit true = refl
sign_bit false = refl

pub signed-cons : (b : Bool) (bs : List Bool) → signed_number (b ∷ bs) ≡ bit b +ℤ (pos 2 *ℤ signed_after b bs)
signed-cons b [] = sign_bit b
signed-cons b (c ∷ cs) = ap (λ z. bit b +ℤ (pos 2 *ℤ z)) (signed-cons c cs)

full_adder : (a b c : Bool) → bit a +ℤ bit b +ℤ bit c ≡ bit (xor (xor a b) c) +ℤ (pos 2 *ℤ bit (majority a b c))
full_adder true true true = refl
full_adder true true false = refl
full_adder true false true = refl
full_adder true false false = refl
full_adder false true true = refl
full_adder false true false = refl
full_adder false false true = refl
full_adder false false false = refl

-- the signs added once more, with the carry of their own place
sign_adder : (a b c : Bool)
    → bit (xor (xor a b) (majority a b c)) +ℤ (pos 2 *ℤ (pos 0 -ℤ bit (xor (xor a b) (majority a b c)))) ≡ (pos 0 -ℤ bit a) +ℤ (pos 0 -ℤ bit b) +ℤ bit
    (majority a b c)
sign_adder true true true = refl
sign_adder true true false = refl
sign_adder true false true = refl
sign_adder true false false = refl
sign_adder false true true = refl
sign_adder false true false = refl
sign_adder false false true = refl
sign_adder false false false = refl

add_places : (a b c s d x y z : ℤ) → a +ℤ b +ℤ c ≡ s +ℤ (pos 2 *ℤ d) → z ≡ x +ℤ y +ℤ d
    → s +ℤ (pos 2 *ℤ z) ≡ (a +ℤ (pos 2 *ℤ x)) +ℤ (b +ℤ (pos 2 *ℤ y)) +ℤ c
add_places a b c s d x y z e f = omega (arith, ints)

compare_ttt : (x y : ℤ) → int_lt y (x +ℤ pos 1) ≡ int_lt (pos 1 +ℤ (pos 2 *ℤ y)) ((pos 1 +ℤ (pos 2 *ℤ x)) +ℤ pos 1)
compare_ttt x y = grind (arith, ints)

compare_ttf : (x y : ℤ) → int_lt y (x +ℤ pos 0) ≡ int_lt (pos 1 +ℤ (pos 2 *ℤ y)) ((pos 1 +ℤ (pos 2 *ℤ x)) +ℤ pos 0)
compare_ttf x y = grind (arith, ints)

compare_tft : (x y : ℤ) → int_lt y (x +ℤ pos 1) ≡ int_lt (pos 0 +ℤ (pos 2 *ℤ y)) ((pos 1 +ℤ (pos 2 *ℤ x)) +ℤ pos 1)
compare_tft x y = grind (arith, ints)

compare_tff : (x y : ℤ) → int_lt y (x +ℤ pos 1) ≡ int_lt (pos 0 +ℤ (pos 2 *ℤ y)) ((pos 1 +ℤ (pos 2 *ℤ x)) +ℤ pos 0)
compare_tff x y = grind (arith, ints)

compare_ftt : (x y : ℤ) → int_lt y (x +ℤ pos 0) ≡ int_lt (pos 1 +ℤ (pos 2 *ℤ y)) ((pos 0 +ℤ (pos 2 *ℤ x)) +ℤ pos 1)
compare_ftt x y = grind (arith, ints)

compare_ftf : (x y : ℤ) → int_lt y (x +ℤ pos 0) ≡ int_lt (pos 1 +ℤ (pos 2 *ℤ y)) ((pos 0 +ℤ (pos 2 *ℤ x)) +ℤ pos 0)
compare_ftf x y = grind (arith, ints)

compare_fft : (x y : ℤ) → int_lt y (x +ℤ pos 1) ≡ int_lt (pos 0 +ℤ (pos 2 *ℤ y)) ((pos 0 +ℤ (pos 2 *ℤ x)) +ℤ pos 1)
compare_fft x y = grind (arith, ints)

compare_fff : (x y : ℤ) → int_lt y (x +ℤ pos 0) ≡ int_lt (pos 0 +ℤ (pos 2 *ℤ y)) ((pos 0 +ℤ (pos 2 *ℤ x)) +ℤ pos 0)
compare_fff x y = grind (arith, ints)

pub compare_places : (a b g : Bool) (x y : ℤ)
    → int_lt y (x +ℤ bit (majority a (not b) g)) ≡ int_lt (bit b +ℤ (pos 2 *ℤ y)) ((bit a +ℤ (pos 2 *ℤ x)) +ℤ bit g)
compare_places true true true x y = compare_ttt x y
compare_places true true false x y = compare_ttf x y
compare_places true false true x y = compare_tft x y
compare_places true false false x y = compare_tff x y
compare_places false true true x y = compare_ftt x y
compare_places false true false x y = compare_ftf x y
compare_places false false true x y = compare_fft x y
compare_places false false false x y = compare_fff x y

compare_signs : (a b g : Bool) → majority b (not a) g ≡ int_lt (pos 0 -ℤ bit b) ((pos 0 -ℤ bit a) +ℤ bit g)
compare_signs true true true = refl
compare_signs true true false = refl
compare_signs true false true = refl
compare_signs true false false = refl
compare_signs false true true = refl
compare_signs false true false = refl
compare_signs false false true = refl
compare_signs false false false = refl

and_as_majority : (a b : Bool) → (a && b) ≡ majority a b false
and_as_majority true true = refl
and_as_majority true false = refl
and_as_majority false true = refl
and_as_majority false false = refl

split : (model : List Bool) (xs ys : List (List Lit)) → clauses_hold model (xs ++ ys) ≡ true
    → (clauses_hold model xs ≡ true) × (clauses_hold model ys ≡ true)
split model xs ys h = and_parts (clauses_hold model xs) (clauses_hold model ys) (sym (clauses_hold-append model xs ys) ∙ h)

signs_added : (r c p q d x : Bool) → r ≡ xor x c → x ≡ xor p q → c ≡ majority p q d
    → bit r +ℤ (pos 2 *ℤ (pos 0 -ℤ bit r)) ≡ (pos 0 -ℤ bit p) +ℤ (pos 0 -ℤ bit q) +ℤ bit c
signs_added r c p q d x er ex ec = rw (er, ex, ec) (sign_adder p q d)

place_added : (a b c x s d : Bool) → x ≡ xor a b → s ≡ xor x c → d ≡ majority a b c
    → bit a +ℤ bit b +ℤ bit c ≡ bit s +ℤ (pos 2 *ℤ bit d)
place_added a b c x s d ex es ed = rw (es, ex, ed) (full_adder a b c)

-- the adders from the second place on: p and q are the bits before, whose carry is that of p, q and d
pub sum_on_adds :
    (model : List Bool) (n : ℕ) (either carry : Lit) (left right : List Lit) (s p q d : Bool)
    → length left ≡ length right
    → n + 3 * length left < length model
    → either.var < length model
    → carry.var < length model
    → All (λ lit. lit.var < length model) left
    → All (λ lit. lit.var < length model) right
    → lit_holds model either ≡ xor p q
    → lit_holds model carry ≡ majority p q d
    → clauses_hold model (later_sum_clauses n either carry left right) ≡ true
    → signed_after s (lit_values model (later_sum_bits n left)) ≡ signed_after p (lit_values model left) +ℤ signed_after q
    (lit_values model right) +ℤ bit (lit_holds model carry)
sum_on_adds model n either carry [] [] s p q d same room le lc ll lr ee ec h =
    signs_added (lit_holds model (literal n)) (lit_holds model carry) p q d (lit_holds model either)
    (xor_means model n either carry (omega arith) le lc h) ee ec
sum_on_adds model n either carry [] (b ∷ right) s p q d same room le lc ll lr ee ec h = absurd (omega arith)
sum_on_adds model n either carry (a ∷ left) [] s p q d same room le lc ll lr ee ec h = absurd (omega arith)
sum_on_adds model n either carry (a ∷ left) (b ∷ right) s p q d same room le lc ll lr ee ec h =
    let la : a.var < length model = All-head (λ lit. lit.var < length model) a left ll in
    let lb : b.var < length model = All-head (λ lit. lit.var < length model) b right lr in
    let rest = split model (xor_clauses n a b ++ xor_clauses (n + 1) (literal n) carry ++ majority_clauses (n + 2) a b carry)
    (later_sum_clauses (n + 3) (literal n) (literal (n + 2)) left right) h in
    let third = split model (xor_clauses n a b ++ xor_clauses (n + 1) (literal n) carry) (majority_clauses (n + 2) a b carry) rest.0 in
    let second = split model (xor_clauses n a b) (xor_clauses (n + 1) (literal n) carry) third.0 in
    let is_either : lit_holds model (literal n) ≡ xor (lit_holds model a) (lit_holds model b) = xor_means model n a b (omega arith) la lb second.0 in
    let is_sum : lit_holds model (literal (n + 1)) ≡ xor (lit_holds model (literal n)) (lit_holds model carry) = xor_means model (n + 1)
    (literal n) carry (omega arith) (omega arith) lc second.1 in
    let is_carry : lit_holds model (literal (n + 2)) ≡ majority (lit_holds model a) (lit_holds model b) (lit_holds model carry) = majority_means model
    (n + 2) a b carry (omega arith) la lb lc third.1 in
    add_places (bit (lit_holds model a)) (bit (lit_holds model b)) (bit (lit_holds model carry))
    (bit (lit_holds model (literal (n + 1)))) (bit (lit_holds model (literal (n + 2))))
    (signed_after (lit_holds model a) (lit_values model left)) (signed_after (lit_holds model b) (lit_values model right))
    (signed_after (lit_holds model (literal (n + 1))) (lit_values model (later_sum_bits (n + 3) left)))
    (place_added (lit_holds model a) (lit_holds model b) (lit_holds model carry) (lit_holds model (literal n)) (lit_holds model (literal (n + 1)))
    (lit_holds model (literal (n + 2))) is_either is_sum is_carry)
    (sum_on_adds model (n + 3) (literal n) (literal (n + 2)) left right (lit_holds model (literal (n + 1))) (lit_holds model a) (lit_holds model b)
    (lit_holds model carry)
    (omega arith) (omega arith) (omega arith) (omega arith)
    (All-tail (λ lit. lit.var < length model) a left ll) (All-tail (λ lit. lit.var < length model) b right lr)
    is_either is_carry rest.1)

no_carry : (x y : ℤ) → x +ℤ y +ℤ pos 0 ≡ x +ℤ y
no_carry x y = omega (arith, ints)

half_either : (a b : Bool) → xor a b ≡ xor (xor a b) false
half_either true true = refl
half_either true false = refl
half_either false true = refl
half_either false false = refl

half_added : (a b s d : Bool) → s ≡ xor a b → d ≡ (a && b) → bit a +ℤ bit b +ℤ pos 0 ≡ bit s +ℤ (pos 2 *ℤ bit d)
half_added a b s d es ed = rw (es ∙ half_either a b, ed ∙ and_as_majority a b) (full_adder a b false)

-- in a model of its clauses the adder's bits are the sum of the rows
pub sum_adds :
    (model : List Bool) (n : ℕ) (left right : List Lit)
    → length left ≡ length right
    → 0 < length left
    → n + 3 * length left ≤ length model
    → All (λ lit. lit.var < length model) left
    → All (λ lit. lit.var < length model) right
    → clauses_hold model (sum_clauses n left right) ≡ true
    → signed_number (lit_values model (sum_bits n left)) ≡ signed_number (lit_values model left) +ℤ signed_number (lit_values model right)
sum_adds model n [] right same some room ll lr h = absurd (omega arith)
sum_adds model n (a ∷ left) [] same some room ll lr h = absurd (omega arith)
sum_adds model n (a ∷ left) (b ∷ right) same some room ll lr h =
    let la : a.var < length model = All-head (λ lit. lit.var < length model) a left ll in
    let lb : b.var < length model = All-head (λ lit. lit.var < length model) b right lr in
    let rest = split model (xor_clauses n a b ++ and_clauses (n + 1) a b) (later_sum_clauses (n + 2) (literal n) (literal (n + 1)) left right) h in
    let first = split model (xor_clauses n a b) (and_clauses (n + 1) a b) rest.0 in
    let is_sum : lit_holds model (literal n) ≡ xor (lit_holds model a) (lit_holds model b) = xor_means model n a b (omega arith) la lb first.0 in
    let is_carry : lit_holds model (literal (n + 1)) ≡ (lit_holds model a && lit_holds model b) = and_means model (n + 1) a b (omega arith) la lb first.1 in
    let added =
    add_places (bit (lit_holds model a)) (bit (lit_holds model b)) (pos 0)
    (bit (lit_holds model (literal n))) (bit (lit_holds model (literal (n + 1))))
    (signed_after (lit_holds model a) (lit_values model left)) (signed_after (lit_holds model b) (lit_values model right))
    (signed_after (lit_holds model (literal n)) (lit_values model (later_sum_bits (n + 2) left)))
    (half_added (lit_holds model a) (lit_holds model b) (lit_holds model (literal n)) (lit_holds model (literal (n + 1))) is_sum is_carry)
    (sum_on_adds model (n + 2) (literal n) (literal (n + 1)) left right (lit_holds model (literal n)) (lit_holds model a) (lit_holds model b) false
    (omega arith) (omega arith) (omega arith) (omega arith)
    (All-tail (λ lit. lit.var < length model) a left ll) (All-tail (λ lit. lit.var < length model) b right lr)
    is_sum (is_carry ∙ and_as_majority (lit_holds model a) (lit_holds model b)) rest.1) in
    signed-cons (lit_holds model (literal n)) (lit_values model (later_sum_bits (n + 2) left))
    ∙ added
    ∙ no_carry (bit (lit_holds model a) +ℤ (pos 2 *ℤ signed_after (lit_holds model a) (lit_values model left)))
    (bit (lit_holds model b) +ℤ (pos 2 *ℤ signed_after (lit_holds model b) (lit_values model right)))
    ∙ sym (rw (signed-cons (lit_holds model a) (lit_values model left), signed-cons (lit_holds model b) (lit_values model right)) refl)

signs_compared : (r a b na g : Bool) → r ≡ majority b na g → na ≡ not a
    → r ≡ int_lt (pos 0 -ℤ bit b) ((pos 0 -ℤ bit a) +ℤ bit g)
signs_compared r a b na g er ea = er ∙ rw ea (compare_signs a b g)

place_compared : (r h a b nb g : Bool) (x y : ℤ) → h ≡ majority a nb g → nb ≡ not b → r ≡ int_lt y (x +ℤ bit h)
    → r ≡ int_lt (bit b +ℤ (pos 2 *ℤ y)) ((bit a +ℤ (pos 2 *ℤ x)) +ℤ bit g)
place_compared r h a b nb g x y eh eb er = er ∙ rw (eh, eb) (compare_places a b g x y)

-- the comparison from the second place on, where `greater` counts as one more on the left
pub greater_on_compares :
    (model : List Bool) (n k : ℕ) (greater a : Lit) (left : List Lit) (b : Lit) (right : List Lit)
    → length left ≡ length right
    → k ≡ n + length left
    → k < length model
    → greater.var < length model
    → All (λ lit. lit.var < length model) (a ∷ left)
    → All (λ lit. lit.var < length model) (b ∷ right)
    → clauses_hold model (later_greater_clauses n greater (comparison_pairs (a ∷ left) (b ∷ right))) ≡ true
    → lit_holds model (literal k) ≡ int_lt (signed_number (lit_values model (b ∷ right)))
    (signed_number (lit_values model (a ∷ left)) +ℤ bit (lit_holds model greater))
greater_on_compares model n k greater a [] b [] same at room lg ll lr h =
    let la : a.var < length model = All-head (λ lit. lit.var < length model) a [] ll in
    let lb : b.var < length model = All-head (λ lit. lit.var < length model) b [] lr in
    let here : k ≡ n = omega arith in
    let is : lit_holds model (literal n) ≡ majority (lit_holds model b) (lit_holds model (opposite a)) (lit_holds model greater) =
    majority_means model n b (opposite a) greater (omega arith) lb la lg h in
    signs_compared (lit_holds model (literal k)) (lit_holds model a) (lit_holds model b) (lit_holds model (opposite a)) (lit_holds model greater)
    (ap (λ j. lit_holds model (literal j)) here ∙ is)
    (lit_holds-opposite model a la)
greater_on_compares model n k greater a [] b (b' ∷ right) same at room lg ll lr h = absurd (omega arith)
greater_on_compares model n k greater a (a' ∷ left) b [] same at room lg ll lr h = absurd (omega arith)
greater_on_compares model n k greater a (a' ∷ left) b (b' ∷ right) same at room lg ll lr h =
    let la : a.var < length model = All-head (λ lit. lit.var < length model) a (a' ∷ left) ll in
    let lb : b.var < length model = All-head (λ lit. lit.var < length model) b (b' ∷ right) lr in
    let both = split model (majority_clauses n a (opposite b) greater)
    (later_greater_clauses (n + 1) (literal n) (comparison_pairs (a' ∷ left) (b' ∷ right))) h in
    place_compared (lit_holds model (literal k)) (lit_holds model (literal n)) (lit_holds model a) (lit_holds model b) (lit_holds model (opposite b))
    (lit_holds model greater)
    (signed_number (lit_values model (a' ∷ left))) (signed_number (lit_values model (b' ∷ right)))
    (majority_means model n a (opposite b) greater (omega arith) la lb lg both.0)
    (lit_holds-opposite model b lb)
    (greater_on_compares model (n + 1) k (literal n) a' left b' right (omega arith) (omega arith) room (omega arith)
    (All-tail (λ lit. lit.var < length model) a (a' ∷ left) ll) (All-tail (λ lit. lit.var < length model) b (b' ∷ right) lr) both.1)

pub at_least : (x y : ℤ) → not (int_lt y (x +ℤ pos 0)) ≡ int_le x y
at_least x y = grind (arith, ints)

-- in a model of its clauses the last variable says that the left row is the greater number
pub greater_compares :
    (model : List Bool) (n k : ℕ) (a : Lit) (left : List Lit) (b : Lit) (right : List Lit)
    → length left ≡ length right
    → k ≡ n + length left
    → k < length model
    → All (λ lit. lit.var < length model) (a ∷ left)
    → All (λ lit. lit.var < length model) (b ∷ right)
    → clauses_hold model (greater_clauses n (comparison_pairs (a ∷ left) (b ∷ right))) ≡ true
    → lit_holds model (literal k) ≡ int_lt (signed_number (lit_values model (b ∷ right))) (signed_number (lit_values model (a ∷ left)) +ℤ pos 0)
greater_compares model n k a [] b [] same at room ll lr h =
    let la : a.var < length model = All-head (λ lit. lit.var < length model) a [] ll in
    let lb : b.var < length model = All-head (λ lit. lit.var < length model) b [] lr in
    let here : k ≡ n = omega arith in
    let is : lit_holds model (literal n) ≡ (lit_holds model b && lit_holds model (opposite a)) = and_means model n b (opposite a) (omega arith) lb la h in
    signs_compared (lit_holds model (literal k)) (lit_holds model a) (lit_holds model b) (lit_holds model (opposite a)) false
    (ap (λ j. lit_holds model (literal j)) here ∙ is ∙ and_as_majority (lit_holds model b) (lit_holds model (opposite a)))
    (lit_holds-opposite model a la)
greater_compares model n k a [] b (b' ∷ right) same at room ll lr h = absurd (omega arith)
greater_compares model n k a (a' ∷ left) b [] same at room ll lr h = absurd (omega arith)
greater_compares model n k a (a' ∷ left) b (b' ∷ right) same at room ll lr h =
    let la : a.var < length model = All-head (λ lit. lit.var < length model) a (a' ∷ left) ll in
    let lb : b.var < length model = All-head (λ lit. lit.var < length model) b (b' ∷ right) lr in
    let both = split model (and_clauses n a (opposite b)) (later_greater_clauses (n + 1) (literal n) (comparison_pairs (a' ∷ left) (b' ∷ right))) h in
    place_compared (lit_holds model (literal k)) (lit_holds model (literal n)) (lit_holds model a) (lit_holds model b) (lit_holds model (opposite b)) false
    (signed_number (lit_values model (a' ∷ left))) (signed_number (lit_values model (b' ∷ right)))
    (and_means model n a (opposite b) (omega arith) la lb both.0 ∙ and_as_majority (lit_holds model a) (lit_holds model (opposite b)))
    (lit_holds-opposite model b lb)
    (greater_on_compares model (n + 1) k (literal n) a' left b' right (omega arith) (omega arith) room (omega arith)
    (All-tail (λ lit. lit.var < length model) a (a' ∷ left) ll) (All-tail (λ lit. lit.var < length model) b (b' ∷ right) lr) both.1)
