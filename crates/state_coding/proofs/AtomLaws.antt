-- atoms: in every list of truth values in which the clauses of an atom hold, its literal is its truth value
use Rattle.std.proofs.Common.{◌≡◌, ◌+◌, ◌<◌, ◌≤◌, ◌-◌, ℕ, suc, Bool, true, false, not, ◌&&◌, ◌||◌, List, [], ◌∷◌, length}
use Rattle.std.proofs.Common.{refl, sym, ◌∙◌, ap, arith}
use Rattle.std.specs.Prelude.{map, ℤ, pos, negsuc, ◌+ℤ◌, neg_ℤ, int_le, nat_lt, if◌then◌else◌}
use Rattle.std.specs.Ordering.{int_eq}
use Rattle.std.specs.List.{All}
use Rattle.std.proofs.lemmas.Int.{ints}
use Rattle.std.proofs.lemmas.Bool.{and_parts}
use Rattle.std.proofs.lemmas.Bool.Decides.{nat_tests, Decides-int_eq}
use Rattle.std.proofs.lemmas.List.{length-map}
use Rattle.cnf.specs.declared.lit.Lit.{Lit}
use Rattle.cnf.specs.Clauses.{opposite, lit_holds, clauses_hold, lit_values}
use Rattle.cnf.specs.Gates.{literal, all_clauses}
use Rattle.cnf.specs.Bounds.{binary_digits, constant_bits, has_places, at_most_const_clauses}
use Rattle.cnf.specs.Laws.{GatesAreRight}
use Rattle.state_coding.specs.States.{var_row}
use Rattle.state_coding.specs.Numbers.{OffsetRow, TermCoding, opposite_offset_row, widen, common_places}
use Rattle.state_coding.specs.Numbers.{plus_row_coding}
use Rattle.state_coding.specs.Atoms
use Rattle.state_coding.proofs.CodeLaws.{length-binary_digits, var_row-within}
use Rattle.state_coding.proofs.StateLaws.{parts_hold}
use Rattle.state_coding.proofs.RowLaws.{row_number, opposites-within, length-widen, repeat-within, repeat_number, out_equal, out_at_most, same_bits}
use Rattle.state_coding.proofs.RowLaws.{same_numbers, match_says, match-within, differ_says}
use Rattle.state_coding.proofs.TermLaws.{sum_number, opposite_sum, opposite_within, plus_row_is, row_sum_within}

-- ---- truth values and constants

single : (l : Bool) → ((l || false) && true) ≡ true → l ≡ true
single true h = refl
single false h = h

truth_lit : (g : GatesAreRight) (model : List Bool) (n : ℕ) (b : Bool) → n < length model
    → lit_holds model (literal n) ≡ true → lit_holds model (Atoms.truth_coding n b).lit ≡ b
truth_lit g model n true room h = h
truth_lit g model n false room h = g.opposites model (literal n) room ∙ ap not h

pub truth_is : (g : GatesAreRight) (model : List Bool) (n : ℕ) (b : Bool) → n < length model
    → clauses_hold model ((literal n ∷ []) ∷ []) ≡ true → lit_holds model (Atoms.truth_coding n b).lit ≡ b
truth_is g model n b room h = truth_lit g model n b room (single (lit_holds model (literal n)) h)

-- what a coding says
abbrev pub Says : List Bool → Atoms.AtomCoding → Bool → Type 0
Says model coding truth = coding.vars ≤ length model → clauses_hold model coding.clauses ≡ true → lit_holds model coding.lit ≡ truth

length-map_not : (bits : List Bool) → length (map not bits) ≡ length bits
length-map_not bits = length-map bits not

pub length-constant_bits : (places : ℕ) (c : ℤ) → length (constant_bits places c) ≡ places
length-constant_bits places (pos m) = length-binary_digits places m
length-constant_bits places (negsuc m) = length-map_not (binary_digits places m) ∙ length-binary_digits places m

abbrev pub is_const_by : Bool → ℕ → List Lit → ℤ → Atoms.AtomCoding
is_const_by b n row c = if b then Atoms.all_coding n (Atoms.match_lits row (constant_bits (length row) c)) else Atoms.truth_coding n false

is_const_cases : (g : GatesAreRight) (model : List Bool) (n : ℕ) (x : Lit) (row : List Lit) (c : ℤ) (b : Bool)
    → has_places (length (x ∷ row)) c ≡ b → All (λ lit. lit.var < length model) (x ∷ row)
    → Says model (is_const_by b n (x ∷ row) c) (int_eq (row_number model (x ∷ row)) c)
is_const_cases g model n x row c true e known room h =
    g.all model n (Atoms.match_lits (x ∷ row) (constant_bits (length (x ∷ row)) c)) (omega arith)
    (match-within (length model) (x ∷ row) (constant_bits (length (x ∷ row)) c) known) h
    ∙ match_says g model (x ∷ row) (constant_bits (length (x ∷ row)) c) known
    ∙ sym (same_numbers (lit_values model (x ∷ row)) (constant_bits (length (x ∷ row)) c)
    (length-map (x ∷ row) (lit_holds model) ∙ sym (length-constant_bits (length (x ∷ row)) c)))
    ∙ ap (int_eq (row_number model (x ∷ row))) (g.constant (length (x ∷ row)) c e)
is_const_cases g model n x row c false e known room h =
    truth_is g model n false (omega arith) h
    ∙ sym (out_equal (lit_holds model x) (lit_values model row) c (ap (λ k. has_places (suc k) c) (length-map row (lit_holds model)) ∙ e))

is_const_adds : (b : Bool) (n : ℕ) (row : List Lit) (c : ℤ) → n ≤ (is_const_by b n row c).vars
is_const_adds true n row c = omega arith
is_const_adds false n row c = omega arith

pub is_const_more : (n : ℕ) (row : List Lit) (c : ℤ) → n ≤ (Atoms.is_const_coding n row c).vars
is_const_more n [] c = omega arith
is_const_more n (x ∷ row) c = is_const_adds (has_places (length (x ∷ row)) c) n (x ∷ row) c

pub is_const_is : (g : GatesAreRight) (model : List Bool) (n : ℕ) (row : List Lit) (c : ℤ)
    → All (λ lit. lit.var < length model) row → Says model (Atoms.is_const_coding n row c)
    (int_eq (row_number model row) c)
is_const_is g model n [] c known room h = truth_is g model n (int_eq (pos 0) c) (omega arith) h
is_const_is g model n (x ∷ row) c known room h = is_const_cases g model n x row c (has_places (length (x ∷ row)) c) refl known room h

abbrev pub at_most_const_by : Bool → ℕ → List Lit → ℤ → Atoms.AtomCoding
at_most_const_by b n row c =
    if b then record { vars = n + 1; clauses = at_most_const_clauses n row (constant_bits (length row) c); lit = literal n } else Atoms.truth_coding n
    (int_le (pos 0) c)

at_most_const_cases : (g : GatesAreRight) (model : List Bool) (n : ℕ) (x : Lit) (row : List Lit) (c : ℤ) (b : Bool)
    → has_places (length (x ∷ row)) c ≡ b → All (λ lit. lit.var < length model) (x ∷ row)
    → Says model (at_most_const_by b n (x ∷ row) c) (int_le (row_number model (x ∷ row)) c)
at_most_const_cases g model n x row c true e known room h =
    g.at_most_const model n (x ∷ row) (constant_bits (length (x ∷ row)) c) (sym (length-constant_bits (length (x ∷ row)) c)) (omega arith) known h
    ∙ ap (int_le (row_number model (x ∷ row))) (g.constant (length (x ∷ row)) c e)
at_most_const_cases g model n x row c false e known room h =
    truth_is g model n (int_le (pos 0) c) (omega arith) h
    ∙ sym (out_at_most (lit_holds model x) (lit_values model row) c (ap (λ k. has_places (suc k) c) (length-map row (lit_holds model)) ∙ e))

at_most_const_adds : (b : Bool) (n : ℕ) (row : List Lit) (c : ℤ) → n ≤ (at_most_const_by b n row c).vars
at_most_const_adds true n row c = omega arith
at_most_const_adds false n row c = omega arith

pub at_most_const_more : (n : ℕ) (row : List Lit) (c : ℤ) → n ≤ (Atoms.at_most_const_coding n row c).vars
at_most_const_more n [] c = omega arith
at_most_const_more n (x ∷ row) c = at_most_const_adds (has_places (length (x ∷ row)) c) n (x ∷ row) c

pub at_most_const_is : (g : GatesAreRight) (model : List Bool) (n : ℕ) (row : List Lit) (c : ℤ)
    → All (λ lit. lit.var < length model) row → Says model (Atoms.at_most_const_coding n row c)
    (int_le (row_number model row) c)
at_most_const_is g model n [] c known room h = truth_is g model n (int_le (pos 0) c) (omega arith) h
at_most_const_is g model n (x ∷ row) c known room h = at_most_const_cases g model n x row c (has_places (length (x ∷ row)) c) refl known room h

-- ---- two terms

-- two rows with the same bits
pub same_rows_is : (g : GatesAreRight) (model : List Bool) (n : ℕ) (a b : List Lit) → length a ≡ length b
    → All (λ lit. lit.var < length model) a → All (λ lit. lit.var < length model) b
    → Says model (Atoms.same_rows_coding n a b) (same_bits (lit_values model a) (lit_values model b))
same_rows_is g model n a b same la lb room h =
    let both = parts_hold model (Atoms.differ_clauses n a b) (all_clauses (n + length a) (map opposite (var_row n (length a)))) h in
    g.all model (n + length a) (map opposite (var_row n (length a))) (omega arith)
    (opposites-within (length model) (var_row n (length a)) (var_row-within (length model) n (length a) (omega arith))) both.1
    ∙ differ_says g model n a b same (omega arith) la lb both.0

eq_moved : (k r s : ℤ) → int_eq r s ≡ int_eq (k +ℤ r) (k +ℤ s)
eq_moved k r s = grind (arith, ints)

le_moved : (k r s : ℤ) → int_le r s ≡ int_le (k +ℤ r) (k +ℤ s)
le_moved k r s = grind (arith, ints)

eq_to_zero : (x y k r : ℤ) → k +ℤ r ≡ x +ℤ neg_ℤ y → int_eq r (neg_ℤ k) ≡ int_eq x y
eq_to_zero x y k r e = grind (arith, ints)

le_to_zero : (x y k r : ℤ) → k +ℤ r ≡ x +ℤ neg_ℤ y → int_le r (neg_ℤ k) ≡ int_le x y
le_to_zero x y k r e = grind (arith, ints)

-- both have rows, and equal offsets
pub record Comparable (x y : OffsetRow) : Type 0 where
  pub left : 0 < length x.row
  pub right : 0 < length y.row
  pub offsets : x.offset ≡ y.offset

positive_from : (a : ℕ) → nat_lt 0 a ≡ true → 0 < a
positive_from a h = grind (arith, nat_tests)

pub comparable : (x y : OffsetRow) → Atoms.compares_rows x y ≡ true → Comparable x y
comparable x y h =
    let last = and_parts (nat_lt 0 (length x.row) && nat_lt 0 (length y.row)) (int_eq x.offset y.offset) h in
    let first = and_parts (nat_lt 0 (length x.row)) (nat_lt 0 (length y.row)) last.0 in
    record {
      left = positive_from (length x.row) first.0;
      right = positive_from (length y.row) first.1;
      offsets = (Decides-int_eq x.offset y.offset).0 last.1;
    }

wide_left : (x y : OffsetRow) → Comparable x y → length (widen (common_places x.row y.row) x.row) ≡ common_places x.row
    y.row
wide_left x y c = length-widen (common_places x.row y.row) x.row c.left (omega arith)

wide_right : (x y : OffsetRow) → Comparable x y → length (widen (common_places x.row y.row) y.row) ≡ common_places x.row
    y.row
wide_right x y c = length-widen (common_places x.row y.row) y.row c.right (omega arith)

-- the difference of two terms, whose row is compared with the opposite of its offset
difference_is : (g : GatesAreRight) (model : List Bool) (n : ℕ) (x y : OffsetRow)
    → All (λ lit. lit.var < length model) x.row → All (λ lit. lit.var < length model) y.row
    → (plus_row_coding n x (opposite_offset_row y)).vars ≤ length model
    → clauses_hold model (plus_row_coding n x (opposite_offset_row y)).clauses ≡ true
    → sum_number model (plus_row_coding n x (opposite_offset_row y)).sum ≡ sum_number model x +ℤ neg_ℤ
    (sum_number model y)
difference_is g model n x y lx ly room h =
    plus_row_is g model n x (opposite_offset_row y) room lx (opposite_within (length model) y ly) h
    ∙ ap (λ z. sum_number model x +ℤ z) (opposite_sum g model y ly)

abbrev pub equal_by : Bool → ℕ → OffsetRow → OffsetRow → Atoms.AtomCoding
equal_by b n x y =
    if b then Atoms.same_rows_coding n (widen (common_places x.row y.row) x.row) (widen (common_places x.row y.row) y.row)
    else Atoms.compared_to_zero Atoms.is_const_coding (plus_row_coding n x (opposite_offset_row y))

abbrev pub at_most_by : Bool → ℕ → OffsetRow → OffsetRow → Atoms.AtomCoding
at_most_by b n x y =
    if b then Atoms.rows_at_most_coding n (widen (common_places x.row y.row) x.row) (widen (common_places x.row y.row) y.row)
    else Atoms.compared_to_zero Atoms.at_most_const_coding (plus_row_coding n x (opposite_offset_row y))

equal_cases : (g : GatesAreRight) (model : List Bool) (n : ℕ) (x y : OffsetRow) (b : Bool) → Atoms.compares_rows x y ≡ b
    → All (λ lit. lit.var < length model) x.row → All (λ lit. lit.var < length model) y.row
    → Says model (equal_by b n x y) (int_eq (sum_number model x) (sum_number model y))
equal_cases g model n x y true e lx ly room h =
    let c : Comparable x y = comparable x y e in
    let p : ℕ = common_places x.row y.row in
    let a : List Lit = widen p x.row in
    let b : List Lit = widen p y.row in
    let wa : length a ≡ p = wide_left x y c in
    let wb : length b ≡ p = wide_right x y c in
    same_rows_is g model n a b (wa ∙ sym wb) (repeat-within (length model) (p - length x.row) x.row lx)
    (repeat-within (length model) (p - length y.row) y.row ly) room h
    ∙ sym (same_numbers (lit_values model a) (lit_values model b) (length-map a (lit_holds model) ∙ (wa ∙ sym wb) ∙ sym (length-map b (lit_holds model))))
    ∙ rw (repeat_number model (p - length x.row) x.row, repeat_number model (p - length y.row) y.row)
    (eq_moved x.offset (row_number model x.row) (row_number model y.row))
    ∙ ap (λ k. int_eq (sum_number model x) (k +ℤ row_number model y.row)) c.offsets
equal_cases g model n x y false e lx ly room h =
    let d : TermCoding = plus_row_coding n x (opposite_offset_row y) in
    let both = parts_hold model d.clauses (Atoms.is_const_coding d.vars d.sum.row (neg_ℤ d.sum.offset)).clauses h in
    let adds : d.vars ≤ (Atoms.is_const_coding d.vars d.sum.row (neg_ℤ d.sum.offset)).vars = is_const_more d.vars d.sum.row (neg_ℤ d.sum.offset) in
    is_const_is g model d.vars d.sum.row (neg_ℤ d.sum.offset) (row_sum_within n (length model) x.row (opposite_offset_row y).row (omega arith) lx
    (opposite_within (length model) y ly)) room both.1
    ∙ eq_to_zero (sum_number model x) (sum_number model y) d.sum.offset (row_number model d.sum.row)
    (difference_is g model n x y lx ly (omega arith) both.0)

equal_adds : (b : Bool) (n : ℕ) (x y : OffsetRow) → n ≤ (equal_by b n x y).vars
equal_adds true n x y = omega arith
equal_adds false n x y =
    let d : TermCoding = plus_row_coding n x (opposite_offset_row y) in
    let adds : d.vars ≤ (Atoms.is_const_coding d.vars d.sum.row (neg_ℤ d.sum.offset)).vars = is_const_more d.vars d.sum.row (neg_ℤ d.sum.offset) in omega
    arith

pub equal_more : (n : ℕ) (x y : OffsetRow) → n ≤ (Atoms.equal_coding n x y).vars
equal_more n x y = equal_adds (Atoms.compares_rows x y) n x y

pub equal_is : (g : GatesAreRight) (model : List Bool) (n : ℕ) (x y : OffsetRow)
    → All (λ lit. lit.var < length model) x.row → All (λ lit. lit.var < length model) y.row
    → Says model (Atoms.equal_coding n x y) (int_eq (sum_number model x) (sum_number model y))
equal_is g model n x y lx ly = equal_cases g model n x y (Atoms.compares_rows x y) refl lx ly

at_most_cases : (g : GatesAreRight) (model : List Bool) (n : ℕ) (x y : OffsetRow) (b : Bool)
    → Atoms.compares_rows x y ≡ b → All (λ lit. lit.var < length model) x.row
    → All (λ lit. lit.var < length model) y.row
    → Says model (at_most_by b n x y) (int_le (sum_number model x) (sum_number model y))
at_most_cases g model n x y true e lx ly room h =
    let c : Comparable x y = comparable x y e in
    let p : ℕ = common_places x.row y.row in
    let a : List Lit = widen p x.row in
    let b : List Lit = widen p y.row in
    let wa : length a ≡ p = wide_left x y c in
    let wb : length b ≡ p = wide_right x y c in
    let left : 0 < length x.row = c.left in
    g.le model n a b (omega arith) (wa ∙ sym wb) room (repeat-within (length model) (p - length x.row) x.row lx)
    (repeat-within (length model) (p - length y.row) y.row ly) h
    ∙ rw (repeat_number model (p - length x.row) x.row, repeat_number model (p - length y.row) y.row)
    (le_moved x.offset (row_number model x.row) (row_number model y.row))
    ∙ ap (λ k. int_le (sum_number model x) (k +ℤ row_number model y.row)) c.offsets
at_most_cases g model n x y false e lx ly room h =
    let d : TermCoding = plus_row_coding n x (opposite_offset_row y) in
    let both = parts_hold model d.clauses (Atoms.at_most_const_coding d.vars d.sum.row (neg_ℤ d.sum.offset)).clauses h in
    let adds : d.vars ≤ (Atoms.at_most_const_coding d.vars d.sum.row (neg_ℤ d.sum.offset)).vars = at_most_const_more d.vars d.sum.row
    (neg_ℤ d.sum.offset) in
    at_most_const_is g model d.vars d.sum.row (neg_ℤ d.sum.offset) (row_sum_within n (length model) x.row (opposite_offset_row y).row (omega arith) lx
    (opposite_within (length model) y ly)) room both.1
    ∙ le_to_zero (sum_number model x) (sum_number model y) d.sum.offset (row_number model d.sum.row)
    (difference_is g model n x y lx ly (omega arith) both.0)

at_most_adds : (b : Bool) (n : ℕ) (x y : OffsetRow) → n ≤ (at_most_by b n x y).vars
at_most_adds true n x y = omega arith
at_most_adds false n x y =
    let d : TermCoding = plus_row_coding n x (opposite_offset_row y) in
    let adds : d.vars ≤ (Atoms.at_most_const_coding d.vars d.sum.row (neg_ℤ d.sum.offset)).vars = at_most_const_more d.vars d.sum.row
    (neg_ℤ d.sum.offset) in
    omega arith

pub at_most_more : (n : ℕ) (x y : OffsetRow) → n ≤ (Atoms.at_most_coding n x y).vars
at_most_more n x y = at_most_adds (Atoms.compares_rows x y) n x y

pub at_most_is : (g : GatesAreRight) (model : List Bool) (n : ℕ) (x y : OffsetRow)
    → All (λ lit. lit.var < length model) x.row → All (λ lit. lit.var < length model) y.row
    → Says model (Atoms.at_most_coding n x y) (int_le (sum_number model x) (sum_number model y))
at_most_is g model n x y lx ly = at_most_cases g model n x y (Atoms.compares_rows x y) refl lx ly
