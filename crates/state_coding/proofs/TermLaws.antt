-- terms: in every list of truth values in which the clauses of a term hold, its offset and row are its value
use Rattle.std.proofs.Common.{◌≡◌, ◌+◌, ◌<◌, ◌≤◌, ◌*◌, ℕ, zero, suc, Bool, true, false, List, [], ◌∷◌, ◌++◌, length, get_or, refl, sym, ◌∙◌, ap}
use Rattle.std.proofs.Common.{arith}
use Rattle.std.specs.Prelude.{map, ℤ, pos, negsuc, ◌+ℤ◌, ◌-ℤ◌, neg_ℤ}
use Rattle.std.specs.List.{All}
use Rattle.std.proofs.lemmas.Int.{ints}
use Rattle.std.proofs.lemmas.List.FromFn.{get_or-map-range_with_len, length-map-range_with_len}
use Rattle.std.proofs.lemmas.List.Elements.{All-nil, All-cons, All-head, All-tail}
use Rattle.port_types.specs.declared.types.PortType.{PortType}
use Rattle.port_types.specs.declared.types.PortType.TheVariants as kind
use Rattle.port_types.specs.declared.types.Value.TheVariants as value
use Rattle.port_types.specs.Types.{values, range_size}
use Rattle.typed_ltl.specs.Formulas.{Number}
use Rattle.typed_ltl.specs.Formulas as form
use Rattle.typed_ltl.specs.Traces.{assignment}
use Rattle.typed_ltl.specs.Truth.{as_number, read_value, number_value}
use Rattle.cnf.specs.declared.lit.Lit.{Lit}
use Rattle.cnf.specs.Clauses.{opposite, clauses_hold, lit_values}
use Rattle.cnf.specs.Gates.{literal}
use Rattle.cnf.specs.Arithmetic.{later_sum_bits, sum_bits}
use Rattle.cnf.specs.Bounds.{binary_number}
use Rattle.cnf.specs.Laws.{GatesAreRight}
use Rattle.state_coding.specs.Codes.{IsCodable, type_bits, value_at, code_clauses}
use Rattle.state_coding.specs.States.{state_clauses, state_values, HasBits, TwoStates}
use Rattle.state_coding.specs.Numbers.{OffsetRow, TermCoding, half, signed_row, port_offset_row, opposite_of, opposite_offset_row, widen}
use Rattle.state_coding.specs.Numbers.{common_places, row_sum, row_sum_clauses, row_sum_vars, plus_row_coding, plus_coding, negate_coding, port_bits}
use Rattle.state_coding.specs.Numbers.{term_coding}
use Rattle.state_coding.specs.Reads.{ReadsNumbers, IsRange}
use Rattle.state_coding.proofs.CodeLaws.{code_below}
use Rattle.state_coding.proofs.StateLaws.{parts_hold, codable_few, within_later, bits_later}
use Rattle.state_coding.proofs.RowLaws.{row_number, code_number, signed_row-within, opposite_number, opposites-within, length-widen}
use Rattle.state_coding.proofs.RowLaws.{row_sum_number}

-- ---- ports

-- the value of a port in a state is that of its bits
pub port_value : (model : List Bool) (n : ℕ) (ports : List PortType) (bits : List (List Lit)) (p : ℕ)
    → HasBits n ports bits → p < length ports
    → assignment (state_values model ports bits) p ≡ value_at (get_or ports p kind.Bool)
    (lit_values model (get_or bits p []))
port_value model n [] bits p has h = absurd (omega arith)
port_value model n (kind ∷ ports) [] p has h = absurd has
port_value model n (kind ∷ ports) (row ∷ bits) zero has h = refl
port_value model n (kind ∷ ports) (row ∷ bits) (suc p) has h = port_value model n ports bits p has.2 (omega arith)

-- a port's bits are as many as its type's codes, known, and a code
pub record PortRow (model : List Bool) (kind : PortType) (row : List Lit) : Type 0 where
  pub width : length row ≡ type_bits kind
  pub known : All (λ lit. lit.var < length model) row
  pub codable : IsCodable kind
  pub holds : clauses_hold model (code_clauses kind row) ≡ true

pub port_row : (model : List Bool) (ports : List PortType) (bits : List (List Lit)) (p : ℕ) → All IsCodable ports
    → HasBits (length model) ports bits → clauses_hold model (state_clauses ports bits) ≡ true → p < length ports
    → PortRow model (get_or ports p kind.Bool) (get_or bits p [])
port_row model [] bits p codable has h low = absurd (omega arith)
port_row model (kind ∷ ports) [] p codable has h low = absurd has
port_row model (kind ∷ ports) (row ∷ bits) zero codable has h low = record {
  width = has.0;
  known = has.1;
  codable = All-head IsCodable kind ports codable;
  holds = (parts_hold model (code_clauses kind row) (state_clauses ports bits) h).0;
}
port_row model (kind ∷ ports) (row ∷ bits) (suc p) codable has h low =
    port_row model ports bits p (All-tail IsCodable kind ports codable) has.2 (parts_hold model (code_clauses kind row) (state_clauses ports bits) h).1
    (omega arith)

pub row_below : (g : GatesAreRight) (model : List Bool) (kind : PortType) (row : List Lit) → PortRow model kind row
    → binary_number (lit_values model row) < length (values kind)
row_below g model kind row r = code_below g model kind row r.width r.known r.codable.1 (codable_few kind r.codable) r.holds

pub read_row : (model : List Bool) (ports : List PortType) (now next : List (List Lit)) (p : ℕ) (is_next : Bool)
    → TwoStates model ports now next → p < length ports
    → PortRow model (get_or ports p kind.Bool) (port_bits now next p is_next)
read_row model ports now next p false t low = port_row model ports now p t.codable t.now_bits t.now_holds low
read_row model ports now next p true t low = port_row model ports next p t.codable t.next_bits t.next_holds low

pub read_is : (model : List Bool) (ports : List PortType) (now next : List (List Lit)) (p : ℕ) (is_next : Bool)
    → TwoStates model ports now next → p < length ports
    → read_value (assignment (state_values model ports now)) (assignment (state_values model ports next)) p is_next ≡
    value_at (get_or ports p kind.Bool) (lit_values model (port_bits now next p is_next))
read_is model ports now next p false t low = port_value model (length model) ports now p t.now_bits low
read_is model ports now next p true t low = port_value model (length model) ports next p t.next_bits low

-- ---- offsets and rows

abbrev pub sum_number : List Bool → OffsetRow → ℤ
sum_number model x = x.offset +ℤ row_number model x.row

range_value : (lo hi : ℤ) (k : ℕ) → k < length (values (kind.Range lo hi))
    → as_number (get_or (values (kind.Range lo hi)) k (value.Bool false)) ≡ lo +ℤ pos k
range_value lo hi k h =
    ap as_number (get_or-map-range_with_len (λ j. value.Int (lo +ℤ pos j)) 0 (range_size lo hi) k k (value.Bool false)
    (let e : length (values (kind.Range lo hi)) ≡ range_size lo hi = length-map-range_with_len (λ j. value.Int (lo +ℤ pos j)) 0 (range_size lo hi) in
    omega arith) (omega arith))

regroup : (a s : ℤ) (h m : ℕ) → s +ℤ pos h ≡ pos m → (a +ℤ pos h) +ℤ s ≡ a +ℤ pos m
regroup a s h m e = omega (arith, ints)

-- a range's bits have its value
pub port_number : (g : GatesAreRight) (model : List Bool) (kind : PortType) (row : List Lit) → IsRange kind
    → PortRow model kind row
    → sum_number model (port_offset_row kind row) ≡ as_number (value_at kind (lit_values model row))
port_number g model kind.Bool row is r = absurd is
port_number g model (kind.Enum names) row is r = absurd is
port_number g model (kind.Range lo hi) row is r =
    regroup lo (row_number model (signed_row row)) (half (length row)) (binary_number (lit_values model row)) (code_number g model row r.known)
    ∙ sym (range_value lo hi (binary_number (lit_values model row)) (row_below g model (kind.Range lo hi) row r))

negated_constant : (k : ℤ) → neg_ℤ k +ℤ pos 0 ≡ neg_ℤ (k +ℤ pos 0)
negated_constant k = omega (arith, ints)

negated_sum : (k r s : ℤ) → s ≡ negsuc 0 -ℤ r → (pos 1 -ℤ k) +ℤ s ≡ neg_ℤ (k +ℤ r)
negated_sum k r s e = omega (arith, ints)

opposite_is : (g : GatesAreRight) (model : List Bool) (k : ℤ) (row : List Lit) → All (λ lit. lit.var < length model) row
    → sum_number model (opposite_of k row) ≡ neg_ℤ (k +ℤ row_number model row)
opposite_is g model k [] known = negated_constant k
opposite_is g model k (x ∷ row) known = negated_sum k (row_number model (x ∷ row)) (row_number model (map opposite (x ∷ row)))
    (opposite_number g model x row known)

pub opposite_sum : (g : GatesAreRight) (model : List Bool) (x : OffsetRow) → All (λ lit. lit.var < length model) x.row
    → sum_number model (opposite_offset_row x) ≡ neg_ℤ (sum_number model x)
opposite_sum g model x known = opposite_is g model x.offset x.row known

opposite_known : (n : ℕ) (k : ℤ) (row : List Lit) → All (λ lit. lit.var < n) row
    → All (λ lit. lit.var < n) (opposite_of k row).row
opposite_known n k [] h = All-nil (λ lit. lit.var < n)
opposite_known n k (x ∷ row) h = opposites-within n (x ∷ row) h

pub opposite_within : (n : ℕ) (x : OffsetRow) → All (λ lit. lit.var < n) x.row
    → All (λ lit. lit.var < n) (opposite_offset_row x).row
opposite_within n x h = opposite_known n x.offset x.row h

four : (a b r s t : ℤ) → t ≡ r +ℤ s → (a +ℤ b) +ℤ t ≡ (a +ℤ r) +ℤ (b +ℤ s)
four a b r s t e = omega (arith, ints)

pub plus_row_is : (g : GatesAreRight) (model : List Bool) (n : ℕ) (x y : OffsetRow)
    → n + row_sum_vars x.row y.row ≤ length model → All (λ lit. lit.var < length model) x.row
    → All (λ lit. lit.var < length model) y.row
    → clauses_hold model (row_sum_clauses n x.row y.row) ≡ true
    → sum_number model (plus_row_coding n x y).sum ≡ sum_number model x +ℤ sum_number model y
plus_row_is g model n x y room lx ly h =
    four x.offset y.offset (row_number model x.row) (row_number model y.row) (row_number model (row_sum n x.row y.row))
    (row_sum_number g model n x.row y.row room lx ly h)

-- the literals of a sum are known
later_bits_known : (m n : ℕ) (a : List Lit) → n + 3 * length a < m → All (λ lit. lit.var < m) (later_sum_bits n a)
later_bits_known m n [] h = All-cons (λ lit. lit.var < m) (literal n) [] (omega arith) (All-nil (λ lit. lit.var < m))
later_bits_known m n (x ∷ a) h = All-cons (λ lit. lit.var < m) (literal (n + 1)) (later_sum_bits (n + 3) a) (omega arith)
    (later_bits_known m (n + 3) a (omega arith))

sum_bits_known : (m n k : ℕ) (a : List Lit) → length a ≡ k → n + 3 * k ≤ m → All (λ lit. lit.var < m) (sum_bits n a)
sum_bits_known m n k [] e h = All-nil (λ lit. lit.var < m)
sum_bits_known m n k (x ∷ a) e h = All-cons (λ lit. lit.var < m) (literal n) (later_sum_bits (n + 2) a) (omega arith)
    (later_bits_known m (n + 2) a (omega arith))

pub row_sum_within : (n m : ℕ) (a b : List Lit) → n + row_sum_vars a b ≤ m → All (λ lit. lit.var < m) a
    → All (λ lit. lit.var < m) b → All (λ lit. lit.var < m) (row_sum n a b)
row_sum_within n m [] b room la lb = lb
row_sum_within n m (x ∷ a) [] room la lb = la
row_sum_within n m (x ∷ a) (y ∷ b) room la lb =
    sum_bits_known m n (common_places (x ∷ a) (y ∷ b)) (widen (common_places (x ∷ a) (y ∷ b)) (x ∷ a))
    (length-widen (common_places (x ∷ a) (y ∷ b)) (x ∷ a) (omega arith) (omega arith)) room

-- ---- terms

-- what a term's coding is like, whatever holds: variables are added, and its row is of those
pub record TermShape (n : ℕ) (coding : TermCoding) : Type 0 where
  pub vars : n ≤ coding.vars
  pub known : All (λ lit. lit.var < coding.vars) coding.sum.row

port_row_known : (n : ℕ) (kind : PortType) (row : List Lit) → All (λ lit. lit.var < n) row
    → All (λ lit. lit.var < n) (port_offset_row kind row).row
port_row_known n kind.Bool row h = All-nil (λ lit. lit.var < n)
port_row_known n (kind.Enum names) row h = All-nil (λ lit. lit.var < n)
port_row_known n (kind.Range lo hi) row h = signed_row-within n row h

bits_known : (n : ℕ) (ports : List PortType) (bits : List (List Lit)) (p : ℕ) → HasBits n ports bits
    → All (λ lit. lit.var < n) (get_or bits p [])
bits_known n [] [] p has = All-nil (λ lit. lit.var < n)
bits_known n [] (row ∷ bits) p has = absurd has
bits_known n (kind ∷ ports) [] p has = absurd has
bits_known n (kind ∷ ports) (row ∷ bits) zero has = has.1
bits_known n (kind ∷ ports) (row ∷ bits) (suc p) has = bits_known n ports bits p has.2

pub port_bits_known : (n : ℕ) (ports : List PortType) (now next : List (List Lit)) (p : ℕ) (is_next : Bool)
    → HasBits n ports now → HasBits n ports next → All (λ lit. lit.var < n) (port_bits now next p is_next)
port_bits_known n ports now next p false hn hx = bits_known n ports now p hn
port_bits_known n ports now next p true hn hx = bits_known n ports next p hx

plus_shape : (n : ℕ) (x y : TermCoding) → TermShape n x → TermShape x.vars y → TermShape n (plus_coding x y)
plus_shape n x y s t =
    let le : n ≤ x.vars = s.vars in
    let le' : x.vars ≤ y.vars = t.vars in
    record {
      vars = omega arith;
      known = row_sum_within y.vars (y.vars + row_sum_vars x.sum.row y.sum.row) x.sum.row y.sum.row (omega arith)
          (within_later x.vars (y.vars + row_sum_vars x.sum.row y.sum.row) x.sum.row (omega arith) s.known)
          (within_later y.vars (y.vars + row_sum_vars x.sum.row y.sum.row) y.sum.row (omega arith) t.known);
    }

negate_shape : (n : ℕ) (x : TermCoding) → TermShape n x → TermShape n (negate_coding x)
negate_shape n x s = record { vars = s.vars; known = opposite_within x.vars x.sum s.known }

pub term_shape : (ports : List PortType) (now next : List (List Lit)) (n : ℕ) (t : Number) → HasBits n ports now
    → HasBits n ports next → TermShape n (term_coding ports now next n t)
term_shape ports now next n (form.Literal z) hn hx = record { vars = omega arith; known = All-nil (λ lit. lit.var < n) }
term_shape ports now next n (form.NumberAt p b) hn hx = record {
  vars = omega arith;
  known = port_row_known n (get_or ports p kind.Bool) (port_bits now next p b) (port_bits_known n ports now next p b hn hx);
}
term_shape ports now next n (form.Sum a b) hn hx =
    let x = term_shape ports now next n a hn hx in
    let m : ℕ = (term_coding ports now next n a).vars in
    plus_shape n (term_coding ports now next n a) (term_coding ports now next m b) x
    (term_shape ports now next m b (bits_later n m ports now x.vars hn) (bits_later n m ports next x.vars hx))
term_shape ports now next n (form.Difference a b) hn hx =
    let x = term_shape ports now next n a hn hx in
    let m : ℕ = (term_coding ports now next n a).vars in
    plus_shape n (term_coding ports now next n a) (negate_coding (term_coding ports now next m b)) x
    (negate_shape m (term_coding ports now next m b) (term_shape ports now next m b (bits_later n m ports now x.vars hn)
    (bits_later n m ports next x.vars hx)))
term_shape ports now next n (form.Opposite a) hn hx = negate_shape n (term_coding ports now next n a) (term_shape ports now next n a hn hx)

constant_number : (z : ℤ) → z +ℤ pos 0 ≡ z
constant_number z = omega (arith, ints)

minus_is : (a b : ℤ) → a +ℤ neg_ℤ b ≡ a -ℤ b
minus_is a b = omega (arith, ints)

plus_parts : (model : List Bool) (x y : TermCoding) → clauses_hold model (plus_coding x y).clauses ≡ true
    → (clauses_hold model x.clauses ≡ true) × (clauses_hold model y.clauses ≡ true) ×
    (clauses_hold model (row_sum_clauses y.vars x.sum.row y.sum.row) ≡ true)
plus_parts model x y h =
    let last = parts_hold model (x.clauses ++ y.clauses) (row_sum_clauses y.vars x.sum.row y.sum.row) h in
    let first = parts_hold model x.clauses y.clauses last.0 in (first.0, first.1, last.1)

-- the sum of two codings is the sum of their numbers
plus_is : (g : GatesAreRight) (model : List Bool) (n : ℕ) (x y : TermCoding) → TermShape n x → TermShape x.vars y
    → (plus_coding x y).vars ≤ length model
    → clauses_hold model (row_sum_clauses y.vars x.sum.row y.sum.row) ≡ true
    → sum_number model (plus_coding x y).sum ≡ sum_number model x.sum +ℤ sum_number model y.sum
plus_is g model n x y s t room h =
    let le : x.vars ≤ y.vars = t.vars in
    plus_row_is g model y.vars x.sum y.sum room
    (within_later x.vars (length model) x.sum.row (omega arith) s.known) (within_later y.vars (length model) y.sum.row (omega arith) t.known) h

-- a term's coding has its value
pub term_is : (g : GatesAreRight) (model : List Bool) (ports : List PortType) (now next : List (List Lit)) (n : ℕ)
    (t : Number) → TwoStates model ports now next → HasBits n ports now → HasBits n ports next → ReadsNumbers ports t
    → (term_coding ports now next n t).vars ≤ length model
    → clauses_hold model (term_coding ports now next n t).clauses ≡ true
    → sum_number model (term_coding ports now next n t).sum ≡ number_value (assignment (state_values model ports now))
    (assignment (state_values model ports next)) t
term_is g model ports now next n (form.Literal z) two hn hx reads room h = constant_number z
term_is g model ports now next n (form.NumberAt p b) two hn hx reads room h =
    port_number g model (get_or ports p kind.Bool) (port_bits now next p b) reads.1 (read_row model ports now next p b two reads.0)
    ∙ ap as_number (sym (read_is model ports now next p b two reads.0))
term_is g model ports now next n (form.Sum a b) two hn hx reads room h =
    let x : TermCoding = term_coding ports now next n a in
    let y : TermCoding = term_coding ports now next x.vars b in
    let sx : TermShape n x = term_shape ports now next n a hn hx in
    let mn = bits_later n x.vars ports now sx.vars hn in
    let mx = bits_later n x.vars ports next sx.vars hx in
    let sy : TermShape x.vars y = term_shape ports now next x.vars b mn mx in
    let parts = plus_parts model x y h in
    let le : x.vars ≤ y.vars = sy.vars in
    plus_is g model n x y sx sy room parts.2
    ∙ rw (
      term_is g model ports now next n a two hn hx reads.0 (omega arith) parts.0,
      term_is g model ports now next x.vars b two mn mx reads.1 (omega arith)
          parts.1,
    ) refl
term_is g model ports now next n (form.Difference a b) two hn hx reads room h =
    let x : TermCoding = term_coding ports now next n a in
    let y : TermCoding = term_coding ports now next x.vars b in
    let sx : TermShape n x = term_shape ports now next n a hn hx in
    let mn = bits_later n x.vars ports now sx.vars hn in
    let mx = bits_later n x.vars ports next sx.vars hx in
    let sy : TermShape x.vars y = term_shape ports now next x.vars b mn mx in
    let parts = plus_parts model x (negate_coding y) h in
    let le : x.vars ≤ y.vars = sy.vars in
    plus_is g model n x (negate_coding y) sx (negate_shape x.vars y sy) room parts.2
    ∙ rw (
      term_is g model ports now next n a two hn hx reads.0 (omega arith) parts.0,
      opposite_sum g model y.sum
          (within_later y.vars (length model) y.sum.row (omega arith) sy.known),
      term_is g model ports now next x.vars b two mn mx reads.1 (omega arith)
          parts.1,
    )
    (minus_is (number_value (assignment (state_values model ports now)) (assignment (state_values model ports next)) a)
    (number_value (assignment (state_values model ports now)) (assignment (state_values model ports next)) b))
term_is g model ports now next n (form.Opposite a) two hn hx reads room h =
    let x : TermCoding = term_coding ports now next n a in
    let sx : TermShape n x = term_shape ports now next n a hn hx in
    opposite_sum g model x.sum (within_later x.vars (length model) x.sum.row room sx.known)
    ∙ ap neg_ℤ (term_is g model ports now next n a two hn hx reads room h)
