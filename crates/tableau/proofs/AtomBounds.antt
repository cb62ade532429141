-- an atom's coding adds variables, and its literal is of a variable that is there
use Rattle.std.proofs.Common.{◌≡◌, ◌+◌, ◌<◌, ◌≤◌, ℕ, Bool, true, false, Option, Some, None, List, [], ◌∷◌, length, get_or, refl, sym, ap, arith}
use Rattle.std.specs.Prelude.{ℤ, pos, neg_ℤ, int_le, position}
use Rattle.std.specs.Ordering.{int_eq}
use Rattle.std.specs.Str.{bytes_eq}
use Rattle.std.specs.Cmp.Lexicographic.{pointwise}
use Rattle.port_types.specs.declared.types.PortType.{PortType}
use Rattle.typed_ltl.specs.Formulas.{Number, Choice, Proposition}
use Rattle.typed_ltl.specs.Formulas as form
use Rattle.cnf.specs.declared.lit.Lit.{Lit}
use Rattle.cnf.specs.Gates.{literal}
use Rattle.cnf.specs.Bounds.{has_places}
use Rattle.state_coding.specs.States.{HasBits}
use Rattle.state_coding.specs.Numbers.{OffsetRow, TermCoding, opposite_offset_row, widen, common_places, plus_row_coding, port_bits, term_coding}
use Rattle.state_coding.specs.Atoms
use Rattle.state_coding.specs.Reads.{ReadsPorts}
use Rattle.state_coding.proofs.StateLaws.{bits_later}
use Rattle.state_coding.proofs.RowLaws.{length-widen}
use Rattle.state_coding.proofs.TermLaws.{TermShape, term_shape, port_bits_known}
use Rattle.state_coding.proofs.TermSteps.{truth_width}
use Rattle.state_coding.proofs.AtomLaws.{Comparable, comparable, is_const_by, at_most_const_by, equal_by, at_most_by}

pub record Bounded (n : ℕ) (coding : Atoms.AtomCoding) : Type 0 where
  pub more : n ≤ coding.vars
  pub known : coding.lit.var < coding.vars

truth_bounded : (n : ℕ) (b : Bool) → Bounded n (Atoms.truth_coding n b)
truth_bounded n true = record { more = omega arith; known = omega arith }
truth_bounded n false = record { more = omega arith; known = omega arith }

const_cases : (b : Bool) (n : ℕ) (row : List Lit) (c : ℤ) → Bounded n (is_const_by b n row c)
const_cases true n row c = record { more = omega arith; known = omega arith }
const_cases false n row c = truth_bounded n false

const_bounded : (n : ℕ) (row : List Lit) (c : ℤ) → Bounded n (Atoms.is_const_coding n row c)
const_bounded n [] c = truth_bounded n (int_eq (pos 0) c)
const_bounded n (x ∷ row) c = const_cases (has_places (length (x ∷ row)) c) n (x ∷ row) c

limit_cases : (b : Bool) (n : ℕ) (row : List Lit) (c : ℤ) → Bounded n (at_most_const_by b n row c)
limit_cases true n row c = record { more = omega arith; known = omega arith }
limit_cases false n row c = truth_bounded n (int_le (pos 0) c)

limit_bounded : (n : ℕ) (row : List Lit) (c : ℤ) → Bounded n (Atoms.at_most_const_coding n row c)
limit_bounded n [] c = truth_bounded n (int_le (pos 0) c)
limit_bounded n (x ∷ row) c = limit_cases (has_places (length (x ∷ row)) c) n (x ∷ row) c

-- a coding over more variables
later_bounded : (n m : ℕ) (coding : Atoms.AtomCoding) → n ≤ m → Bounded m coding → Bounded n coding
later_bounded n m coding le b = let more : m ≤ coding.vars = b.more in record { more = omega arith; known = b.known }

same_rows_bounded : (n : ℕ) (a b : List Lit) → Bounded n (Atoms.same_rows_coding n a b)
same_rows_bounded n a b = record { more = omega arith; known = omega arith }

rows_at_most_bounded : (n : ℕ) (a b : List Lit) → 0 < length a → Bounded n (Atoms.rows_at_most_coding n a b)
rows_at_most_bounded n a b some = record { more = omega arith; known = omega arith }

equal_cases : (n : ℕ) (x y : OffsetRow) (b : Bool) → Bounded n (equal_by b n x y)
equal_cases n x y true =
    same_rows_bounded n (widen (common_places x.row y.row) x.row) (widen (common_places x.row y.row) y.row)
equal_cases n x y false =
    let d : TermCoding = plus_row_coding n x (opposite_offset_row y) in
    let c : Bounded d.vars (Atoms.is_const_coding d.vars d.sum.row (neg_ℤ d.sum.offset)) = const_bounded d.vars d.sum.row (neg_ℤ d.sum.offset) in
    let more : d.vars ≤ (Atoms.is_const_coding d.vars d.sum.row (neg_ℤ d.sum.offset)).vars = c.more in
    record { more = omega arith; known = c.known }

equal_bounded : (n : ℕ) (x y : OffsetRow) → Bounded n (Atoms.equal_coding n x y)
equal_bounded n x y = equal_cases n x y (Atoms.compares_rows x y)

at_most_cases : (n : ℕ) (x y : OffsetRow) (b : Bool) → Atoms.compares_rows x y ≡ b → Bounded n (at_most_by b n x y)
at_most_cases n x y true e =
    let c : Comparable x y = comparable x y e in
    let left : 0 < length x.row = c.left in
    let wide : length (widen (common_places x.row y.row) x.row) ≡ common_places x.row y.row =
    length-widen (common_places x.row y.row) x.row c.left (omega arith) in
    rows_at_most_bounded n (widen (common_places x.row y.row) x.row) (widen (common_places x.row y.row) y.row) (omega arith)
at_most_cases n x y false e =
    let d : TermCoding = plus_row_coding n x (opposite_offset_row y) in
    let c : Bounded d.vars (Atoms.at_most_const_coding d.vars d.sum.row (neg_ℤ d.sum.offset)) = limit_bounded d.vars d.sum.row (neg_ℤ d.sum.offset) in
    let more : d.vars ≤ (Atoms.at_most_const_coding d.vars d.sum.row (neg_ℤ d.sum.offset)).vars = c.more in
    record { more = omega arith; known = c.known }

at_most_bounded : (n : ℕ) (x y : OffsetRow) → Bounded n (Atoms.at_most_coding n x y)
at_most_bounded n x y = at_most_cases n x y (Atoms.compares_rows x y) refl

compared_bounded : (compare : ℕ → OffsetRow → OffsetRow → Atoms.AtomCoding)
    → ((n : ℕ) (x y : OffsetRow) → Bounded n (compare n x y)) → (ports : List PortType) (now next : List (List Lit)) (n : ℕ)
    (a b : Number) → HasBits n ports now → HasBits n ports next
    → Bounded n (Atoms.compared_coding compare (term_coding ports now next n a) (term_coding ports now next (term_coding ports now next n a).vars b))
compared_bounded compare bounded ports now next n a b hn hx =
    let x : TermCoding = term_coding ports now next n a in
    let y : TermCoding = term_coding ports now next x.vars b in
    let sx : TermShape n x = term_shape ports now next n a hn hx in
    let sy : TermShape x.vars y =
    term_shape ports now next x.vars b (bits_later n x.vars ports now sx.vars hn) (bits_later n x.vars ports next sx.vars hx) in
    let first : n ≤ x.vars = sx.vars in
    let second : x.vars ≤ y.vars = sy.vars in
    let c : Bounded y.vars (compare y.vars x.sum y.sum) = bounded y.vars x.sum y.sum in
    let more : y.vars ≤ (compare y.vars x.sum y.sum).vars = c.more in
    record { more = omega arith; known = c.known }

place_bounded : (n : ℕ) (row : List Lit) (o : Option ℕ) → Bounded n (Atoms.place_coding n row o)
place_bounded n row None = truth_bounded n false
place_bounded n row (Some place) = record { more = omega arith; known = omega arith }

any_all_bounded : (n : ℕ) (lists : List (List Lit)) → Bounded n (Atoms.any_all_coding n lists)
any_all_bounded n lists = record { more = omega arith; known = omega arith }

ports_cases : (b : Bool) (n : ℕ) (names : List (List ℕ)) (a : List Lit) (others : List (List ℕ)) (c : List Lit) → pointwise bytes_eq names others ≡ b
    → Bounded n (Atoms.same_ports_coding n names a others c)
ports_cases true n names a others c e = rw e (same_rows_bounded n a c)
ports_cases false n names a others c e = rw e (any_all_bounded n (Atoms.common_lits a c 0 names others))

same_bounded : (ports : List PortType) (now next : List (List Lit)) (n : ℕ) (a b : Choice)
    → Bounded n (Atoms.same_coding ports now next n a b)
same_bounded ports now next n (form.Named x) (form.Named y) = truth_bounded n (bytes_eq x y)
same_bounded ports now next n (form.Named x) (form.NameAt q c) =
    place_bounded n (port_bits now next q c) (position (bytes_eq x) (Atoms.port_names ports q))
same_bounded ports now next n (form.NameAt p b) (form.Named y) =
    place_bounded n (port_bits now next p b) (position (bytes_eq y) (Atoms.port_names ports p))
same_bounded ports now next n (form.NameAt p b) (form.NameAt q c) =
    ports_cases (pointwise bytes_eq (Atoms.port_names ports p) (Atoms.port_names ports q)) n (Atoms.port_names ports p) (port_bits now next p b)
    (Atoms.port_names ports q) (port_bits now next q c) refl

pub atom_bounded : (ports : List PortType) (now next : List (List Lit)) (n : ℕ) (p : Proposition) → HasBits n ports now
    → HasBits n ports next → ReadsPorts ports p → Bounded n (Atoms.atom_coding ports now next n p)
atom_bounded ports now next n (form.TruthAt p b) hn hx reads = record {
  more = omega arith;
  known = port_bits_known n ports now next p b hn hx 0 (literal n)
      (let one : length (port_bits now next p b) ≡ 1 = truth_width n ports now next p b hn hx reads in omega arith);
}
atom_bounded ports now next n (form.Equals a b) hn hx reads = compared_bounded Atoms.equal_coding equal_bounded ports now next n a b hn hx
atom_bounded ports now next n (form.AtMost a b) hn hx reads = compared_bounded Atoms.at_most_coding at_most_bounded ports now next n a b hn hx
atom_bounded ports now next n (form.SameName a b) hn hx reads = same_bounded ports now next n a b
