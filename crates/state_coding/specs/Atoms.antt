-- Atoms in clauses, over the number n of variables before them: the number of variables after, the clauses
-- that come, and the literal that is the atom's truth value.

use Rattle.std.specs.Prelude.{ℕ, ◌+◌, Bool, true, false, ◌&&◌, ℤ, pos, neg_ℤ, int_le, nat_lt, Option, Some}
use Rattle.std.specs.Prelude.{None, List, [], ◌∷◌, ◌++◌, length, map, slice_index_or, position, if◌then◌else◌}
use Rattle.std.specs.Ordering.{int_eq}
use Rattle.std.specs.Str.{bytes_eq}
use Rattle.std.specs.Cmp.Lexicographic.{pointwise}
use Rattle.port_types.specs.declared.types.PortType.{PortType}
use Rattle.port_types.specs.declared.types.PortType.TheVariants as kind
use Rattle.typed_ltl.specs.Formulas.{Choice, Proposition}
use Rattle.typed_ltl.specs.Formulas as form
use Rattle.cnf.specs.declared.lit.Lit.{Lit}
use Rattle.cnf.specs.Clauses.{opposite}
use Rattle.cnf.specs.Gates.{literal, xor_clauses, all_clauses, any_clauses}
use Rattle.cnf.specs.Arithmetic.{le_clauses, le_literal}
use Rattle.cnf.specs.Bounds.{binary_digits, constant_bits, has_places, at_most_const_clauses}
use Rattle.state_coding.specs.States.{var_row}
use Rattle.state_coding.specs.Numbers.{OffsetRow, TermCoding, opposite_offset_row, widen, common_places}
use Rattle.state_coding.specs.Numbers.{plus_row_coding, port_bits, term_coding}

pub record AtomCoding : Type 0 where
  pub vars : ℕ
  pub clauses : List (List Lit)
  pub lit : Lit

-- a truth value: one variable that is true, as "all" of no literals is
abbrev pub truth_coding : ℕ → Bool → AtomCoding
truth_coding n truth = record {
  vars = n + 1;
  clauses = (literal n ∷ []) ∷ [];
  lit = if truth then literal n else opposite (literal n);
}

-- the bits of a row are those of a constant
abbrev pub match_lits : List Lit → List Bool → List Lit
match_lits (x ∷ row) (true ∷ bits) = x ∷ match_lits row bits
match_lits (x ∷ row) (false ∷ bits) = opposite x ∷ match_lits row bits
match_lits _ _ = []

abbrev pub all_coding : ℕ → List Lit → AtomCoding
all_coding n lits = record { vars = n + 1; clauses = all_clauses n lits; lit = literal n }

-- two rows are the same: a variable for each place that says that they differ there, and none of these
abbrev pub differ_clauses : ℕ → List Lit → List Lit → List (List Lit)
differ_clauses n (x ∷ a) (y ∷ b) = xor_clauses n x y ++ differ_clauses (n + 1) a b
differ_clauses n _ _ = []

abbrev pub same_rows_coding : ℕ → List Lit → List Lit → AtomCoding
same_rows_coding n a b = record {
  vars = n + length a + 1;
  clauses = differ_clauses n a b ++ all_clauses (n + length a) (map opposite (var_row n (length a)));
  lit = literal (n + length a);
}

-- one row is at most another
abbrev pub rows_at_most_coding : ℕ → List Lit → List Lit → AtomCoding
rows_at_most_coding n a b = record { vars = n + length a; clauses = le_clauses n a b; lit = le_literal n a }

-- A row compared with a constant. A constant that has no bits in so many places is out of reach: the row is
-- never equal to it, and at most it exactly where it is not negative.
abbrev pub is_const_coding : ℕ → List Lit → ℤ → AtomCoding
is_const_coding n [] c = truth_coding n (int_eq (pos 0) c)
is_const_coding n (x ∷ row) c =
    if has_places (length (x ∷ row)) c
    then all_coding n (match_lits (x ∷ row) (constant_bits (length (x ∷ row)) c))
    else truth_coding n false

abbrev pub at_most_const_coding : ℕ → List Lit → ℤ → AtomCoding
at_most_const_coding n [] c = truth_coding n (int_le (pos 0) c)
at_most_const_coding n (x ∷ row) c =
    if has_places (length (x ∷ row)) c
    then record {
      vars = n + 1;
      clauses = at_most_const_clauses n (x ∷ row) (constant_bits (length (x ∷ row)) c);
      lit = literal n;
    }
    else truth_coding n (int_le (pos 0) c)

-- clauses before those of an atom
abbrev pub after_clauses : List (List Lit) → AtomCoding → AtomCoding
after_clauses before coding = record { vars = coding.vars; clauses = before ++ coding.clauses; lit = coding.lit }

-- a sum is compared with 0: its row with the opposite of its offset
abbrev pub compared_to_zero : (ℕ → List Lit → ℤ → AtomCoding) → TermCoding → AtomCoding
compared_to_zero compare x = after_clauses x.clauses (compare x.vars x.sum.row (neg_ℤ x.sum.offset))

-- Two terms are compared by their rows where both have rows and equal offsets, else by their difference.
abbrev pub compares_rows : OffsetRow → OffsetRow → Bool
compares_rows x y = (nat_lt 0 (length x.row) && nat_lt 0 (length y.row)) && int_eq x.offset y.offset

abbrev pub equal_coding : ℕ → OffsetRow → OffsetRow → AtomCoding
equal_coding n x y =
    if compares_rows x y
    then same_rows_coding n (widen (common_places x.row y.row) x.row) (widen (common_places x.row y.row) y.row)
    else compared_to_zero is_const_coding (plus_row_coding n x (opposite_offset_row y))

abbrev pub at_most_coding : ℕ → OffsetRow → OffsetRow → AtomCoding
at_most_coding n x y =
    if compares_rows x y
    then rows_at_most_coding n (widen (common_places x.row y.row) x.row) (widen (common_places x.row y.row) y.row)
    else compared_to_zero at_most_const_coding (plus_row_coding n x (opposite_offset_row y))

-- two terms, the second after the first, and then their comparison
abbrev pub compared_coding : (ℕ → OffsetRow → OffsetRow → AtomCoding) → TermCoding → TermCoding → AtomCoding
compared_coding compare x y = after_clauses (x.clauses ++ y.clauses) (compare y.vars x.sum y.sum)

-- the names of an enumeration
abbrev pub names_of : PortType → List (List ℕ)
names_of kind.Bool = []
names_of (kind.Range lo hi) = []
names_of (kind.Enum names) = names

abbrev pub port_names : List PortType → ℕ → List (List ℕ)
port_names ports port = names_of (slice_index_or ports port kind.Bool)

-- the literals that a row of digits is that of a place
abbrev pub place_lits : List Lit → ℕ → List Lit
place_lits row place = match_lits row (binary_digits (length row) place)

-- a port has a name: its bits are those of the name's place, if it has one
abbrev pub place_coding : ℕ → List Lit → Option ℕ → AtomCoding
place_coding n row None = truth_coding n false
place_coding n row (Some place) = all_coding n (place_lits row place)

abbrev pub name_coding : ℕ → List Lit → List (List ℕ) → List ℕ → AtomCoding
name_coding n row names name = place_coding n row (position (bytes_eq name) names)

-- for each common name of two enumerations, in the order of the first from place i on, the literals that
-- ports of both have it
abbrev pub common_place : List Lit → List Lit → ℕ → Option ℕ → List (List Lit)
common_place a b i None = []
common_place a b i (Some j) = (place_lits a i ++ place_lits b j) ∷ []

abbrev pub common_lits : List Lit → List Lit → ℕ → List (List ℕ) → List (List ℕ) → List (List Lit)
common_lits a b i [] others = []
common_lits a b i (name ∷ names) others =
    common_place a b i (position (bytes_eq name) others) ++ common_lits a b (i + 1) names others

-- one of the lists holds as a whole: a variable for each list that says so, and any of these
abbrev pub each_all_clauses : ℕ → List (List Lit) → List (List Lit)
each_all_clauses n [] = []
each_all_clauses n (lits ∷ rest) = all_clauses n lits ++ each_all_clauses (n + 1) rest

abbrev pub any_all_coding : ℕ → List (List Lit) → AtomCoding
any_all_coding n lists = record {
  vars = n + length lists + 1;
  clauses = each_all_clauses n lists ++ any_clauses (n + length lists) (var_row n (length lists));
  lit = opposite (literal (n + length lists));
}

-- ports of two enumerations: of the same names by their rows, else by their common names
abbrev pub same_ports_coding : ℕ → List (List ℕ) → List Lit → List (List ℕ) → List Lit → AtomCoding
same_ports_coding n names a others b =
    if pointwise bytes_eq names others then same_rows_coding n a b
    else any_all_coding n (common_lits a b 0 names others)

-- two names, each that of a port or a constant
abbrev pub same_coding : List PortType → List (List Lit) → List (List Lit) → ℕ → Choice → Choice → AtomCoding
same_coding ports now next n (form.Named x) (form.Named y) = truth_coding n (bytes_eq x y)
same_coding ports now next n (form.Named x) (form.NameAt q c) =
    name_coding n (port_bits now next q c) (port_names ports q) x
same_coding ports now next n (form.NameAt p b) (form.Named y) =
    name_coding n (port_bits now next p b) (port_names ports p) y
same_coding ports now next n (form.NameAt p b) (form.NameAt q c) =
    same_ports_coding n (port_names ports p) (port_bits now next p b) (port_names ports q) (port_bits now next q c)

-- an atom
abbrev pub atom_coding : List PortType → List (List Lit) → List (List Lit) → ℕ → Proposition → AtomCoding
atom_coding ports now next n (form.TruthAt p b) =
    record { vars = n; clauses = []; lit = slice_index_or (port_bits now next p b) 0 (literal n) }
atom_coding ports now next n (form.Equals a b) = compared_coding equal_coding (term_coding ports now next n a)
    (term_coding ports now next (term_coding ports now next n a).vars b)
atom_coding ports now next n (form.AtMost a b) = compared_coding at_most_coding (term_coding ports now next n a)
    (term_coding ports now next (term_coding ports now next n a).vars b)
atom_coding ports now next n (form.SameName a b) = same_coding ports now next n a b
