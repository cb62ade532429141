-- the literal of an atom's coding is its truth value
use Rattle.std.proofs.Common.{◌≡◌, ◌+◌, ◌<◌, ◌≤◌, ◌*◌, ◌^◌, ℕ, zero, suc, Bool, true, false, List, [], ◌∷◌, ◌++◌, length, get_or, refl, sym, ◌∙◌, ap}
use Rattle.std.proofs.Common.{arith}
use Rattle.std.specs.Prelude.{ℤ, int_le, if◌then◌else◌}
use Rattle.std.specs.Ordering.{int_eq}
use Rattle.std.specs.Str.{bytes_eq}
use Rattle.std.specs.List.{All}
use Rattle.std.proofs.lemmas.List.{length-map}
use Rattle.port_types.specs.declared.types.PortType.{PortType}
use Rattle.port_types.specs.declared.types.PortType.TheVariants as kind
use Rattle.port_types.specs.declared.types.Value.TheVariants as value
use Rattle.port_types.specs.Types.{values}
use Rattle.typed_ltl.specs.Formulas.{Number, Choice, Proposition}
use Rattle.typed_ltl.specs.Formulas as form
use Rattle.typed_ltl.specs.Traces.{assignment}
use Rattle.typed_ltl.specs.Truth.{as_truth, as_name, number_value, choice_name, proposition_truth}
use Rattle.cnf.specs.declared.lit.Lit.{Lit}
use Rattle.cnf.specs.Clauses.{lit_holds, lit_values}
use Rattle.cnf.specs.Gates.{literal}
use Rattle.cnf.specs.Bounds.{binary_number}
use Rattle.cnf.specs.Laws.{GatesAreRight}
use Rattle.state_coding.specs.Codes.{bit_count, type_bits, value_at}
use Rattle.state_coding.specs.States.{state_values, HasBits, TwoStates}
use Rattle.state_coding.specs.Numbers.{OffsetRow, TermCoding, port_bits, term_coding}
use Rattle.state_coding.specs.Atoms
use Rattle.state_coding.specs.Reads.{ReadsPorts, ReadsNumbers, ReadsEnumeration, IsBoolean, IsEnumeration}
use Rattle.state_coding.proofs.CodeLaws.{count_fits, count_least}
use Rattle.state_coding.proofs.StateLaws.{parts_hold, codable_few, within_later, bits_later}
use Rattle.state_coding.proofs.TermLaws.{PortRow, TermShape, sum_number, term_is, term_shape, row_below, read_row, read_is}
use Rattle.state_coding.proofs.AtomLaws.{Says, truth_is, equal_more, at_most_more, equal_is, at_most_is}
use Rattle.state_coding.proofs.NameLaws.{Enumeration, name_value, name_is, same_ports_is, same_either_way}

-- ---- booleans

pub boolean_width : type_bits kind.Bool ≡ 1
boolean_width =
    let low : 2 ≤ 2 ^ bit_count 2 = count_fits 2 (omega arith) (omega arith) in
    let high : bit_count 2 ≤ 1 = count_least 2 1 (omega arith) (omega arith) (omega arith) in
    one (bit_count 2) low high
  where
    one : (b : ℕ) → 2 ≤ 2 ^ b → b ≤ 1 → b ≡ 1
    one zero l h = absurd (omega arith)
    one (suc b) l h = omega arith

boolean_value : (b : Bool) → b ≡ as_truth (get_or (value.Bool false ∷ value.Bool true ∷ [])
    ((if b then 1 else 0) + 2 * 0) (value.Bool false))
boolean_value true = refl
boolean_value false = refl

boolean_is : (model : List Bool) (kind : PortType) (row : List Lit) (d : Lit) → IsBoolean kind → PortRow model kind row
    → lit_holds model (get_or row 0 d) ≡ as_truth (value_at kind (lit_values model row))
boolean_is model (kind.Range lo hi) row d is r = absurd is
boolean_is model (kind.Enum names) row d is r = absurd is
boolean_is model kind.Bool [] d is r = let w : type_bits kind.Bool ≡ 1 = boolean_width in let z : 0 ≡ type_bits kind.Bool = r.width in absurd (omega arith)
boolean_is model kind.Bool (x ∷ []) d is r = boolean_value (lit_holds model x)
boolean_is model kind.Bool (x ∷ y ∷ row) d is r = let e : length (x ∷ y ∷ row) ≡ 1 = r.width ∙ boolean_width in absurd (omega arith)

-- ---- terms

-- a comparison of terms in clauses, and what its literal says of their values
record Comparison (model : List Bool) (compare : ℕ → OffsetRow → OffsetRow → Atoms.AtomCoding) (result : ℤ → ℤ → Bool) : Type 0 where
  pub more : (m : ℕ) (x y : OffsetRow) → m ≤ (compare m x y).vars
  pub says : (m : ℕ) (x y : OffsetRow) → All (λ lit. lit.var < length model) x.row → All (λ lit. lit.var < length model) y.row
      → Says model (compare m x y) (result (sum_number model x) (sum_number model y))

compared : (g : GatesAreRight) (model : List Bool) (ports : List PortType) (now next : List (List Lit)) (n : ℕ)
    (a b : Number) (compare : ℕ → OffsetRow → OffsetRow → Atoms.AtomCoding) (result : ℤ → ℤ → Bool)
    → Comparison model compare result → TwoStates model ports now next → HasBits n ports now → HasBits n ports next → ReadsNumbers ports a
    → ReadsNumbers ports b
    → Says model (Atoms.compared_coding compare (term_coding ports now next n a)
    (term_coding ports now next (term_coding ports now next n a).vars b))
    (result (number_value (assignment (state_values model ports now)) (assignment (state_values model ports next)) a)
    (number_value (assignment (state_values model ports now)) (assignment (state_values model ports next)) b))
compared g model ports now next n a b compare result is two hn hx ra rb room h =
    let x : TermCoding = term_coding ports now next n a in
    let y : TermCoding = term_coding ports now next x.vars b in
    let sx : TermShape n x = term_shape ports now next n a hn hx in
    let mn = bits_later n x.vars ports now sx.vars hn in
    let mx = bits_later n x.vars ports next sx.vars hx in
    let sy : TermShape x.vars y = term_shape ports now next x.vars b mn mx in
    let le : x.vars ≤ y.vars = sy.vars in
    let last : y.vars ≤ (compare y.vars x.sum y.sum).vars = is.more y.vars x.sum y.sum in
    let both = parts_hold model (x.clauses ++ y.clauses) (compare y.vars x.sum y.sum).clauses h in
    let terms = parts_hold model x.clauses y.clauses both.0 in
    is.says y.vars x.sum y.sum (within_later x.vars (length model) x.sum.row (omega arith) sx.known)
    (within_later y.vars (length model) y.sum.row (omega arith) sy.known) room both.1
    ∙ rw (term_is g model ports now next n a two hn hx ra (omega arith) terms.0, term_is g model ports now next x.vars b two mn mx rb (omega arith) terms.1)
    refl

-- ---- names

enumeration_name : (kind : PortType) (bits : List Bool) → IsEnumeration kind
    → as_name (value_at kind bits) ≡ get_or (Atoms.names_of kind) (binary_number bits) []
enumeration_name kind.Bool bits is = absurd is
enumeration_name (kind.Range lo hi) bits is = absurd is
enumeration_name (kind.Enum names) bits is = name_value names (binary_number bits)

enumeration_is : (g : GatesAreRight) (model : List Bool) (kind : PortType) (row : List Lit) → IsEnumeration kind
    → PortRow model kind row → Enumeration (Atoms.names_of kind) row (binary_number (lit_values model row))
enumeration_is g model kind.Bool row is r = absurd is
enumeration_is g model (kind.Range lo hi) row is r = absurd is
enumeration_is g model (kind.Enum names) row is r =
    let count : length (values (kind.Enum names)) ≡ length names = length-map names value.Name in
    let below : binary_number (lit_values model row) < length (values (kind.Enum names)) = row_below g model (kind.Enum names) row r in
    let fits : length (values (kind.Enum names)) ≤ 2 ^ type_bits (kind.Enum names) = count_fits (length (values (kind.Enum names))) r.codable.1
    (codable_few (kind.Enum names) r.codable) in
    record { distinct = r.codable.0.1; code = omega arith; fits = rw r.width (omega arith) }

same_width : (k l : PortType) → IsEnumeration k → IsEnumeration l → Atoms.names_of k ≡ Atoms.names_of l
    → type_bits k ≡ type_bits l
same_width kind.Bool l ik il e = absurd ik
same_width (kind.Range lo hi) l ik il e = absurd ik
same_width (kind.Enum names) kind.Bool ik il e = absurd il
same_width (kind.Enum names) (kind.Range lo hi) ik il e = absurd il
same_width (kind.Enum names) (kind.Enum others) ik il e = ap (λ l. type_bits (kind.Enum l)) e

-- the name of a port
port_name : (g : GatesAreRight) (model : List Bool) (ports : List PortType) (now next : List (List Lit)) (p : ℕ)
    (b : Bool) → TwoStates model ports now next → ReadsEnumeration ports (form.NameAt p b)
    → get_or (Atoms.port_names ports p) (binary_number (lit_values model (port_bits now next p b))) [] ≡ choice_name
    (assignment (state_values model ports now)) (assignment (state_values model ports next)) (form.NameAt p b)
port_name g model ports now next p b two reads =
    sym (ap as_name (read_is model ports now next p b two reads.0) ∙ enumeration_name (get_or ports p kind.Bool) (lit_values model (port_bits now next p b))
    reads.1)

port_enumeration : (g : GatesAreRight) (model : List Bool) (ports : List PortType) (now next : List (List Lit)) (p : ℕ)
    (b : Bool) → TwoStates model ports now next → ReadsEnumeration ports (form.NameAt p b)
    → Enumeration (Atoms.port_names ports p) (port_bits now next p b)
    (binary_number (lit_values model (port_bits now next p b)))
port_enumeration g model ports now next p b two reads =
    enumeration_is g model (get_or ports p kind.Bool) (port_bits now next p b) reads.1 (read_row model ports now next p b two reads.0)

port_known : (model : List Bool) (ports : List PortType) (now next : List (List Lit)) (p : ℕ) (b : Bool)
    → TwoStates model ports now next → ReadsEnumeration ports (form.NameAt p b)
    → All (λ lit. lit.var < length model) (port_bits now next p b)
port_known model ports now next p b two reads = (read_row model ports now next p b two reads.0).known

same_is : (g : GatesAreRight) (model : List Bool) (ports : List PortType) (now next : List (List Lit)) (n : ℕ)
    (a b : Choice) → TwoStates model ports now next → ReadsEnumeration ports a → ReadsEnumeration ports b
    → Says model (Atoms.same_coding ports now next n a b)
    (bytes_eq (choice_name (assignment (state_values model ports now)) (assignment (state_values model ports next))
    a) (choice_name (assignment (state_values model ports now)) (assignment (state_values model ports next)) b))
same_is g model ports now next n (form.Named x) (form.Named y) two ra rb room h = truth_is g model n (bytes_eq x y) (omega arith) h
same_is g model ports now next n (form.Named x) (form.NameAt q c) two ra rb room h =
    name_is g model n (port_bits now next q c) (Atoms.port_names ports q) x (port_known model ports now next q c two rb)
    (port_enumeration g model ports now next q c two rb) room h
    ∙ ap (λ y. bytes_eq y x) (port_name g model ports now next q c two rb)
    ∙ same_either_way (choice_name (assignment (state_values model ports now)) (assignment (state_values model ports next)) (form.NameAt q c)) x
same_is g model ports now next n (form.NameAt p b) (form.Named y) two ra rb room h =
    name_is g model n (port_bits now next p b) (Atoms.port_names ports p) y (port_known model ports now next p b two ra)
    (port_enumeration g model ports now next p b two ra) room h
    ∙ ap (λ x. bytes_eq x y) (port_name g model ports now next p b two ra)
same_is g model ports now next n (form.NameAt p b) (form.NameAt q c) two ra rb room h =
    let left : PortRow model (get_or ports p kind.Bool) (port_bits now next p b) = read_row model ports now next p b two ra.0 in
    let right : PortRow model (get_or ports q kind.Bool) (port_bits now next q c) = read_row model ports now next q c two rb.0 in
    same_ports_is g model n (Atoms.port_names ports p) (port_bits now next p b) (Atoms.port_names ports q) (port_bits now next q c)
    (record {
      left = left.known;
      right = right.known;
      first = port_enumeration g model ports now next p b two ra;
      second = port_enumeration g model ports now
          next q c two rb;
    })
    (λ e. left.width ∙ same_width (get_or ports p kind.Bool) (get_or ports q kind.Bool) ra.1 rb.1 e ∙ sym right.width) room h
    ∙ rw (port_name g model ports now next p b two ra, port_name g model ports now next q c two rb) refl

-- ---- atoms

pub atom_is : (g : GatesAreRight) (model : List Bool) (ports : List PortType) (now next : List (List Lit)) (n : ℕ)
    (t : Proposition) → TwoStates model ports now next → HasBits n ports now → HasBits n ports next → ReadsPorts ports t
    → Says model (Atoms.atom_coding ports now next n t)
    (proposition_truth (assignment (state_values model ports now)) (assignment (state_values model ports next)) t)
atom_is g model ports now next n (form.TruthAt p b) two hn hx reads room h =
    boolean_is model (get_or ports p kind.Bool) (port_bits now next p b) (literal n) reads.1 (read_row model ports now next p b two reads.0)
    ∙ ap as_truth (sym (read_is model ports now next p b two reads.0))
atom_is g model ports now next n (form.Equals a b) two hn hx reads room h =
    compared g model ports now next n a b Atoms.equal_coding int_eq (record { more = equal_more; says = equal_is g model }) two hn hx reads.0 reads.1 room h
atom_is g model ports now next n (form.AtMost a b) two hn hx reads room h =
    compared g model ports now next n a b Atoms.at_most_coding int_le (record { more = at_most_more; says = at_most_is g model }) two hn hx reads.0
    reads.1 room h
atom_is g model ports now next n (form.SameName a b) two hn hx reads room h = same_is g model ports now next n a b two reads.0 reads.1 room h
