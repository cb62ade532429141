-- what the code of terms has at each exit, and what the bits of a port are like
use Rattle.std.proofs.Common.{◌≡◌, ◌<◌, ◌≤◌, ℕ, zero, suc, Bool, true, false, List, [], ◌∷◌, length, get_or, sym, ◌∙◌, ap}
use Rattle.std.proofs.Common.{arith}
use Rattle.std.specs.List.{All}
use Rattle.std.proofs.lemmas.List.{length-map}
use Rattle.port_types.specs.declared.types.PortType.{PortType}
use Rattle.port_types.specs.declared.types.PortType.TheVariants as kind
use Rattle.port_types.specs.declared.types.Value.TheVariants as value
use Rattle.port_types.specs.declared.types.PortId.{PortId}
use Rattle.port_types.specs.Types.{values}
use Rattle.typed_ltl.specs.declared.term.Term.{Term}
use Rattle.typed_ltl.specs.declared.term.Term.TheFolds.{fold-roll-Term}
use Rattle.typed_ltl.specs.declared.term.Term.TheOpen.{Term-F}
use Rattle.typed_ltl.specs.declared.term.Term.TheVariants as variant
use Rattle.typed_ltl.specs.declared.term.Term.TheVariants.{rolls-Port}
use Rattle.typed_ltl.specs.Formulas as form
use Rattle.typed_ltl.specs.Formulas.{Number, number_node, number_of}
use Rattle.cnf.specs.declared.lit.Lit.{Lit}
use Rattle.state_coding.specs.Codes.{bit_count, type_bits}
use Rattle.state_coding.specs.States.{HasBits}
use Rattle.state_coding.specs.Numbers.{OffsetRow, TermCoding, port_bits}
use Rattle.state_coding.specs.Coded.{IsTermCoded}
use Rattle.state_coding.specs.Atoms.{names_of, port_names}
use Rattle.state_coding.specs.Reads.{IsBoolean, IsEnumeration, HasKind}
use Rattle.state_coding.proofs.CodeLaws.{bits_few}
use Rattle.state_coding.proofs.TermLaws.{TermShape}
use Rattle.state_coding.proofs.AtomTruth.{boolean_width}

-- ---- terms

-- a port as a term
pub Port_is : (x : Term) (p : PortId) (next : Bool) → x ≡ variant.Port p next → number_of x ≡ form.NumberAt p.0 next
Port_is x p next e = ap number_of (e ∙ sym (rolls-Port p next)) ∙ fold-roll-Term Number number_node (Term-F.Port p next)

-- an answer's row is of variables that are there
pub coded_known : (n m : ℕ) (older newer : List (List Lit)) (answer : OffsetRow) (coding : TermCoding)
    → TermShape n coding → IsTermCoded older m newer answer coding → All (λ lit. lit.var < m) answer.row
coded_known n m older newer answer coding s h = rw (h.vars, h.sum) s.known

-- ---- ports

bits_width : (n : ℕ) (ports : List PortType) (bits : List (List Lit)) (p : ℕ) → HasBits n ports bits
    → p < length ports → length (get_or bits p []) ≡ type_bits (get_or ports p kind.Bool)
bits_width n [] bits p has h = absurd (omega arith)
bits_width n (kind ∷ ports) [] p has h = absurd has
bits_width n (kind ∷ ports) (row ∷ bits) zero has h = has.0
bits_width n (kind ∷ ports) (row ∷ bits) (suc p) has h = bits_width n ports bits p has.2 (omega arith)

pub port_bits_width : (n : ℕ) (ports : List PortType) (now next : List (List Lit)) (p : ℕ) (is_next : Bool)
    → HasBits n ports now → HasBits n ports next → p < length ports
    → length (port_bits now next p is_next) ≡ type_bits (get_or ports p kind.Bool)
port_bits_width n ports now next p false hn hx h = bits_width n ports now p hn h
port_bits_width n ports now next p true hn hx h = bits_width n ports next p hx h

pub port_bits_few : (n : ℕ) (ports : List PortType) (now next : List (List Lit)) (p : ℕ) (is_next : Bool)
    → HasBits n ports now → HasBits n ports next → p < length ports → length (port_bits now next p is_next) ≤ 32
port_bits_few n ports now next p is_next hn hx h =
    let width : length (port_bits now next p is_next) ≡ type_bits (get_or ports p kind.Bool) =
    port_bits_width n ports now next p is_next hn hx h in
    let few : type_bits (get_or ports p kind.Bool) ≤ 32 = bits_few (length (values (get_or ports p kind.Bool))) in
    omega arith

bool_width : (k : PortType) → IsBoolean k → type_bits k ≡ 1
bool_width kind.Bool h = boolean_width
bool_width (kind.Range lo hi) h = absurd h
bool_width (kind.Enum names) h = absurd h

-- a boolean port has one bit
pub truth_width : (n : ℕ) (ports : List PortType) (now next : List (List Lit)) (p : ℕ) (is_next : Bool)
    → HasBits n ports now → HasBits n ports next → HasKind IsBoolean ports p
    → length (port_bits now next p is_next) ≡ 1
truth_width n ports now next p is_next hn hx h =
    port_bits_width n ports now next p is_next hn hx h.0 ∙ bool_width (get_or ports p kind.Bool) h.1

-- ---- names

enum_width : (k : PortType) → IsEnumeration k → type_bits k ≡ bit_count (length (names_of k))
enum_width kind.Bool h = absurd h
enum_width (kind.Range lo hi) h = absurd h
enum_width (kind.Enum names) h = ap bit_count (length-map names value.Name)

-- ports of the same names have as many bits
pub same_names_width : (n : ℕ) (ports : List PortType) (now next : List (List Lit)) (p q : ℕ) (b c : Bool)
    → HasBits n ports now → HasBits n ports next → HasKind IsEnumeration ports p → HasKind IsEnumeration ports q
    → port_names ports p ≡ port_names ports q → length (port_bits now next p b) ≡ length (port_bits now next q c)
same_names_width n ports now next p q b c hn hx hp hq e =
    port_bits_width n ports now next p b hn hx hp.0
    ∙ enum_width (get_or ports p kind.Bool) hp.1
    ∙ ap (λ names. bit_count (length names)) e
    ∙ sym (enum_width (get_or ports q kind.Bool) hq.1)
    ∙ sym (port_bits_width n ports now next q c hn hx hq.0)
