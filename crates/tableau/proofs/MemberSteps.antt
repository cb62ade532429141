-- one more member of a layer: its coding is of variables that are there, and where its clauses hold it has its value
use Rattle.std.proofs.Common.{◌≡◌, ◌+◌, ◌<◌, ◌≤◌, ℕ, zero, suc, Bool, true, false, not, ◌&&◌, ◌||◌, Option, Some, None, List, [], ◌∷◌, ◌++◌, length, get_or}
use Rattle.std.proofs.Common.{refl, sym, ◌∙◌, ap, arith, length-append, subst, ⊎_elim}
use Rattle.std.specs.Prelude.{nat_lt, slice_get, map}
use Rattle.std.specs.List.{All}
use Rattle.std.proofs.lemmas.Bool.{and_parts, cases_lt}
use Rattle.std.proofs.lemmas.List.Elements.{All-push, All-get_or}
use Rattle.std.proofs.lemmas.List.{length-map, get_or-map}
use Rattle.std.proofs.lemmas.Option.{same_Some, slice_get_within, slice_get-get_or}
use Rattle.port_types.specs.declared.types.PortType.{PortType}
use Rattle.typed_ltl.specs.declared.atom.Atom.{Atom}
use Rattle.typed_ltl.specs.Formulas.{Proposition, proposition_of}
use Rattle.typed_ltl.specs.Formulas as form
use Rattle.typed_ltl.specs.Traces.{assignment}
use Rattle.typed_ltl.specs.Truth.{proposition_truth}
use Rattle.core_ltl.specs.declared.node.NodeId.{NodeId}
use Rattle.core_ltl.specs.declared.node.AtomId.{AtomId}
use Rattle.core_ltl.specs.declared.node.Node.{Node}
use Rattle.core_ltl.specs.declared.node.Node.TheVariants as node
use Rattle.core_ltl.specs.Nodes.{operands_before}
use Rattle.cnf.specs.declared.lit.Lit.{Lit}
use Rattle.cnf.specs.Clauses.{opposite, lit_holds, clauses_hold}
use Rattle.cnf.specs.Gates.{literal, and_clauses}
use Rattle.cnf.specs.Laws.{GatesAreRight}
use Rattle.cnf.proofs.GateLaws.{and_means}
use Rattle.state_coding.specs.States.{state_values, TwoStates}
use Rattle.state_coding.specs.Atoms.{AtomCoding, atom_coding}
use Rattle.state_coding.specs.Coded.{IsCoded}
use Rattle.state_coding.specs.Reads.{ReadsPorts}
use Rattle.state_coding.specs.Laws.{AtomsAreRight}
use Rattle.state_coding.proofs.StateLaws.{bits_later, within_later}
use Rattle.state_coding.proofs.AtomLaws.{truth_is}
use Rattle.tableau.specs.TableauStates.{ClosureOverPorts, CanBeCoded, atom_at}
use Rattle.tableau.specs.Copies.{LayerLits, member_literal, member_coding, next_coding, with_member}
use Rattle.tableau.specs.Parts.{HasPart, is_until, next_of}
use Rattle.tableau.proofs.AtomBounds.{Bounded, atom_bounded}
use Rattle.tableau.proofs.UntilLaws.{until_means}
use Rattle.tableau.proofs.Places.{below, older_literal, last_literal, members_more}

-- ---- operands

-- an operand stands before its node
pub record IsBefore (t : ClosureOverPorts) (layer : LayerLits) (x : Node) : Type 0 where
  pub operands : operands_before (length layer.members) x ≡ true

pub node_before : (t : ClosureOverPorts) (layer : LayerLits) (x : Node) → CanBeCoded t
    → slice_get t.closure.nodes (length layer.members) ≡ Some x → IsBefore t layer x
node_before t layer x coded e = record { operands = coded.closed.operands (length layer.members) x e }

pub not_before : (t : ClosureOverPorts) (layer : LayerLits) (k : NodeId) → IsBefore t layer (node.Not k) → k.0 < length layer.members
not_before t layer k h = below k.0 (length layer.members) h.operands

pub next_before : (t : ClosureOverPorts) (layer : LayerLits) (k : NodeId) → IsBefore t layer (node.Next k) → k.0 < length layer.members
next_before t layer k h = below k.0 (length layer.members) h.operands

pub and_before : (t : ClosureOverPorts) (layer : LayerLits) (k l : NodeId) → IsBefore t layer (node.And k l)
    → (k.0 < length layer.members) × (l.0 < length layer.members)
and_before t layer k l h =
    let both = and_parts (nat_lt k.0 (length layer.members)) (nat_lt l.0 (length layer.members)) h.operands in
    (below k.0 (length layer.members) both.0, below l.0 (length layer.members) both.1)

pub until_before : (t : ClosureOverPorts) (layer : LayerLits) (k l : NodeId) → IsBefore t layer (node.Until k l)
    → (k.0 < length layer.members) × (l.0 < length layer.members)
until_before t layer k l h =
    let both = and_parts (nat_lt k.0 (length layer.members)) (nat_lt l.0 (length layer.members)) h.operands in
    (below k.0 (length layer.members) both.0, below l.0 (length layer.members) both.1)

-- an atom reads ports that are there
pub atom_reads : (t : ClosureOverPorts) (n : ℕ) (a : AtomId) → CanBeCoded t → slice_get t.closure.nodes n ≡ Some (node.Atom a)
    → ReadsPorts t.ports (atom_at t a)
atom_reads t n a coded e =
    All-get_or (ReadsPorts t.ports) (map proposition_of t.closure.atoms) a.0 (form.TruthAt 0 false) (coded.closed.named_atoms n a e) coded.atoms

-- ---- variables

next_cases : (n : ℕ) (o : Option Node) (lit : Lit) → ((a b : NodeId) → o ≡ Some (node.Until a b) → lit.var + 1 < n)
    → Bounded n (next_coding n o lit)
next_cases n None lit h = record { more = omega arith; known = omega arith }
next_cases n (Some node.True) lit h = record { more = omega arith; known = omega arith }
next_cases n (Some (node.Atom a)) lit h = record { more = omega arith; known = omega arith }
next_cases n (Some (node.Not k)) lit h = record { more = omega arith; known = omega arith }
next_cases n (Some (node.And k l)) lit h = record { more = omega arith; known = omega arith }
next_cases n (Some (node.Next k)) lit h = record { more = omega arith; known = omega arith }
next_cases n (Some (node.Until k l)) lit h = record { more = omega arith; known = h k l refl }

pub known_member : (n : ℕ) (t : ClosureOverPorts) (layer : LayerLits) (k : ℕ) → HasPart n t layer → k < length layer.members
    → (member_literal layer k).var < n
known_member n t layer k part h = All-get_or (λ lit. lit.var < n) layer.members k (literal 0) h part.lits

member_cases : (t : ClosureOverPorts) (layer : LayerLits) (n : ℕ) (x : Node) → CanBeCoded t → HasPart n t layer
    → slice_get t.closure.nodes (length layer.members) ≡ Some x → IsBefore t layer x → Bounded n (member_coding t layer n x)
member_cases t layer n node.True coded part e h = record { more = omega arith; known = omega arith }
member_cases t layer n (node.Atom a) coded part e h =
    atom_bounded t.ports layer.bits layer.next_bits n (atom_at t a) part.now part.next (atom_reads t (length layer.members) a coded e)
member_cases t layer n (node.Not k) coded part e h =
    record { more = omega arith; known = known_member n t layer k.0 part (not_before t layer k h) }
member_cases t layer n (node.And k l) coded part e h = record { more = omega arith; known = omega arith }
member_cases t layer n (node.Next k) coded part e h =
    next_cases n (slice_get t.closure.nodes k.0) (member_literal layer k.0) (λ a b is. part.untils k.0 a b (next_before t layer k h) is)
member_cases t layer n (node.Until k l) coded part e h = record { more = omega arith; known = omega arith }

pub member_bounded : (t : ClosureOverPorts) (layer : LayerLits) (n : ℕ) (x : Node) → CanBeCoded t → HasPart n t layer
    → slice_get t.closure.nodes (length layer.members) ≡ Some x → Bounded n (member_coding t layer n x)
member_bounded t layer n x coded part e = member_cases t layer n x coded part e (node_before t layer x coded e)

until_room : (t : ClosureOverPorts) (layer : LayerLits) (n : ℕ) (x : Node) (k l : NodeId) → x ≡ node.Until k l
    → (member_coding t layer n x).lit.var + 1 < (member_coding t layer n x).vars
until_room t layer n x k l e = subst (λ y. (member_coding t layer n y).lit.var + 1 < (member_coding t layer n y).vars) (sym e) (omega arith)

pub part_more : (t : ClosureOverPorts) (layer : LayerLits) (n : ℕ) (x : Node) → CanBeCoded t → HasPart n t layer
    → slice_get t.closure.nodes (length layer.members) ≡ Some x
    → HasPart (member_coding t layer n x).vars t (with_member layer (member_coding t layer n x).lit)
part_more t layer n x coded part e =
    let c : AtomCoding = member_coding t layer n x in
    let b : Bounded n c = member_bounded t layer n x coded part e in
    let more : n ≤ c.vars = b.more in
    record {
      now = bits_later n c.vars t.ports layer.bits more part.now;
      next = bits_later n c.vars t.ports layer.next_bits more part.next;
      lits = All-push (λ lit. lit.var < c.vars) layer.members c.lit (within_later n c.vars layer.members more part.lits) b.known;
      untils = λ u k l within is.
          ⊎_elim
          (λ (old : u < length layer.members).
          let room : (member_literal layer u).var + 1 < n = part.untils u k l old is in
          subst (λ (lit : Lit). lit.var + 1 < c.vars) (sym (older_literal layer c.lit u old)) (omega arith))
          (λ (new : length layer.members ≤ u).
          let wide : length (with_member layer c.lit).members ≡ length layer.members + 1 = members_more layer c.lit in
          let last : u ≡ length layer.members = omega arith in
          let same : x ≡ node.Until k l = same_Some x (node.Until k l) (sym e ∙ (rw last at is)) in
          subst (λ (lit : Lit). lit.var + 1 < c.vars) (sym (ap (member_literal (with_member layer c.lit)) last ∙ last_literal layer c.lit))
          (until_room t layer n x k l same))
          (cases_lt u (length layer.members));
    }

-- ---- values

-- A literal of the layer has the value that its form demands in the list of truth values, where an until looks at the
-- variable after its own, which is its Next's.
abbrev pub IsRight : List Bool → ClosureOverPorts → LayerLits → ℕ → Node → Type 0
IsRight model t layer n node.True = lit_holds model (member_literal layer n) ≡ true
IsRight model t layer n (node.Atom a) = lit_holds model (member_literal layer n)
    ≡ proposition_truth (assignment (state_values model t.ports layer.bits)) (assignment (state_values model t.ports layer.next_bits)) (atom_at t a)
IsRight model t layer n (node.Not k) = lit_holds model (member_literal layer n) ≡ not (lit_holds model (member_literal layer k.0))
IsRight model t layer n (node.And k l) = lit_holds model (member_literal layer n)
    ≡ (lit_holds model (member_literal layer k.0) && lit_holds model (member_literal layer l.0))
IsRight model t layer n (node.Next k) = (a b : NodeId) → slice_get t.closure.nodes k.0 ≡ Some (node.Until a b)
    → member_literal layer n ≡ literal ((member_literal layer k.0).var + 1)
IsRight model t layer n (node.Until k l) = lit_holds model (member_literal layer n)
    ≡ (lit_holds model (member_literal layer l.0)
    || (lit_holds model (member_literal layer k.0) && lit_holds model (literal ((member_literal layer n).var + 1))))

-- the literals before are as they were
right_later : (model : List Bool) (t : ClosureOverPorts) (layer : LayerLits) (lit : Lit) (n : ℕ) (x : Node) → n < length layer.members
    → operands_before n x ≡ true → IsRight model t layer n x → IsRight model t (with_member layer lit) n x
right_later model t layer lit n node.True h o r = rw (older_literal layer lit n h) r
right_later model t layer lit n (node.Atom a) h o r = rw (older_literal layer lit n h) r
right_later model t layer lit n (node.Not k) h o r =
    let first : k.0 < n = below k.0 n o in rw (older_literal layer lit n h, older_literal layer lit k.0 (omega arith)) r
right_later model t layer lit n (node.And k l) h o r =
    let both = and_parts (nat_lt k.0 n) (nat_lt l.0 n) o in
    let first : k.0 < n = below k.0 n both.0 in
    let second : l.0 < n = below l.0 n both.1 in
    rw (older_literal layer lit n h, older_literal layer lit k.0 (omega arith), older_literal layer lit l.0 (omega arith)) r
right_later model t layer lit n (node.Next k) h o r =
    let first : k.0 < n = below k.0 n o in
    λ a b e. older_literal layer lit n h ∙ r a b e ∙ ap (λ (m : Lit). literal (m.var + 1)) (sym (older_literal layer lit k.0 (omega arith)))
right_later model t layer lit n (node.Until k l) h o r =
    let both = and_parts (nat_lt k.0 n) (nat_lt l.0 n) o in
    let first : k.0 < n = below k.0 n both.0 in
    let second : l.0 < n = below l.0 n both.1 in
    rw (older_literal layer lit n h, older_literal layer lit k.0 (omega arith), older_literal layer lit l.0 (omega arith)) r

-- what is known of a member that was coded next
pub record MemberHolds (model : List Bool) (t : ClosureOverPorts) (layer : LayerLits) (n : ℕ) (x : Node) : Type 0 where
  pub gates : GatesAreRight
  pub atoms : AtomsAreRight
  pub coded : CanBeCoded t
  pub part : HasPart n t layer
  pub two : TwoStates model t.ports layer.bits layer.next_bits
  pub is_node : slice_get t.closure.nodes (length layer.members) ≡ Some x
  pub room : (member_coding t layer n x).vars ≤ length model
  pub holds : clauses_hold model (member_coding t layer n x).clauses ≡ true

-- the value of the coding's own literal
literal_value : (model : List Bool) (t : ClosureOverPorts) (layer : LayerLits) (n k : ℕ) (lit : Lit)
    → k < length layer.members → lit_holds model (member_literal (with_member layer lit) k) ≡ lit_holds model (member_literal layer k)
literal_value model t layer n k lit h = ap (lit_holds model) (older_literal layer lit k h)

last_value : (model : List Bool) (layer : LayerLits) (lit : Lit)
    → lit_holds model (member_literal (with_member layer lit) (length layer.members)) ≡ lit_holds model lit
last_value model layer lit = ap (lit_holds model) (last_literal layer lit)

right_cases : (model : List Bool) (t : ClosureOverPorts) (layer : LayerLits) (n : ℕ) (x : Node) → MemberHolds model t layer n x
    → IsBefore t layer x → n ≤ length model → IsRight model t (with_member layer (member_coding t layer n x).lit) (length layer.members) x
right_cases model t layer n node.True m h le =
    last_value model layer (literal n) ∙ truth_is m.gates model n true (let room : n + 1 ≤ length model = m.room in omega arith) m.holds
right_cases model t layer n (node.Atom a) m h le =
    last_value model layer (member_coding t layer n (node.Atom a)).lit
    ∙ m.atoms model t.ports layer.bits layer.next_bits n (atom_at t a) m.two m.part.now m.part.next
    (atom_reads t (length layer.members) a m.coded m.is_node) m.room m.holds
right_cases model t layer n (node.Not k) m h le =
    let lit : Lit = opposite (member_literal layer k.0) in
    let first : k.0 < length layer.members = not_before t layer k h in
    let known : (member_literal layer k.0).var < n = known_member n t layer k.0 m.part first in
    last_value model layer lit ∙ m.gates.opposites model (member_literal layer k.0) (omega arith)
    ∙ ap not (sym (literal_value model t layer n k.0 lit first))
right_cases model t layer n (node.And k l) m h le =
    let both = and_before t layer k l h in
    let left : (member_literal layer k.0).var < n = known_member n t layer k.0 m.part both.0 in
    let right : (member_literal layer l.0).var < n = known_member n t layer l.0 m.part both.1 in
    let room : n + 1 ≤ length model = m.room in
    last_value model layer (literal n)
    ∙ and_means model n (member_literal layer k.0) (member_literal layer l.0) (omega arith) (omega arith) (omega arith) m.holds
    ∙ sym (rw (literal_value model t layer n k.0 (literal n) both.0, literal_value model t layer n l.0 (literal n) both.1) refl)
right_cases model t layer n (node.Next k) m h le =
    let lit : Lit = (member_coding t layer n (node.Next k)).lit in
    let first : k.0 < length layer.members = next_before t layer k h in
    λ a b e. last_literal layer lit ∙ ap (λ o. (next_coding n o (member_literal layer k.0)).lit) e
    ∙ ap (λ (o : Lit). literal (o.var + 1)) (sym (older_literal layer lit k.0 first))
right_cases model t layer n (node.Until k l) m h le =
    let both = until_before t layer k l h in
    let left : (member_literal layer k.0).var < n = known_member n t layer k.0 m.part both.0 in
    let right : (member_literal layer l.0).var < n = known_member n t layer l.0 m.part both.1 in
    let room : n + 2 ≤ length model = m.room in
    last_value model layer (literal n)
    ∙ until_means model n (member_literal layer k.0) (member_literal layer l.0) (omega arith) (omega arith) (omega arith) m.holds
    ∙ sym (rw (
      literal_value model t layer n k.0 (literal n) both.0,
      literal_value model t layer n l.0 (literal n) both.1,
      last_literal layer (literal n),
    ) refl)

pub member_right : (model : List Bool) (t : ClosureOverPorts) (layer : LayerLits) (n : ℕ) (x : Node) → MemberHolds model t layer n x
    → IsRight model t (with_member layer (member_coding t layer n x).lit) (length layer.members) x
member_right model t layer n x m =
    let b : Bounded n (member_coding t layer n x) = member_bounded t layer n x m.coded m.part m.is_node in
    let more : n ≤ (member_coding t layer n x).vars = b.more in
    let room : (member_coding t layer n x).vars ≤ length model = m.room in
    right_cases model t layer n x m (node_before t layer x m.coded m.is_node) (omega arith)

-- every literal of the layer
pub record AreRight (model : List Bool) (t : ClosureOverPorts) (layer : LayerLits) : Type 0 where
  pub right : (u : ℕ) (x : Node) → u < length layer.members → slice_get t.closure.nodes u ≡ Some x → IsRight model t layer u x

pub none_right : (model : List Bool) (t : ClosureOverPorts) (layer : LayerLits) → length layer.members ≡ 0 → AreRight model t layer
none_right model t layer e = record { right = λ u x h is. absurd (omega arith) }

pub more_right : (model : List Bool) (t : ClosureOverPorts) (layer : LayerLits) (n : ℕ) (x : Node) → MemberHolds model t layer n x
    → AreRight model t layer → AreRight model t (with_member layer (member_coding t layer n x).lit)
more_right model t layer n x m are =
    let lit : Lit = (member_coding t layer n x).lit in
    record {
      right = λ u y within is.
          ⊎_elim
          (λ (old : u < length layer.members).
          right_later model t layer lit u y old (m.coded.closed.operands u y is) (are.right u y old is))
          (λ (new : length layer.members ≤ u).
          let wide : length (with_member layer lit).members ≡ length layer.members + 1 = members_more layer lit in
          let last : length layer.members ≡ u = omega arith in
          let same : x ≡ y = same_Some x y (sym m.is_node ∙ ap (slice_get t.closure.nodes) last ∙ is) in
          subst (λ v. IsRight model t (with_member layer lit) v y) last
          (subst (λ z. IsRight model t (with_member layer lit) (length layer.members) z) same (member_right model t layer n x m)))
          (cases_lt u (length layer.members));
    }

-- ---- what the code of a member has

-- the operands of a node that comes next
pub not_operand : (t : ClosureOverPorts) (layer : LayerLits) (x : Node) (k : NodeId) → CanBeCoded t
    → slice_get t.closure.nodes (length layer.members) ≡ Some x → x ≡ node.Not k → k.0 < length layer.members
not_operand t layer x k coded e is = not_before t layer k (subst (IsBefore t layer) is (node_before t layer x coded e))

pub next_operand_before : (t : ClosureOverPorts) (layer : LayerLits) (x : Node) (k : NodeId) → CanBeCoded t
    → slice_get t.closure.nodes (length layer.members) ≡ Some x → x ≡ node.Next k → k.0 < length layer.members
next_operand_before t layer x k coded e is = next_before t layer k (subst (IsBefore t layer) is (node_before t layer x coded e))

pub and_operands : (t : ClosureOverPorts) (layer : LayerLits) (x : Node) (k l : NodeId) → CanBeCoded t
    → slice_get t.closure.nodes (length layer.members) ≡ Some x → x ≡ node.And k l
    → (k.0 < length layer.members) × (l.0 < length layer.members)
and_operands t layer x k l coded e is = and_before t layer k l (subst (IsBefore t layer) is (node_before t layer x coded e))

pub until_operands : (t : ClosureOverPorts) (layer : LayerLits) (x : Node) (k l : NodeId) → CanBeCoded t
    → slice_get t.closure.nodes (length layer.members) ≡ Some x → x ≡ node.Until k l
    → (k.0 < length layer.members) × (l.0 < length layer.members)
until_operands t layer x k l coded e is = until_before t layer k l (subst (IsBefore t layer) is (node_before t layer x coded e))

pub atom_place : (t : ClosureOverPorts) (n : ℕ) (x : Node) (a : AtomId) → CanBeCoded t → slice_get t.closure.nodes n ≡ Some x → x ≡ node.Atom a
    → a.0 < length t.closure.atoms
atom_place t n x a coded e is =
    let named : a.0 < length (map proposition_of t.closure.atoms) = coded.closed.named_atoms n a (e ∙ ap Some is) in
    let count : length (map proposition_of t.closure.atoms) ≡ length t.closure.atoms = length-map t.closure.atoms proposition_of in omega arith

pub atom_fits : (t : ClosureOverPorts) (n : ℕ) (x : Node) (a : AtomId) → CanBeCoded t → slice_get t.closure.nodes n ≡ Some x → x ≡ node.Atom a
    → ReadsPorts t.ports (atom_at t a)
atom_fits t n x a coded e is = atom_reads t n a coded (e ∙ ap Some is)

pub within_nodes : (t : ClosureOverPorts) (n : ℕ) (x : Node) → slice_get t.closure.nodes n ≡ Some x → n ≤ length t.closure.nodes
within_nodes t n x e = let h : n < length t.closure.nodes = slice_get_within t.closure.nodes n x e in omega arith

-- an atom that is read from the list of atoms
pub atom_read : (t : ClosureOverPorts) (slice : List Atom) (element : Atom) (a : AtomId) → slice ≡ t.closure.atoms
    → element ≡ get_or slice a.0 element → a.0 < length t.closure.atoms → proposition_of element ≡ atom_at t a
atom_read t slice element a e is h =
    sym (get_or-map proposition_of t.closure.atoms a.0 element (form.TruthAt 0 false) h
    ∙ ap (λ l. proposition_of (get_or l a.0 element)) (sym e) ∙ ap proposition_of (sym is))

-- what was coded for an atom
pub record FactCoded (older : List (List Lit)) (n m : ℕ) (newer : List (List Lit)) (lit : Lit) (ports : List PortType)
    (bits next_bits : List (List Lit)) (p : Proposition) : Type 0 where
  pub answer : lit ≡ (atom_coding ports bits next_bits n p).lit
  pub vars : m ≡ (atom_coding ports bits next_bits n p).vars
  pub clauses : newer ≡ older ++ (atom_coding ports bits next_bits n p).clauses

-- where the ports, the bits and the fact are those of the atom's member
pub record IsFactOf (t : ClosureOverPorts) (layer : LayerLits) (a : AtomId) (ports : List PortType) (bits next_bits : List (List Lit))
    (p : Proposition) : Type 0 where
  pub ports_are : ports ≡ t.ports
  pub bits_are : bits ≡ layer.bits
  pub next_are : next_bits ≡ layer.next_bits
  pub fact : p ≡ atom_at t a

pub fact_coded : (t : ClosureOverPorts) (layer : LayerLits) (a : AtomId) (older : List (List Lit)) (n m : ℕ) (newer : List (List Lit)) (lit : Lit)
    (ports : List PortType) (bits next_bits : List (List Lit)) (p : Proposition) → IsFactOf t layer a ports bits next_bits p
    → FactCoded older n m newer lit ports bits next_bits p → IsCoded older m newer lit (member_coding t layer n (node.Atom a))
fact_coded t layer a older n m newer lit ports bits next_bits p e f =
    let same : atom_coding ports bits next_bits n p ≡ atom_coding t.ports layer.bits layer.next_bits n (atom_at t a) =
    (λ j. atom_coding (e.ports_are j) (e.bits_are j) (e.next_are j) n (e.fact j)) in
    record {
      vars = f.vars ∙ ap (λ (c : AtomCoding). c.vars) same;
      clauses = f.clauses ∙ ap (λ (c : AtomCoding). older ++ c.clauses) same;
      answer = f.answer ∙ ap (λ (c : AtomCoding). c.lit) same;
    }

-- the Next of a node that is an until or not
next_of_is : (n : ℕ) (y : Node) (lit : Lit) → next_coding n (Some y) lit ≡ next_of (is_until y) n lit
next_of_is n node.True lit = refl
next_of_is n (node.Atom a) lit = refl
next_of_is n (node.Not k) lit = refl
next_of_is n (node.And k l) lit = refl
next_of_is n (node.Next k) lit = refl
next_of_is n (node.Until k l) lit = refl

pub next_coded : (older : List (List Lit)) (n m : ℕ) (newer : List (List Lit)) (answer lit own : Lit) (nodes slice : List Node) (k : ℕ) (d : Node)
    (until : Bool) → slice ≡ nodes → k < length nodes → until ≡ is_until (get_or slice k d) → lit ≡ own
    → IsCoded older m newer answer (next_of until n lit) → IsCoded older m newer answer (next_coding n (slice_get nodes k) own)
next_coded older n m newer answer lit own nodes slice k d until es h eu el c =
    let y : Node = get_or nodes k d in
    let found : slice_get nodes k ≡ Some y = slice_get-get_or nodes k d h in
    let same : next_of until n lit ≡ next_coding n (slice_get nodes k) own =
    (λ j. next_of ((eu ∙ ap (λ l. is_until (get_or l k d)) es) j) n (el j)) ∙ sym (next_of_is n y own) ∙ sym (ap (λ o. next_coding n o own) found) in
    subst (IsCoded older m newer answer) same c
