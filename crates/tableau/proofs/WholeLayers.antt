-- a layer in whole: its shape, and that where its clauses hold it is a state of the tableau
use Rattle.std.proofs.Common.{◌≡◌, ◌+◌, ◌-◌, ◌<◌, ◌≤◌, ℕ, zero, suc, Bool, true, false, not, ◌&&◌, ◌||◌, Option, Some, None, List, [], ◌∷◌, ◌++◌, length, drop}
use Rattle.std.proofs.Common.{refl, sym, ◌∙◌, ap, arith, add-one, append_assoc, length-drop, subst}
use Rattle.std.specs.Prelude.{nat_lt, slice_get}
use Rattle.std.specs.List.{All}
use Rattle.std.proofs.lemmas.Bool.{and_parts}
use Rattle.std.proofs.lemmas.List.{length-map}
use Rattle.std.proofs.lemmas.List.Elements.{All-nil}
use Rattle.std.proofs.lemmas.Option.{slice_get_within}
use Rattle.port_types.specs.declared.types.PortType.{PortType}
use Rattle.core_ltl.specs.declared.node.NodeId.{NodeId}
use Rattle.core_ltl.specs.declared.node.Node.{Node}
use Rattle.core_ltl.specs.declared.node.Node.TheVariants as node
use Rattle.cnf.specs.declared.lit.Lit.{Lit}
use Rattle.cnf.specs.Clauses.{lit_holds, clauses_hold}
use Rattle.cnf.specs.Gates.{literal}
use Rattle.cnf.specs.Laws.{GatesAreRight}
use Rattle.state_coding.specs.States.{state_bits, state_width, state_clauses, state_values, IsValuation, IsCodedState, TwoStates}
use Rattle.state_coding.specs.Atoms.{AtomCoding}
use Rattle.state_coding.specs.Laws.{AtomsAreRight}
use Rattle.state_coding.proofs.StateLaws.{bits_later, within_later, parts_hold, state_has_bits, state_typed}
use Rattle.tableau.specs.TableauStates.{ClosureOverPorts, CanBeCoded, IsTableauState, RespectsForm, has_member}
use Rattle.tableau.specs.Copies.{LayerLits, LayerCoding, member_literal, member_coding, members_coding, unfilled, unfilled_copy, copy_coding}
use Rattle.tableau.specs.Copies.{with_member, layer_state, IsCodedLayer}
use Rattle.tableau.specs.Parts.{HasPart, IsLayerCoded}
use Rattle.tableau.proofs.AtomBounds.{Bounded}
use Rattle.tableau.proofs.Places.{below, first_left, rest_left, members_more, member_value}
use Rattle.tableau.proofs.MemberSteps.{member_bounded, part_more, MemberHolds, AreRight, none_right, more_right}

-- ---- the shape

pub left_after : (t : ClosureOverPorts) (layer : LayerLits) (x : Node) (left : List Node) (lit : Lit)
    → drop (length layer.members) t.closure.nodes ≡ x ∷ left → drop (length (with_member layer lit).members) t.closure.nodes ≡ left
left_after t layer x left lit e =
    ap (λ k. drop k t.closure.nodes) (members_more layer lit ∙ add-one (length layer.members))
    ∙ rest_left t.closure.nodes (length layer.members) x left e

-- a layer that has all members, from one that has some
pub record IsWhole (n m : ℕ) (t : ClosureOverPorts) (start layer : LayerLits) : Type 0 where
  pub more : n ≤ m
  pub part : HasPart m t layer
  pub count : length layer.members ≡ length t.closure.nodes
  pub now : layer.bits ≡ start.bits
  pub next : layer.next_bits ≡ start.next_bits

none_left : (nodes : List Node) (i : ℕ) → i ≤ length nodes → drop i nodes ≡ [] → i ≡ length nodes
none_left nodes i h e = let k : 0 ≡ length nodes - i = sym (ap length e) ∙ length-drop i nodes in omega arith

pub left_whole : (t : ClosureOverPorts) (layer : LayerLits) (n : ℕ) (left : List Node) → CanBeCoded t → HasPart n t layer
    → drop (length layer.members) t.closure.nodes ≡ left → length layer.members ≤ length t.closure.nodes
    → IsWhole n (members_coding t layer n left).vars t layer (members_coding t layer n left).layer
left_whole t layer n [] coded part e h =
    record { more = omega arith; part = part; count = none_left t.closure.nodes (length layer.members) h e; now = refl; next = refl }
left_whole t layer n (x ∷ left) coded part e h =
    let c : AtomCoding = member_coding t layer n x in
    let is : slice_get t.closure.nodes (length layer.members) ≡ Some x = first_left t.closure.nodes (length layer.members) x left e in
    let b : Bounded n c = member_bounded t layer n x coded part is in
    let within : length layer.members < length t.closure.nodes = slice_get_within t.closure.nodes (length layer.members) x is in
    let wide : length (with_member layer c.lit).members ≡ length layer.members + 1 = members_more layer c.lit in
    let w = left_whole t (with_member layer c.lit) c.vars left coded (part_more t layer n x coded part is) (left_after t layer x left c.lit e)
    (omega arith) in
    let first : n ≤ c.vars = b.more in
    let second : c.vars ≤ (members_coding t (with_member layer c.lit) c.vars left).vars = w.more in
    record { more = omega arith; part = w.part; count = w.count; now = w.now; next = w.next }

-- ---- the values

-- what is known where the clauses of the members that are left hold
pub record LeftHolds (model : List Bool) (t : ClosureOverPorts) (layer : LayerLits) (n : ℕ) (left : List Node) : Type 0 where
  pub gates : GatesAreRight
  pub atoms : AtomsAreRight
  pub coded : CanBeCoded t
  pub part : HasPart n t layer
  pub two : TwoStates model t.ports layer.bits layer.next_bits
  pub is_left : drop (length layer.members) t.closure.nodes ≡ left
  pub count : length layer.members ≤ length t.closure.nodes
  pub room : (members_coding t layer n left).vars ≤ length model
  pub holds : clauses_hold model (members_coding t layer n left).clauses ≡ true
  pub right : AreRight model t layer

pub left_right : (model : List Bool) (t : ClosureOverPorts) (layer : LayerLits) (n : ℕ) (left : List Node) → LeftHolds model t layer n left
    → AreRight model t (members_coding t layer n left).layer
left_right model t layer n [] h = h.right
left_right model t layer n (x ∷ left) h =
    let c : AtomCoding = member_coding t layer n x in
    let after : LayerLits = with_member layer c.lit in
    let is : slice_get t.closure.nodes (length layer.members) ≡ Some x = first_left t.closure.nodes (length layer.members) x left h.is_left in
    let within : length layer.members < length t.closure.nodes = slice_get_within t.closure.nodes (length layer.members) x is in
    let wide : length after.members ≡ length layer.members + 1 = members_more layer c.lit in
    let part = part_more t layer n x h.coded h.part is in
    let still : drop (length after.members) t.closure.nodes ≡ left = left_after t layer x left c.lit h.is_left in
    let w = left_whole t after c.vars left h.coded part still (omega arith) in
    let more : c.vars ≤ (members_coding t after c.vars left).vars = w.more in
    let all : (members_coding t after c.vars left).vars ≤ length model = h.room in
    let both = parts_hold model c.clauses (members_coding t after c.vars left).clauses h.holds in
    left_right model t after c.vars left (record {
      gates = h.gates;
      atoms = h.atoms;
      coded = h.coded;
      part = part;
      two = h.two;
      is_left = still;
      count = omega arith;
      room = all;
      holds = both.1;
      right = more_right model t layer n x (record {
        gates = h.gates;
        atoms = h.atoms;
        coded = h.coded;
        part = h.part;
        two = h.two;
        is_node = is;
        room = omega arith;
        holds = both.0;
      }) h.right;
    })

-- ---- states

within_layer : (t : ClosureOverPorts) (layer : LayerLits) (n : ℕ) (x : Node) → length layer.members ≡ length t.closure.nodes
    → slice_get t.closure.nodes n ≡ Some x → n < length layer.members
within_layer t layer n x e is = let h : n < length t.closure.nodes = slice_get_within t.closure.nodes n x is in omega arith

respected : (model : List Bool) (t : ClosureOverPorts) (layer : LayerLits) (n : ℕ) (x : Node) → CanBeCoded t
    → length layer.members ≡ length t.closure.nodes → AreRight model t layer → slice_get t.closure.nodes n ≡ Some x
    → RespectsForm t (layer_state model t layer) n x
respected model t layer n node.True coded e are is =
    let h : n < length layer.members = within_layer t layer n node.True e is in
    member_value model t layer n h ∙ are.right n node.True h is
respected model t layer n (node.Atom a) coded e are is =
    let h : n < length layer.members = within_layer t layer n (node.Atom a) e is in
    member_value model t layer n h ∙ are.right n (node.Atom a) h is
respected model t layer n (node.Not k) coded e are is =
    let h : n < length layer.members = within_layer t layer n (node.Not k) e is in
    let first : k.0 < n = below k.0 n (coded.closed.operands n (node.Not k) is) in
    member_value model t layer n h ∙ are.right n (node.Not k) h is ∙ ap not (sym (member_value model t layer k.0 (omega arith)))
respected model t layer n (node.And k l) coded e are is =
    let h : n < length layer.members = within_layer t layer n (node.And k l) e is in
    let both = and_parts (nat_lt k.0 n) (nat_lt l.0 n) (coded.closed.operands n (node.And k l) is) in
    let first : k.0 < n = below k.0 n both.0 in
    let second : l.0 < n = below l.0 n both.1 in
    member_value model t layer n h ∙ are.right n (node.And k l) h is
    ∙ sym (rw (member_value model t layer k.0 (omega arith), member_value model t layer l.0 (omega arith)) refl)
respected model t layer n (node.Next k) coded e are is = tt
respected model t layer n (node.Until k l) coded e are is = λ x next.
    let h : n < length layer.members = within_layer t layer n (node.Until k l) e is in
    let both = and_parts (nat_lt k.0 n) (nat_lt l.0 n) (coded.closed.operands n (node.Until k l) is) in
    let first : k.0 < n = below k.0 n both.0 in
    let second : l.0 < n = below l.0 n both.1 in
    let third : x < length layer.members = within_layer t layer x (node.Next (record { 0 = n })) e next in
    let same : member_literal layer x ≡ literal ((member_literal layer n).var + 1) =
    are.right x (node.Next (record { 0 = n })) third next k l is in
    member_value model t layer n h ∙ are.right n (node.Until k l) h is
    ∙ sym (rw (
      member_value model t layer k.0 (omega arith),
      member_value model t layer l.0 (omega arith),
      member_value model t layer x third,
      same,
    ) refl)

pub layer_is_state : (model : List Bool) (t : ClosureOverPorts) (layer : LayerLits) → CanBeCoded t
    → length layer.members ≡ length t.closure.nodes → AreRight model t layer
    → IsValuation t.ports (state_values model t.ports layer.bits) → IsValuation t.ports (state_values model t.ports layer.next_bits)
    → IsTableauState t (layer_state model t layer)
layer_is_state model t layer coded e are now next = record {
  now = now;
  next = next;
  count = length-map layer.members (lit_holds model) ∙ e;
  forms = λ n x is. respected model t layer n x coded e are is;
}

-- ---- copies

pub unfilled_part : (t : ClosureOverPorts) (n : ℕ) → HasPart (n + state_width t.ports + state_width t.ports) t (unfilled_copy t n)
unfilled_part t n =
    let m : ℕ = n + state_width t.ports + state_width t.ports in
    record {
      now = state_has_bits n m t.ports (omega arith);
      next = state_has_bits (n + state_width t.ports) m t.ports (omega arith);
      lits = All-nil (λ lit. lit.var < m);
      untils = λ u k l h is. absurd (omega arith);
    }

pub copy_whole : (t : ClosureOverPorts) (n : ℕ) → CanBeCoded t
    → IsWhole (n + state_width t.ports + state_width t.ports) (copy_coding t n).vars t (unfilled_copy t n) (copy_coding t n).layer
copy_whole t n coded =
    left_whole t (unfilled_copy t n) (n + state_width t.ports + state_width t.ports) t.closure.nodes coded (unfilled_part t n) refl (omega arith)

pub record CopyHolds (model : List Bool) (t : ClosureOverPorts) (n : ℕ) : Type 0 where
  pub gates : GatesAreRight
  pub atoms : AtomsAreRight
  pub coded : CanBeCoded t
  pub room : (copy_coding t n).vars ≤ length model
  pub holds : clauses_hold model (copy_coding t n).clauses ≡ true

copy_parts : (model : List Bool) (t : ClosureOverPorts) (n : ℕ) → clauses_hold model (copy_coding t n).clauses ≡ true
    → (clauses_hold model (state_clauses t.ports (unfilled_copy t n).bits) ≡ true)
    × (clauses_hold model (state_clauses t.ports (unfilled_copy t n).next_bits) ≡ true)
    × (clauses_hold model (members_coding t (unfilled_copy t n) (n + state_width t.ports + state_width t.ports) t.closure.nodes).clauses ≡ true)
copy_parts model t n h =
    let start : LayerLits = unfilled_copy t n in
    let last = parts_hold model (state_clauses t.ports start.bits ++ state_clauses t.ports start.next_bits)
    (members_coding t start (n + state_width t.ports + state_width t.ports) t.closure.nodes).clauses h in
    let first = parts_hold model (state_clauses t.ports start.bits) (state_clauses t.ports start.next_bits) last.0 in
    (first.0, first.1, last.1)

copy_two : (model : List Bool) (t : ClosureOverPorts) (n : ℕ) → CopyHolds model t n
    → TwoStates model t.ports (unfilled_copy t n).bits (unfilled_copy t n).next_bits
copy_two model t n h =
    let m : ℕ = n + state_width t.ports + state_width t.ports in
    let w = copy_whole t n h.coded in
    let more : m ≤ (copy_coding t n).vars = w.more in
    let room : (copy_coding t n).vars ≤ length model = h.room in
    let part = unfilled_part t n in
    let parts = copy_parts model t n h.holds in
    record {
      codable = h.coded.ports;
      now_bits = bits_later m (length model) t.ports (unfilled_copy t n).bits (omega arith) part.now;
      next_bits = bits_later m (length model) t.ports (unfilled_copy t n).next_bits (omega arith) part.next;
      now_holds = parts.0;
      next_holds = parts.1;
    }

pub copy_state : (model : List Bool) (t : ClosureOverPorts) (n : ℕ) → CopyHolds model t n
    → IsTableauState t (layer_state model t (copy_coding t n).layer)
copy_state model t n h =
    let start : LayerLits = unfilled_copy t n in
    let m : ℕ = n + state_width t.ports + state_width t.ports in
    let w = copy_whole t n h.coded in
    let two = copy_two model t n h in
    let parts = copy_parts model t n h.holds in
    let are = left_right model t start m t.closure.nodes (record {
      gates = h.gates;
      atoms = h.atoms;
      coded = h.coded;
      part = unfilled_part t n;
      two = two;
      is_left = refl;
      count = omega arith;
      room = h.room;
      holds = parts.2;
      right = none_right model t start refl;
    }) in
    let now = state_typed h.gates model t.ports start.bits h.coded.ports two.now_bits two.now_holds in
    let next = state_typed h.gates model t.ports start.next_bits h.coded.ports two.next_bits two.next_holds in
    layer_is_state model t (copy_coding t n).layer h.coded w.count are
    (subst (λ bits. IsValuation t.ports (state_values model t.ports bits)) (sym w.now) now)
    (subst (λ bits. IsValuation t.ports (state_values model t.ports bits)) (sym w.next) next)

-- what a copy is in the clauses to which it was added
copy_layer : (t : ClosureOverPorts) (n : ℕ) (older newer : List (List Lit)) → GatesAreRight → AtomsAreRight → CanBeCoded t
    → newer ≡ older ++ (copy_coding t n).clauses → IsCodedLayer (copy_coding t n).vars newer t (copy_coding t n).layer
copy_layer t n older newer gates atoms coded e =
    let w = copy_whole t n coded in
    let added = λ (model : List Bool) (h : clauses_hold model newer ≡ true).
    (parts_hold model older (copy_coding t n).clauses (sym (ap (clauses_hold model) e) ∙ h)).1 in
    record {
      now = record {
        shape = w.part.now;
        holds = λ model h. ap (λ bits. clauses_hold model (state_clauses t.ports bits)) w.now ∙ (copy_parts model t n (added model h)).0;
      };
      next = record {
        shape = w.part.next;
        holds = λ model h. ap (λ bits. clauses_hold model (state_clauses t.ports bits)) w.next ∙ (copy_parts model t n (added model h)).1;
      };
      count = w.count;
      members = w.part.lits;
      state = λ model room h.
          copy_state model t n (record { gates = gates; atoms = atoms; coded = coded; room = room; holds = added model h });
    }

pub coded_layer : (t : ClosureOverPorts) (n m : ℕ) (older newer : List (List Lit)) (layer : LayerLits) → GatesAreRight → AtomsAreRight
    → CanBeCoded t → IsLayerCoded older m newer layer (copy_coding t n) → IsCodedLayer m newer t layer
coded_layer t n m older newer layer gates atoms coded is =
    subst (λ k. IsCodedLayer k newer t layer) (sym is.vars)
    (subst (λ l. IsCodedLayer (copy_coding t n).vars newer t l) (sym is.answer) (copy_layer t n older newer gates atoms coded is.clauses))
