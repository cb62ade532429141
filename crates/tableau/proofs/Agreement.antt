-- every state of the tableau goes along with the members that are coded: each older model that has it so far has a newer
-- one that has it with one more member
use Rattle.std.proofs.Common.{◌≡◌, ◌+◌, ◌<◌, ◌≤◌, ℕ, zero, suc, Bool, true, false, not, ◌&&◌, ◌||◌, Option, Some, None, List, [], ◌∷◌, ◌++◌, length}
use Rattle.std.proofs.Common.{refl, sym, ◌∙◌, ap, arith, append_assoc, length-append, subst, ⊎_elim}
use Rattle.std.specs.Prelude.{nat_lt, slice_get}
use Rattle.std.specs.List.{All}
use Rattle.std.proofs.lemmas.Bool.{cases_lt}
use Rattle.std.proofs.lemmas.List.{length-map, same_lists, get_or_default}
use Rattle.std.proofs.lemmas.List.Elements.{All-head, All-tail}
use Rattle.std.proofs.lemmas.Option.{same_Some}
use Rattle.port_types.specs.declared.types.PortType.{PortType}
use Rattle.port_types.specs.declared.types.Value.{Value}
use Rattle.typed_ltl.specs.Traces.{assignment}
use Rattle.typed_ltl.specs.Truth.{proposition_truth}
use Rattle.core_ltl.specs.declared.node.NodeId.{NodeId}
use Rattle.core_ltl.specs.declared.node.Node.{Node}
use Rattle.core_ltl.specs.declared.node.Node.TheVariants as node
use Rattle.cnf.specs.declared.lit.Lit.{Lit}
use Rattle.cnf.specs.Clauses.{lit_holds, lit_values, clauses_hold, IsModel, IsConservative}
use Rattle.cnf.specs.Gates.{literal}
use Rattle.cnf.specs.Laws.{GatesAreRight}
use Rattle.cnf.proofs.ModelLaws.{append_nil, lit_holds-append, lit_holds-last, clauses_hold-more}
use Rattle.state_coding.specs.Codes.{value_at}
use Rattle.state_coding.specs.States.{state_clauses, state_values, HasBits, IsCodedState, TwoStates}
use Rattle.state_coding.specs.Atoms.{AtomCoding}
use Rattle.state_coding.specs.Coded.{IsCoded}
use Rattle.state_coding.specs.Laws.{AtomsAreRight}
use Rattle.state_coding.proofs.StateLaws.{bits_later, both_hold, parts_hold}
use Rattle.tableau.specs.TableauStates.{ClosureOverPorts, CanBeCoded, TableauState, IsTableauState, RespectsForm, IsNextOf}
use Rattle.tableau.specs.TableauStates.{has_member, atom_at}
use Rattle.tableau.specs.Copies.{LayerLits, member_literal, member_coding, next_coding, with_member, layer_state, unfilled}
use Rattle.tableau.specs.Parts.{HasPart, AgreesWith, EveryStateExtends}
use Rattle.tableau.proofs.Places.{has_place, IsNoUntil, no_until, older_literal, last_literal, members_more, member_value}
use Rattle.tableau.proofs.UntilLaws.{pair_reads, until_fits}
use Rattle.tableau.proofs.MemberSteps.{IsBefore, node_before, not_before, next_before, and_before, until_before}
use Rattle.tableau.proofs.MemberSteps.{known_member, IsRight, MemberHolds, member_right}

-- ---- more variables change nothing

row_more : (model more : List Bool) (row : List Lit) → All (λ lit. lit.var < length model) row
    → lit_values (model ++ more) row ≡ lit_values model row
row_more model more [] h = refl
row_more model more (x ∷ row) h =
    let first : lit_holds (model ++ more) x ≡ lit_holds model x = lit_holds-append model more x (All-head (λ lit. lit.var < length model) x row h) in
    let rest : lit_values (model ++ more) row ≡ lit_values model row = row_more model more row (All-tail (λ lit. lit.var < length model) x row h) in
    λ j. first j ∷ rest j

pub values_more : (model more : List Bool) (ports : List PortType) (bits : List (List Lit)) → HasBits (length model) ports bits
    → state_values (model ++ more) ports bits ≡ state_values model ports bits
values_more model more [] bits h = refl
values_more model more (kind ∷ ports) [] h = refl
values_more model more (kind ∷ ports) (row ∷ bits) h =
    let first : lit_values (model ++ more) row ≡ lit_values model row = row_more model more row h.1 in
    let rest : state_values (model ++ more) ports bits ≡ state_values model ports bits = values_more model more ports bits h.2 in
    λ j. value_at kind (first j) ∷ rest j

pub agrees_later : (model more : List Bool) (t : ClosureOverPorts) (s : TableauState) (layer : LayerLits) (n : ℕ) → length model ≡ n
    → HasPart n t layer → AgreesWith model t s layer → AgreesWith (model ++ more) t s layer
agrees_later model more t s layer n e part a =
    let now : HasBits (length model) t.ports layer.bits = subst (λ k. HasBits k t.ports layer.bits) (sym e) part.now in
    let next : HasBits (length model) t.ports layer.next_bits = subst (λ k. HasBits k t.ports layer.next_bits) (sym e) part.next in
    record {
      now = values_more model more t.ports layer.bits now ∙ a.now;
      next = values_more model more t.ports layer.next_bits next ∙ a.next;
      members = λ u h.
          let known : (member_literal layer u).var < n = known_member n t layer u part h in
          lit_holds-append model more (member_literal layer u) (omega arith) ∙ a.members u h;
      untils = λ u x k l h is next.
          let known : (member_literal layer u).var + 1 < n = part.untils u k l h is in
          lit_holds-append model more (literal ((member_literal layer u).var + 1)) (omega arith) ∙ a.untils u x k l h is next;
    }

-- one more member, and the Next of an until
pub agrees_more : (model : List Bool) (t : ClosureOverPorts) (s : TableauState) (layer : LayerLits) (lit : Lit) → AgreesWith model t s layer
    → lit_holds model lit ≡ has_member s (length layer.members)
    → ((x : ℕ) (k l : NodeId) → slice_get t.closure.nodes (length layer.members) ≡ Some (node.Until k l)
    → IsNextOf t (length layer.members) x → lit_holds model (literal (lit.var + 1)) ≡ has_member s x)
    → AgreesWith model t s (with_member layer lit)
agrees_more model t s layer lit a value next_value =
    let wide : length (with_member layer lit).members ≡ length layer.members + 1 = members_more layer lit in
    record {
      now = a.now;
      next = a.next;
      members = λ u h.
          ⊎_elim
          (λ (old : u < length layer.members). ap (lit_holds model) (older_literal layer lit u old) ∙ a.members u old)
          (λ (new : length layer.members ≤ u).
          let last : length layer.members ≡ u = omega arith in
          subst (λ v. lit_holds model (member_literal (with_member layer lit) v) ≡ has_member s v) last
          (ap (lit_holds model) (last_literal layer lit) ∙ value))
          (cases_lt u (length layer.members));
      untils = λ u x k l h is next.
          ⊎_elim
          (λ (old : u < length layer.members).
          ap (λ (m : Lit). lit_holds model (literal (m.var + 1))) (older_literal layer lit u old) ∙ a.untils u x k l old is next)
          (λ (new : length layer.members ≤ u).
          let last : u ≡ length layer.members = omega arith in
          let here : slice_get t.closure.nodes (length layer.members) ≡ Some (node.Until k l) = (rw last at is) in
          let there : IsNextOf t (length layer.members) x = subst (λ v. IsNextOf t v x) last next in
          ap (λ v. lit_holds model (literal ((member_literal (with_member layer lit) v).var + 1))) last
          ∙ ap (λ (m : Lit). lit_holds model (literal (m.var + 1))) (last_literal layer lit) ∙ next_value x k l here there)
          (cases_lt u (length layer.members));
    }

-- ---- one more member

-- a member that was coded next, and the older and newer clauses
pub record MemberAdded (n m : ℕ) (older newer : List (List Lit)) (t : ClosureOverPorts) (layer : LayerLits) (x : Node) (lit : Lit) : Type 0 where
  pub gates : GatesAreRight
  pub atoms : AtomsAreRight
  pub coded : CanBeCoded t
  pub part : HasPart n t layer
  pub now : IsCodedState n older t.ports layer.bits
  pub next : IsCodedState n older t.ports layer.next_bits
  pub is_node : slice_get t.closure.nodes (length layer.members) ≡ Some x
  pub grows : IsConservative n older m newer
  pub added : IsCoded older m newer lit (member_coding t layer n x)

-- what is known of a member in a newer model
member_holds : (n m : ℕ) (older newer : List (List Lit)) (t : ClosureOverPorts) (layer : LayerLits) (x : Node) (lit : Lit)
    → MemberAdded n m older newer t layer x lit → (longer : List Bool) → IsModel m newer longer → MemberHolds longer t layer n x
member_holds n m older newer t layer x lit h longer is =
    let c : AtomCoding = member_coding t layer n x in
    let vars : m ≡ c.vars = h.added.vars in
    let width : length longer ≡ m = is.vars in
    let more : n ≤ m = h.grows.vars in
    let both = parts_hold longer older c.clauses (sym (ap (clauses_hold longer) h.added.clauses) ∙ is.holds) in
    record {
      gates = h.gates;
      atoms = h.atoms;
      coded = h.coded;
      part = h.part;
      two = record {
        codable = h.coded.ports;
        now_bits = bits_later n (length longer) t.ports layer.bits (omega arith) h.part.now;
        next_bits = bits_later n (length longer) t.ports layer.next_bits (omega arith) h.part.next;
        now_holds = h.now.holds longer both.0;
        next_holds = h.next.holds longer both.0;
      };
      is_node = h.is_node;
      room = omega arith;
      holds = both.1;
    }

-- a member whose value is that of its form
abbrev pub IsDetermined : ClosureOverPorts → Node → Type 0
IsDetermined t node.True = Unit {0}
IsDetermined t (node.Atom a) = Unit {0}
IsDetermined t (node.Not k) = Unit {0}
IsDetermined t (node.And k l) = Unit {0}
IsDetermined t (node.Next k) = (a : NodeId) × (b : NodeId) × (slice_get t.closure.nodes k.0 ≡ Some (node.Until a b))
IsDetermined t (node.Until k l) = ⊥

determined_no_until : (t : ClosureOverPorts) (x : Node) → IsDetermined t x → IsNoUntil x
determined_no_until t node.True h = no_until node.True refl
determined_no_until t (node.Atom a) h = no_until (node.Atom a) refl
determined_no_until t (node.Not k) h = no_until (node.Not k) refl
determined_no_until t (node.And k l) h = no_until (node.And k l) refl
determined_no_until t (node.Next k) h = no_until (node.Next k) refl
determined_no_until t (node.Until k l) h = absurd h

right_value : (model : List Bool) (t : ClosureOverPorts) (s : TableauState) (layer : LayerLits) (lit : Lit) (x : Node) → IsBefore t layer x
    → IsDetermined t x → slice_get t.closure.nodes (length layer.members) ≡ Some x → RespectsForm t s (length layer.members) x
    → AgreesWith model t s layer → IsRight model t (with_member layer lit) (length layer.members) x
    → lit_holds model (member_literal (with_member layer lit) (length layer.members)) ≡ has_member s (length layer.members)
right_value model t s layer lit node.True before d is form a r = r ∙ sym form
right_value model t s layer lit (node.Atom p) before d is form a r =
    r ∙ sym (form ∙ sym (rw (a.now, a.next) refl))
right_value model t s layer lit (node.Not k) before d is form a r =
    let first : k.0 < length layer.members = not_before t layer k before in
    r ∙ ap not (ap (lit_holds model) (older_literal layer lit k.0 first) ∙ a.members k.0 first) ∙ sym form
right_value model t s layer lit (node.And k l) before d is form a r =
    let both = and_before t layer k l before in
    let left : lit_holds model (member_literal (with_member layer lit) k.0) ≡ has_member s k.0 =
    ap (lit_holds model) (older_literal layer lit k.0 both.0) ∙ a.members k.0 both.0 in
    let right : lit_holds model (member_literal (with_member layer lit) l.0) ≡ has_member s l.0 =
    ap (lit_holds model) (older_literal layer lit l.0 both.1) ∙ a.members l.0 both.1 in
    r ∙ rw (left, right) refl ∙ sym form
right_value model t s layer lit (node.Next k) before d is form a r =
    let first : k.0 < length layer.members = next_before t layer k before in
    ap (lit_holds model) (r d.0 d.1 d.2)
    ∙ ap (λ (m : Lit). lit_holds model (literal (m.var + 1))) (older_literal layer lit k.0 first)
    ∙ a.untils k.0 (length layer.members) d.0 d.1 first d.2 is
right_value model t s layer lit (node.Until k l) before d is form a r = absurd d

determined : (n m : ℕ) (older newer : List (List Lit)) (t : ClosureOverPorts) (layer : LayerLits) (x : Node) (lit : Lit)
    → MemberAdded n m older newer t layer x lit → IsDetermined t x
    → EveryStateExtends n older m newer t layer (with_member layer (member_coding t layer n x).lit)
determined n m older newer t layer x lit h d = λ model is s state a.
    let c : AtomCoding = member_coding t layer n x in
    let longer = h.grows.extends model is in
    let kept : AgreesWith (model ++ longer.0) t s layer = agrees_later model longer.0 t s layer n is.vars h.part a in
    let r = member_right (model ++ longer.0) t layer n x (member_holds n m older newer t layer x lit h (model ++ longer.0) longer.1) in
    let value = right_value (model ++ longer.0) t s layer c.lit x (node_before t layer x h.coded h.is_node) d h.is_node
    (state.forms (length layer.members) x h.is_node) kept r in
    let other = determined_no_until t x d in (
      longer.0,
      longer.1,
      agrees_more (model ++ longer.0) t s layer c.lit kept (sym (ap (lit_holds (model ++ longer.0)) (last_literal layer c.lit)) ∙ value)
          (λ y k l until next. absurd (other.differs k l (same_Some x (node.Until k l) (sym h.is_node ∙ until)))),
    )

-- a model with more variables, in which the clauses that were added hold
longer_model : (n m : ℕ) (older newer added : List (List Lit)) (model more : List Bool) → IsModel n older model
    → m ≡ n + length more → newer ≡ older ++ added → clauses_hold (model ++ more) added ≡ true → IsModel m newer (model ++ more)
longer_model n m older newer added model more is em en h = record {
  vars = length-append model more ∙ ap (λ k. k + length more) is.vars ∙ sym em;
  holds = ap (clauses_hold (model ++ more)) en ∙ both_hold (model ++ more) older added (clauses_hold-more model more older is.holds) h;
}

-- a Next that is of no until is as the state has it
fresh : (n m : ℕ) (older newer : List (List Lit)) (t : ClosureOverPorts) (layer : LayerLits) (k : NodeId) (lit : Lit)
    → MemberAdded n m older newer t layer (node.Next k) lit
    → member_coding t layer n (node.Next k) ≡ record { vars = n + 1; clauses = []; lit = literal n }
    → EveryStateExtends n older m newer t layer (with_member layer (literal n))
fresh n m older newer t layer k lit h e = λ model is s state a.
    let v : Bool = has_member s (length layer.members) in
    let kept : AgreesWith (model ++ v ∷ []) t s layer = agrees_later model (v ∷ []) t s layer n is.vars h.part a in
    let vars : m ≡ n + 1 = h.added.vars ∙ ap (λ (c : AtomCoding). c.vars) e in
    let clauses : newer ≡ older ++ [] = h.added.clauses ∙ ap (λ (c : AtomCoding). older ++ c.clauses) e in
    let other = no_until (node.Next k) refl in (
      v ∷ [],
      longer_model n m older newer [] model (v ∷ []) is vars clauses refl,
      agrees_more (model ++ v ∷ []) t s layer (literal n) kept (lit_holds-last model v n is.vars)
          (λ y a b until next. absurd (other.differs a b (same_Some (node.Next k) (node.Until a b) (sym h.is_node ∙ until)))),
    )

-- an until and its Next are as the state has them
until_extends : (n m : ℕ) (older newer : List (List Lit)) (t : ClosureOverPorts) (layer : LayerLits) (k l : NodeId) (lit : Lit)
    → MemberAdded n m older newer t layer (node.Until k l) lit → EveryStateExtends n older m newer t layer (with_member layer (literal n))
until_extends n m older newer t layer k l lit h = λ model is s state a.
    let i : ℕ = length layer.members in
    let place = has_place t.closure.nodes (node.Next (record { 0 = i })) (h.coded.closed.nexts (record { 0 = i }) k l h.is_node) in
    let u : Bool = has_member s i in
    let x : Bool = has_member s place.0 in
    let both = until_before t layer k l (node_before t layer (node.Until k l) h.coded h.is_node) in
    let left : (member_literal layer k.0).var < n = known_member n t layer k.0 h.part both.0 in
    let right : (member_literal layer l.0).var < n = known_member n t layer l.0 h.part both.1 in
    let expands : u ≡ (lit_holds model (member_literal layer l.0) || (lit_holds model (member_literal layer k.0) && x)) =
    state.forms i (node.Until k l) h.is_node place.0 place.1 ∙ sym (rw (a.members k.0 both.0, a.members l.0 both.1) refl) in
    let reads = pair_reads model u x n is.vars in
    let kept : AgreesWith (model ++ u ∷ x ∷ []) t s layer = agrees_later model (u ∷ x ∷ []) t s layer n is.vars h.part a in (
      u ∷ x ∷ [],
      longer_model n m older newer (member_coding t layer n (node.Until k l)).clauses model (u ∷ x ∷ []) is h.added.vars h.added.clauses
          (until_fits n (member_literal layer k.0) (member_literal layer l.0) left right model is.vars u x expands),
      agrees_more (model ++ u ∷ x ∷ []) t s layer (literal n) kept reads.0
          (λ y p q until next.
          reads.1 ∙ ap (has_member s) (h.coded.closed.one_node place.0 y (node.Next (record { 0 = i })) place.1 next)),
    )

fresh_next : (n m : ℕ) (older newer : List (List Lit)) (t : ClosureOverPorts) (layer : LayerLits) (k : NodeId) (lit : Lit) (o : Option Node)
    → slice_get t.closure.nodes k.0 ≡ o
    → next_coding n o (member_literal layer k.0) ≡ record { vars = n + 1; clauses = []; lit = literal n }
    → MemberAdded n m older newer t layer (node.Next k) lit
    → EveryStateExtends n older m newer t layer (with_member layer (member_coding t layer n (node.Next k)).lit)
fresh_next n m older newer t layer k lit o e new h =
    let same : member_coding t layer n (node.Next k) ≡ record { vars = n + 1; clauses = []; lit = literal n } =
    ap (λ p. next_coding n p (member_literal layer k.0)) e ∙ new in
    subst (λ (c : AtomCoding). EveryStateExtends n older m newer t layer (with_member layer c.lit)) (sym same)
    (fresh n m older newer t layer k lit h same)

next_extends : (n m : ℕ) (older newer : List (List Lit)) (t : ClosureOverPorts) (layer : LayerLits) (k : NodeId) (lit : Lit) (o : Option Node)
    → slice_get t.closure.nodes k.0 ≡ o → MemberAdded n m older newer t layer (node.Next k) lit
    → EveryStateExtends n older m newer t layer (with_member layer (member_coding t layer n (node.Next k)).lit)
next_extends n m older newer t layer k lit (Some (node.Until a b)) e h = determined n m older newer t layer (node.Next k) lit h (a, b, e)
next_extends n m older newer t layer k lit None e h = fresh_next n m older newer t layer k lit None e refl h
next_extends n m older newer t layer k lit (Some node.True) e h = fresh_next n m older newer t layer k lit (Some node.True) e refl h
next_extends n m older newer t layer k lit (Some (node.Atom a)) e h = fresh_next n m older newer t layer k lit (Some (node.Atom a)) e refl h
next_extends n m older newer t layer k lit (Some (node.Not a)) e h = fresh_next n m older newer t layer k lit (Some (node.Not a)) e refl h
next_extends n m older newer t layer k lit (Some (node.And a b)) e h = fresh_next n m older newer t layer k lit (Some (node.And a b)) e refl h
next_extends n m older newer t layer k lit (Some (node.Next a)) e h = fresh_next n m older newer t layer k lit (Some (node.Next a)) e refl h

member_extends_by : (n m : ℕ) (older newer : List (List Lit)) (t : ClosureOverPorts) (layer : LayerLits) (x : Node) (lit : Lit)
    → MemberAdded n m older newer t layer x lit
    → EveryStateExtends n older m newer t layer (with_member layer (member_coding t layer n x).lit)
member_extends_by n m older newer t layer node.True lit h = determined n m older newer t layer node.True lit h tt
member_extends_by n m older newer t layer (node.Atom a) lit h = determined n m older newer t layer (node.Atom a) lit h tt
member_extends_by n m older newer t layer (node.Not k) lit h = determined n m older newer t layer (node.Not k) lit h tt
member_extends_by n m older newer t layer (node.And k l) lit h = determined n m older newer t layer (node.And k l) lit h tt
member_extends_by n m older newer t layer (node.Next k) lit h =
    next_extends n m older newer t layer k lit (slice_get t.closure.nodes k.0) refl h
member_extends_by n m older newer t layer (node.Until k l) lit h = until_extends n m older newer t layer k l lit h

pub member_extends : (n m : ℕ) (older newer : List (List Lit)) (t : ClosureOverPorts) (layer : LayerLits) (x : Node) (lit : Lit)
    → MemberAdded n m older newer t layer x lit → EveryStateExtends n older m newer t layer (with_member layer lit)
member_extends n m older newer t layer x lit h =
    subst (λ o. EveryStateExtends n older m newer t layer (with_member layer o)) (sym h.added.answer)
    (member_extends_by n m older newer t layer x lit h)

-- ---- many members

pub none_extends : (n : ℕ) (clauses : List (List Lit)) (t : ClosureOverPorts) (layer : LayerLits)
    → EveryStateExtends n clauses n clauses t layer layer
none_extends n clauses t layer = λ model is s state a. (
  [],
  subst (IsModel n clauses) (sym (append_nil model)) is,
  subst (λ l. AgreesWith l t s layer) (sym (append_nil model)) a,
)

pub extends_on : (n m k : ℕ) (older mid newer : List (List Lit)) (t : ClosureOverPorts) (start layer after : LayerLits)
    → EveryStateExtends n older m mid t start layer → EveryStateExtends m mid k newer t layer after
    → EveryStateExtends n older k newer t start after
extends_on n m k older mid newer t start layer after f g = λ model is s state a.
    let first = f model is s state a in
    let second = g (model ++ first.0) first.1 s state first.2 in
    let same : (model ++ first.0) ++ second.0 ≡ model ++ (first.0 ++ second.0) = append_assoc model first.0 second.0 in (
      first.0 ++ second.0,
      subst (IsModel k newer) same second.1,
      subst (λ l. AgreesWith l t s after) same second.2,
    )

-- ---- whole layers

pub agrees_unfilled : (model : List Bool) (t : ClosureOverPorts) (s : TableauState) (now next : List (List Lit))
    → state_values model t.ports now ≡ s.now → state_values model t.ports next ≡ s.next → AgreesWith model t s (unfilled now next)
agrees_unfilled model t s now next en ex = record {
  now = en;
  next = ex;
  members = λ u h. absurd (omega arith);
  untils = λ u x k l h is after. absurd (omega arith);
}

pub agreed : (model : List Bool) (t : ClosureOverPorts) (s : TableauState) (layer : LayerLits) → length layer.members ≡ length t.closure.nodes
    → IsTableauState t s → AgreesWith model t s layer → layer_state model t layer ≡ s
agreed model t s layer e state a =
    let width : length (lit_values model layer.members) ≡ length layer.members = length-map layer.members (lit_holds model) in
    let all : length s.holding ≡ length t.closure.nodes = state.count in
    let holding : lit_values model layer.members ≡ s.holding =
    same_lists (lit_values model layer.members) s.holding (width ∙ e ∙ sym state.count)
    (λ k d h. get_or_default (lit_values model layer.members) k d false h ∙ member_value model t layer k (omega arith) ∙ a.members k (omega arith)
    ∙ get_or_default s.holding k false d (omega arith)) in
    λ j. record { now = a.now j; next = a.next j; holding = holding j }
