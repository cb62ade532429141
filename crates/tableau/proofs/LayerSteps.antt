-- what the code of a layer has after each member, and in the end
use Rattle.std.proofs.Common.{◌≡◌, ◌+◌, ◌<◌, ◌≤◌, ℕ, zero, suc, Bool, true, Some, List, [], ◌∷◌, ◌++◌, length, drop}
use Rattle.std.proofs.Common.{refl, sym, ◌∙◌, ap, arith, append_assoc, subst}
use Rattle.std.specs.Prelude.{slice_get}
use Rattle.std.proofs.Math.ListN.{drop_of_length-le}
use Rattle.std.specs.List.{All}
use Rattle.port_types.specs.declared.types.PortType.{PortType}
use Rattle.port_types.specs.declared.types.Value.{Value}
use Rattle.core_ltl.specs.declared.node.Node.{Node}
use Rattle.cnf.specs.declared.lit.Lit.{Lit}
use Rattle.cnf.specs.Clauses.{clauses_hold, IsModel, IsConservative}
use Rattle.cnf.proofs.ModelLaws.{append_nil}
use Rattle.state_coding.specs.States.{state_bits, state_width, state_clauses, state_values, HasBits, IsValuation, IsCodedState}
use Rattle.state_coding.specs.Atoms.{AtomCoding}
use Rattle.state_coding.specs.Coded.{IsCoded}
use Rattle.tableau.specs.TableauStates.{ClosureOverPorts, CanBeCoded, TableauState, IsTableauState}
use Rattle.tableau.specs.Copies.{LayerLits, LayerCoding, member_coding, members_coding, behind_clauses, with_member, unfilled, unfilled_copy, copy_coding}
use Rattle.tableau.specs.Copies.{layer_state}
use Rattle.tableau.specs.Parts.{HasPart, EveryStateExtends, IsLayerCoded}
use Rattle.std.specs.Prelude.{get_or}
use Rattle.std.proofs.lemmas.Option.{slice_get-get_or}
use Rattle.tableau.proofs.Fronts.{dropped}
use Rattle.tableau.proofs.Places.{members_more}
use Rattle.tableau.proofs.WholeLayers.{copy_whole}
use Rattle.tableau.proofs.Agreement.{values_more, agrees_unfilled, agreed, MemberAdded, member_extends, extends_on}
use Rattle.tableau.proofs.MemberSteps.{part_more}

-- one more member, with the members that are left
left_with : (t : ClosureOverPorts) (layer : LayerLits) (n m : ℕ) (older newer : List (List Lit)) (left rest : List Node) (x : Node) (lit : Lit)
    (total : LayerCoding) → left ≡ x ∷ rest → IsCoded older m newer lit (member_coding t layer n x)
    → behind_clauses older (members_coding t layer n left) ≡ total → behind_clauses newer (members_coding t (with_member layer lit) m rest) ≡ total
left_with t layer n m older newer left rest x lit total el added h =
    let c : AtomCoding = member_coding t layer n x in
    let whole : LayerCoding = members_coding t (with_member layer c.lit) c.vars rest in
    let here : behind_clauses older (members_coding t layer n (x ∷ rest)) ≡ total = (rw el at h) in
    rw (added.clauses, added.vars, added.answer)
    ((λ j. record { vars = whole.vars; clauses = append_assoc older c.clauses whole.clauses j; layer = whole.layer }) ∙ here)

pub left_goes_on : (t : ClosureOverPorts) (layer after : LayerLits) (n m : ℕ) (older newer : List (List Lit)) (left rest : List Node) (x : Node)
    (lit : Lit) (total : LayerCoding) → left ≡ x ∷ rest → IsCoded older m newer lit (member_coding t layer n x) → after ≡ with_member layer lit
    → behind_clauses older (members_coding t layer n left) ≡ total → behind_clauses newer (members_coding t after m rest) ≡ total
left_goes_on t layer after n m older newer left rest x lit total el added e h =
    subst (λ l. behind_clauses newer (members_coding t l m rest) ≡ total) (sym e)
    (left_with t layer n m older newer left rest x lit total el added h)

pub count_goes_on : (layer after : LayerLits) (lit : Lit) (i : ℕ) → after ≡ with_member layer lit → length layer.members ≡ i
    → length after.members ≡ i + 1
count_goes_on layer after lit i e h = ap (λ (l : LayerLits). length l.members) e ∙ members_more layer lit ∙ ap (λ k. k + 1) h

-- the node at the place of the next member
pub node_at : (t : ClosureOverPorts) (slice : List Node) (i k : ℕ) (d : Node) → slice ≡ t.closure.nodes → k ≡ i → i < length slice
    → slice_get t.closure.nodes k ≡ Some (get_or slice i d)
node_at t slice i k d es ek h =
    ap (slice_get t.closure.nodes) ek ∙ ap (λ l. slice_get l i) (sym es) ∙ slice_get-get_or slice i d h

pub left_at : (slice : List Node) (i : ℕ) (d : Node) → i < length slice → drop i slice ≡ get_or slice i d ∷ drop (i + 1) slice
left_at slice i d h = dropped slice i d h

pub left_ends : (t : ClosureOverPorts) (layer : LayerLits) (m i : ℕ) (older newer : List (List Lit)) (nodes : List Node) (coding : LayerCoding)
    → length nodes ≤ i → behind_clauses newer (members_coding t layer m (drop i nodes)) ≡ behind_clauses older coding
    → IsLayerCoded older m newer layer coding
left_ends t layer m i older newer nodes coding past h =
    let e : behind_clauses newer (members_coding t layer m []) ≡ behind_clauses older coding = (rw (drop_of_length-le nodes past) at h) in
    record {
      vars = ap (λ (c : LayerCoding). c.vars) e;
      clauses = sym (append_nil newer) ∙ ap (λ (c : LayerCoding). c.clauses) e;
      answer = ap (λ (c : LayerCoding). c.layer) e;
    }

-- the shape after one more member
pub part_goes_on : (t : ClosureOverPorts) (layer after : LayerLits) (n m : ℕ) (older newer : List (List Lit)) (x : Node) (lit : Lit) → CanBeCoded t
    → HasPart n t layer → slice_get t.closure.nodes (length layer.members) ≡ Some x → IsCoded older m newer lit (member_coding t layer n x)
    → after ≡ with_member layer lit → HasPart m t after
part_goes_on t layer after n m older newer x lit coded part is added e =
    subst (HasPart m t) (sym e) (subst (λ k. HasPart k t (with_member layer lit)) (sym added.vars)
    (subst (λ o. HasPart (member_coding t layer n x).vars t (with_member layer o)) (sym added.answer) (part_more t layer n x coded part is)))

-- every state goes on to one more member
pub every_goes_on : (n k m : ℕ) (first older newer : List (List Lit)) (t : ClosureOverPorts) (start layer after : LayerLits) (x : Node) (lit : Lit)
    → EveryStateExtends n first k older t start layer → MemberAdded k m older newer t layer x lit → after ≡ with_member layer lit
    → EveryStateExtends n first m newer t start after
every_goes_on n k m first older newer t start layer after x lit f added e =
    subst (λ l. EveryStateExtends n first m newer t start l) (sym e)
    (extends_on n k m first older newer t start layer (with_member layer lit) f (member_extends k m older newer t layer x lit added))

-- two valuations and the members
pub record CopyAdded (t : ClosureOverPorts) (ports : List PortType) (n n1 n2 m : ℕ) (older mid late newer : List (List Lit))
    (now next : List (List Lit)) (layer : LayerLits) : Type 0 where
  pub ports_are : ports ≡ t.ports
  pub now_bits : now ≡ state_bits n ports
  pub vars : n1 ≡ n + state_width ports
  pub clauses : mid ≡ older ++ state_clauses ports now
  pub next_bits : next ≡ state_bits n1 ports
  pub more_vars : n2 ≡ n1 + state_width ports
  pub more_clauses : late ≡ mid ++ state_clauses ports next
  pub members : IsLayerCoded late m newer layer (members_coding t (unfilled now next) n2 t.closure.nodes)

join_four : (older a b c : List (List Lit)) → ((older ++ a) ++ b) ++ c ≡ older ++ ((a ++ b) ++ c)
join_four older a b c =
    append_assoc (older ++ a) b c ∙ append_assoc older a (b ++ c) ∙ ap (λ l. older ++ l) (sym (append_assoc a b c))

pub copy_added : (t : ClosureOverPorts) (ports : List PortType) (n n1 n2 m : ℕ) (older mid late newer : List (List Lit))
    (now next : List (List Lit)) (layer : LayerLits) → CopyAdded t ports n n1 n2 m older mid late newer now next layer
    → IsLayerCoded older m newer layer (copy_coding t n)
copy_added t ports n n1 n2 m older mid late newer now next layer a =
    let w : ℕ = state_width t.ports in
    let width : state_width ports ≡ w = ap state_width a.ports_are in
    let first_vars : n1 ≡ n + w = a.vars ∙ ap (λ k. n + k) width in
    let vars : n2 ≡ n + w + w = a.more_vars ∙ (λ j. first_vars j + width j) in
    let first : now ≡ state_bits n t.ports = a.now_bits ∙ ap (state_bits n) a.ports_are in
    let second : next ≡ state_bits (n + w) t.ports = a.next_bits ∙ (λ j. state_bits (first_vars j) (a.ports_are j)) in
    let same : members_coding t (unfilled now next) n2 t.closure.nodes ≡ members_coding t (unfilled_copy t n) (n + w + w) t.closure.nodes =
    (λ j. members_coding t (unfilled (first j) (second j)) (vars j) t.closure.nodes) in
    let whole : LayerCoding = members_coding t (unfilled_copy t n) (n + w + w) t.closure.nodes in
    let before : late ≡ (older ++ state_clauses t.ports (state_bits n t.ports)) ++ state_clauses t.ports (state_bits (n + w) t.ports) =
    a.more_clauses ∙ ap (λ l. l ++ state_clauses ports next) a.clauses
    ∙ (λ j. (older ++ state_clauses (a.ports_are j) (first j)) ++ state_clauses (a.ports_are j) (second j)) in
    record {
      vars = a.members.vars ∙ ap (λ (c : LayerCoding). c.vars) same;
      clauses = a.members.clauses ∙ (λ j. before j ++ (same j).clauses)
          ∙ join_four older (state_clauses t.ports (state_bits n t.ports)) (state_clauses t.ports (state_bits (n + w) t.ports)) whole.clauses;
      answer = a.members.answer ∙ ap (λ (c : LayerCoding). c.layer) same;
    }

-- every state of the tableau, from both valuations on
same_list : (m : ℕ) (newer : List (List Lit)) (t : ClosureOverPorts) (layer : LayerLits) (s : TableauState) (longer whole : List Bool)
    → longer ≡ whole → IsModel m newer longer → layer_state longer t layer ≡ s → IsModel m newer whole × (layer_state whole t layer ≡ s)
same_list m newer t layer s longer whole e is reads =
    (subst (IsModel m newer) e is, subst (λ l. layer_state l t layer ≡ s) e reads)

join_three : (model a b c : List Bool) → ((model ++ a) ++ b) ++ c ≡ model ++ (a ++ (b ++ c))
join_three model a b c = append_assoc (model ++ a) b c ∙ append_assoc model a (b ++ c)

pub record CopyEvery (t : ClosureOverPorts) (ports : List PortType) (n n1 n2 m : ℕ) (older mid late newer : List (List Lit))
    (now next : List (List Lit)) (layer : LayerLits) : Type 0 where
  pub ports_are : ports ≡ t.ports
  pub first : (model : List Bool) → IsModel n older model → (valuation : List Value) → IsValuation ports valuation
      → (more : List Bool) × IsModel n1 mid (model ++ more) × (state_values (model ++ more) ports now ≡ valuation)
  pub second : (model : List Bool) → IsModel n1 mid model → (valuation : List Value) → IsValuation ports valuation
      → (more : List Bool) × IsModel n2 late (model ++ more) × (state_values (model ++ more) ports next ≡ valuation)
  pub members : EveryStateExtends n2 late m newer t (unfilled now next) layer
  pub has : HasBits n1 ports now
  pub count : length layer.members ≡ length t.closure.nodes

pub copy_every : (t : ClosureOverPorts) (ports : List PortType) (n n1 n2 m : ℕ) (older mid late newer : List (List Lit))
    (now next : List (List Lit)) (layer : LayerLits) → CopyEvery t ports n n1 n2 m older mid late newer now next layer
    → (model : List Bool) → IsModel n older model → (s : TableauState) → IsTableauState t s
    → (more : List Bool) × IsModel m newer (model ++ more) × (layer_state (model ++ more) t layer ≡ s)
copy_every t ports n n1 n2 m older mid late newer now next layer e model is s state =
    let a = e.first model is s.now (subst (λ p. IsValuation p s.now) (sym e.ports_are) state.now) in
    let b = e.second (model ++ a.0) a.1 s.next (subst (λ p. IsValuation p s.next) (sym e.ports_are) state.next) in
    let has : HasBits (length (model ++ a.0)) ports now = subst (λ k. HasBits k ports now) (sym a.1.vars) e.has in
    let longer : List Bool = (model ++ a.0) ++ b.0 in
    let first : state_values longer ports now ≡ s.now = values_more (model ++ a.0) b.0 ports now has ∙ a.2 in
    let kept : state_values longer t.ports now ≡ s.now = subst (λ p. state_values longer p now ≡ s.now) e.ports_are first in
    let after : state_values longer t.ports next ≡ s.next = subst (λ p. state_values longer p next ≡ s.next) e.ports_are b.2 in
    let c = e.members longer b.1 s state (agrees_unfilled longer t s now next kept after) in
    let whole : List Bool = model ++ (a.0 ++ (b.0 ++ c.0)) in
    let both = same_list m newer t layer s (longer ++ c.0) whole (join_three model a.0 b.0 c.0) c.1
    (agreed (longer ++ c.0) t s layer e.count state c.2) in
    (a.0 ++ (b.0 ++ c.0), both.0, both.1)

-- how many members a whole layer has
pub copy_count : (t : ClosureOverPorts) (n m : ℕ) (older newer : List (List Lit)) (layer : LayerLits) → CanBeCoded t
    → IsLayerCoded older m newer layer (copy_coding t n) → length layer.members ≡ length t.closure.nodes
copy_count t n m older newer layer coded is = ap (λ (l : LayerLits). length l.members) is.answer ∙ (copy_whole t n coded).count

-- a state stays one
pub stays : (n m : ℕ) (older newer : List (List Lit)) (ports : List PortType) (bits : List (List Lit))
    → ((n m : ℕ) (older newer added : List (List Lit)) (ports : List PortType) (bits : List (List Lit))
    → n ≤ m → newer ≡ older ++ added → IsCodedState n older ports bits → IsCodedState m newer ports bits)
    → IsConservative n older m newer → IsCodedState n older ports bits → IsCodedState m newer ports bits
stays n m older newer ports bits law grows is = law n m older newer grows.clauses.0 ports bits grows.vars grows.clauses.1 is

pub stays_with : (n m : ℕ) (older newer : List (List Lit)) (ports : List PortType) (bits after : List (List Lit))
    → ((n m : ℕ) (older newer added : List (List Lit)) (ports : List PortType) (bits : List (List Lit))
    → n ≤ m → newer ≡ older ++ added → IsCodedState n older ports bits → IsCodedState m newer ports bits)
    → IsConservative n older m newer → IsCodedState n older ports bits → after ≡ bits → IsCodedState m newer ports after
stays_with n m older newer ports bits after law grows is e =
    subst (IsCodedState m newer ports) (sym e) (stays n m older newer ports bits law grows is)
