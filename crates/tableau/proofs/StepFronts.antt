-- what the code of a step has after each clause, bit, port and node
use Rattle.std.proofs.Common.{◌≡◌, ◌+◌, ◌<◌, ◌≤◌, ℕ, suc, Bool, true, false, Option, Some, None, List, [], ◌∷◌, ◌++◌, length, take, drop, get_or}
use Rattle.std.proofs.Common.{refl, sym, ◌∙◌, ap, arith, append_assoc, subst}
use Rattle.std.specs.Prelude.{slice_get}
use Rattle.std.specs.List.{All}
use Rattle.std.proofs.lemmas.List.Elements.{All-get_or}
use Rattle.std.proofs.lemmas.Option.{same_Some, none-some, slice_get-get_or}
use Rattle.port_types.specs.declared.types.PortType.{PortType}
use Rattle.core_ltl.specs.declared.node.NodeId.{NodeId}
use Rattle.core_ltl.specs.declared.node.Node.{Node}
use Rattle.core_ltl.specs.declared.node.Node.TheVariants as node
use Rattle.cnf.specs.declared.lit.Lit.{Lit}
use Rattle.cnf.specs.Clauses.{opposite}
use Rattle.cnf.specs.Gates.{literal}
use Rattle.state_coding.specs.States.{HasBits}
use Rattle.state_coding.proofs.TermLaws.{port_bits_known}
use Rattle.state_coding.proofs.TermSteps.{port_bits_width}
use Rattle.tableau.specs.Copies.{LayerLits, member_literal}
use Rattle.tableau.specs.Steps.{same_clauses, same_row_clauses, same_state_clauses, next_clauses, nexts_clauses}
use Rattle.tableau.specs.Parts.{AddsFront, next_operand}
use Rattle.cnf.specs.Clauses.{lit_holds, clauses_hold, IsModel}
use Rattle.state_coding.proofs.StateLaws.{parts_hold}
use Rattle.tableau.specs.TableauStates.{ClosureOverPorts, CanBeCoded, IsTableauStep}
use Rattle.tableau.specs.Copies.{layer_state}
use Rattle.tableau.specs.Steps.{step_clauses}
use Rattle.tableau.proofs.Fronts.{dropped, front_take, front_first, front_second, front_holds}
use Rattle.tableau.proofs.StepLaws.{CodedPair, step_says, step_fits, facts_of, next_operand_there}

-- ---- two literals

pub same_front : (k : ℕ) (older newer : List (List Lit)) (under x y nu nx ny : Lit) → nu ≡ opposite under → nx ≡ opposite x → ny ≡ opposite y
    → newer ≡ older ++ take k ((nu ∷ nx ∷ y ∷ []) ∷ (nu ∷ x ∷ ny ∷ []) ∷ []) → AddsFront older newer (same_clauses under x y)
same_front k older newer under x y nu nx ny eu ex ey en =
    front_take k older newer (same_clauses under x y) (en ∙ rw (eu, ex, ey) refl)

-- ---- two rows

pub rows_left : (under : Lit) (row other : List Lit) (i : ℕ) (d e : Lit) → i < length row → length row ≡ length other
    → same_row_clauses under (drop i row) (drop i other)
    ≡ same_clauses under (get_or row i d) (get_or other i e) ++ same_row_clauses under (drop (i + 1) row) (drop (i + 1) other)
rows_left under row other i d e h same = rw (dropped row i d h, dropped other i e (omega arith)) refl

-- ---- two valuations

pub has_count : (n : ℕ) (ports : List PortType) (bits : List (List Lit)) → HasBits n ports bits → length bits ≡ length ports
has_count n [] [] h = refl
has_count n [] (row ∷ bits) h = absurd h
has_count n (kind ∷ ports) [] h = absurd h
has_count n (kind ∷ ports) (row ∷ bits) h = ap suc (has_count n ports bits h.2)

pub row_known : (n m : ℕ) (ports : List PortType) (bits : List (List Lit)) (i : ℕ) (row : List Lit) → HasBits n ports bits → m ≡ n
    → row ≡ get_or bits i [] → All (λ lit. lit.var < m) row
row_known n m ports bits i row h em er =
    subst (λ k. All (λ lit. lit.var < k) row) (sym em) (subst (All (λ lit. lit.var < n)) (sym er) (port_bits_known n ports bits bits i false h h))

pub rows_match : (n : ℕ) (ports : List PortType) (bits others : List (List Lit)) (i : ℕ) (row other : List Lit) → HasBits n ports bits
    → HasBits n ports others → i < length bits → row ≡ get_or bits i [] → other ≡ get_or others i [] → length row ≡ length other
rows_match n ports bits others i row other hb ho h er eo =
    let within : i < length ports = (let c : length bits ≡ length ports = has_count n ports bits hb in omega arith) in
    ap length er ∙ port_bits_width n ports bits bits i false hb hb within ∙ sym (port_bits_width n ports others others i false ho ho within)
    ∙ ap length (sym eo)

pub states_left : (under : Lit) (bits others : List (List Lit)) (i : ℕ) (row other : List Lit) → i < length bits → length bits ≡ length others
    → row ≡ get_or bits i [] → other ≡ get_or others i []
    → same_state_clauses under (drop i bits) (drop i others)
    ≡ same_row_clauses under row other ++ same_state_clauses under (drop (i + 1) bits) (drop (i + 1) others)
states_left under bits others i row other h same er eo =
    rw (dropped bits i [] h, dropped others i [] (omega arith), er, eo) refl

pub counts_match : (n : ℕ) (ports : List PortType) (bits others : List (List Lit)) → HasBits n ports bits → HasBits n ports others
    → length bits ≡ length others
counts_match n ports bits others hb ho = has_count n ports bits hb ∙ sym (has_count n ports others ho)

-- ---- Nexts

pub nexts_left : (under : Lit) (from to : LayerLits) (nodes : List Node) (i : ℕ) (d : Node) → i < length nodes
    → nexts_clauses under from to i (drop i nodes)
    ≡ next_clauses under from to i (get_or nodes i d) ++ nexts_clauses under from to (i + 1) (drop (i + 1) nodes)
nexts_left under from to nodes i d h = rw (dropped nodes i d h) refl

-- what the operand of a node that is a Next says of its clauses
abbrev pub clauses_of : Lit → LayerLits → LayerLits → ℕ → Option NodeId → List (List Lit)
clauses_of under from to n None = []
clauses_of under from to n (Some k) = same_clauses under (member_literal from n) (member_literal to k.0)

operand_says : (under : Lit) (from to : LayerLits) (n : ℕ) (x : Node)
    → next_clauses under from to n x ≡ clauses_of under from to n (next_operand x)
operand_says under from to n node.True = refl
operand_says under from to n (node.Atom a) = refl
operand_says under from to n (node.Not k) = refl
operand_says under from to n (node.And k l) = refl
operand_says under from to n (node.Next k) = refl
operand_says under from to n (node.Until k l) = refl

pub is_next : (under x w : Lit) (from to : LayerLits) (n : ℕ) (y : Node) (o : Option NodeId) (k : NodeId) → o ≡ next_operand y → o ≡ Some k
    → x ≡ member_literal from n → w ≡ member_literal to k.0 → next_clauses under from to n y ≡ same_clauses under x w
is_next under x w from to n y o k e is ex ey =
    operand_says under from to n y ∙ ap (clauses_of under from to n) (sym e ∙ is) ∙ sym (rw (ex, ey) refl)

pub is_no_next : (under : Lit) (from to : LayerLits) (n : ℕ) (y : Node) (o : Option NodeId) → o ≡ next_operand y → o ≡ None
    → next_clauses under from to n y ≡ []
is_no_next under from to n y o e is = operand_says under from to n y ∙ ap (clauses_of under from to n) (sym e ∙ is)

pub known_literal : (n : ℕ) (layer : LayerLits) (lit : Lit) (i : ℕ) → lit ≡ member_literal layer i → All (λ l. l.var < n) layer.members
    → i < length layer.members → lit.var < n
known_literal n layer lit i e all h = subst (λ (l : Lit). l.var < n) (sym e) (All-get_or (λ l. l.var < n) layer.members i (literal 0) h all)

operand_form : (x : Node) (k : NodeId) → next_operand x ≡ Some k → x ≡ node.Next k
operand_form node.True k e = absurd (none-some k e)
operand_form (node.Atom a) k e = absurd (none-some k e)
operand_form (node.Not l) k e = absurd (none-some k e)
operand_form (node.And l m) k e = absurd (none-some k e)
operand_form (node.Until l m) k e = absurd (none-some k e)
operand_form (node.Next l) k e = ap node.Next (same_Some l k e)

-- the operand of the node at a place
pub operand_at : (nodes : List Node) (i : ℕ) (d : Node) (k : NodeId) → i < length nodes → next_operand (get_or nodes i d) ≡ Some k
    → slice_get nodes i ≡ Some (node.Next k)
operand_at nodes i d k h e = slice_get-get_or nodes i d h ∙ ap Some (operand_form (get_or nodes i d) k e)

-- ---- a whole step

pub record StepAdded (n m : ℕ) (older newer : List (List Lit)) (t : ClosureOverPorts) (from to : LayerLits) (under : Lit) : Type 0 where
  pub pair : CodedPair n older t from to under
  pub vars : m ≡ n
  pub front : AddsFront older newer (step_clauses t from to under)

pub step_tells : (n m : ℕ) (older newer : List (List Lit)) (t : ClosureOverPorts) (from to : LayerLits) (under : Lit)
    → StepAdded n m older newer t from to under → newer ≡ older ++ step_clauses t from to under
    → (model : List Bool) → m ≤ length model → clauses_hold model newer ≡ true → lit_holds model under ≡ true
    → IsTableauStep t (layer_state model t from) (layer_state model t to)
step_tells n m older newer t from to under s e model room h on =
    let both = parts_hold model older (step_clauses t from to under) (sym (ap (clauses_hold model) e) ∙ h) in
    let vars : m ≡ n = s.vars in
    step_says model t from to under
    (facts_of n older t from to under model s.pair (omega arith) both.0) both.1 on

pub step_kept : (n m : ℕ) (older newer : List (List Lit)) (t : ClosureOverPorts) (from to : LayerLits) (under : Lit)
    → StepAdded n m older newer t from to under → (model : List Bool) → IsModel n older model
    → (lit_holds model under ≡ true → IsTableauStep t (layer_state model t from) (layer_state model t to)) → IsModel m newer model
step_kept n m older newer t from to under s model is h =
    let width : length model ≡ n = is.vars in
    record {
      vars = is.vars ∙ sym s.vars;
      holds = front_holds model older newer (step_clauses t from to under) s.front is.holds
          (step_fits model t from to under
          (facts_of n older t from to under model s.pair (omega arith) is.holds) h);
    }

-- ---- the two parts of a step

pub operands_within : (t : ClosureOverPorts) (slice : List Node) (to : LayerLits) → slice ≡ t.closure.nodes → CanBeCoded t
    → length to.members ≡ length t.closure.nodes → (i : ℕ) (k : NodeId) → slice_get slice i ≡ Some (node.Next k) → k.0 < length to.members
operands_within t slice to es coded count i k e =
    let h : k.0 < length t.closure.nodes = next_operand_there t i k coded (ap (λ l. slice_get l i) (sym es) ∙ e) in omega arith

pub states_front : (older now : List (List Lit)) (t : ClosureOverPorts) (from to : LayerLits) (under : Lit) (bits others : List (List Lit))
    → bits ≡ from.next_bits → others ≡ to.bits → AddsFront older now (same_state_clauses under bits others)
    → AddsFront older now (step_clauses t from to under)
states_front older now t from to under bits others eb eo f =
    front_first older now (same_state_clauses under from.next_bits to.bits) (nexts_clauses under from to 0 t.closure.nodes)
    (subst (AddsFront older now) (λ j. same_state_clauses under (eb j) (eo j)) f)

-- the valuations were made the same
pub record StatesAdded (older mid : List (List Lit)) (t : ClosureOverPorts) (from to : LayerLits) (under : Lit) (bits others : List (List Lit))
    (slice : List Node) : Type 0 where
  pub next_are : bits ≡ from.next_bits
  pub now_are : others ≡ to.bits
  pub nodes_are : slice ≡ t.closure.nodes
  pub states : mid ≡ older ++ same_state_clauses under bits others

pub nexts_front : (older mid newer : List (List Lit)) (t : ClosureOverPorts) (from to : LayerLits) (under : Lit) (bits others : List (List Lit))
    (slice : List Node) → StatesAdded older mid t from to under bits others slice → AddsFront mid newer (nexts_clauses under from to 0 slice)
    → AddsFront older newer (step_clauses t from to under)
nexts_front older mid newer t from to under bits others slice s f =
    front_second older mid newer (same_state_clauses under from.next_bits to.bits) (nexts_clauses under from to 0 t.closure.nodes)
    (s.states ∙ (λ j. older ++ same_state_clauses under (s.next_are j) (s.now_are j)))
    (subst (AddsFront mid newer) (λ j. nexts_clauses under from to 0 (s.nodes_are j)) f)

pub whole_step : (older mid newer : List (List Lit)) (t : ClosureOverPorts) (from to : LayerLits) (under : Lit) (bits others : List (List Lit))
    (slice : List Node) → StatesAdded older mid t from to under bits others slice → newer ≡ mid ++ nexts_clauses under from to 0 slice
    → newer ≡ older ++ step_clauses t from to under
whole_step older mid newer t from to under bits others slice s e =
    let first : List (List Lit) = same_state_clauses under from.next_bits to.bits in
    let second : List (List Lit) = nexts_clauses under from to 0 t.closure.nodes in
    let states : mid ≡ older ++ first = s.states ∙ (λ j. older ++ same_state_clauses under (s.next_are j) (s.now_are j)) in
    e ∙ (λ j. states j ++ nexts_clauses under from to 0 (s.nodes_are j)) ∙ append_assoc older first second
