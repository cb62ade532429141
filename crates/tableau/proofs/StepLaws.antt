-- the clauses of a step: they hold exactly where `under` is false or the one layer steps to the other
use Rattle.std.proofs.Common.{◌≡◌, ◌+◌, ◌*◌, ◌<◌, ◌≤◌, ℕ, zero, suc, Bool, true, false, not, ◌&&◌, ◌||◌, Some, List, [], ◌∷◌, length}
use Rattle.std.proofs.Common.{drop, get_or}
use Rattle.std.proofs.Common.{refl, sym, ◌∙◌, ap, arith, subst, ⊎_elim, ◌⊎◌}
use Rattle.std.specs.Prelude.{slice_get, if◌then◌else◌}
use Rattle.std.specs.List.{All}
use Rattle.std.proofs.lemmas.Bool.{false≢true, cases_order}
use Rattle.std.proofs.lemmas.List.{length-map}
use Rattle.std.proofs.lemmas.List.Elements.{All-head, All-tail, All-get_or}
use Rattle.std.proofs.lemmas.Option.{same_Some, none-some, slice_get_within}
use Rattle.port_types.specs.declared.types.PortType.{PortType}
use Rattle.port_types.specs.declared.types.Value.{Value}
use Rattle.port_types.specs.declared.types.Value.TheVariants as value
use Rattle.port_types.specs.Types.{values}
use Rattle.core_ltl.specs.declared.node.NodeId.{NodeId}
use Rattle.core_ltl.specs.declared.node.Node.{Node}
use Rattle.core_ltl.specs.declared.node.Node.TheVariants as node
use Rattle.cnf.specs.declared.lit.Lit.{Lit}
use Rattle.cnf.specs.Clauses.{opposite, lit_holds, lit_values, clauses_hold, IsModel}
use Rattle.cnf.specs.Gates.{literal}
use Rattle.cnf.specs.Bounds.{binary_number}
use Rattle.cnf.specs.Laws.{GatesAreRight}
use Rattle.cnf.proofs.ModelLaws.{lit_holds-opposite}
use Rattle.state_coding.specs.Codes.{IsCodable, type_bits, value_at, code_clauses}
use Rattle.state_coding.specs.States.{state_clauses, state_values, HasBits}
use Rattle.state_coding.proofs.CodeLaws.{code_below, one_place_each}
use Rattle.state_coding.proofs.StateLaws.{bits_later, within_later, codable_few, both_hold, parts_hold}
use Rattle.tableau.specs.TableauStates.{ClosureOverPorts, CanBeCoded, IsTableauStep, has_member}
use Rattle.tableau.specs.Copies.{LayerLits, member_literal, layer_state, IsCodedLayer}
use Rattle.tableau.specs.Steps.{same_clauses, same_row_clauses, same_state_clauses, next_clauses, nexts_clauses, step_clauses}
use Rattle.tableau.proofs.Places.{below, member_value}

-- ---- two literals

same_only : (u x y : Bool) → ((not u || (not x || (y || false))) && ((not u || (x || (not y || false))) && true)) ≡ true → u ≡ true → x ≡ y
same_only false x y h e = absurd (false≢true e)
same_only true true true h e = refl
same_only true true false h e = absurd (false≢true h)
same_only true false true h e = absurd (false≢true h)
same_only true false false h e = refl

same_met : (u x y : Bool) → (u ≡ true → x ≡ y) → ((not u || (not x || (y || false))) && ((not u || (x || (not y || false))) && true)) ≡ true
same_met false x y h = refl
same_met true true true h = refl
same_met true true false h = absurd (false≢true (sym (h refl)))
same_met true false true h = absurd (false≢true (h refl))
same_met true false false h = refl

same_only_at : (u nu x nx y ny : Bool) → nu ≡ not u → nx ≡ not x → ny ≡ not y
    → ((nu || (nx || (y || false))) && ((nu || (x || (ny || false))) && true)) ≡ true → u ≡ true → x ≡ y
same_only_at u nu x nx y ny eu ex ey h e = same_only u x y (rw (eu, ex, ey) at h) e

same_met_at : (u nu x nx y ny : Bool) → nu ≡ not u → nx ≡ not x → ny ≡ not y → (u ≡ true → x ≡ y)
    → ((nu || (nx || (y || false))) && ((nu || (x || (ny || false))) && true)) ≡ true
same_met_at u nu x nx y ny eu ex ey h = rw (eu, ex, ey) (same_met u x y h)

same_says : (model : List Bool) (under x y : Lit) → under.var < length model → x.var < length model → y.var < length model
    → clauses_hold model (same_clauses under x y) ≡ true → lit_holds model under ≡ true → lit_holds model x ≡ lit_holds model y
same_says model under x y lu lx ly h on =
    same_only_at (lit_holds model under) (lit_holds model (opposite under)) (lit_holds model x) (lit_holds model (opposite x))
    (lit_holds model y) (lit_holds model (opposite y))
    (lit_holds-opposite model under lu) (lit_holds-opposite model x lx) (lit_holds-opposite model y ly) h on

same_fits : (model : List Bool) (under x y : Lit) → under.var < length model → x.var < length model → y.var < length model
    → (lit_holds model under ≡ true → lit_holds model x ≡ lit_holds model y) → clauses_hold model (same_clauses under x y) ≡ true
same_fits model under x y lu lx ly h =
    same_met_at (lit_holds model under) (lit_holds model (opposite under)) (lit_holds model x) (lit_holds model (opposite x))
    (lit_holds model y) (lit_holds model (opposite y))
    (lit_holds-opposite model under lu) (lit_holds-opposite model x lx) (lit_holds-opposite model y ly) h

-- ---- two rows

row_says : (model : List Bool) (under : Lit) (a b : List Lit) → under.var < length model → All (λ lit. lit.var < length model) a
    → All (λ lit. lit.var < length model) b → length a ≡ length b → clauses_hold model (same_row_clauses under a b) ≡ true
    → lit_holds model under ≡ true → lit_values model a ≡ lit_values model b
row_says model under [] [] lu la lb e h on = refl
row_says model under [] (y ∷ b) lu la lb e h on = absurd (omega arith)
row_says model under (x ∷ a) [] lu la lb e h on = absurd (omega arith)
row_says model under (x ∷ a) (y ∷ b) lu la lb e h on =
    let both = parts_hold model (same_clauses under x y) (same_row_clauses under a b) h in
    let first : lit_holds model x ≡ lit_holds model y =
    same_says model under x y lu (All-head (λ lit. lit.var < length model) x a la) (All-head (λ lit. lit.var < length model) y b lb) both.0 on in
    let rest : lit_values model a ≡ lit_values model b =
    row_says model under a b lu (All-tail (λ lit. lit.var < length model) x a la) (All-tail (λ lit. lit.var < length model) y b lb) (omega arith) both.1
    on in
    λ j. first j ∷ rest j

row_fits : (model : List Bool) (under : Lit) (a b : List Lit) → under.var < length model → All (λ lit. lit.var < length model) a
    → All (λ lit. lit.var < length model) b → (lit_holds model under ≡ true → lit_values model a ≡ lit_values model b)
    → clauses_hold model (same_row_clauses under a b) ≡ true
row_fits model under [] b lu la lb h = refl
row_fits model under (x ∷ a) [] lu la lb h = refl
row_fits model under (x ∷ a) (y ∷ b) lu la lb h =
    both_hold model (same_clauses under x y) (same_row_clauses under a b)
    (same_fits model under x y lu (All-head (λ lit. lit.var < length model) x a la) (All-head (λ lit. lit.var < length model) y b lb)
    (λ on. ap (λ l. get_or l 0 false) (h on)))
    (row_fits model under a b lu (All-tail (λ lit. lit.var < length model) x a la) (All-tail (λ lit. lit.var < length model) y b lb)
    (λ on. ap (drop 1) (h on)))

-- ---- two valuations

number_parity : (b c : Bool) (m n : ℕ) → (if b then 1 else 0) + 2 * m ≡ (if c then 1 else 0) + 2 * n → (b ≡ c) × (m ≡ n)
number_parity true true m n e = (refl, omega arith)
number_parity false false m n e = (refl, omega arith)
number_parity true false m n e = absurd (omega arith)
number_parity false true m n e = absurd (omega arith)

-- rows of one length with the same number are the same
number_same : (a b : List Bool) → length a ≡ length b → binary_number a ≡ binary_number b → a ≡ b
number_same [] [] e f = refl
number_same [] (y ∷ b) e f = absurd (omega arith)
number_same (x ∷ a) [] e f = absurd (omega arith)
number_same (x ∷ a) (y ∷ b) e f =
    let both = number_parity x y (binary_number a) (binary_number b) f in
    let rest : a ≡ b = number_same a b (omega arith) both.1 in
    λ j. both.0 j ∷ rest j

-- codes of the same value are the same
code_same : (kind : PortType) (a b : List Bool) → IsCodable kind → length a ≡ length b → binary_number a < length (values kind)
    → binary_number b < length (values kind) → value_at kind a ≡ value_at kind b → a ≡ b
code_same kind a b codable e ha hb same =
    number_same a b e (⊎_elim
    (λ (equal : binary_number a ≡ binary_number b). equal)
    (λ (apart : (binary_number a < binary_number b) ⊎ (binary_number b < binary_number a)).
    ⊎_elim
    (λ (less : binary_number a < binary_number b).
    absurd (one_place_each kind codable (binary_number a) (binary_number b) (value.Bool false) less hb same))
    (λ (more : binary_number b < binary_number a).
    absurd (one_place_each kind codable (binary_number b) (binary_number a) (value.Bool false) more ha (sym same)))
    apart)
    (cases_order (binary_number a) (binary_number b)))

pub states_say : (model : List Bool) (under : Lit) (ports : List PortType) (bits others : List (List Lit)) → under.var < length model
    → HasBits (length model) ports bits → HasBits (length model) ports others
    → clauses_hold model (same_state_clauses under bits others) ≡ true → lit_holds model under ≡ true
    → state_values model ports bits ≡ state_values model ports others
states_say model under [] bits others lu hb ho h on = refl
states_say model under (kind ∷ ports) [] others lu hb ho h on = absurd hb
states_say model under (kind ∷ ports) (a ∷ bits) [] lu hb ho h on = absurd ho
states_say model under (kind ∷ ports) (a ∷ bits) (b ∷ others) lu hb ho h on =
    let both = parts_hold model (same_row_clauses under a b) (same_state_clauses under bits others) h in
    let first : lit_values model a ≡ lit_values model b = row_says model under a b lu hb.1 ho.1 (hb.0 ∙ sym ho.0) both.0 on in
    let rest : state_values model ports bits ≡ state_values model ports others = states_say model under ports bits others lu hb.2 ho.2 both.1 on in
    λ j. value_at kind (first j) ∷ rest j

-- a state of ports in a model of its clauses
pub record Coded (model : List Bool) (ports : List PortType) (bits : List (List Lit)) : Type 0 where
  pub has : HasBits (length model) ports bits
  pub holds : clauses_hold model (state_clauses ports bits) ≡ true

pub states_fit : (g : GatesAreRight) (model : List Bool) (under : Lit) (ports : List PortType) (bits others : List (List Lit))
    → under.var < length model → All IsCodable ports → Coded model ports bits → Coded model ports others
    → (lit_holds model under ≡ true → state_values model ports bits ≡ state_values model ports others)
    → clauses_hold model (same_state_clauses under bits others) ≡ true
states_fit g model under ports [] others lu codable cb co h = refl
states_fit g model under ports (a ∷ bits) [] lu codable cb co h = refl
states_fit g model under [] (a ∷ bits) (b ∷ others) lu codable cb co h = absurd cb.has
states_fit g model under (kind ∷ ports) (a ∷ bits) (b ∷ others) lu codable cb co h =
    let this : IsCodable kind = All-head IsCodable kind ports codable in
    let left = parts_hold model (code_clauses kind a) (state_clauses ports bits) cb.holds in
    let right = parts_hold model (code_clauses kind b) (state_clauses ports others) co.holds in
    let few = codable_few kind this in
    let number_a = code_below g model kind a cb.has.0 cb.has.1 this.1 few left.0 in
    let number_b = code_below g model kind b co.has.0 co.has.1 this.1 few right.0 in
    both_hold model (same_row_clauses under a b) (same_state_clauses under bits others)
    (row_fits model under a b lu cb.has.1 co.has.1
    (λ on. code_same kind (lit_values model a) (lit_values model b) this
    (length-map a (lit_holds model) ∙ cb.has.0 ∙ sym (co.has.0) ∙ sym (length-map b (lit_holds model))) number_a number_b
    (ap (λ l. get_or l 0 (value.Bool false)) (h on))))
    (states_fit g model under ports bits others lu (All-tail IsCodable kind ports codable)
    (record { has = cb.has.2; holds = left.1 }) (record { has = co.has.2; holds = right.1 }) (λ on. ap (drop 1) (h on)))

-- ---- Nexts

-- literals for the members of two layers
pub record TwoRows (model : List Bool) (under : Lit) (from to : LayerLits) : Type 0 where
  pub known_under : under.var < length model
  pub first : All (λ lit. lit.var < length model) from.members
  pub second : All (λ lit. lit.var < length model) to.members

-- the nodes from place n on, with their operands in the other layer
pub record AreFrom (from to : LayerLits) (n : ℕ) (nodes : List Node) : Type 0 where
  pub count : n + length nodes ≡ length from.members
  pub operands : (i : ℕ) (k : NodeId) → slice_get nodes i ≡ Some (node.Next k) → k.0 < length to.members

areas_on : (from to : LayerLits) (n : ℕ) (x : Node) (nodes : List Node) → AreFrom from to n (x ∷ nodes) → AreFrom from to (n + 1) nodes
areas_on from to n x nodes a =
    record { count = (let e : n + suc (length nodes) ≡ length from.members = a.count in omega arith); operands = λ i k e. a.operands (suc i) k e }

-- what a step says of a node
abbrev pub NextIs : List Bool → LayerLits → LayerLits → ℕ → Node → Type 0
NextIs model from to n x = (k : NodeId) → x ≡ node.Next k → lit_holds model (member_literal from n) ≡ lit_holds model (member_literal to k.0)

literal_known : (model : List Bool) (layer : LayerLits) (n : ℕ) → All (λ lit. lit.var < length model) layer.members → n < length layer.members
    → (member_literal layer n).var < length model
literal_known model layer n all h = All-get_or (λ lit. lit.var < length model) layer.members n (literal 0) h all

next_says : (model : List Bool) (under : Lit) (from to : LayerLits) (n : ℕ) (k : NodeId) → TwoRows model under from to → n < length from.members
    → k.0 < length to.members → clauses_hold model (next_clauses under from to n (node.Next k)) ≡ true → lit_holds model under ≡ true
    → lit_holds model (member_literal from n) ≡ lit_holds model (member_literal to k.0)
next_says model under from to n k two hn hk h on =
    same_says model under (member_literal from n) (member_literal to k.0) two.known_under (literal_known model from n two.first hn)
    (literal_known model to k.0 two.second hk) h on

next_fits : (model : List Bool) (under : Lit) (from to : LayerLits) (n : ℕ) (x : Node) → TwoRows model under from to → n < length from.members
    → ((k : NodeId) → x ≡ node.Next k → k.0 < length to.members) → (lit_holds model under ≡ true → NextIs model from to n x)
    → clauses_hold model (next_clauses under from to n x) ≡ true
next_fits model under from to n node.True two hn hk h = refl
next_fits model under from to n (node.Atom a) two hn hk h = refl
next_fits model under from to n (node.Not k) two hn hk h = refl
next_fits model under from to n (node.And k l) two hn hk h = refl
next_fits model under from to n (node.Until k l) two hn hk h = refl
next_fits model under from to n (node.Next k) two hn hk h =
    same_fits model under (member_literal from n) (member_literal to k.0) two.known_under (literal_known model from n two.first hn)
    (literal_known model to k.0 two.second (hk k refl)) (λ on. h on k refl)

nexts_say : (model : List Bool) (under : Lit) (from to : LayerLits) (n : ℕ) (nodes : List Node) → TwoRows model under from to
    → AreFrom from to n nodes → clauses_hold model (nexts_clauses under from to n nodes) ≡ true → lit_holds model under ≡ true
    → (i : ℕ) (k : NodeId) → slice_get nodes i ≡ Some (node.Next k)
    → lit_holds model (member_literal from (n + i)) ≡ lit_holds model (member_literal to k.0)
nexts_say model under from to n [] two are h on i k e = absurd (none-some (node.Next k) e)
nexts_say model under from to n (x ∷ nodes) two are h on zero k e =
    let both = parts_hold model (next_clauses under from to n x) (nexts_clauses under from to (n + 1) nodes) h in
    let same : x ≡ node.Next k = same_Some x (node.Next k) e in
    let all : n + suc (length nodes) ≡ length from.members = are.count in
    let here : n + 0 ≡ n = omega arith in
    ap (λ p. lit_holds model (member_literal from p)) here
    ∙ next_says model under from to n k two (omega arith) (are.operands 0 k e)
    (subst (λ y. clauses_hold model (next_clauses under from to n y) ≡ true) same both.0) on
nexts_say model under from to n (x ∷ nodes) two are h on (suc i) k e =
    let both = parts_hold model (next_clauses under from to n x) (nexts_clauses under from to (n + 1) nodes) h in
    let here : n + suc i ≡ (n + 1) + i = omega arith in
    ap (λ p. lit_holds model (member_literal from p)) here
    ∙ nexts_say model under from to (n + 1) nodes two (areas_on from to n x nodes are) both.1 on i k e

nexts_fit : (model : List Bool) (under : Lit) (from to : LayerLits) (n : ℕ) (nodes : List Node) → TwoRows model under from to
    → AreFrom from to n nodes
    → (lit_holds model under ≡ true → (i : ℕ) (k : NodeId) → slice_get nodes i ≡ Some (node.Next k)
    → lit_holds model (member_literal from (n + i)) ≡ lit_holds model (member_literal to k.0))
    → clauses_hold model (nexts_clauses under from to n nodes) ≡ true
nexts_fit model under from to n [] two are h = refl
nexts_fit model under from to n (x ∷ nodes) two are h =
    let all : n + suc (length nodes) ≡ length from.members = are.count in
    let here : n + 0 ≡ n = omega arith in
    both_hold model (next_clauses under from to n x) (nexts_clauses under from to (n + 1) nodes)
    (next_fits model under from to n x two (omega arith) (λ k e. are.operands 0 k (ap Some e))
    (λ on k e. ap (λ p. lit_holds model (member_literal from p)) (sym here) ∙ h on 0 k (ap Some e)))
    (nexts_fit model under from to (n + 1) nodes two (areas_on from to n x nodes are)
    (λ on i k e. let there : (n + 1) + i ≡ n + suc i = omega arith in
    ap (λ p. lit_holds model (member_literal from p)) there ∙ h on (suc i) k e))

-- ---- steps

pub record StepFacts (model : List Bool) (t : ClosureOverPorts) (from to : LayerLits) (under : Lit) : Type 0 where
  pub gates : GatesAreRight
  pub coded : CanBeCoded t
  pub two : TwoRows model under from to
  pub next : Coded model t.ports from.next_bits
  pub now : Coded model t.ports to.bits
  pub first : length from.members ≡ length t.closure.nodes
  pub second : length to.members ≡ length t.closure.nodes

pub next_operand_there : (t : ClosureOverPorts) (n : ℕ) (k : NodeId) → CanBeCoded t → slice_get t.closure.nodes n ≡ Some (node.Next k)
    → k.0 < length t.closure.nodes
next_operand_there t n k coded e =
    let first : k.0 < n = below k.0 n (coded.closed.operands n (node.Next k) e) in
    let within : n < length t.closure.nodes = slice_get_within t.closure.nodes n (node.Next k) e in omega arith

are_all : (model : List Bool) (t : ClosureOverPorts) (from to : LayerLits) (under : Lit) → StepFacts model t from to under
    → AreFrom from to 0 t.closure.nodes
are_all model t from to under f = record {
  count = (let first : length from.members ≡ length t.closure.nodes = f.first in omega arith);
  operands = λ i k e. let h : k.0 < length t.closure.nodes = next_operand_there t i k f.coded e in
      let second : length to.members ≡ length t.closure.nodes = f.second in omega arith;
}

next_values : (model : List Bool) (t : ClosureOverPorts) (from to : LayerLits) (under : Lit) (n : ℕ) (k : NodeId) → StepFacts model t from to under
    → slice_get t.closure.nodes n ≡ Some (node.Next k)
    → (has_member (layer_state model t from) n ≡ lit_holds model (member_literal from n))
    × (has_member (layer_state model t to) k.0 ≡ lit_holds model (member_literal to k.0))
next_values model t from to under n k f e =
    let within : n < length t.closure.nodes = slice_get_within t.closure.nodes n (node.Next k) e in
    let operand : k.0 < length t.closure.nodes = next_operand_there t n k f.coded e in
    let first : length from.members ≡ length t.closure.nodes = f.first in
    let second : length to.members ≡ length t.closure.nodes = f.second in
    (member_value model t from n (omega arith), member_value model t to k.0 (omega arith))

pub step_says : (model : List Bool) (t : ClosureOverPorts) (from to : LayerLits) (under : Lit) → StepFacts model t from to under
    → clauses_hold model (step_clauses t from to under) ≡ true → lit_holds model under ≡ true
    → IsTableauStep t (layer_state model t from) (layer_state model t to)
step_says model t from to under f h on =
    let both = parts_hold model (same_state_clauses under from.next_bits to.bits) (nexts_clauses under from to 0 t.closure.nodes) h in
    record {
      valuation = states_say model under t.ports from.next_bits to.bits f.two.known_under f.next.has f.now.has both.0 on;
      nexts = λ n k e.
          let reads = next_values model t from to under n k f e in
          let here : n ≡ 0 + n = omega arith in
          reads.0 ∙ ap (λ p. lit_holds model (member_literal from p)) here
          ∙ nexts_say model under from to 0 t.closure.nodes f.two (are_all model t from to under f) both.1 on n k e ∙ sym reads.1;
    }

pub step_fits : (model : List Bool) (t : ClosureOverPorts) (from to : LayerLits) (under : Lit) → StepFacts model t from to under
    → (lit_holds model under ≡ true → IsTableauStep t (layer_state model t from) (layer_state model t to))
    → clauses_hold model (step_clauses t from to under) ≡ true
step_fits model t from to under f h =
    both_hold model (same_state_clauses under from.next_bits to.bits) (nexts_clauses under from to 0 t.closure.nodes)
    (states_fit f.gates model under t.ports from.next_bits to.bits f.two.known_under f.coded.ports f.next f.now (λ on. (h on).valuation))
    (nexts_fit model under from to 0 t.closure.nodes f.two (are_all model t from to under f)
    (λ on n k e.
    let reads = next_values model t from to under n k f e in
    let here : 0 + n ≡ n = omega arith in
    ap (λ p. lit_holds model (member_literal from p)) here ∙ sym reads.0 ∙ (h on).nexts n k e ∙ reads.1))

-- two layers and a literal, in clauses in which they were coded
pub record CodedPair (n : ℕ) (clauses : List (List Lit)) (t : ClosureOverPorts) (from to : LayerLits) (under : Lit) : Type 0 where
  pub gates : GatesAreRight
  pub coded : CanBeCoded t
  pub first : IsCodedLayer n clauses t from
  pub second : IsCodedLayer n clauses t to
  pub known_under : under.var < n

-- the same in a model of these clauses
pub facts_of : (n : ℕ) (clauses : List (List Lit)) (t : ClosureOverPorts) (from to : LayerLits) (under : Lit)
    (model : List Bool) → CodedPair n clauses t from to under → n ≤ length model → clauses_hold model clauses ≡ true
    → StepFacts model t from to under
facts_of n clauses t from to under model pair room h = record {
  gates = pair.gates;
  coded = pair.coded;
  two = record {
    known_under = (let known : under.var < n = pair.known_under in omega arith);
    first = within_later n (length model) from.members room pair.first.members;
    second = within_later n (length model) to.members room pair.second.members;
  };
  next = record {
    has = bits_later n (length model) t.ports from.next_bits room pair.first.next.shape;
    holds = pair.first.next.holds model h;
  };
  now = record {
    has = bits_later n (length model) t.ports to.bits room pair.second.now.shape;
    holds = pair.second.now.holds model h;
  };
  first = pair.first.count;
  second = pair.second.count;
}
