-- The states that a trace runs through: the values of the ports at a position and at the next one, and the members that
-- hold there, told by a list of truth values. They are states of the tableau, joined by steps, and after each position
-- each fairness condition is met again.
use Rattle.std.proofs.Common.{◌≡◌, ℕ, ◌+◌, ◌<◌, ◌≤◌, Bool, true, false, not, ◌&&◌, ◌||◌, List, map, length, Option, Some, None, slice_get}
use Rattle.std.proofs.Common.{inl, inr, sym, ap, ◌∙◌, subst, refl, arith}
use Rattle.std.specs.Prelude.{All, nat_lt}
use Rattle.std.proofs.lemmas.Bool.{and_from, and_parts, or_cases, ltb-true, false_from_ne_true, true≢false}
use Rattle.std.proofs.lemmas.Option.{get_or_from_slice_get, slice_get_within}
use Rattle.typed_ltl.specs.Formulas.{Proposition, proposition_of}
use Rattle.typed_ltl.specs.Formulas as form
use Rattle.typed_ltl.specs.Traces.{Trace, IsOver, assignment}
use Rattle.typed_ltl.specs.Truth.{proposition_truth}
use Rattle.core_ltl.specs.declared.node.NodeId.{NodeId}
use Rattle.core_ltl.specs.declared.node.Node.{Node}
use Rattle.core_ltl.specs.declared.node.Node.TheVariants as node
use Rattle.core_ltl.specs.declared.question.SignedNode.{SignedNode}
use Rattle.core_ltl.specs.CoreFormulas.{Core, CoreHolds}
use Rattle.core_ltl.specs.CoreFormulas as core
use Rattle.core_ltl.specs.Nodes.{members, StandsFor, NodeHolds, IsClosure, operands_before}
use Rattle.core_ltl.specs.Questions.{HasSign}
use Rattle.core_ltl.proofs.NodeFormulas.{each_node, one_formula, within_of, found_at}
use Rattle.state_coding.specs.Reads.{ReadsPorts}
use Rattle.tableau.specs.TableauStates.{ClosureOverPorts, TableauState, IsTableauState, IsTableauStep, RespectsForm}
use Rattle.tableau.specs.TableauStates.{has_member, atom_at, meets_condition}
use Rattle.tableau.specs.Questions.{IsSignedIn}
use Rattle.counter_cert.proofs.DecidedLists.{Tells}
use Rattle.counter_cert.proofs.TraceValues.{ValuesByKind, values_of, valuation_is, values_agree, truth_same}
use Rattle.counter_cert.proofs.UntilSteps.{reaches_here, reaches_later, until_unfolds}
use Rattle.counter_cert.proofs.Turns.{IsConditionOf}

same_bits : (a b : Bool) → (a ≡ true → b ≡ true) → (b ≡ true → a ≡ true) → a ≡ b
same_bits a true h k = k refl
same_bits a false h k = false_from_ne_true a (λ e. true≢false (sym (h e)))

opposite_bits : (a b : Bool) → (a ≡ true → b ≡ true → ⊥) → ((b ≡ true → ⊥) → a ≡ true) → a ≡ not b
opposite_bits a true h k = false_from_ne_true a (λ e. h e refl)
opposite_bits a false h k = k (λ e. true≢false (sym e))

signed_bits : (a p : Bool) → (p ≡ true → a ≡ true) → (p ≡ false → a ≡ true → ⊥) → a ≡ p
signed_bits a true h k = h refl
signed_bits a false h k = false_from_ne_true a (k refl)

implied_bits : (a b : Bool) → (a ≡ true → b ≡ true) → (not a || b) ≡ true
implied_bits true b h = h refl
implied_bits false b h = refl

-- the list tells which nodes hold at position i
abbrev pub TellsNodes : ClosureOverPorts → Trace → ℕ → List Bool → Type 0
TellsNodes t w i holding = Tells (λ n. NodeHolds (members t.closure) w n i) (length t.closure.nodes) holding

-- the state of the tableau at position i
abbrev pub state_on : ClosureOverPorts → Trace → ℕ → List Bool → TableauState
state_on t w i holding =
    record { now = values_of t.ports (w i); next = values_of t.ports (w (i + 1)); holding = holding }

-- the condition is met at position i: where the until holds there, so does its right side
abbrev pub IsMetAt : ClosureOverPorts → Trace → Option (NodeId × NodeId) → ℕ → Type 0
IsMetAt t w None i = Unit {0}
IsMetAt t w (Some u) i = NodeHolds (members t.closure) w u.0.0 i → NodeHolds (members t.closure) w u.1.0 i

module _ (t : ClosureOverPorts) (closed : IsClosure (members t.closure)) (w : Trace) where
  formula_at : (n : ℕ) → n < length t.closure.nodes → (f : Core) × StandsFor (members t.closure) n f
  formula_at n within = each_node (members t.closure) closed n within

  -- after each position each fairness condition is met again
  pub met_again : (c : Option (NodeId × NodeId)) → IsConditionOf t.closure.nodes c → (i : ℕ)
      → ((j : ℕ) → i ≤ j → IsMetAt t w c j → ⊥) → ⊥
  met_again None is i none = none i (omega arith) tt
  met_again (Some u) is i none = none i (omega arith) (λ holds.
      let m = members t.closure in
      let within : u.0.0 < length t.closure.nodes = slice_get_within t.closure.nodes u.0.0 (node.Until is.0 u.1) is.1 in
      let before = and_parts (nat_lt is.0.0 u.0.0) (nat_lt u.1.0 u.0.0) (closed.operands u.0.0 (node.Until is.0 u.1) is.1) in
      let left : is.0.0 < u.0.0 = ltb-true is.0.0 u.0.0 before.0 in
      let right : u.1.0 < u.0.0 = ltb-true u.1.0 u.0.0 before.1 in
      let f = formula_at is.0.0 (omega arith) in
      let g = formula_at u.1.0 (omega arith) in
      let s : StandsFor m u.0.0 (core.Until f.0 g.0) = (is.0, u.1, is.1, f.1, g.1) in
      let until = subst (λ h. CoreHolds w h i) (one_formula m u.0.0 holds.0 (core.Until f.0 g.0) holds.1 s) holds.2 in
      absurd (until (λ j le q rest. none j le (λ h. (g.0, g.1, q)))))

  module _ (i : ℕ) (holding : List Bool) (h : TellsNodes t w i holding) where
    told : (n : ℕ) (f : Core) → StandsFor (members t.closure) n f → has_member (state_on t w i holding) n ≡ true → CoreHolds w f i
    told n f s e =
        let m = members t.closure in
        let x = (h.truth n (within_of m n f s)).0 e in
        subst (λ g. CoreHolds w g i) (one_formula m n x.0 f x.1 s) x.2

    tells : (n : ℕ) (f : Core) → StandsFor (members t.closure) n f → CoreHolds w f i → has_member (state_on t w i holding) n ≡ true
    tells n f s c = (h.truth n (within_of (members t.closure) n f s)).1 (f, s, c)

    pub condition_told : (c : Option (NodeId × NodeId)) → IsConditionOf t.closure.nodes c → IsMetAt t w c i
        → meets_condition (state_on t w i holding) c ≡ true
    condition_told None is met = refl
    condition_told (Some u) is met =
        let within : u.0.0 < length t.closure.nodes = slice_get_within t.closure.nodes u.0.0 (node.Until is.0 u.1) is.1 in
        let before = and_parts (nat_lt is.0.0 u.0.0) (nat_lt u.1.0 u.0.0) (closed.operands u.0.0 (node.Until is.0 u.1) is.1) in
        let right : u.1.0 < u.0.0 = ltb-true u.1.0 u.0.0 before.1 in
        let s = state_on t w i holding in
        implied_bits (has_member s u.0.0) (has_member s u.1.0)
        (λ e. (h.truth u.1.0 (omega arith)).1 (met ((h.truth u.0.0 within).0 e)))

    pub sign_told : (x : SignedNode) → x.node.0 < length t.closure.nodes → HasSign (members t.closure) w i x
        → IsSignedIn (state_on t w i holding) x
    sign_told x within sign =
        let both = h.truth x.node.0 within in
        signed_bits (has_member (state_on t w i holding) x.node.0) x.positive
        (λ e. both.1 (sign.positive e)) (λ e b. sign.negative e (both.0 b))

    operand : (n k : ℕ) → k < n → n < length t.closure.nodes → (f : Core) × StandsFor (members t.closure) k f
    operand n k lt within = formula_at k (omega arith)

    respects : All (ReadsPorts t.ports) (map proposition_of t.closure.atoms) → (n : ℕ) (x : Node)
        → slice_get t.closure.nodes n ≡ Some x → n < length t.closure.nodes → operands_before n x ≡ true
        → RespectsForm t (state_on t w i holding) n x
    respects reads n node.True e within before = tells n core.True e tt
    respects reads n (node.Atom a) e within before =
        let m = members t.closure in
        let p = found_at m.atoms a.0 (closed.named_atoms n a e) in
        let s : StandsFor m n (core.Atomic p.0) = (a, e, p.1) in
        let fact : atom_at t a ≡ p.0 = get_or_from_slice_get m.atoms a.0 p.0 (form.TruthAt 0 false) p.1 in
        let read : ReadsPorts t.ports p.0 =
        subst (ReadsPorts t.ports) fact (reads a.0 (form.TruthAt 0 false) (closed.named_atoms n a e)) in
        let now = assignment (values_of t.ports (w i)) in
        let next = assignment (values_of t.ports (w (i + 1))) in
        same_bits (has_member (state_on t w i holding) n) (proposition_truth (w i) (w (i + 1)) p.0) (told n (core.Atomic p.0) s)
        (tells n (core.Atomic p.0) s)
        ∙ sym (truth_same t.ports now (w i) next (w (i + 1)) p.0 (values_agree t.ports (w i)) (values_agree t.ports (w (i + 1))) read)
        ∙ ap (λ q. proposition_truth now next q) (sym fact)
    respects reads n (node.Not k) e within before =
        let g = operand n k.0 (ltb-true k.0 n before) within in
        let s : StandsFor (members t.closure) n (core.Not g.0) = (k, e, g.1) in
        opposite_bits (has_member (state_on t w i holding) n) (has_member (state_on t w i holding) k.0)
        (λ a b. told n (core.Not g.0) s a (told k.0 g.0 g.1 b))
        (λ b. tells n (core.Not g.0) s (λ c. b (tells k.0 g.0 g.1 c)))
    respects reads n (node.And j k) e within before =
        let parts = and_parts (nat_lt j.0 n) (nat_lt k.0 n) before in
        let f = operand n j.0 (ltb-true j.0 n parts.0) within in
        let g = operand n k.0 (ltb-true k.0 n parts.1) within in
        let s : StandsFor (members t.closure) n (core.And f.0 g.0) = (j, k, e, f.1, g.1) in
        let a = has_member (state_on t w i holding) j.0 in
        let b = has_member (state_on t w i holding) k.0 in
        same_bits (has_member (state_on t w i holding) n) (a && b)
        (λ y. let both = told n (core.And f.0 g.0) s y in and_from a b (tells j.0 f.0 f.1 both.0) (tells k.0 g.0 g.1 both.1))
        (λ y. let both = and_parts a b y in tells n (core.And f.0 g.0) s (told j.0 f.0 f.1 both.0, told k.0 g.0 g.1 both.1))
    respects reads n (node.Next k) e within before = tt
    respects reads n (node.Until j k) e within before = λ x nx.
        let parts = and_parts (nat_lt j.0 n) (nat_lt k.0 n) before in
        let f = operand n j.0 (ltb-true j.0 n parts.0) within in
        let g = operand n k.0 (ltb-true k.0 n parts.1) within in
        let u : Core = core.Until f.0 g.0 in
        let s : StandsFor (members t.closure) n u = (j, k, e, f.1, g.1) in
        let sx : StandsFor (members t.closure) x (core.Next u) = (record { 0 = n }, nx, s) in
        let a = has_member (state_on t w i holding) j.0 in
        let b = has_member (state_on t w i holding) k.0 in
        let y = has_member (state_on t w i holding) x in
        let P : ℕ → Type 0 = CoreHolds w f.0 in
        let Q : ℕ → Type 0 = CoreHolds w g.0 in
        same_bits (has_member (state_on t w i holding) n) (b || (a && y))
        (λ z. until_unfolds P Q i b a y (tells k.0 g.0 g.1) (tells j.0 f.0 f.1) (tells x (core.Next u) sx) (told n u s z))
        (λ z. tells n u s (elim (or_cases b (a && y) z) [
          | inl here ↦ reaches_here P Q i (told k.0 g.0 g.1 here)
          | inr later ↦
              let both = and_parts a y later in
              reaches_later P Q i (told j.0 f.0 f.1 both.0) (told x (core.Next u) sx both.1)
        ]))

    pub is_state : ValuesByKind → All (ReadsPorts t.ports) (map proposition_of t.closure.atoms) → IsOver t.ports w
        → IsTableauState t (state_on t w i holding)
    is_state by_kind reads over = record {
      now = valuation_is by_kind t.ports (w i) (over i);
      next = valuation_is by_kind t.ports (w (i + 1)) (over (i + 1));
      count = h.count;
      forms = λ n x e. respects reads n x e (slice_get_within t.closure.nodes n x e) (closed.operands n x e);
    }

    pub step_on : (later : List Bool) → TellsNodes t w (i + 1) later
        → IsTableauStep t (state_on t w i holding) (state_on t w (i + 1) later)
    step_on later k = record {
      valuation = refl;
      nexts = λ n x e.
          let within : n < length t.closure.nodes = slice_get_within t.closure.nodes n (node.Next x) e in
          let lt : x.0 < n = ltb-true x.0 n (closed.operands n (node.Next x) e) in
          let g = operand n x.0 lt within in
          let s : StandsFor (members t.closure) n (core.Next g.0) = (x, e, g.1) in
          let both = k.truth x.0 (omega arith) in
          same_bits (has_member (state_on t w i holding) n) (has_member (state_on t w (i + 1) later) x.0)
          (λ a. both.1 (g.0, g.1, told n (core.Next g.0) s a))
          (λ a. let y = both.0 a in tells n (core.Next g.0) s (subst (λ c. CoreHolds w c (i + 1)) (one_formula (members t.closure) x.0 y.0 g.0 y.1 g.1) y.2));
    }
