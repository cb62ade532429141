-- From a lasso that breaks a question to a lasso of tableau states: at each position the members that hold there.
use Rattle.std.proofs.Common.{◌≡◌, ℕ, zero, suc, ◌+◌, ◌-◌, ◌%◌, ◌<◌, ◌≤◌, ◌↔◌, ◌⊎◌, Bool, true, false, not, ◌&&◌, ◌||◌, List, [], ◌∷◌, map, length, get_or}
use Rattle.std.proofs.Common.{slice_get, ltb}
use Rattle.std.proofs.Common.{Option, Some, None, inl, inr, refl, sym, ap, ◌∙◌, subst, subst₂, ext_get_or, arith}
use Rattle.std.specs.Prelude.{All, Contains}
use Rattle.std.specs.List.{range_with_len}
use Rattle.std.proofs.lemmas.Bool.{and_from, and_parts, or_parts, or_cases, cases_lt, cases_Bool, ltb-true, false_from_ne_true, true≢false}
use Rattle.std.proofs.lemmas.List.{length-map, get_or-map}
use Rattle.std.proofs.lemmas.List.Elements.{All-from_get_or}
use Rattle.std.proofs.lemmas.List.FromFn.{length-map-range_with_len, get_or-map-range_with_len}
use Rattle.std.proofs.lemmas.Option.{get_or_from_slice_get, slice_get_within}
use Rattle.port_types.specs.declared.types.PortType.{PortType}
use Rattle.port_types.specs.declared.types.Value.{Value}
use Rattle.port_types.specs.Types.{values, IsOfType}
use Rattle.typed_ltl.specs.declared.lasso.Lasso.{Lasso}
use Rattle.typed_ltl.specs.Formulas.{proposition_of}
use Rattle.typed_ltl.specs.Formulas as form
use Rattle.typed_ltl.specs.Traces.{assignment, lasso_place, word}
use Rattle.typed_ltl.specs.Truth.{proposition_truth}
use Rattle.typed_ltl.specs.Rows.{truth_row}
use Rattle.typed_ltl.proofs.Periodicity.{place_before, place_recurs, place_in_loop}
use Rattle.core_ltl.specs.declared.node.NodeId.{NodeId}
use Rattle.core_ltl.specs.declared.node.Node.{Node}
use Rattle.core_ltl.specs.declared.node.Node.TheVariants as node
use Rattle.core_ltl.specs.declared.question.SignedNode.{SignedNode}
use Rattle.core_ltl.specs.CoreFormulas.{Core, CoreHolds}
use Rattle.core_ltl.specs.CoreFormulas as core
use Rattle.core_ltl.specs.Nodes.{members, StandsFor, IsClosure, operands_before}
use Rattle.core_ltl.specs.Questions.{HasSign}
use Rattle.core_ltl.proofs.NodeFormulas.{each_node, one_formula, within_of, found_at}
use Rattle.state_coding.specs.States.{IsValuation}
use Rattle.tableau.specs.TableauStates.{ClosureOverPorts, TableauState, IsTableauState, IsTableauStep, RespectsForm}
use Rattle.tableau.specs.TableauStates.{has_member, atom_at, fairness, meets_condition}
use Rattle.first_lasso.specs.Lassos.{IsStateOver, WordHas}
use Rattle.first_lasso.specs.FirstLassos.{IsWitness}
use Rattle.first_lasso.proofs.Words.{place_within}
use Rattle.tableau.specs.Questions.{IsQuestionOver, BreaksQuestion}
use Rattle.lasso_search.specs.TableauLassos.{tableau_state_at, shown_valuations}
use Rattle.lasso_search.specs.TableauLassos.{IsMetInLoop, IsTableauLasso, HasTableauLasso}
use Rattle.lasso_search.proofs.WordTruth.{as_formula, truth_at, truth_told, truth_tells, reaches_here, reaches_later, until_unfolds}
use Rattle.lasso_search.proofs.Conditions.{IsConditionOf, conditions_are}

abbrev pub ValuesByKind : Type 0
ValuesByKind = (t : PortType) (v : Value) → Contains (values t) v ↔ IsOfType t v

pub valuation_from : ValuesByKind → (ports : List PortType) (s : List Value) → IsStateOver ports s → IsValuation ports s
valuation_from by_kind [] [] h = tt
valuation_from by_kind [] (v ∷ s) h = absurd h
valuation_from by_kind (t ∷ ports) [] h = absurd h
valuation_from by_kind (t ∷ ports) (v ∷ s) h = ((by_kind t v).1 h.0, valuation_from by_kind ports s h.1)

true_from_not : (b : Bool) → not b ≡ false → b ≡ true
true_from_not true e = refl
true_from_not false e = absurd (true≢false e)

same_bits : (a b : Bool) → (a ≡ true → b ≡ true) → (b ≡ true → a ≡ true) → a ≡ b
same_bits a true h k = k refl
same_bits a false h k = false_from_ne_true a (λ e. true≢false (sym (h e)))

opposite_bits : (a b : Bool) → (a ≡ true → b ≡ true → ⊥) → ((b ≡ true → ⊥) → a ≡ true) → a ≡ not b
opposite_bits a true h k = false_from_ne_true a (λ e. h e refl)
opposite_bits a false h k = k (λ e. true≢false (sym e))

signed_bits : (a p : Bool) → (p ≡ true → a ≡ true) → (p ≡ false → a ≡ true → ⊥) → a ≡ p
signed_bits a true h k = h refl
signed_bits a false h k = false_from_ne_true a (k refl)

-- some place in a stretch passes a test, or none does
find_in : (f : ℕ → Bool) (l d : ℕ)
    → ((i : ℕ) × (l ≤ i) × (i < l + d) × (f i ≡ true)) ⊎ ((i : ℕ) → l ≤ i → i < l + d → f i ≡ false)
find_in f l zero = inr (λ i lo hi. absurd (omega arith))
find_in f l (suc d) =
    elim (find_in f l d) [
      | inl h ↦ inl (h.0, h.1, omega (arith, h.2), h.3)
      | inr none ↦ elim (cases_Bool (f (l + d))) [
        | inl h ↦ inl (l + d, omega arith, omega arith, h)
        | inr h ↦ inr (λ i lo hi. elim (cases_lt i (l + d)) [
          | inl lt ↦ none i lo lt
          | inr ge ↦ let e : l + d ≡ i = omega arith in subst (λ k. f k ≡ false) e h
        ])
      ]
    ]

module _ (t : ClosureOverPorts) (closed : IsClosure (members t.closure)) (vs : List (List Value)) (l : ℕ) (lt : l < length vs) where
  -- the formula of each node
  pub formula_of : (n : ℕ) → (f : Core) × (n < length t.closure.nodes → StandsFor (members t.closure) n f)
  formula_of n =
      elim (cases_lt n (length t.closure.nodes)) [
        | inl h ↦ let x = each_node (members t.closure) closed n h in (x.0, λ within. x.1)
        | inr h ↦ (core.True, λ within. absurd (omega arith))
      ]

  -- the state at a place, with the place of the next position
  abbrev pub state_of : ℕ → ℕ → TableauState
  state_of a b = record {
    now = get_or vs a [];
    next = get_or vs b [];
    holding = map (λ n. get_or (truth_row vs l (as_formula (formula_of n).0)) a false) (range_with_len 0 (length t.closure.nodes));
  }

  -- the state of position i
  abbrev pub state_on : ℕ → TableauState
  state_on i = state_of (lasso_place (length vs) l i) (lasso_place (length vs) l (i + 1))

  abbrev pub states_on : List TableauState
  states_on = map state_on (range_with_len 0 (length vs))

  member_is : (i n : ℕ) (f : Core) → StandsFor (members t.closure) n f → has_member (state_on i) n ≡ truth_at vs l f i
  member_is i n f s =
      let m = members t.closure in
      let within : n < length t.closure.nodes = within_of m n f s in
      let counted : 0 + n ≡ n = omega arith in
      get_or-map-range_with_len (λ k. truth_at vs l (formula_of k).0 i) 0 (length t.closure.nodes) n n false within counted
      ∙ ap (λ g. truth_at vs l g i) (one_formula m n (formula_of n).0 f ((formula_of n).1 within) s)

  told : (i n : ℕ) (f : Core) → StandsFor (members t.closure) n f → has_member (state_on i) n ≡ true → CoreHolds (word vs l) f i
  told i n f s h = truth_told vs l lt f i (sym (member_is i n f s) ∙ h)

  tells : (i n : ℕ) (f : Core) → StandsFor (members t.closure) n f → CoreHolds (word vs l) f i → has_member (state_on i) n ≡ true
  tells i n f s h = member_is i n f s ∙ truth_tells vs l lt f i h

  formula_at : (n : ℕ) → n < length t.closure.nodes → (f : Core) × StandsFor (members t.closure) n f
  formula_at n within = ((formula_of n).0, (formula_of n).1 within)

  operand : (n k : ℕ) → k < n → n < length t.closure.nodes → (f : Core) × StandsFor (members t.closure) k f
  operand n k h within = formula_at k (omega arith)

  respects : (i n : ℕ) (x : Node) → slice_get t.closure.nodes n ≡ Some x → n < length t.closure.nodes
      → operands_before n x ≡ true → RespectsForm t (state_on i) n x
  respects i n node.True e within before = tells i n core.True e tt
  respects i n (node.Atom a) e within before =
      let m = members t.closure in
      let p = found_at m.atoms a.0 (closed.named_atoms n a e) in
      let s : StandsFor m n (core.Atomic p.0) = (a, e, p.1) in
      let fact : atom_at t a ≡ p.0 = get_or_from_slice_get (map proposition_of t.closure.atoms) a.0 p.0 (form.TruthAt 0 false) p.1 in
      let now = assignment (state_on i).now in
      let next = assignment (state_on i).next in
      same_bits (has_member (state_on i) n) (proposition_truth now next p.0) (told i n (core.Atomic p.0) s) (tells i n (core.Atomic p.0) s)
      ∙ ap (λ q. proposition_truth now next q) (sym fact)
  respects i n (node.Not k) e within before =
      let g = operand n k.0 (ltb-true k.0 n before) within in
      let s : StandsFor (members t.closure) n (core.Not g.0) = (k, e, g.1) in
      opposite_bits (has_member (state_on i) n) (has_member (state_on i) k.0)
      (λ h b. told i n (core.Not g.0) s h (told i k.0 g.0 g.1 b))
      (λ b. tells i n (core.Not g.0) s (λ h. b (tells i k.0 g.0 g.1 h)))
  respects i n (node.And j k) e within before =
      let parts = and_parts (ltb j.0 n) (ltb k.0 n) before in
      let g = operand n j.0 (ltb-true j.0 n parts.0) within in
      let h = operand n k.0 (ltb-true k.0 n parts.1) within in
      let s : StandsFor (members t.closure) n (core.And g.0 h.0) = (j, k, e, g.1, h.1) in
      let a = has_member (state_on i) j.0 in
      let b = has_member (state_on i) k.0 in
      same_bits (has_member (state_on i) n) (a && b)
      (λ y. let both = told i n (core.And g.0 h.0) s y in and_from a b (tells i j.0 g.0 g.1 both.0) (tells i k.0 h.0 h.1 both.1))
      (λ y. let both = and_parts a b y in tells i n (core.And g.0 h.0) s (told i j.0 g.0 g.1 both.0, told i k.0 h.0 h.1 both.1))
  respects i n (node.Next k) e within before = tt
  respects i n (node.Until j k) e within before = λ x nx.
      let parts = and_parts (ltb j.0 n) (ltb k.0 n) before in
      let g = operand n j.0 (ltb-true j.0 n parts.0) within in
      let h = operand n k.0 (ltb-true k.0 n parts.1) within in
      let u : Core = core.Until g.0 h.0 in
      let s : StandsFor (members t.closure) n u = (j, k, e, g.1, h.1) in
      let sx : StandsFor (members t.closure) x (core.Next u) = (record { 0 = n }, nx, s) in
      let a = has_member (state_on i) j.0 in
      let b = has_member (state_on i) k.0 in
      let y = has_member (state_on i) x in
      let P : ℕ → Type 0 = CoreHolds (word vs l) g.0 in
      let Q : ℕ → Type 0 = CoreHolds (word vs l) h.0 in
      same_bits (has_member (state_on i) n) (b || (a && y))
      (λ z. until_unfolds P Q i b a y (tells i k.0 h.0 h.1) (tells i j.0 g.0 g.1) (tells i x (core.Next u) sx) (told i n u s z))
      (λ z. tells i n u s (elim (or_cases b (a && y) z) [
        | inl here ↦ reaches_here P Q i (told i k.0 h.0 h.1 here)
        | inr later ↦
            let both = and_parts a y later in
            reaches_later P Q i (told i j.0 g.0 g.1 both.0) (told i x (core.Next u) sx both.1)
      ]))

  step_on : (i : ℕ) → IsTableauStep t (state_on i) (state_on (i + 1))
  step_on i = record {
    valuation = refl;
    nexts = λ n k e.
        let within : n < length t.closure.nodes = slice_get_within t.closure.nodes n (node.Next k) e in
        let g = operand n k.0 (ltb-true k.0 n (closed.operands n (node.Next k) e)) within in
        let s : StandsFor (members t.closure) n (core.Next g.0) = (k, e, g.1) in
        same_bits (has_member (state_on i) n) (has_member (state_on (i + 1)) k.0)
        (λ h. tells (i + 1) k.0 g.0 g.1 (told i n (core.Next g.0) s h))
        (λ h. tells i n (core.Next g.0) s (told (i + 1) k.0 g.0 g.1 h));
  }

  -- the state behind the last one is that of the loop's start
  comes_back : state_on (l + (length vs - l)) ≡ state_on l
  comes_back =
      let now = place_recurs (length vs) l l lt (omega arith) in
      let turn : (l + 1) + (length vs - l) ≡ (l + (length vs - l)) + 1 = omega arith in
      let next = ap (lasso_place (length vs) l) (sym turn) ∙ place_recurs (length vs) l (l + 1) lt (omega arith) in
      λ z. state_of (now z) (next z)

  at_is : (i : ℕ) → i < length vs → tableau_state_at states_on i ≡ state_on i
  at_is i h =
      let counted : 0 + i ≡ i = omega arith in
      get_or-map-range_with_len state_on 0 (length vs) i i (record { now = []; next = []; holding = [] }) h counted

  count_is : length states_on ≡ length vs
  count_is = length-map-range_with_len state_on 0 (length vs)

  shown_is : shown_valuations states_on ≡ vs
  shown_is =
      let long : length (shown_valuations states_on) ≡ length states_on = length-map states_on (λ s. s.now) in
      ext_get_or [] (shown_valuations states_on) vs (long ∙ count_is) (λ i h.
      let within : i < length vs = omega (arith, long, count_is, h) in
      get_or-map (λ (s : TableauState). s.now) states_on i (record { now = []; next = []; holding = [] }) [] (omega (arith, long, h))
      ∙ (ap (λ (s : TableauState). s.now) (at_is i within) ∙ ap (λ k. get_or vs k []) (place_before (length vs) l i within)))

  is_state : ValuesByKind → All (IsStateOver t.ports) vs → (i : ℕ) → IsTableauState t (state_on i)
  is_state by_kind typed i = record {
    now =
        let k = lasso_place (length vs) l i in
        valuation_from by_kind t.ports (get_or vs k []) (typed k [] (place_within (length vs) l i lt));
    next =
        let k = lasso_place (length vs) l (i + 1) in
        valuation_from by_kind t.ports (get_or vs k []) (typed k [] (place_within (length vs) l (i + 1) lt));
    count =
        length-map-range_with_len (λ n. get_or (truth_row vs l (as_formula (formula_of n).0)) (lasso_place (length vs) l i) false)
        0 (length t.closure.nodes);
    forms = λ n x e. respects i n x e (slice_get_within t.closure.nodes n x e) (closed.operands n x e);
  }

  goes_back : (last : ℕ) → last + 1 ≡ length vs → IsTableauStep t (tableau_state_at states_on last) (tableau_state_at states_on l)
  goes_back last e =
      let turn : last + 1 ≡ l + (length vs - l) = omega arith in
      subst₂ (IsTableauStep t) (sym (at_is last (omega arith))) (ap state_on turn ∙ (comes_back ∙ sym (at_is l lt))) (step_on last)

  signed : (x : SignedNode) → x.node.0 < length t.closure.nodes → HasSign (members t.closure) (word vs l) 0 x
      → has_member (state_on 0) x.node.0 ≡ x.positive
  signed x within h =
      let f = formula_at x.node.0 within in
      signed_bits (has_member (state_on 0) x.node.0) x.positive
      (λ e. let y = h.positive e in tells 0 x.node.0 y.0 y.1 y.2)
      (λ e b. h.negative e (f.0, f.1, told 0 x.node.0 f.0 f.1 b))

  same_member : (q n : ℕ) (f : Core) → StandsFor (members t.closure) n f
      → has_member (state_on (lasso_place (length vs) l q)) n ≡ has_member (state_on q) n
  same_member q n f s =
      let p = lasso_place (length vs) l q in
      member_is p n f s
      ∙ (ap (λ z. get_or (truth_row vs l (as_formula f)) z false) (place_before (length vs) l p (place_within (length vs) l q lt))
      ∙ sym (member_is q n f s))

  is_met : (c : Option (NodeId × NodeId)) → IsConditionOf t.closure.nodes c → IsMetInLoop states_on l c
  is_met None h = record { place = l; in_loop = omega arith; within = omega (arith, count_is, lt); met = refl }
  is_met (Some u) h =
      elim (find_in (λ i. meets_condition (state_on i) (Some u)) l (length vs - l)) [
        | inl found ↦ record {
          place = found.0;
          in_loop = found.1;
          within = omega (arith, count_is, lt, found.2);
          met = ap (λ s. meets_condition s (Some u)) (at_is found.0 (omega (arith, lt, found.2))) ∙ found.3;
        }
        | inr none ↦ absurd (never_met u h.0 h.1 none)
      ]
    where
      never_met : (u : NodeId × NodeId) (j : NodeId) → slice_get t.closure.nodes u.0.0 ≡ Some (node.Until j u.1)
          → ((i : ℕ) → l ≤ i → i < l + (length vs - l) → meets_condition (state_on i) (Some u) ≡ false) → ⊥
      never_met u j e none =
          let n = u.0.0 in
          let k = u.1.0 in
          let within : n < length t.closure.nodes = slice_get_within t.closure.nodes n (node.Until j u.1) e in
          let parts = and_parts (ltb j.0 n) (ltb k n) (closed.operands n (node.Until j u.1) e) in
          let g = operand n j.0 (ltb-true j.0 n parts.0) within in
          let h = operand n k (ltb-true k n parts.1) within in
          let s : StandsFor (members t.closure) n (core.Until g.0 h.0) = (j, u.1, e, g.1, h.1) in
          let in_start = (or_parts (not (has_member (state_on l) n)) (has_member (state_on l) k) (none l (omega arith) (omega arith))).0 in
          let reach = told l n (core.Until g.0 h.0) s (true_from_not (has_member (state_on l) n) in_start) in
          reach (λ q lo holds rest.
          let p = lasso_place (length vs) l q in
          let inside : p < length vs = place_within (length vs) l q lt in
          let place : p ≡ l + (q - l) % (length vs - l) = place_in_loop (length vs) l q lt lo in
          let off = (or_parts (not (has_member (state_on p) n)) (has_member (state_on p) k) (none p (omega (arith, place)) (omega (arith, inside)))).1 in
          true≢false (sym (tells q k h.0 h.1 holds) ∙ (sym (same_member q k h.0 h.1) ∙ off)))

  pub states_path : ValuesByKind → All (IsStateOver t.ports) vs → (question : List SignedNode) → IsQuestionOver t question
      → BreaksQuestion t question (word vs l) → IsTableauLasso t question states_on l
  states_path by_kind typed question over breaks = record {
    all_states =
        All-from_get_or (IsTableauState t) states_on (record { now = []; next = []; holding = [] }) (λ i h.
        subst (IsTableauState t) (sym (at_is i (omega (arith, count_is, h)))) (is_state by_kind typed i));
    steps = λ i h.
        subst₂ (IsTableauStep t) (sym (at_is i (omega (arith, count_is, h)))) (sym (at_is (i + 1) (omega (arith, count_is, h))))
        (step_on i);
    back = λ last e. goes_back last (e ∙ count_is);
    start = λ k d h.
        ap (λ s. has_member s (get_or question k d).node.0) (at_is 0 (omega (arith, lt)))
        ∙ signed (get_or question k d) (over k d h) (breaks k d h);
    fair = λ k d h. is_met (get_or (fairness t) k d) (conditions_are t k d h);
  }

pub states_of_lasso : ValuesByKind → (t : ClosureOverPorts) → IsClosure (members t.closure) → (question : List SignedNode)
    → IsQuestionOver t question → (lasso : Lasso) → IsWitness t.ports (WordHas (BreaksQuestion t question)) lasso
    → HasTableauLasso t question lasso
states_of_lasso by_kind t closed question over lasso h = record {
  states = states_on t closed lasso.states lasso.loop_at lasso.in_range;
  path = states_path t closed lasso.states lasso.loop_at lasso.in_range by_kind h.typed question over h.holds;
  shown = shown_is t closed lasso.states lasso.loop_at lasso.in_range;
}
