-- From a lasso of tableau states to a lasso that breaks the question: a member is in a state exactly where it holds.
use Rattle.std.proofs.Common.{◌≡◌, ℕ, zero, suc, ◌+◌, ◌-◌, ◌<◌, ◌≤◌, Bool, true, false, not, ◌&&◌, ◌||◌, List, [], ◌∷◌, map, length, get_or, slice_get}
use Rattle.std.proofs.Common.{Option, Some, inl, inr, sym, ap, ◌∙◌, subst, subst₂, arith}
use Rattle.std.specs.Prelude.{Contains}
use Rattle.std.specs.List.{position_or_len}
use Rattle.std.proofs.lemmas.Bool.{and_from, and_parts, cases_lt, true_from_ne_false, false_from_ne_true, true≢false}
use Rattle.std.proofs.lemmas.List.{length-map, get_or-map, get_or_default}
use Rattle.std.proofs.lemmas.List.Elements.{All-contains}
use Rattle.std.proofs.lemmas.Option.{get_or_from_slice_get}
use Rattle.port_types.specs.declared.types.PortType.{PortType}
use Rattle.port_types.specs.declared.types.Value.{Value}
use Rattle.typed_ltl.specs.declared.lasso.Lasso.{Lasso}
use Rattle.typed_ltl.specs.Formulas.{proposition_of}
use Rattle.typed_ltl.specs.Formulas as form
use Rattle.typed_ltl.specs.Traces.{Trace, assignment, lasso_place}
use Rattle.typed_ltl.specs.Truth.{HoldsUntil, proposition_truth}
use Rattle.typed_ltl.proofs.Periodicity.{place_before, place_recurs, place_end}
use Rattle.typed_ltl.proofs.Untils.{Table, Backwards, back_told, back_tells}
use Rattle.core_ltl.specs.declared.node.NodeId.{NodeId}
use Rattle.core_ltl.specs.declared.node.Node.TheVariants as node
use Rattle.core_ltl.specs.declared.question.SignedNode.{SignedNode}
use Rattle.core_ltl.specs.CoreFormulas.{Core, CoreHolds}
use Rattle.core_ltl.specs.CoreFormulas as core
use Rattle.core_ltl.specs.Nodes.{members, node_eq, StandsFor, IsClosure}
use Rattle.core_ltl.specs.NodeHash.{node_sound, node_refl}
use Rattle.core_ltl.specs.Questions.{HasSign}
use Rattle.core_ltl.proofs.Added.{place_there}
use Rattle.core_ltl.proofs.NodeFormulas.{each_node}
use Rattle.state_coding.specs.States.{IsValuation}
use Rattle.tableau.specs.TableauStates.{ClosureOverPorts, TableauState, IsTableauState, IsTableauStep}
use Rattle.tableau.specs.TableauStates.{has_member, atom_at, fairness, meets_condition}
use Rattle.first_lasso.specs.Lassos.{IsStateOver, WordHas, lasso_word}
use Rattle.first_lasso.specs.FirstLassos.{IsWitness}
use Rattle.first_lasso.proofs.Words.{place_within}
use Rattle.tableau.specs.Questions.{IsQuestionOver, BreaksQuestion, IsSignedIn}
use Rattle.lasso_search.specs.TableauLassos.{tableau_state_at}
use Rattle.lasso_search.specs.TableauLassos.{IsMetInLoop, IsTableauLasso, HasTableauLasso}
use Rattle.lasso_search.proofs.WordTruth.{reaches_here}
use Rattle.lasso_search.proofs.Conditions.{conditions_listed}
use Rattle.lasso_search.proofs.TruthStates.{ValuesByKind}

pub state_from : ValuesByKind → (ports : List PortType) (s : List Value) → IsValuation ports s → IsStateOver ports s
state_from by_kind [] [] h = tt
state_from by_kind [] (v ∷ s) h = absurd h
state_from by_kind (t ∷ ports) [] h = absurd h
state_from by_kind (t ∷ ports) (v ∷ s) h = ((by_kind t v).0 h.0, state_from by_kind ports s h.1)

module _ (t : ClosureOverPorts) (closed : IsClosure (members t.closure)) (question : List SignedNode) (states : List TableauState) (l : ℕ)
    (lt : l < length states) (path : IsTableauLasso t question states l) (w : Trace)
    (on : (i : ℕ) → w i ≡ assignment (tableau_state_at states (lasso_place (length states) l i)).now) where
  -- the state of position i
  abbrev state_on : ℕ → TableauState
  state_on i = tableau_state_at states (lasso_place (length states) l i)

  is_state : (i : ℕ) → IsTableauState t (state_on i)
  is_state i =
      path.all_states (lasso_place (length states) l i) (record { now = []; next = []; holding = [] }) (place_within (length states) l i lt)

  own_step : (i : ℕ) → i < length states → IsTableauStep t (state_on i) (state_on (i + 1))
  own_step i h =
      let from = ap (tableau_state_at states) (sym (place_before (length states) l i h)) in
      elim (cases_lt (i + 1) (length states)) [
        | inl more ↦
            subst₂ (IsTableauStep t) from (ap (tableau_state_at states) (sym (place_before (length states) l (i + 1) more))) (path.steps i more)
        | inr end ↦
            let last : i + 1 ≡ length states = omega arith in
            subst₂ (IsTableauStep t) from (ap (tableau_state_at states) (sym (place_end (length states) l (i + 1) lt last))) (path.back i last)
      ]

  turned : (i j : ℕ) → l ≤ j → j + (length states - l) ≡ i → state_on j ≡ state_on i
  turned i j le e =
      ap (tableau_state_at states) (sym (place_recurs (length states) l j lt le) ∙ ap (lasso_place (length states) l) e)

  step_below : (m i : ℕ) → i < m → IsTableauStep t (state_on i) (state_on (i + 1))
  step_below zero i h = absurd (omega arith)
  step_below (suc m) i h =
      elim (cases_lt i (length states)) [
        | inl here ↦ own_step i here
        | inr past ↦
            let j : ℕ = i - (length states - l) in
            let turn : j + (length states - l) ≡ i = omega arith in
            let turn_next : (j + 1) + (length states - l) ≡ i + 1 = omega arith in
            subst₂ (IsTableauStep t) (turned i j (omega arith) turn) (turned (i + 1) (j + 1) (omega arith) turn_next)
            (step_below m j (omega arith))
      ]

  step : (i : ℕ) → IsTableauStep t (state_on i) (state_on (i + 1))
  step i = step_below (i + 1) i (omega arith)

  -- a place of the loop comes again
  again : (p i : ℕ) → l ≤ p → p < length states → (j : ℕ) × (i ≤ j) × (l ≤ j) × (lasso_place (length states) l j ≡ p)
  again p zero le h = (p, omega arith, le, place_before (length states) l p h)
  again p (suc i) le h =
      let before = again p i le h in
      (before.0 + (length states - l), omega (arith, before.1), omega (arith, before.2), place_recurs (length states) l before.0 lt before.2 ∙ before.3)

  met_again : (c : Option (NodeId × NodeId)) → Contains (fairness t) c → (i : ℕ)
      → (j : ℕ) × (i ≤ j) × (meets_condition (state_on j) c ≡ true)
  met_again c has i =
      let met = All-contains (IsMetInLoop states l) (fairness t) c path.fair has in
      let later = again met.place i met.in_loop met.within in
      (later.0, later.1, ap (λ k. meets_condition (tableau_state_at states k) c) later.3 ∙ met.met)

  -- the truth of a node is whether it is in the state
  abbrev Agrees : ℕ → (ℕ → Type 0) → Type 0
  Agrees n P = (i : ℕ) → (has_member (state_on i) n ≡ true → P i) × (P i → has_member (state_on i) n ≡ true)

  atom_agrees : (n : ℕ) (p : form.Proposition) → StandsFor (members t.closure) n (core.Atomic p) → Agrees n (CoreHolds w (core.Atomic p))
  atom_agrees n p s i =
      let fact : atom_at t s.0 ≡ p = get_or_from_slice_get (map proposition_of t.closure.atoms) s.0.0 p (form.TruthAt 0 false) s.2 in
      let now : assignment (state_on i).now ≡ w i = sym (on i) in
      let next : assignment (state_on i).next ≡ w (i + 1) = ap assignment (step i).valuation ∙ sym (on (i + 1)) in
      let same : has_member (state_on i) n ≡ proposition_truth (w i) (w (i + 1)) p =
      (is_state i).forms n (node.Atom s.0) s.1 ∙ (λ z. proposition_truth (now z) (next z) (fact z)) in
      (λ h. sym same ∙ h, λ h. same ∙ h)

  not_agrees : (n : ℕ) (k : NodeId) (P : ℕ → Type 0) → slice_get t.closure.nodes n ≡ Some (node.Not k) → Agrees k.0 P
      → Agrees n (λ i. P i → ⊥)
  not_agrees n k P e a i =
      let form : has_member (state_on i) n ≡ not (has_member (state_on i) k.0) = (is_state i).forms n (node.Not k) e in (
        λ h y. true≢false (sym h ∙ (form ∙ ap not ((a i).1 y))),
        λ no. form ∙ ap not (false_from_ne_true (has_member (state_on i) k.0) (λ y. no ((a i).0 y))),
      )

  and_agrees : (n : ℕ) (j k : NodeId) (P Q : ℕ → Type 0) → slice_get t.closure.nodes n ≡ Some (node.And j k) → Agrees j.0 P
      → Agrees k.0 Q → Agrees n (λ i. P i × Q i)
  and_agrees n j k P Q e a b i =
      let x = has_member (state_on i) j.0 in
      let y = has_member (state_on i) k.0 in
      let form : has_member (state_on i) n ≡ (x && y) = (is_state i).forms n (node.And j k) e in (
        λ h. let both = and_parts x y (sym form ∙ h) in ((a i).0 both.0, (b i).0 both.1),
        λ h. form ∙ and_from x y ((a i).1 h.0) ((b i).1 h.1),
      )

  next_agrees : (n : ℕ) (k : NodeId) (P : ℕ → Type 0) → slice_get t.closure.nodes n ≡ Some (node.Next k) → Agrees k.0 P
      → Agrees n (λ i. P (i + 1))
  next_agrees n k P e a i =
      let same = (step i).nexts n k e in
      (λ h. (a (i + 1)).0 (sym same ∙ h), λ h. same ∙ (a (i + 1)).1 h)

  unfolds : (n : ℕ) (j k : NodeId) → slice_get t.closure.nodes n ≡ Some (node.Until j k) → (i : ℕ)
      → has_member (state_on i) n ≡ (has_member (state_on i) k.0 || (has_member (state_on i) j.0 && has_member (state_on (i + 1)) n))
  unfolds n j k e i =
      let until : NodeId = record { 0 = n } in
      let there = closed.nexts until j k e in
      let x = position_or_len (node_eq (node.Next until)) t.closure.nodes in
      let nx : slice_get t.closure.nodes x ≡ Some (node.Next until) =
      place_there node_eq node_sound node_refl t.closure.nodes (node.Next until) there in
      (is_state i).forms n (node.Until j k) e x nx
      ∙ ap (λ b. has_member (state_on i) k.0 || (has_member (state_on i) j.0 && b)) ((step i).nexts x until nx)

  until_agrees : (n : ℕ) (j k : NodeId) (P Q : ℕ → Type 0) → slice_get t.closure.nodes n ≡ Some (node.Until j k) → Agrees j.0 P
      → Agrees k.0 Q → Agrees n (HoldsUntil P Q)
  until_agrees n j k P Q e a b i = (
    λ h.
        let later = met_again (Some (record { 0 = n }, k)) (conditions_listed t n j k e) i in
        let m = later.0 in
        let end : u m ≡ true → HoldsUntil P Q m = λ y.
        reaches_here P Q m ((b m).0 (right_side (u m) (g m) y later.2)) in
        back_told P Q m f g u (left m) (right m) (back m) end (m - i) i (omega (arith, later.1)) h,
    λ r. true_from_ne_false (u i) (λ no. r (λ m le q rest.
        let yes : u i ≡ true =
        back_tells P Q (m + 1) f g u (left (m + 1)) (right (m + 1)) (back (m + 1)) (m - i) i m (omega arith) (omega arith) q rest in
        true≢false (sym yes ∙ no))),
  )
    where
      f : ℕ → Bool
      f i = has_member (state_on i) j.0

      g : ℕ → Bool
      g i = has_member (state_on i) k.0

      u : ℕ → Bool
      u i = has_member (state_on i) n

      left : (m : ℕ) → Table m f P
      left m = record { told = λ i lt. (a i).0; tells = λ i lt. (a i).1 }

      right : (m : ℕ) → Table m g Q
      right m = record { told = λ i lt. (b i).0; tells = λ i lt. (b i).1 }

      back : (m : ℕ) → Backwards m f g u
      back m = record { step = λ i lt. unfolds n j k e i }

      right_side : (x y : Bool) → x ≡ true → (not x || y) ≡ true → y ≡ true
      right_side true y h o = o
      right_side false y h o = absurd (true≢false (sym h))

  members_tell : (f : Core) (n : ℕ) → StandsFor (members t.closure) n f → Agrees n (CoreHolds w f)
  members_tell core.True n s = λ i. (λ h. tt, λ h. (is_state i).forms n node.True s)
  members_tell (core.Atomic p) n s = atom_agrees n p s
  members_tell (core.Not f) n s = not_agrees n s.0 (CoreHolds w f) s.1 (members_tell f s.0.0 s.2)
  members_tell (core.And f g) n s =
      and_agrees n s.0 s.1 (CoreHolds w f) (CoreHolds w g) s.2 (members_tell f s.0.0 s.3) (members_tell g s.1.0 s.4)
  members_tell (core.Next f) n s = next_agrees n s.0 (CoreHolds w f) s.1 (members_tell f s.0.0 s.2)
  members_tell (core.Until f g) n s =
      until_agrees n s.0 s.1 (CoreHolds w f) (CoreHolds w g) s.2 (members_tell f s.0.0 s.3) (members_tell g s.1.0 s.4)

  signed : (x : SignedNode) → x.node.0 < length t.closure.nodes → IsSignedIn (tableau_state_at states 0) x
      → HasSign (members t.closure) w 0 x
  signed x within h =
      let n = x.node.0 in
      let here : has_member (state_on 0) n ≡ x.positive =
      ap (λ k. has_member (tableau_state_at states k) n) (place_before (length states) l 0 (omega arith)) ∙ h in
      let f = each_node (members t.closure) closed n within in record {
        positive = λ e. (f.0, f.1, (members_tell f.0 n f.1 0).0 (here ∙ e));
        negative = λ e y. true≢false (sym ((members_tell y.0 n y.1 0).1 y.2) ∙ (here ∙ e));
      }

  pub path_breaks : IsQuestionOver t question → BreaksQuestion t question w
  path_breaks over k d h = signed (get_or question k d) (over k d h) (path.start k d h)

pub lasso_of_states : ValuesByKind → (t : ClosureOverPorts) → IsClosure (members t.closure) → (question : List SignedNode)
    → IsQuestionOver t question → (lasso : Lasso) → HasTableauLasso t question lasso
    → IsWitness t.ports (WordHas (BreaksQuestion t question)) lasso
lasso_of_states by_kind t closed question over lasso h =
    let l = lasso.loop_at in
    let long : length h.states ≡ length lasso.states =
    sym (length-map h.states (λ (s : TableauState). s.now)) ∙ ap (λ (vs : List (List Value)). length vs) h.shown in
    let lt : l < length h.states = omega (arith, lasso.in_range, long) in
    let at : (k : ℕ) → k < length h.states → get_or lasso.states k [] ≡ (tableau_state_at h.states k).now = λ k le.
    ap (λ (vs : List (List Value)). get_or vs k []) (sym h.shown)
    ∙ get_or-map (λ (s : TableauState). s.now) h.states k (record { now = []; next = []; holding = [] }) [] le in
    let on : (i : ℕ) → lasso_word lasso i ≡ assignment (tableau_state_at h.states (lasso_place (length h.states) l i)).now = λ i.
    ap assignment (ap (λ n. get_or lasso.states (lasso_place n l i) []) (sym long)
    ∙ at (lasso_place (length h.states) l i) (place_within (length h.states) l i lt)) in
    record {
      typed = λ k d le.
          let inside : k < length h.states = omega (arith, long, le) in
          subst (IsStateOver t.ports) (sym (at k inside) ∙ get_or_default lasso.states k [] d le)
          (state_from by_kind t.ports (tableau_state_at h.states k).now
          (h.path.all_states k (record { now = []; next = []; holding = [] }) inside).now);
      holds = path_breaks t closed question h.states l lt h.path (lasso_word lasso) on over;
    }
