-- From what the base's calls say of two layers to what is said of a path and of its loop.
use Rattle.std.proofs.Common.{◌≡◌, ℕ, ◌+◌, ◌<◌, ◌≤◌, Bool, true, List, [], ◌++◌, length, get_or, take, drop, ◌-◌, Option, Some, None}
use Rattle.std.proofs.Common.{ltb, sym, ap, ◌∙◌, subst, subst₂, arith}
use Rattle.std.specs.Prelude.{All}
use Rattle.std.proofs.lemmas.Bool.{and_parts, ltb-true}
use Rattle.std.proofs.lemmas.List.{length-map, length-drop, get_or-map, take_all}
use Rattle.std.proofs.lemmas.List.Elements.{All-weaker, All-drop}
use Rattle.std.proofs.lemmas.Option.{same_Some, slice_get-get_or, slice_get_within}
use Rattle.std.specs.Prelude.{slice_get}
use Rattle.core_ltl.specs.declared.node.NodeId.{NodeId}
use Rattle.core_ltl.specs.declared.node.Node.TheVariants as node
use Rattle.core_ltl.specs.declared.question.SignedNode.{SignedNode}
use Rattle.core_ltl.specs.Nodes.{members, IsClosure}
use Rattle.cnf.specs.declared.lit.Lit.{Lit}
use Rattle.cnf.specs.Clauses.{lit_holds, clauses_hold, IsModel}
use Rattle.state_coding.proofs.StateLaws.{parts_hold, within_later}
use Rattle.tableau.specs.TableauStates.{ClosureOverPorts, TableauState, IsTableauStep, fairness}
use Rattle.tableau.specs.Copies.{LayerLits, IsCodedLayer, layer_state}
use Rattle.tableau.specs.Questions.{IsSignedIn}
use Rattle.lasso_search.specs.TableauLassos.{tableau_state_at, IsMetInLoop}
use Rattle.lasso_search.specs.Paths.{path_states, SomeMeets, ContinuesPath, ClosesLoop}
use Rattle.lasso_search.proofs.Conditions.{IsConditionOf, conditions_are}
use Rattle.lasso_search.proofs.SignClauses.{IsReadable, IsPairOver, IsConditionOver, met_in_loop, loop_meets}

pub readable : (n : ℕ) (clauses : List (List Lit)) (t : ClosureOverPorts) (layer : LayerLits) → IsCodedLayer n clauses t layer → IsReadable n t layer
readable n clauses t layer is = record { count = is.count; known = is.members }

pub all_readable : (n : ℕ) (clauses : List (List Lit)) (t : ClosureOverPorts) (layers : List LayerLits) → All (IsCodedLayer n clauses t) layers
    → All (IsReadable n t) layers
all_readable n clauses t layers h = All-weaker (IsCodedLayer n clauses t) (IsReadable n t) (λ layer is. readable n clauses t layer is) layers h

pub readable_in : (n : ℕ) (model : List Bool) (t : ClosureOverPorts) (layer : LayerLits) → n ≤ length model → IsReadable n t layer
    → IsReadable (length model) t layer
readable_in n model t layer le is = record { count = is.count; known = within_later n (length model) layer.members le is.known }

-- ---- the fairness conditions are over the closure

pub conditions_over : (t : ClosureOverPorts) → IsClosure (members t.closure) → All (IsConditionOver t) (fairness t)
conditions_over t closed =
    All-weaker (IsConditionOf t.closure.nodes) (IsConditionOver t) (λ c h. over c h) (fairness t) (conditions_are t)
  where
    over : (c : Option (NodeId × NodeId)) → IsConditionOf t.closure.nodes c → IsConditionOver t c
    over None h = tt
    over (Some u) h =
        let within : u.0.0 < length t.closure.nodes = slice_get_within t.closure.nodes u.0.0 (node.Until h.0 u.1) h.1 in
        let parts = and_parts (ltb h.0.0 u.0.0) (ltb u.1.0 u.0.0) (closed.operands u.0.0 (node.Until h.0 u.1) h.1) in
        let before : u.1.0 < u.0.0 = ltb-true u.1.0 u.0.0 parts.1 in
        record { left = within; right = omega (arith, within, before) }

pub pair_at : (t : ClosureOverPorts) → IsClosure (members t.closure) → (j : ℕ) (condition : Option (NodeId × NodeId)) (u : NodeId × NodeId)
    → slice_get (fairness t) j ≡ Some condition → condition ≡ Some u → IsPairOver t u
pair_at t closed j condition u e is =
    let there : slice_get (fairness t) j ≡ Some (Some u) = e ∙ ap Some is in
    let within : j < length (fairness t) = slice_get_within (fairness t) j (Some u) there in
    let at : get_or (fairness t) j (Some u) ≡ Some u =
    same_Some (get_or (fairness t) j (Some u)) (Some u) (sym (slice_get-get_or (fairness t) j (Some u) within) ∙ there) in
    subst (IsConditionOver t) at (conditions_over t closed j (Some u) within)

-- ---- a layer that follows a path

module _ (t : ClosureOverPorts) (question : List SignedNode) (model : List Bool) (layers : List LayerLits) where
  -- a layer of the path, by its place
  place_is : (k : ℕ) (at : LayerLits) → k < length layers → at ≡ get_or layers k at
      → tableau_state_at (path_states model t layers) k ≡ layer_state model t at
  place_is k at h is =
      get_or-map (layer_state model t) layers k at (record { now = []; next = []; holding = [] }) h ∙ ap (layer_state model t) (sym is)

  count_is : length (path_states model t layers) ≡ length layers
  count_is = length-map layers (layer_state model t)

  pub follows_by_step : (layer from : LayerLits) (k : ℕ) → k + 1 ≡ length layers → from ≡ get_or layers k from
      → IsTableauStep t (layer_state model t from) (layer_state model t layer)
      → ContinuesPath t question (path_states model t layers) (layer_state model t layer)
  follows_by_step layer from k e is h = record {
    first = λ none. absurd (omega (arith, e, none, count_is));
    step = λ last end.
        let same : k ≡ last = omega (arith, e, end, count_is) in
        subst (λ (i : ℕ). IsTableauStep t (tableau_state_at (path_states model t layers) i) (layer_state model t layer)) same
        (subst (λ (s : TableauState). IsTableauStep t s (layer_state model t layer)) (sym (place_is k from (omega (arith, e)) is)) h);
  }

  pub step_of_follows : (layer from : LayerLits) (k : ℕ) → k + 1 ≡ length layers → from ≡ get_or layers k from
      → ContinuesPath t question (path_states model t layers) (layer_state model t layer)
      → IsTableauStep t (layer_state model t from) (layer_state model t layer)
  step_of_follows layer from k e is f =
      subst (λ (s : TableauState). IsTableauStep t s (layer_state model t layer)) (place_is k from (omega (arith, e)) is)
      (f.step k (e ∙ sym count_is))

  pub follows_by_signs : (layer : LayerLits) → length layers ≡ 0 → All (IsSignedIn (layer_state model t layer)) question
      → ContinuesPath t question (path_states model t layers) (layer_state model t layer)
  follows_by_signs layer none h = record {
    first = λ e. h;
    step = λ last end. absurd (omega (arith, none, end, count_is));
  }

  pub signs_of_follows : (layer : LayerLits) → length layers ≡ 0
      → ContinuesPath t question (path_states model t layers) (layer_state model t layer) → All (IsSignedIn (layer_state model t layer)) question
  signs_of_follows layer none f = f.first (count_is ∙ none)

  -- ---- the loop of a path

  pub closes_from : (l k : ℕ) (from to : LayerLits) → k + 1 ≡ length layers → l < length layers → from ≡ get_or layers k from
      → to ≡ get_or layers l to → IsTableauStep t (layer_state model t from) (layer_state model t to)
      → All (SomeMeets (path_states model t (drop l layers))) (fairness t) → ClosesLoop t l (path_states model t layers)
  closes_from l k from to end inside ef et step fair = record {
    back = λ last is_last.
        let same : k ≡ last = omega (arith, end, is_last, count_is) in
        subst (λ (i : ℕ). IsTableauStep t (tableau_state_at (path_states model t layers) i) (tableau_state_at (path_states model t layers) l)) same
        (subst₂ (IsTableauStep t) (sym (place_is k from (omega (arith, end)) ef)) (sym (place_is l to inside et)) step);
    fair = All-weaker (SomeMeets (path_states model t (drop l layers))) (IsMetInLoop (path_states model t layers) l)
        (λ c h. met_in_loop model t layers l c h) (fairness t) fair;
  }

  pub step_of_closes : (l k : ℕ) (from to : LayerLits) → k + 1 ≡ length layers → l < length layers → from ≡ get_or layers k from
      → to ≡ get_or layers l to → ClosesLoop t l (path_states model t layers)
      → IsTableauStep t (layer_state model t from) (layer_state model t to)
  step_of_closes l k from to end inside ef et h =
      subst₂ (IsTableauStep t) (place_is k from (omega (arith, end)) ef) (place_is l to inside et) (h.back k (end ∙ sym count_is))

  pub fair_of_closes : (l : ℕ) → ClosesLoop t l (path_states model t layers)
      → All (SomeMeets (path_states model t (drop l layers))) (fairness t)
  fair_of_closes l h =
      All-weaker (IsMetInLoop (path_states model t layers) l) (SomeMeets (path_states model t (drop l layers)))
      (λ c met. loop_meets model t layers l c met) (fairness t) h.fair

-- ---- the two parts of a loop's clauses: the step back, and that it is fair

-- the last layer, and the one to which it steps back
pub record AreEnds (layers : List LayerLits) (l last : ℕ) (from to : LayerLits) : Type 0 where
  pub end : last + 1 ≡ length layers
  pub inside : l < length layers
  pub is_from : from ≡ get_or layers last from
  pub is_to : to ≡ get_or layers l to

-- the layers from one place on
abbrev pub loop_part : ℕ → List LayerLits → List LayerLits
loop_part l layers = take (length layers - l) (drop l layers)

loop_part_is : (l : ℕ) (layers : List LayerLits) → loop_part l layers ≡ drop l layers
loop_part_is l layers = take_all (length layers - l) (drop l layers) (omega (arith, length-drop l layers))

pub loop_part_coded : (n : ℕ) (clauses : List (List Lit)) (t : ClosureOverPorts) (l : ℕ) (layers : List LayerLits)
    → All (IsCodedLayer n clauses t) layers → All (IsCodedLayer n clauses t) (loop_part l layers)
loop_part_coded n clauses t l layers is =
    subst (All (IsCodedLayer n clauses t)) (sym (loop_part_is l layers)) (All-drop (IsCodedLayer n clauses t) l layers is)

module _ (t : ClosureOverPorts) (layers : List LayerLits) (l last : ℕ) (from to : LayerLits) (under : Lit)
    (ends : AreEnds layers l last from to) where
  abbrev pub StepsBack : List Bool → Type 0
  StepsBack model = IsTableauStep t (layer_state model t from) (layer_state model t to)

  abbrev pub IsFairLoop : List Bool → Type 0
  IsFairLoop model = All (SomeMeets (path_states model t (loop_part l layers))) (fairness t)

  fair_part : (model : List Bool) → All (SomeMeets (path_states model t (drop l layers))) (fairness t) → IsFairLoop model
  fair_part model h = subst (λ (xs : List LayerLits). All (SomeMeets (path_states model t xs)) (fairness t)) (sym (loop_part_is l layers)) h

  fair_drop : (model : List Bool) → IsFairLoop model → All (SomeMeets (path_states model t (drop l layers))) (fairness t)
  fair_drop model h = subst (λ (xs : List LayerLits). All (SomeMeets (path_states model t xs)) (fairness t)) (loop_part_is l layers) h

  pub closes_by_parts : (m k : ℕ) (mid newer : List (List Lit)) → k ≡ m → ((added : List (List Lit)) × (newer ≡ mid ++ added))
      → ((model : List Bool) → m ≤ length model → clauses_hold model mid ≡ true → lit_holds model under ≡ true → StepsBack model)
      → ((model : List Bool) → k ≤ length model → clauses_hold model newer ≡ true → lit_holds model under ≡ true → IsFairLoop model)
      → (model : List Bool) → k ≤ length model → clauses_hold model newer ≡ true → lit_holds model under ≡ true
      → ClosesLoop t l (path_states model t layers)
  closes_by_parts m k mid newer same more steps fair model le h on =
      let at_mid = (parts_hold model mid more.0 (sym (ap (clauses_hold model) more.1) ∙ h)).0 in
      closes_from t [] model layers l last from to ends.end ends.inside ends.is_from ends.is_to (steps model (omega (arith, le, same)) at_mid on)
      (fair_drop model (fair model le h on))

  pub kept_by_step : (n m : ℕ) (older mid : List (List Lit))
      → ((model : List Bool) → IsModel n older model → (lit_holds model under ≡ true → StepsBack model) → IsModel m mid model)
      → (model : List Bool) → IsModel n older model
      → (lit_holds model under ≡ true → ClosesLoop t l (path_states model t layers)) → IsModel m mid model
  kept_by_step n m older mid kept model is h =
      kept model is (λ on. step_of_closes t [] model layers l last from to ends.end ends.inside ends.is_from ends.is_to (h on))

  pub kept_by_parts : (n m k : ℕ) (older mid newer : List (List Lit))
      → ((model : List Bool) → IsModel n older model → (lit_holds model under ≡ true → StepsBack model) → IsModel m mid model)
      → ((model : List Bool) → IsModel m mid model → (lit_holds model under ≡ true → IsFairLoop model) → IsModel k newer model)
      → (model : List Bool) → IsModel n older model
      → (lit_holds model under ≡ true → ClosesLoop t l (path_states model t layers)) → IsModel k newer model
  kept_by_parts n m k older mid newer steps fair model is h =
      fair model (kept_by_step n m older mid steps model is h) (λ on. fair_part model (fair_of_closes t [] model layers l (h on)))
