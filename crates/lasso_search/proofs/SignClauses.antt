-- What the clauses of signs and of fairness say of the layers, and that they fit.
use Rattle.std.proofs.Common.{◌≡◌, ℕ, zero, suc, ◌+◌, ◌-◌, ◌<◌, Bool, true, false, not, cond, ◌||◌, List, [], ◌∷◌, length, drop}
use Rattle.std.proofs.Common.{Option, Some, None, inl, inr, refl, sym, ap, ◌∙◌, subst, arith}
use Rattle.std.specs.Prelude.{All}
use Rattle.std.proofs.lemmas.Bool.{and_parts, and_from, or_left, or_right, or_cases, cases_Bool, true≢false}
use Rattle.std.proofs.lemmas.List.{length-map, length-drop}
use Rattle.std.proofs.lemmas.List.Elements.{All-nil, All-cons, All-head, All-tail}
use Rattle.std.proofs.Math.Seq.{get_or-drop}
use Rattle.core_ltl.specs.declared.node.NodeId.{NodeId}
use Rattle.core_ltl.specs.declared.question.SignedNode.{SignedNode}
use Rattle.cnf.specs.declared.lit.Lit.{Lit}
use Rattle.cnf.specs.Clauses.{opposite, lit_holds, clause_holds, clauses_hold}
use Rattle.cnf.specs.Gates.{literal}
use Rattle.cnf.proofs.ModelLaws.{lit_holds-opposite}
use Rattle.tableau.specs.TableauStates.{ClosureOverPorts, TableauState, meets_condition}
use Rattle.tableau.specs.Copies.{LayerLits, layer_state, member_literal}
use Rattle.tableau.proofs.Places.{member_value}
use Rattle.tableau.specs.Questions.{IsSignedIn}
use Rattle.lasso_search.specs.TableauLassos.{tableau_state_at, IsMetInLoop}
use Rattle.tableau.specs.Questions.{signed_literal}
use Rattle.lasso_search.specs.Paths.{path_states, SomeMeets, sign_clauses, fair_literals, all_fair_clauses}

not_true : (b : Bool) → not b ≡ true → b ≡ false
not_true true e = sym e
not_true false e = refl

-- ---- a clause under a literal

pub under_says : (model : List Bool) (under : Lit) (lits : List Lit) → under.var < length model
    → clause_holds model (opposite under ∷ lits) ≡ true → lit_holds model under ≡ true → clause_holds model lits ≡ true
under_says model under lits known h on =
    elim (or_cases (lit_holds model (opposite under)) (clause_holds model lits) h) [
      | inl off ↦ absurd (true≢false (sym off ∙ (lit_holds-opposite model under known ∙ ap not on)))
      | inr rest ↦ rest
    ]

pub under_fits : (model : List Bool) (under : Lit) (lits : List Lit) → under.var < length model
    → (lit_holds model under ≡ true → clause_holds model lits ≡ true) → clause_holds model (opposite under ∷ lits) ≡ true
under_fits model under lits known h =
    elim (cases_Bool (lit_holds model under)) [
      | inl on ↦ or_right (lit_holds model (opposite under)) (clause_holds model lits) (h on)
      | inr off ↦ or_left (lit_holds model (opposite under)) (clause_holds model lits) (lit_holds-opposite model under known ∙ ap not off)
    ]

sole_says : (b : Bool) → (b || false) ≡ true → b ≡ true
sole_says true h = refl
sole_says false h = h

-- ---- signs

-- a layer of all members, with literals of n variables
pub record IsReadable (n : ℕ) (t : ClosureOverPorts) (layer : LayerLits) : Type 0 where
  pub count : length layer.members ≡ length t.closure.nodes
  pub known : All (λ lit. lit.var < n) layer.members

member_known : (m : ℕ) (t : ClosureOverPorts) (layer : LayerLits) (n : ℕ) → IsReadable m t layer → n < length t.closure.nodes
    → (member_literal layer n).var < m
member_known m t layer n is h = is.known n (literal 0) (omega (arith, h, is.count))

by_sign : (model : List Bool) (lit : Lit) (p : Bool) → lit.var < length model
    → (lit_holds model (cond p lit (opposite lit)) ≡ true → lit_holds model lit ≡ p)
    × (lit_holds model lit ≡ p → lit_holds model (cond p lit (opposite lit)) ≡ true)
by_sign model lit true known = (λ h. h, λ h. h)
by_sign model lit false known = (
  λ h. not_true (lit_holds model lit) (sym (lit_holds-opposite model lit known) ∙ h),
  λ h. lit_holds-opposite model lit known ∙ ap not h,
)

sign_is : (model : List Bool) (t : ClosureOverPorts) (layer : LayerLits) (x : SignedNode) → IsReadable (length model) t layer
    → x.node.0 < length t.closure.nodes
    → (lit_holds model (signed_literal layer x) ≡ true → IsSignedIn (layer_state model t layer) x)
    × (IsSignedIn (layer_state model t layer) x → lit_holds model (signed_literal layer x) ≡ true)
sign_is model t layer x is h =
    let value = member_value model t layer x.node.0 (omega (arith, h, is.count)) in
    let both = by_sign model (member_literal layer x.node.0) x.positive (member_known (length model) t layer x.node.0 is h) in
    (λ y. value ∙ both.0 y, λ y. both.1 (sym value ∙ y))

module _ (model : List Bool) (t : ClosureOverPorts) (layer : LayerLits) (under : Lit) (is : IsReadable (length model) t layer)
    (known : under.var < length model) where
  pub signs_say : (question : List SignedNode) → All (λ x. x.node.0 < length t.closure.nodes) question
      → clauses_hold model (sign_clauses under layer question) ≡ true → lit_holds model under ≡ true
      → All (IsSignedIn (layer_state model t layer)) question
  signs_say [] over h on = All-nil (IsSignedIn (layer_state model t layer))
  signs_say (x ∷ question) over h on =
      let parts = and_parts (clause_holds model (opposite under ∷ signed_literal layer x ∷ [])) (clauses_hold model (sign_clauses under layer question)) h in
      let lit = sole_says (lit_holds model (signed_literal layer x)) (under_says model under (signed_literal layer x ∷ []) known parts.0 on) in
      All-cons (IsSignedIn (layer_state model t layer)) x question
      ((sign_is model t layer x is (All-head (λ (y : SignedNode). y.node.0 < length t.closure.nodes) x question over)).0 lit)
      (signs_say question (All-tail (λ (y : SignedNode). y.node.0 < length t.closure.nodes) x question over) parts.1 on)

  pub signs_fit : (question : List SignedNode) → All (λ x. x.node.0 < length t.closure.nodes) question
      → (lit_holds model under ≡ true → All (IsSignedIn (layer_state model t layer)) question)
      → clauses_hold model (sign_clauses under layer question) ≡ true
  signs_fit [] over h = refl
  signs_fit (x ∷ question) over h =
      and_from (clause_holds model (opposite under ∷ signed_literal layer x ∷ [])) (clauses_hold model (sign_clauses under layer question))
      (under_fits model under (signed_literal layer x ∷ []) known (λ on.
      or_left (lit_holds model (signed_literal layer x)) false
      ((sign_is model t layer x is (All-head (λ (y : SignedNode). y.node.0 < length t.closure.nodes) x question over)).1
      (All-head (IsSignedIn (layer_state model t layer)) x question (h on)))))
      (signs_fit question (All-tail (λ (y : SignedNode). y.node.0 < length t.closure.nodes) x question over) (λ on.
      All-tail (IsSignedIn (layer_state model t layer)) x question (h on)))

-- ---- fairness

-- an until of the closure and its right side
pub record IsPairOver (t : ClosureOverPorts) (until : NodeId × NodeId) : Type 0 where
  pub left : until.0.0 < length t.closure.nodes
  pub right : until.1.0 < length t.closure.nodes

condition_is : (model : List Bool) (t : ClosureOverPorts) (layer : LayerLits) (u : NodeId × NodeId) → IsReadable (length model) t layer → IsPairOver t u
    → (lit_holds model (opposite (member_literal layer u.0.0)) || lit_holds model (member_literal layer u.1.0))
    ≡ meets_condition (layer_state model t layer) (Some u)
condition_is model t layer u is over =
    let left = member_value model t layer u.0.0 (omega (arith, over.left, is.count)) in
    let right = member_value model t layer u.1.0 (omega (arith, over.right, is.count)) in
    let off = lit_holds-opposite model (member_literal layer u.0.0) (member_known (length model) t layer u.0.0 is over.left) ∙ ap not (sym left) in
    λ j. off j || sym right j

module _ (model : List Bool) (t : ClosureOverPorts) (u : NodeId × NodeId) (over : IsPairOver t u) where
  fair_says : (layers : List LayerLits) → All (IsReadable (length model) t) layers → clause_holds model (fair_literals u layers) ≡ true
      → SomeMeets (path_states model t layers) (Some u)
  fair_says [] is h = absurd (true≢false (sym h))
  fair_says (layer ∷ layers) is h =
      let a = lit_holds model (opposite (member_literal layer u.0.0)) in
      let b = lit_holds model (member_literal layer u.1.0) in
      let c = clause_holds model (fair_literals u layers) in
      let first = All-head (IsReadable (length model) t) layer layers is in
      let later = λ (e : c ≡ true). fair_says layers (All-tail (IsReadable (length model) t) layer layers is) e in
      elim (or_cases a (b || c) h) [
        | inl e ↦ record { place = 0; within = omega arith; met = sym (condition_is model t layer u first over) ∙ or_left a b e }
        | inr rest ↦ elim (or_cases b c rest) [
          | inl e ↦ record { place = 0; within = omega arith; met = sym (condition_is model t layer u first over) ∙ or_right a b e }
          | inr e ↦
              let r = later e in
              record { place = suc r.place; within = omega (arith, r.within); met = r.met }
        ]
      ]

  fair_fits : (layers : List LayerLits) → All (IsReadable (length model) t) layers → SomeMeets (path_states model t layers) (Some u)
      → clause_holds model (fair_literals u layers) ≡ true
  fair_fits [] is h = absurd (omega (arith, h.within))
  fair_fits (layer ∷ layers) is h =
      at h.place h.within h.met (λ k lt e. fair_fits layers (All-tail (IsReadable (length model) t) layer layers is)
      (record { place = k; within = lt; met = e }))
    where
      at : (k : ℕ) → k < length (path_states model t (layer ∷ layers))
          → meets_condition (tableau_state_at (path_states model t (layer ∷ layers)) k) (Some u) ≡ true
          → ((k : ℕ) → k < length (path_states model t layers)
          → meets_condition (tableau_state_at (path_states model t layers) k) (Some u) ≡ true
          → clause_holds model (fair_literals u layers) ≡ true)
          → clause_holds model (fair_literals u (layer ∷ layers)) ≡ true
      at zero lt e rest =
          let a = lit_holds model (opposite (member_literal layer u.0.0)) in
          let b = lit_holds model (member_literal layer u.1.0) in
          let c = clause_holds model (fair_literals u layers) in
          elim (or_cases a b (condition_is model t layer u (All-head (IsReadable (length model) t) layer layers is) over ∙ e)) [
            | inl y ↦ or_left a (b || c) y
            | inr y ↦ or_right a (b || c) (or_left b c y)
          ]
      at (suc k) lt e rest =
          let a = lit_holds model (opposite (member_literal layer u.0.0)) in
          let b = lit_holds model (member_literal layer u.1.0) in
          let c = clause_holds model (fair_literals u layers) in
          or_right a (b || c) (or_right b c (rest k (omega (arith, lt)) e))

-- the condition is over the closure
abbrev pub IsConditionOver : ClosureOverPorts → Option (NodeId × NodeId) → Type 0
IsConditionOver t None = Unit {0}
IsConditionOver t (Some u) = IsPairOver t u

module _ (model : List Bool) (t : ClosureOverPorts) (under : Lit) (layers : List LayerLits) (is : All (IsReadable (length model) t) layers)
    (known : under.var < length model) (some : 0 < length layers) where
  any_meets_true : SomeMeets (path_states model t layers) None
  any_meets_true = record { place = 0; within = omega (arith, some, length-map layers (layer_state model t)); met = refl }

  pub all_fair_say : (conditions : List (Option (NodeId × NodeId))) → All (IsConditionOver t) conditions
      → clauses_hold model (all_fair_clauses under layers conditions) ≡ true → lit_holds model under ≡ true
      → All (SomeMeets (path_states model t layers)) conditions
  all_fair_say [] over h on = All-nil (SomeMeets (path_states model t layers))
  all_fair_say (None ∷ conditions) over h on =
      All-cons (SomeMeets (path_states model t layers)) None conditions any_meets_true
      (all_fair_say conditions (All-tail (IsConditionOver t) None conditions over) h on)
  all_fair_say (Some u ∷ conditions) over h on =
      let parts = and_parts (clause_holds model (opposite under ∷ fair_literals u layers)) (clauses_hold model (all_fair_clauses under layers conditions)) h in
      All-cons (SomeMeets (path_states model t layers)) (Some u) conditions
      (fair_says model t u (All-head (IsConditionOver t) (Some u) conditions over) layers is
      (under_says model under (fair_literals u layers) known parts.0 on))
      (all_fair_say conditions (All-tail (IsConditionOver t) (Some u) conditions over) parts.1 on)

  pub all_fair_fit : (conditions : List (Option (NodeId × NodeId))) → All (IsConditionOver t) conditions
      → (lit_holds model under ≡ true → All (SomeMeets (path_states model t layers)) conditions)
      → clauses_hold model (all_fair_clauses under layers conditions) ≡ true
  all_fair_fit [] over h = refl
  all_fair_fit (None ∷ conditions) over h =
      all_fair_fit conditions (All-tail (IsConditionOver t) None conditions over) (λ on.
      All-tail (SomeMeets (path_states model t layers)) None conditions (h on))
  all_fair_fit (Some u ∷ conditions) over h =
      and_from (clause_holds model (opposite under ∷ fair_literals u layers)) (clauses_hold model (all_fair_clauses under layers conditions))
      (under_fits model under (fair_literals u layers) known (λ on.
      fair_fits model t u (All-head (IsConditionOver t) (Some u) conditions over) layers is
      (All-head (SomeMeets (path_states model t layers)) (Some u) conditions (h on))))
      (all_fair_fit conditions (All-tail (IsConditionOver t) (Some u) conditions over) (λ on.
      All-tail (SomeMeets (path_states model t layers)) (Some u) conditions (h on)))

-- ---- the clauses are over the variables

module _ (n : ℕ) (t : ClosureOverPorts) (under : Lit) (known : under.var < n) where
  sign_known : (lit : Lit) (p : Bool) → lit.var < n → (cond p lit (opposite lit)).var < n
  sign_known lit true h = h
  sign_known lit false h = h

  pub signs_known : (layer : LayerLits) → IsReadable n t layer → (question : List SignedNode)
      → All (λ x. x.node.0 < length t.closure.nodes) question → All (All (λ lit. lit.var < n)) (sign_clauses under layer question)
  signs_known layer is [] over = All-nil (All (λ lit. lit.var < n))
  signs_known layer is (x ∷ question) over =
      let first : x.node.0 < length t.closure.nodes = All-head (λ (y : SignedNode). y.node.0 < length t.closure.nodes) x question over in
      let rest = All-tail (λ (y : SignedNode). y.node.0 < length t.closure.nodes) x question over in
      All-cons (All (λ lit. lit.var < n)) (opposite under ∷ signed_literal layer x ∷ []) (sign_clauses under layer question)
      (All-cons (λ (lit : Lit). lit.var < n) (opposite under) (signed_literal layer x ∷ []) known
      (All-cons (λ (lit : Lit). lit.var < n) (signed_literal layer x) []
      (sign_known (member_literal layer x.node.0) x.positive (member_known n t layer x.node.0 is first)) (All-nil (λ (lit : Lit). lit.var < n))))
      (signs_known layer is question rest)

  fair_literals_known : (u : NodeId × NodeId) → IsPairOver t u → (layers : List LayerLits) → All (IsReadable n t) layers
      → All (λ lit. lit.var < n) (fair_literals u layers)
  fair_literals_known u over [] is = All-nil (λ (lit : Lit). lit.var < n)
  fair_literals_known u over (layer ∷ layers) is =
      let first : IsReadable n t layer = All-head (IsReadable n t) layer layers is in
      All-cons (λ (lit : Lit). lit.var < n) (opposite (member_literal layer u.0.0)) (member_literal layer u.1.0 ∷ fair_literals u layers)
      (member_known n t layer u.0.0 first over.left)
      (All-cons (λ (lit : Lit). lit.var < n) (member_literal layer u.1.0) (fair_literals u layers)
      (member_known n t layer u.1.0 first over.right)
      (fair_literals_known u over layers (All-tail (IsReadable n t) layer layers is)))

  pub all_fair_known : (layers : List LayerLits) → All (IsReadable n t) layers → (conditions : List (Option (NodeId × NodeId)))
      → All (IsConditionOver t) conditions → All (All (λ lit. lit.var < n)) (all_fair_clauses under layers conditions)
  all_fair_known layers is [] over = All-nil (All (λ lit. lit.var < n))
  all_fair_known layers is (None ∷ conditions) over =
      all_fair_known layers is conditions (All-tail (IsConditionOver t) None conditions over)
  all_fair_known layers is (Some u ∷ conditions) over =
      All-cons (All (λ lit. lit.var < n)) (opposite under ∷ fair_literals u layers) (all_fair_clauses under layers conditions)
      (All-cons (λ (lit : Lit). lit.var < n) (opposite under) (fair_literals u layers) known
      (fair_literals_known u (All-head (IsConditionOver t) (Some u) conditions over) layers is))
      (all_fair_known layers is conditions (All-tail (IsConditionOver t) (Some u) conditions over))

-- ---- the states from one place on

dropped_states : (model : List Bool) (t : ClosureOverPorts) (l : ℕ) (layers : List LayerLits)
    → path_states model t (drop l layers) ≡ drop l (path_states model t layers)
dropped_states model t zero layers = refl
dropped_states model t (suc l) [] = refl
dropped_states model t (suc l) (layer ∷ layers) = dropped_states model t l layers

state_from_drop : (states : List TableauState) (l i : ℕ) → tableau_state_at (drop l states) i ≡ tableau_state_at states (l + i)
state_from_drop states l i = get_or-drop l states i (record { now = []; next = []; holding = [] })

pub met_in_loop : (model : List Bool) (t : ClosureOverPorts) (layers : List LayerLits) (l : ℕ) (c : Option (NodeId × NodeId))
    → SomeMeets (path_states model t (drop l layers)) c → IsMetInLoop (path_states model t layers) l c
met_in_loop model t layers l c h =
    let e = dropped_states model t l layers in
    let within : h.place < length (drop l (path_states model t layers)) = subst (λ (xs : List TableauState). h.place < length xs) e h.within in
    record {
      place = l + h.place;
      in_loop = omega arith;
      within = omega (arith, within, length-drop l (path_states model t layers));
      met = ap (λ s. meets_condition s c) (sym (state_from_drop (path_states model t layers) l h.place)) ∙
          (ap (λ (xs : List TableauState). meets_condition (tableau_state_at xs h.place) c) (sym e) ∙ h.met);
    }

pub loop_meets : (model : List Bool) (t : ClosureOverPorts) (layers : List LayerLits) (l : ℕ) (c : Option (NodeId × NodeId))
    → IsMetInLoop (path_states model t layers) l c → SomeMeets (path_states model t (drop l layers)) c
loop_meets model t layers l c h =
    let e = dropped_states model t l layers in
    let i : ℕ = h.place - l in
    let turn : l + i ≡ h.place = omega (arith, h.in_loop) in
    let within : i < length (drop l (path_states model t layers)) =
    omega (arith, h.in_loop, h.within, length-drop l (path_states model t layers)) in
    record {
      place = i;
      within = subst (λ (xs : List TableauState). i < length xs) (sym e) within;
      met = ap (λ (xs : List TableauState). meets_condition (tableau_state_at xs i) c) e
          ∙ (ap (λ s. meets_condition s c) (state_from_drop (path_states model t layers) l i
          ∙ ap (tableau_state_at (path_states model t layers)) turn) ∙ h.met);
    }
