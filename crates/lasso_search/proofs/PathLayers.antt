-- Layers under more variables and clauses, and paths with one more layer.
use Rattle.std.proofs.Common.{◌≡◌, ℕ, zero, suc, ◌+◌, ◌<◌, ◌≤◌, Bool, true, false, List, [], ◌∷◌, ◌++◌, length, inl, inr, refl, sym, ap, ◌∙◌}
use Rattle.std.proofs.Common.{subst, subst₂, append_assoc, arith}
use Rattle.std.specs.Prelude.{All}
use Rattle.std.proofs.lemmas.Bool.{cases_lt, true≢false}
use Rattle.std.proofs.lemmas.List.{length-append, get_or_append_left, get_or_push, map_push}
use Rattle.std.proofs.lemmas.List.Elements.{All-head, All-tail, All-push, All-weaker}
use Rattle.core_ltl.specs.declared.question.SignedNode.{SignedNode}
use Rattle.cnf.specs.declared.lit.Lit.{Lit}
use Rattle.cnf.specs.Clauses.{lit_holds, clauses_hold, lit_values, IsModel, IsConservative}
use Rattle.cnf.proofs.ModelLaws.{lit_holds-append}
use Rattle.state_coding.proofs.StateLaws.{parts_hold, bits_later, within_later}
use Rattle.tableau.specs.TableauStates.{ClosureOverPorts, TableauState, IsTableauState, IsTableauStep}
use Rattle.tableau.specs.Copies.{LayerLits, IsCodedLayer, layer_state}
use Rattle.tableau.specs.Laws.{LayersStay}
use Rattle.tableau.proofs.Agreement.{values_more}
use Rattle.tableau.specs.Questions.{IsSignedIn}
use Rattle.lasso_search.specs.TableauLassos.{tableau_state_at}
use Rattle.lasso_search.specs.Paths.{path_states, IsTableauPath, ContinuesPath, IsCodedPath, GrowsWhereOff}

-- ---- more variables change no layer

row_stays : (model more : List Bool) (row : List Lit) → All (λ lit. lit.var < length model) row
    → lit_values (model ++ more) row ≡ lit_values model row
row_stays model more [] h = refl
row_stays model more (x ∷ row) h =
    let first : lit_holds (model ++ more) x ≡ lit_holds model x = lit_holds-append model more x (All-head (λ lit. lit.var < length model) x row h) in
    let rest : lit_values (model ++ more) row ≡ lit_values model row = row_stays model more row (All-tail (λ lit. lit.var < length model) x row h) in
    λ j. first j ∷ rest j

pub layer_stays : (n : ℕ) (clauses : List (List Lit)) (model more : List Bool) (t : ClosureOverPorts) (layer : LayerLits)
    → IsCodedLayer n clauses t layer → n ≤ length model → layer_state (model ++ more) t layer ≡ layer_state model t layer
layer_stays n clauses model more t layer is le =
    let now = values_more model more t.ports layer.bits (bits_later n (length model) t.ports layer.bits le is.now.shape) in
    let next = values_more model more t.ports layer.next_bits (bits_later n (length model) t.ports layer.next_bits le is.next.shape) in
    let holding = row_stays model more layer.members (within_later n (length model) layer.members le is.members) in
    λ j. record { now = now j; next = next j; holding = holding j }

pub path_stays : (n : ℕ) (clauses : List (List Lit)) (model more : List Bool) (t : ClosureOverPorts) (layers : List LayerLits)
    → All (IsCodedLayer n clauses t) layers → n ≤ length model → path_states (model ++ more) t layers ≡ path_states model t layers
path_stays n clauses model more t [] is le = refl
path_stays n clauses model more t (layer ∷ layers) is le =
    let first = layer_stays n clauses model more t layer (All-head (IsCodedLayer n clauses t) layer layers is) le in
    let rest = path_stays n clauses model more t layers (All-tail (IsCodedLayer n clauses t) layer layers is) le in
    λ j. first j ∷ rest j

pub layers_later : LayersStay → (n m : ℕ) (older newer added : List (List Lit)) (t : ClosureOverPorts) (layers : List LayerLits)
    → n ≤ m → newer ≡ older ++ added → All (IsCodedLayer n older t) layers → All (IsCodedLayer m newer t) layers
layers_later stay n m older newer added t layers le e h =
    All-weaker (IsCodedLayer n older t) (IsCodedLayer m newer t) (λ layer is. stay n m older newer added t layer le e is) layers h

older_holds : (model : List Bool) (older newer added : List (List Lit)) → newer ≡ older ++ added → clauses_hold model newer ≡ true
    → clauses_hold model older ≡ true
older_holds model older newer added e h = (parts_hold model older added (sym (ap (clauses_hold model) e) ∙ h)).0

pub model_length : (n : ℕ) (clauses : List (List Lit)) (model : List Bool) → IsModel n clauses model → n ≤ length model
model_length n clauses model is = omega (arith, is.vars)

-- a path stays one where no model is lost in which it is one
pub path_later : LayersStay → (n m : ℕ) (older newer : List (List Lit)) (t : ClosureOverPorts) (question : List SignedNode) (under : Lit)
    (layers : List LayerLits) → IsConservative n older m newer → IsCodedPath n older t question under layers
    → IsCodedPath m newer t question under layers
path_later stay n m older newer t question under layers grows is = record {
  under_known = let le = grows.vars in let known = is.under_known in omega arith;
  coded = layers_later stay n m older newer grows.clauses.0 t layers grows.vars grows.clauses.1 is.coded;
  path = λ model le h on.
      is.path model (omega (arith, le, grows.vars)) (older_holds model older newer grows.clauses.0 grows.clauses.1 h) on;
  reaches = λ states p e.
      let r = is.reaches states p e in
      let more = grows.extends r.0 r.1 in
      let long : n ≤ length r.0 = model_length n older r.0 r.1 in
      let known : under.var < length r.0 = omega (arith, long, is.under_known) in (
        r.0 ++ more.0,
        more.1,
        lit_holds-append r.0 more.0 under known ∙ r.2,
        path_stays n older r.0 more.0 t layers is.coded long ∙ r.3,
      );
}

-- ---- one more state of a path

module _ (t : ClosureOverPorts) (question : List SignedNode) (states : List TableauState) (s : TableauState) where
  in_front : (i : ℕ) → i < length states → tableau_state_at (states ++ s ∷ []) i ≡ tableau_state_at states i
  in_front i h = get_or_append_left states (s ∷ []) (record { now = []; next = []; holding = [] }) i h

  at_end : (i : ℕ) → length states ≡ i → tableau_state_at (states ++ s ∷ []) i ≡ s
  at_end i e = get_or_push states s (record { now = []; next = []; holding = [] }) i e

  one_more : length (states ++ s ∷ []) ≡ length states + 1
  one_more = length-append states (s ∷ [])

  pub path_join : IsTableauPath t question states → IsTableauState t s → ContinuesPath t question states s
      → IsTableauPath t question (states ++ s ∷ [])
  path_join p is f = record {
    all_states = All-push (IsTableauState t) states s p.all_states is;
    steps = λ i h.
        let long : length (states ++ s ∷ []) ≡ length states + 1 = one_more in
        let from = sym (in_front i (omega (arith, h, long))) in
        elim (cases_lt (i + 1) (length states)) [
          | inl lt ↦ subst₂ (IsTableauStep t) from (sym (in_front (i + 1) lt)) (p.steps i lt)
          | inr ge ↦
              let last : i + 1 ≡ length states = omega (arith, h, long, ge) in
              subst₂ (IsTableauStep t) from (sym (at_end (i + 1) (sym last))) (f.step i last)
        ];
    start = λ some.
        elim (cases_lt 0 (length states)) [
          | inl lt ↦ subst (λ (x : TableauState). All (IsSignedIn x) question) (sym (in_front 0 lt)) (p.start lt)
          | inr ge ↦
              let none : length states ≡ 0 = omega (arith, ge) in
              subst (λ (x : TableauState). All (IsSignedIn x) question) (sym (at_end 0 none)) (f.first none)
        ];
  }

  pub path_front : IsTableauPath t question (states ++ s ∷ []) → IsTableauPath t question states
  path_front p = record {
    all_states = λ k d h.
        let long : length (states ++ s ∷ []) ≡ length states + 1 = one_more in
        subst (IsTableauState t) (get_or_append_left states (s ∷ []) d k h) (p.all_states k d (omega (arith, h, long)));
    steps = λ i h.
        let long : length (states ++ s ∷ []) ≡ length states + 1 = one_more in
        subst₂ (IsTableauStep t) (in_front i (omega (arith, h))) (in_front (i + 1) h) (p.steps i (omega (arith, h, long)));
    start = λ some.
        let long : length (states ++ s ∷ []) ≡ length states + 1 = one_more in
        subst (λ (x : TableauState). All (IsSignedIn x) question) (in_front 0 some) (p.start (omega (arith, some, long)));
  }

  pub path_last : IsTableauPath t question (states ++ s ∷ []) → IsTableauState t s
  path_last p =
      let long : length (states ++ s ∷ []) ≡ length states + 1 = one_more in
      subst (IsTableauState t) (get_or_push states s s (length states) refl) (p.all_states (length states) s (omega (arith, long)))

  pub path_follows : IsTableauPath t question (states ++ s ∷ []) → ContinuesPath t question states s
  path_follows p = record {
    first = λ none.
        let long : length (states ++ s ∷ []) ≡ length states + 1 = one_more in
        subst (λ (x : TableauState). All (IsSignedIn x) question) (at_end 0 none) (p.start (omega (arith, long)));
    step = λ last e.
        let long : length (states ++ s ∷ []) ≡ length states + 1 = one_more in
        subst₂ (IsTableauStep t) (in_front last (omega (arith, e))) (at_end (last + 1) (sym e)) (p.steps last (omega (arith, e, long)));
  }

-- a list with one more element, by its front and its last
pub front_and_last : {X : Type 0} (xs : List X) (n : ℕ) → length xs ≡ n + 1
    → (front : List X) × (x : X) × (xs ≡ front ++ x ∷ []) × (length front ≡ n)
front_and_last [] n e = absurd (omega (arith, e))
front_and_last (x ∷ []) n e = ([], x, refl, omega (arith, e))
front_and_last (x ∷ y ∷ xs) zero e = absurd (omega (arith, e))
front_and_last (x ∷ y ∷ xs) (suc n) e =
    let r = front_and_last (y ∷ xs) n (omega (arith, e)) in
    (x ∷ r.0, r.1, ap (λ ys. x ∷ ys) r.2, omega (arith, r.3))

-- What coding one more layer says: the copy of a state, then clauses by which it follows the path where the literal holds.
pub record AddsLayer (n m k : ℕ) (older mid newer : List (List Lit)) (t : ClosureOverPorts) (question : List SignedNode)
    (under : Lit) (layers : List LayerLits) (layer : LayerLits) : Type 0 where
  pub copied : IsConservative n older m mid
  pub coded : IsCodedLayer m mid t layer
  pub every : (model : List Bool) → IsModel n older model → (s : TableauState) → IsTableauState t s
      → (more : List Bool) × IsModel m mid (model ++ more) × (layer_state (model ++ more) t layer ≡ s)
  pub vars : k ≡ m
  pub tied : (added : List (List Lit)) × (newer ≡ mid ++ added)
  pub says : (model : List Bool) → k ≤ length model → clauses_hold model newer ≡ true → lit_holds model under ≡ true
      → ContinuesPath t question (path_states model t layers) (layer_state model t layer)
  pub kept : (model : List Bool) → IsModel m mid model
      → (lit_holds model under ≡ true → ContinuesPath t question (path_states model t layers) (layer_state model t layer))
      → IsModel k newer model

pub path_grows : LayersStay → (n m k : ℕ) (older mid newer : List (List Lit)) (t : ClosureOverPorts)
    (question : List SignedNode) (under : Lit) (layers : List LayerLits) (layer : LayerLits) → IsCodedPath n older t question under layers
    → AddsLayer n m k older mid newer t question under layers layer → IsCodedPath k newer t question under (layers ++ layer ∷ [])
path_grows stay n m k older mid newer t question under layers layer is adds = record {
  under_known = omega (arith, adds.copied.vars, is.under_known, adds.vars);
  coded =
      All-push (IsCodedLayer k newer t) layers layer
      (layers_later stay m k mid newer adds.tied.0 t layers (omega (arith, adds.vars)) adds.tied.1
      (layers_later stay n m older mid adds.copied.clauses.0 t layers adds.copied.vars adds.copied.clauses.1 is.coded))
      (stay m k mid newer adds.tied.0 t layer (omega (arith, adds.vars)) adds.tied.1 adds.coded);
  path = λ model le h on.
      let at_mid = older_holds model mid newer adds.tied.0 adds.tied.1 h in
      let at_old = older_holds model older mid adds.copied.clauses.0 adds.copied.clauses.1 at_mid in
      subst (IsTableauPath t question) (sym (map_push (layer_state model t) layers layer))
      (path_join t question (path_states model t layers) (layer_state model t layer)
      (is.path model (omega (arith, le, adds.copied.vars, adds.vars)) at_old on)
      (adds.coded.state model (omega (arith, le, adds.vars)) at_mid) (adds.says model le h on));
  reaches = λ states p e.
      let size : length (layers ++ layer ∷ []) ≡ length layers + 1 = length-append layers (layer ∷ []) in
      let cut = front_and_last states (length layers) (e ∙ size) in
      let whole = subst (IsTableauPath t question) cut.2 p in
      let r = is.reaches cut.0 (path_front t question cut.0 cut.1 whole) cut.3 in
      let ext = adds.every r.0 r.1 cut.1 (path_last t question cut.0 cut.1 whole) in
      let model = r.0 ++ ext.0 in
      let long : n ≤ length r.0 = model_length n older r.0 r.1 in
      let known : under.var < length r.0 = omega (arith, long, is.under_known) in
      let shown : path_states model t layers ≡ cut.0 = path_stays n older r.0 ext.0 t layers is.coded long ∙ r.3 in
      let follows : ContinuesPath t question (path_states model t layers) (layer_state model t layer) =
      subst₂ (ContinuesPath t question) (sym shown) (sym ext.2) (path_follows t question cut.0 cut.1 whole) in (
        model,
        adds.kept model ext.1 (λ on. follows),
        lit_holds-append r.0 ext.0 under known ∙ r.2,
        map_push (layer_state model t) layers layer ∙ ((λ j. shown j ++ ext.2 j ∷ []) ∙ sym cut.2),
      );
}

-- no model is lost in which the literal is false
pub grows_off : (n m k : ℕ) (older mid newer : List (List Lit)) (under : Lit) (P : List Bool → Type 0) → under.var < n
    → IsConservative n older m mid → k ≡ m → ((added : List (List Lit)) × (newer ≡ mid ++ added))
    → ((model : List Bool) → IsModel m mid model → (lit_holds model under ≡ true → P model) → IsModel k newer model)
    → GrowsWhereOff under n older k newer
grows_off n m k older mid newer under P known grows same tied kept = record {
  vars = omega (arith, grows.vars, same);
  added = (grows.clauses.0 ++ tied.0, tied.1 ∙ (ap (λ xs. xs ++ tied.0) grows.clauses.1 ∙ append_assoc older grows.clauses.0 tied.0));
  off = λ model is off.
      let ext = grows.extends model is in
      let long : under.var < length model = omega (arith, known, is.vars) in
      let low : lit_holds (model ++ ext.0) under ≡ false = lit_holds-append model ext.0 under long ∙ off in
      (ext.0, kept (model ++ ext.0) ext.1 (λ on. absurd (true≢false (sym on ∙ low))));
}
