-- A loop that was coded under a new literal: its models are the lassos of tableau states of its shape.
use Rattle.std.proofs.Common.{◌≡◌, ℕ, ◌+◌, ◌<◌, ◌≤◌, Bool, true, false, not, ◌&&◌, ◌||◌, List, [], ◌∷◌, ◌++◌, map, length, refl, sym, ap, ◌∙◌, subst}
use Rattle.std.proofs.Common.{subst₂, arith}
use Rattle.std.specs.Prelude.{All}
use Rattle.std.specs.Prelude.{Option, Some, None, IfSome}
use Rattle.std.proofs.lemmas.Bool.{and_parts, and_from, or_left, true≢false}
use Rattle.std.proofs.lemmas.List.{length-map, length-append}
use Rattle.std.proofs.lemmas.List.Elements.{All-weaker}
use Rattle.port_types.specs.declared.types.Value.{Value}
use Rattle.typed_ltl.specs.declared.lasso.Lasso.{Lasso}
use Rattle.core_ltl.specs.declared.question.SignedNode.{SignedNode}
use Rattle.cnf.specs.declared.lit.Lit.{Lit}
use Rattle.cnf.specs.Clauses.{opposite, lit_holds, clauses_hold, IsModel, IsConservative}
use Rattle.cnf.specs.Gates.{literal}
use Rattle.cnf.proofs.ModelLaws.{lit_holds-append, lit_holds-last, lit_holds-opposite, clauses_hold-more}
use Rattle.state_coding.specs.Codes.{IsCodable}
use Rattle.state_coding.specs.States.{state_values}
use Rattle.state_coding.proofs.StateLaws.{both_hold, parts_hold, bits_later}
use Rattle.tableau.specs.TableauStates.{ClosureOverPorts, TableauState}
use Rattle.tableau.specs.Copies.{LayerLits, IsCodedLayer, layer_state}
use Rattle.sat_core.specs.Search.{unit_clause}
use Rattle.first_lasso.specs.FirstLassos.{IsNotAfter}
use Rattle.first_lasso.proofs.Order.{by_cases, to_cases}
use Rattle.lasso_search.specs.TableauLassos.{IsTableauLasso, shown_valuations}
use Rattle.lasso_search.specs.Paths.{path_states, IsTableauPath, ClosesLoop, IsCodedPath, GrowsWhereOff, bits_of_layers}
use Rattle.lasso_search.specs.LeastModels.{IsModelUnder, bit_numbers, IsLeastBy, IsLeastShown}
use Rattle.lasso_search.specs.Loops.{ranks_of, HasNoLoop, IsLeastLoop}
use Rattle.lasso_search.proofs.PathLayers.{path_stays, model_length}
use Rattle.lasso_search.proofs.Growing.{with_value, loop_off, kept_as, closed_as}
use Rattle.lasso_search.proofs.LeastBits.{Ranking, ShowsState, layers_down}

-- What coding a loop under the variable n says.
pub record CodesLoop (n : ℕ) (older newer : List (List Lit)) (t : ClosureOverPorts) (question : List SignedNode) (under : Lit)
    (layers : List LayerLits) (l : ℕ) : Type 0 where
  pub path : IsCodedPath n older t question under layers
  pub inside : l < length layers
  pub more : (added : List (List Lit)) × (newer ≡ older ++ added)
  pub closes : (model : List Bool) → n + 1 ≤ length model → clauses_hold model newer ≡ true → lit_holds model (literal n) ≡ true
      → ClosesLoop t l (path_states model t layers)
  pub kept : (model : List Bool) → IsModel (n + 1) older model
      → (lit_holds model (literal n) ≡ true → ClosesLoop t l (path_states model t layers)) → IsModel (n + 1) newer model

two_units : (model : List Bool) (a b : Lit) → lit_holds model a ≡ true → lit_holds model b ≡ true
    → clauses_hold model (map unit_clause (a ∷ b ∷ [])) ≡ true
two_units model a b h k =
    and_from (lit_holds model a || false) ((lit_holds model b || false) && true) (or_left (lit_holds model a) false h)
    (and_from (lit_holds model b || false) true (or_left (lit_holds model b) false k) refl)

sole : (b : Bool) → (b || false) ≡ true → b ≡ true
sole true h = refl
sole false h = h

units_hold : (model : List Bool) (a b : Lit) → clauses_hold model (map unit_clause (a ∷ b ∷ [])) ≡ true
    → (lit_holds model a ≡ true) × (lit_holds model b ≡ true)
units_hold model a b h =
    let parts = and_parts (lit_holds model a || false) ((lit_holds model b || false) && true) h in
    let rest = and_parts (lit_holds model b || false) true parts.1 in
    (sole (lit_holds model a) parts.0, sole (lit_holds model b) rest.0)

module _ (n : ℕ) (older newer : List (List Lit)) (t : ClosureOverPorts) (question : List SignedNode) (under : Lit) (layers : List LayerLits)
    (l : ℕ) (is : CodesLoop n older newer t question under layers l) where
  path_of : (states : List TableauState) → IsTableauLasso t question states l → IsTableauPath t question states
  path_of states h = record { all_states = h.all_states; steps = h.steps; start = λ some. h.start }

  pub model_of_states : (states : List TableauState) → length states ≡ length layers → IsTableauLasso t question states l
      → (model : List Bool) × IsModelUnder (n + 1) newer (under ∷ literal n ∷ []) model × (path_states model t layers ≡ states)
  model_of_states states e h =
      let r = is.path.reaches states (path_of states h) e in
      let model = r.0 ++ true ∷ [] in
      let long : n ≤ length r.0 = model_length n older r.0 r.1 in
      let known : under.var < length r.0 = omega (arith, long, is.path.under_known) in
      let shown : path_states model t layers ≡ states = path_stays n older r.0 (true ∷ []) t layers is.path.coded long ∙ r.3 in
      let looped : ClosesLoop t l states = record { back = h.back; fair = h.fair } in
      let closes : ClosesLoop t l (path_states model t layers) = subst (ClosesLoop t l) (sym shown) looped in
      let whole = is.kept model (with_value n older r.0 true r.1) (λ on. closes) in
      let units = two_units model under (literal n) (lit_holds-append r.0 (true ∷ []) under known ∙ r.2) (lit_holds-last r.0 true n r.1.vars) in (
        model,
        record { vars = whole.vars; holds = both_hold model newer (map unit_clause (under ∷ literal n ∷ [])) whole.holds units },
        shown,
      )

  older_part : (model : List Bool) → clauses_hold model newer ≡ true → clauses_hold model older ≡ true
  older_part model h = (parts_hold model older is.more.0 (sym (ap (clauses_hold model) is.more.1) ∙ h)).0

  pub lasso_of_model : (model : List Bool) → IsModelUnder (n + 1) newer (under ∷ literal n ∷ []) model
      → IsTableauLasso t question (path_states model t layers) l
  lasso_of_model model h =
      let parts = parts_hold model newer (map unit_clause (under ∷ literal n ∷ [])) h.holds in
      let units = units_hold model under (literal n) parts.1 in
      let path = is.path.path model (omega (arith, h.vars)) (older_part model parts.0) units.0 in
      let closes = is.closes model (omega (arith, h.vars)) parts.0 units.1 in
      let some : 0 < length (path_states model t layers) = omega (arith, is.inside, length-map layers (layer_state model t)) in
      record { all_states = path.all_states; steps = path.steps; back = closes.back; start = path.start some; fair = closes.fair }

  pub no_loop : ((model : List Bool) → IsModelUnder (n + 1) newer (under ∷ literal n ∷ []) model → ⊥) → HasNoLoop t question (length layers) l
  no_loop none states e h = let m = model_of_states states e h in none m.0 m.1

  shows : (model : List Bool) → IsModelUnder (n + 1) newer (under ∷ literal n ∷ []) model → All (λ layer. ShowsState model t.ports layer.bits) layers
  shows model h =
      let parts = parts_hold model newer (map unit_clause (under ∷ literal n ∷ [])) h.holds in
      All-weaker (IsCodedLayer n older t) (λ layer. ShowsState model t.ports layer.bits) (λ layer coded. record {
        has = bits_later n (length model) t.ports layer.bits (omega (arith, h.vars)) coded.now.shape;
        holds = coded.now.holds model (older_part model parts.0);
      }) layers is.path.coded

  shown_values : (model : List Bool) (some : List LayerLits)
      → map (λ (layer : LayerLits). state_values model t.ports layer.bits) some ≡ shown_valuations (path_states model t some)
  shown_values model [] = refl
  shown_values model (layer ∷ some) = ap (λ vs. state_values model t.ports layer.bits ∷ vs) (shown_values model some)

  pub least_loop : Ranking → All IsCodable t.ports → (least : List Bool)
      → IsLeastBy (n + 1) newer (under ∷ literal n ∷ []) (bits_of_layers layers) least → (lasso : Lasso)
      → lasso.states ≡ map (λ (layer : LayerLits). state_values least t.ports layer.bits) layers → lasso.loop_at ≡ l
      → IsLeastLoop t question (length layers) l lasso
  least_loop ranking codable least by lasso shown place =
      let values : lasso.states ≡ shown_valuations (path_states least t layers) = shown ∙ shown_values least layers in record {
        place = place;
        size = ap (λ (vs : List (List Value)). length vs) shown ∙ length-map layers (λ (layer : LayerLits). state_values least t.ports layer.bits);
        has = record {
          states = path_states least t layers;
          path = subst (IsTableauLasso t question (path_states least t layers)) (sym place) (lasso_of_model least by.model);
          shown = sym values;
        };
        least = λ states e h.
            let m = model_of_states states e h in
            let down = layers_down ranking least m.0 t layers codable (shows least by.model) (shows m.0 m.1)
            (to_cases (bit_numbers least (bits_of_layers layers)) (bit_numbers m.0 (bits_of_layers layers)) (by.least_bits m.0 m.1)) in
            let after = by_cases (ranks_of t.ports (shown_valuations (path_states least t layers)))
            (ranks_of t.ports (shown_valuations (path_states m.0 t layers))) down in
            subst (λ (vs : List (List Value)). IsNotAfter (ranks_of t.ports vs) (ranks_of t.ports (shown_valuations states))) (sym values)
            (subst (λ (ss : List TableauState). IsNotAfter (ranks_of t.ports (shown_valuations (path_states least t layers)))
            (ranks_of t.ports (shown_valuations ss)))
            m.2 after);
      }

-- ---- the call that codes a loop under the new variable v

-- What the call says, whatever its answer: n variables and the older clauses before, then v, then the newer clauses.
pub record ClosedCall (n m k v : ℕ) (older mid newer : List (List Lit)) (t : ClosureOverPorts) (layers : List LayerLits) (l : ℕ) : Type 0 where
  pub var : v ≡ n
  pub grown : m ≡ n + 1
  pub same : mid ≡ older
  pub vars : k ≡ m
  pub more : (added : List (List Lit)) × (newer ≡ mid ++ added)
  pub kept : (model : List Bool) → IsModel m mid model
      → (lit_holds model (literal v) ≡ true → ClosesLoop t l (path_states model t layers)) → IsModel k newer model

module _ (n m k v : ℕ) (older mid newer : List (List Lit)) (t : ClosureOverPorts) (layers : List LayerLits) (l : ℕ)
    (call : ClosedCall n m k v older mid newer t layers l) where
  same_lit : (model : List Bool) → lit_holds model (literal v) ≡ lit_holds model (literal n)
  same_lit model = ap (λ x. lit_holds model (literal x)) call.var

  more_here : (added : List (List Lit)) × (newer ≡ older ++ added)
  more_here = (call.more.0, call.more.1 ∙ ap (λ xs. xs ++ call.more.0) call.same)

  kept_here : (model : List Bool) → IsModel (n + 1) older model
      → (lit_holds model (literal n) ≡ true → ClosesLoop t l (path_states model t layers)) → IsModel (n + 1) newer model
  kept_here model is h =
      let there : IsModel m mid model = record { vars = is.vars ∙ sym call.grown; holds = ap (clauses_hold model) call.same ∙ is.holds } in
      let after = call.kept model there (λ on. h (sym (same_lit model) ∙ on)) in
      record { vars = after.vars ∙ (call.vars ∙ call.grown); holds = after.holds }

  off_here : GrowsWhereOff (literal n) (n + 1) older (n + 1) newer
  off_here = loop_off n older newer more_here (λ model is off. kept_here model is (λ on. absurd (true≢false (sym on ∙ off))))

  pub loop_grows : (last : ℕ) (whole : List (List Lit)) → last ≡ k → whole ≡ newer → IsConservative n older last whole
  loop_grows last whole el ew = kept_as n (n + 1) last older newer whole off_here (el ∙ (call.vars ∙ call.grown)) ew

  -- and with the clause that turns the loop off
  pub closed_grows : (last : ℕ) (whole : List (List Lit)) (lit : Lit) → last ≡ k → lit ≡ opposite (literal v) → whole ≡ newer ++ (lit ∷ []) ∷ []
      → IsConservative n older last whole
  closed_grows last whole lit el en ew = closed_as n (n + 1) v last older newer whole lit off_here (el ∙ (call.vars ∙ call.grown)) call.var en ew

  module _ (question : List SignedNode) (under : Lit) (path : IsCodedPath n older t question under layers) (inside : l < length layers)
      (closes : (model : List Bool) → k ≤ length model → clauses_hold model newer ≡ true → lit_holds model (literal v) ≡ true
      → ClosesLoop t l (path_states model t layers)) where
    coded_loop : CodesLoop n older newer t question under layers l
    coded_loop = record {
      path = path;
      inside = inside;
      more = more_here;
      closes = λ model le h on. closes model (omega (arith, le, call.vars, call.grown)) h (same_lit model ∙ on);
      kept = kept_here;
    }

    pub least_found : Ranking → All IsCodable t.ports → (found : Option Lasso)
        → IfSome found (IsLeastShown k newer (under ∷ literal v ∷ []) t.ports layers l)
        → IfSome found (IsLeastLoop t question (length layers) l)
    least_found ranking codable None h = tt
    least_found ranking codable (Some lasso) h =
        let shown : IsLeastShown (n + 1) newer (under ∷ literal n ∷ []) t.ports layers l lasso =
        subst₂ (λ (x y : ℕ). IsLeastShown x newer (under ∷ literal y ∷ []) t.ports layers l lasso) (call.vars ∙ call.grown) call.var h in
        least_loop n older newer t question under layers l coded_loop ranking codable shown.model shown.least lasso shown.states shown.place

    pub none_found : (found : Option Lasso)
        → (found ≡ None → (model : List Bool) → IsModelUnder k newer (under ∷ literal v ∷ []) model → ⊥)
        → found ≡ None → HasNoLoop t question (length layers) l
    none_found found none e =
        no_loop n older newer t question under layers l coded_loop (λ model h.
        none e model (subst₂ (λ (x y : ℕ). IsModelUnder x newer (under ∷ literal y ∷ []) model) (sym (call.vars ∙ call.grown)) (sym call.var) h))
