-- Two layers of which the one steps to the other: each step of the tableau is there in some model.
use Rattle.std.proofs.Common.{◌≡◌, ℕ, ◌+◌, ◌≤◌, Bool, true, false, ◌&&◌, ◌||◌, List, [], ◌∷◌, ◌++◌, length, refl, sym, ap, ◌∙◌, subst, subst₂, length-append, arith}
use Rattle.cnf.specs.declared.lit.Lit.{Lit}
use Rattle.cnf.specs.Clauses.{lit_holds, clauses_hold, IsModel, IsConservative}
use Rattle.cnf.specs.Gates.{literal}
use Rattle.cnf.proofs.ModelLaws.{clauses_hold-more, lit_holds-last}
use Rattle.state_coding.proofs.StateLaws.{parts_hold, both_hold}
use Rattle.tableau.specs.TableauStates.{ClosureOverPorts, TableauState, IsTableauState, IsTableauStep}
use Rattle.tableau.specs.Copies.{LayerLits, IsCodedLayer, layer_state}
use Rattle.counter_cert.specs.Pairs.{IsCodedAlone, IsCodedPair}
use Rattle.counter_cert.proofs.LayerModels.{layer_stays}

-- each state of the tableau is there in some longer model
abbrev pub EachReached : ℕ → List (List Lit) → ℕ → List (List Lit) → ClosureOverPorts → LayerLits → Type 0
EachReached n older m newer t layer = (model : List Bool) → IsModel n older model → (s : TableauState) → IsTableauState t s
    → (more : List Bool) × IsModel m newer (model ++ more) × (layer_state (model ++ more) t layer ≡ s)

pub no_model : (n : ℕ) (clauses : List (List Lit)) → n ≡ 0 → clauses ≡ [] → IsModel n clauses []
no_model n clauses en ec = record { vars = sym en; holds = ap (clauses_hold []) ec }

pub alone_coded : (n m : ℕ) (older newer : List (List Lit)) (t : ClosureOverPorts) (layer : LayerLits) → n ≡ 0 → older ≡ []
    → IsCodedLayer m newer t layer → EachReached n older m newer t layer → IsCodedAlone m newer t layer
alone_coded n m older newer t layer en ec is each = record {
  coded = is;
  reaches = λ s h. each [] (no_model n older en ec) s h;
}

sole_clause : (b : Bool) → b ≡ true → ((b || false) && true) ≡ true
sole_clause b e = ap (λ (x : Bool). (x || false) && true) e

sole_literal : (b : Bool) → ((b || false) && true) ≡ true → b ≡ true
sole_literal true e = refl
sole_literal false e = e

module _ (t : ClosureOverPorts) (from to : LayerLits) (under : Lit) (n0 n1 n2 n4 n5 : ℕ) (c0 c1 c2 c4 c5 : List (List Lit))
    (first : IsCodedLayer n1 c1 t from) (each : EachReached n0 c0 n1 c1 t from)
    (second : IsCodedLayer n2 c2 t to) (each_next : EachReached n1 c1 n2 c2 t to)
    (more_vars : n1 ≤ n2) (named : under ≡ literal n2) (size : n4 ≡ n2 + 1) (alone : c4 ≡ c2 ++ (under ∷ []) ∷ [])
    (steps : (model : List Bool) → n5 ≤ length model → clauses_hold model c5 ≡ true → lit_holds model under ≡ true
    → IsTableauStep t (layer_state model t from) (layer_state model t to))
    (kept : (model : List Bool) → IsModel n4 c4 model
    → (lit_holds model under ≡ true → IsTableauStep t (layer_state model t from) (layer_state model t to)) → IsModel n5 c5 model)
    (more : (added : List (List Lit)) × (c5 ≡ c4 ++ added)) where
  under_on : (model : List Bool) → clauses_hold model c5 ≡ true → lit_holds model under ≡ true
  under_on model holds =
      let at_four = (parts_hold model c4 more.0 (sym (ap (clauses_hold model) more.1) ∙ holds)).0 in
      sole_literal (lit_holds model under) (parts_hold model c2 ((under ∷ []) ∷ []) (sym (ap (clauses_hold model) alone) ∙ at_four)).1

  pub pair_steps : (model : List Bool) → n5 ≤ length model → clauses_hold model c5 ≡ true
      → IsTableauStep t (layer_state model t from) (layer_state model t to)
  pair_steps model le holds = steps model le holds (under_on model holds)

  pub pair_reaches : n0 ≡ 0 → c0 ≡ [] → (s next : TableauState) → IsTableauState t s → IsTableauState t next → IsTableauStep t s next
      → (model : List Bool) × IsModel n5 c5 model × (layer_state model t from ≡ s) × (layer_state model t to ≡ next)
  pair_reaches en ec s next is is_next step =
      let one = each [] (no_model n0 c0 en ec) s is in
      let two = each_next one.0 one.1 next is_next in
      let base = one.0 ++ two.0 in
      let model = base ++ true ∷ [] in
      let on : lit_holds model under ≡ true = ap (lit_holds model) named ∙ lit_holds-last base true n2 two.1.vars in
      let long : length model ≡ length base + 1 = length-append base (true ∷ []) in
      let at_four : IsModel n4 c4 model = record {
        vars = long ∙ (ap (λ (x : ℕ). x + 1) two.1.vars ∙ sym size);
        holds = ap (clauses_hold model) alone ∙ both_hold model c2 ((under ∷ []) ∷ []) (clauses_hold-more base (true ∷ []) c2 two.1.holds)
            (sole_clause (lit_holds model under) on);
      } in
      let from_is : layer_state model t from ≡ s =
      layer_stays n1 c1 base (true ∷ []) t from first (omega (arith, more_vars, two.1.vars))
      ∙ (layer_stays n1 c1 one.0 two.0 t from first (omega (arith, one.1.vars)) ∙ one.2) in
      let to_is : layer_state model t to ≡ next =
      layer_stays n2 c2 base (true ∷ []) t to second (omega (arith, two.1.vars)) ∙ two.2 in
      (model, kept model at_four (λ h. subst₂ (IsTableauStep t) (sym from_is) (sym to_is) step), from_is, to_is)
