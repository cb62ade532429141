-- Clauses that are added to tie layers where a literal holds: what they say, and that no model is lost in which it holds.
use Rattle.std.proofs.Common.{◌≡◌, ℕ, ◌<◌, ◌≤◌, Bool, true, List, [], ◌++◌, length, take, sym, ap, ◌∙◌, arith}
use Rattle.std.specs.Prelude.{All}
use Rattle.std.proofs.lemmas.List.Elements.{All-weaker}
use Rattle.core_ltl.specs.declared.question.SignedNode.{SignedNode}
use Rattle.core_ltl.specs.Nodes.{members, IsClosure}
use Rattle.cnf.specs.declared.lit.Lit.{Lit}
use Rattle.cnf.specs.Clauses.{lit_holds, clauses_hold, IsModel}
use Rattle.cnf.proofs.ModelLaws.{clauses_hold-take}
use Rattle.state_coding.proofs.StateLaws.{both_hold, parts_hold}
use Rattle.tableau.specs.TableauStates.{ClosureOverPorts, fairness}
use Rattle.tableau.specs.Copies.{LayerLits, IsCodedLayer, layer_state}
use Rattle.tableau.specs.Questions.{IsQuestionOver, IsSignedIn}
use Rattle.lasso_search.specs.Paths.{path_states, SomeMeets, sign_clauses, all_fair_clauses}
use Rattle.lasso_search.proofs.SignClauses.{IsReadable, signs_say, signs_fit, all_fair_say, all_fair_fit}
use Rattle.lasso_search.proofs.LayerFacts.{readable, all_readable, readable_in, conditions_over}

-- where the literal holds the clauses say the property, and they hold where it does
pub record SaysUnder (n : ℕ) (clauses : List (List Lit)) (under : Lit) (P : List Bool → Type 0) : Type 0 where
  pub says : (model : List Bool) → n ≤ length model → clauses_hold model clauses ≡ true → lit_holds model under ≡ true → P model
  pub fits : (model : List Bool) → n ≤ length model → (lit_holds model under ≡ true → P model) → clauses_hold model clauses ≡ true

module _ (n m : ℕ) (older newer clauses : List (List Lit)) (under : Lit) (P : List Bool → Type 0) (is : SaysUnder n clauses under P)
    (same : m ≡ n) where
  pub whole_says : newer ≡ older ++ clauses → (model : List Bool) → m ≤ length model → clauses_hold model newer ≡ true
      → lit_holds model under ≡ true → P model
  whole_says e model le h on =
      is.says model (omega (arith, le, same)) (parts_hold model older clauses (sym (ap (clauses_hold model) e) ∙ h)).1 on

  pub whole_kept : newer ≡ older ++ clauses → (model : List Bool) → IsModel n older model → (lit_holds model under ≡ true → P model)
      → IsModel m newer model
  whole_kept e model h p = record {
    vars = h.vars ∙ sym same;
    holds = ap (clauses_hold model) e ∙ both_hold model older clauses h.holds (is.fits model (omega (arith, h.vars)) p);
  }

  pub front_kept : (k : ℕ) → newer ≡ older ++ take k clauses → (model : List Bool) → IsModel n older model
      → (lit_holds model under ≡ true → P model) → IsModel m newer model
  front_kept k e model h p = record {
    vars = h.vars ∙ sym same;
    holds = ap (clauses_hold model) e
        ∙ both_hold model older (take k clauses) h.holds (clauses_hold-take model k clauses (is.fits model (omega (arith, h.vars)) p));
  }

pub signs_are : (n : ℕ) (older : List (List Lit)) (t : ClosureOverPorts) (question : List SignedNode) (layer : LayerLits) (under : Lit)
    → IsQuestionOver t question → IsCodedLayer n older t layer → under.var < n
    → SaysUnder n (sign_clauses under layer question) under (λ model. All (IsSignedIn (layer_state model t layer)) question)
signs_are n older t question layer under over is known = record {
  says = λ model le h on.
      signs_say model t layer under (readable_in n model t layer le (readable n older t layer is)) (omega (arith, known, le)) question over h on;
  fits = λ model le p.
      signs_fit model t layer under (readable_in n model t layer le (readable n older t layer is)) (omega (arith, known, le)) question over p;
}

pub fair_are : (n : ℕ) (older : List (List Lit)) (t : ClosureOverPorts) (layers : List LayerLits) (under : Lit)
    → IsClosure (members t.closure) → All (IsCodedLayer n older t) layers → 0 < length layers → under.var < n
    → SaysUnder n (all_fair_clauses under layers (fairness t)) under (λ model. All (SomeMeets (path_states model t layers)) (fairness t))
fair_are n older t layers under closed is some known = record {
  says = λ model le h on.
      all_fair_say model t under layers (all_in model le) (omega (arith, known, le)) some (fairness t) (conditions_over t closed) h on;
  fits = λ model le p.
      all_fair_fit model t under layers (all_in model le) (omega (arith, known, le)) some (fairness t) (conditions_over t closed) p;
}
  where
    all_in : (model : List Bool) → n ≤ length model → All (IsReadable (length model) t) layers
    all_in model le =
        All-weaker (IsReadable n t) (IsReadable (length model) t) (λ layer r. readable_in n model t layer le r) layers (all_readable n older t layers is)
