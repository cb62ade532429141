-- The clauses of a start have a model exactly where a state of the tableau has the question and breaks the entries.
use Rattle.std.proofs.Common.{◌≡◌, ℕ, ◌+◌, ◌≤◌, ◌↔◌, Bool, true, false, List, ◌++◌, length, length-append}
use Rattle.std.proofs.Common.{inl, inr, refl, sym, ap, ◌∙◌, subst, arith}
use Rattle.std.specs.Prelude.{All}
use Rattle.std.proofs.lemmas.Bool.{cases_Bool}
use Rattle.core_ltl.specs.declared.question.SignedNode.{SignedNode}
use Rattle.cnf.specs.declared.lit.Lit.{Lit}
use Rattle.cnf.specs.Clauses.{lit_holds, clauses_hold, Problem, IsModel}
use Rattle.cnf.proofs.ModelLaws.{clauses_hold-more}
use Rattle.state_coding.proofs.StateLaws.{parts_hold, both_hold, within_later}
use Rattle.tableau.specs.TableauStates.{ClosureOverPorts, TableauState, IsTableauState}
use Rattle.tableau.specs.Copies.{LayerLits, IsCodedLayer, layer_state}
use Rattle.tableau.specs.Questions.{IsQuestionOver}
use Rattle.counter_cert.specs.declared.bounds.GuardedBound.{GuardedBound}
use Rattle.counter_cert.specs.Certificates.{GuardHolds, MeetsAll}
use Rattle.counter_cert.specs.StartClauses.{question_clauses, start_cases, some_case_clauses, guard_literals}
use Rattle.counter_cert.specs.Checking.{HasModel, BreaksStart}
use Rattle.counter_cert.specs.Pairs.{IsCodedAlone}
use Rattle.counter_cert.proofs.CaseLaws.{all_hold, some_holds, some_case_says, some_case_fits}
use Rattle.counter_cert.proofs.EntryLaws.{AreGuardsOver, guard_says, guard_fits, question_is, start_unmet, start_met}
use Rattle.counter_cert.proofs.LayerModels.{layer_stays}
use Rattle.counter_cert.proofs.Members.{IsReadable}
use Rattle.counter_cert.proofs.Known.{start_cases_known, guards_known}
use Rattle.counter_cert.proofs.Rows.{case_values}

pub readable_in : (n : ℕ) (clauses : List (List Lit)) (model : List Bool) (t : ClosureOverPorts) (layer : LayerLits)
    → IsCodedLayer n clauses t layer → n ≤ length model → IsReadable (length model) t layer
readable_in n clauses model t layer is le = record { count = is.count; known = within_later n (length model) layer.members le is.members }

module _ (t : ClosureOverPorts) (question : List SignedNode) (entries : List GuardedBound) (n : ℕ) (older : List (List Lit))
    (layer : LayerLits) (alone : IsCodedAlone n older t layer) (asked : IsQuestionOver t question) (over : AreGuardsOver t entries) where
  start_says : (model : List Bool) → length model ≡ n + length (start_cases layer entries)
      → clauses_hold model (older ++ question_clauses layer question ++ some_case_clauses n (start_cases layer entries)) ≡ true
      → BreaksStart t question entries
  start_says model long holds =
      let is = readable_in n older model t layer alone.coded (omega (arith, long)) in
      let parts = parts_hold model (older ++ question_clauses layer question) (some_case_clauses n (start_cases layer entries)) holds in
      let front = parts_hold model older (question_clauses layer question) parts.0 in
      record {
        state = layer_state model t layer;
        is = alone.coded.state model (omega (arith, long)) front.0;
        asked = guard_says model t layer is question asked (sym (question_is model t layer is question) ∙ front.1);
        unmet = start_unmet model t layer is entries over (some_case_says model n (start_cases layer entries) (omega (arith, long)) parts.1);
      }

  -- the model of a state, with the values of the cases behind it
  start_fits_at : (base : List Bool) → IsModel n older base → GuardHolds (layer_state base t layer) question
      → (MeetsAll (layer_state base t layer) 0 entries → ⊥)
      → (model : List Bool) × (length model ≡ n + length (start_cases layer entries))
      × (clauses_hold model (older ++ question_clauses layer question ++ some_case_clauses n (start_cases layer entries)) ≡ true)
  start_fits_at base is has unmet =
      let cases = start_cases layer entries in
      let values = case_values base n cases is.vars (start_cases_known n layer alone.coded.members entries
      (guards_known t layer alone.coded.count entries over)) in
      let model = base ++ values.0 in
      let size : length model ≡ length base + length values.0 = length-append base values.0 in
      let readable = readable_in n older model t layer alone.coded (omega (arith, size, is.vars)) in
      let same = layer_stays n older base values.0 t layer alone.coded (omega (arith, is.vars)) in
      let asked_here = guard_fits model t layer readable question asked
      (subst (λ (s : TableauState). GuardHolds s question) (sym same) has) in
      let some : some_holds model cases ≡ true = elim (cases_Bool (some_holds model cases)) [
        | inl on ↦ on
        | inr none ↦ absurd (unmet (subst (λ (s : TableauState). MeetsAll s 0 entries) same (start_met model t layer readable entries over none)))
      ] in (
        model,
        size ∙ (λ j. is.vars j + values.1 j),
        both_hold model (older ++ question_clauses layer question) (some_case_clauses n cases)
            (both_hold model older (question_clauses layer question) (clauses_hold-more base values.0 older is.holds)
            (question_is model t layer readable question ∙ asked_here))
            (some_case_fits model n cases values.2 some),
      )

  pub start_models : (problem : Problem) → problem.vars ≡ n + length (start_cases layer entries)
      → problem.clauses ≡ older ++ question_clauses layer question ++ some_case_clauses n (start_cases layer entries)
      → HasModel problem ↔ BreaksStart t question entries
  start_models problem ev ec = (
    λ has. start_says has.model (has.is.vars ∙ ev) (sym (ap (clauses_hold has.model) ec) ∙ has.is.holds),
    λ breaks.
        let base = alone.reaches breaks.state breaks.is in
        let made = start_fits_at base.0 base.1 (subst (λ (s : TableauState). GuardHolds s question) (sym base.2) breaks.asked)
        (subst (λ (s : TableauState). MeetsAll s 0 entries → ⊥) (sym base.2) breaks.unmet) in
        record { model = made.0; is = record { vars = made.1 ∙ sym ev; holds = ap (clauses_hold made.0) ec ∙ made.2 } },
  )

  -- from the parts as they are built
  pub built_models : (problem : Problem) (v : ℕ) (asked_by cases : List (List Lit)) (mid : List (List Lit))
      → asked_by ≡ question_clauses layer question → cases ≡ start_cases layer entries → v ≡ n → problem.vars ≡ v + length cases
      → mid ≡ older ++ asked_by → problem.clauses ≡ mid ++ some_case_clauses v cases → HasModel problem ↔ BreaksStart t question entries
  built_models problem v asked_by cases mid ea ec ev ew em en =
      start_models problem (ew ∙ (λ j. ev j + length (ec j)))
      (en ∙ (λ j. (em ∙ ap (λ xs. older ++ xs) ea) j ++ some_case_clauses (ev j) (ec j)))
