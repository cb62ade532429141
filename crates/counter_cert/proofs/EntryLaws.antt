-- Whether a state with a progress meets entries, by the values that a model gives to their literals.
use Rattle.std.proofs.Common.{◌≡◌, ℕ, ◌+◌, ◌<◌, ◌≤◌, Bool, true, false, ◌&&◌, ◌||◌, ℤ, pos, negsuc, List, [], ◌∷◌, ◌++◌, length, map}
use Rattle.std.proofs.Common.{inl, inr, refl, sym, ap, ◌∙◌, arith}
use Rattle.std.specs.Prelude.{All, nat_lt}
use Rattle.std.specs.List.{list_any, list_all, flat_map}
use Rattle.std.proofs.lemmas.Bool.{and_parts, and_from, or_cases, cases_Bool, cases_lt, lt-ltb, ltb-true, ltb-false, true≢false}
use Rattle.std.proofs.lemmas.List.Elements.{All-nil, All-cons, All-head, All-tail}
use Rattle.std.proofs.lemmas.List.Folds.{list_all-append, list_any-append}
use Rattle.core_ltl.specs.declared.question.SignedNode.{SignedNode}
use Rattle.cnf.specs.declared.lit.Lit.{Lit}
use Rattle.cnf.specs.Clauses.{lit_holds, clauses_hold}
use Rattle.cnf.specs.Gates.{literal}
use Rattle.tableau.specs.TableauStates.{ClosureOverPorts, TableauState}
use Rattle.tableau.specs.Copies.{LayerLits, layer_state}
use Rattle.tableau.specs.Questions.{IsQuestionOver, IsSignedIn, signed_literal}
use Rattle.counter_cert.specs.declared.bounds.GuardedBound.{GuardedBound}
use Rattle.counter_cert.specs.Certificates.{GuardHolds, IsUpTo, MeetsBound, MeetsAll, IsProgressBound}
use Rattle.counter_cert.specs.StartClauses.{guard_literals, question_clauses, guard_case, start_cases}
use Rattle.counter_cert.specs.StepClauses.{beyond_literals, unmet_literals, unmet_cases}
use Rattle.counter_cert.proofs.CaseLaws.{all_hold, some_holds}
use Rattle.counter_cert.proofs.CountLaws.{IsRow}
use Rattle.counter_cert.proofs.Members.{IsReadable, sign_is}

-- the guards are over the closure
abbrev pub AreGuardsOver : ClosureOverPorts → List GuardedBound → Type 0
AreGuardsOver t entries = All (λ entry. All (λ x. x.node.0 < length t.closure.nodes) entry.guard) entries

-- the bounds are within the most progress
abbrev pub AreBoundsWithin : ℕ → List GuardedBound → Type 0
AreBoundsWithin most entries = All (λ entry. IsProgressBound most entry.bound) entries

sole_and : (b : Bool) → (b && true) ≡ b
sole_and true = refl
sole_and false = refl

sole_or : (b : Bool) → (b || false) ≡ b
sole_or true = refl
sole_or false = refl

not_both : (a b : Bool) → (a && b) ≡ false → a ≡ true → b ≡ false
not_both true b e h = e
not_both false b e h = absurd (true≢false (sym h))

neither_left : (a b : Bool) → (a || b) ≡ false → a ≡ false
neither_left true b e = absurd (true≢false e)
neither_left false b e = refl

neither_right : (a b : Bool) → (a || b) ≡ false → b ≡ false
neither_right true b e = absurd (true≢false e)
neither_right false b e = e

module _ (model : List Bool) (t : ClosureOverPorts) (layer : LayerLits) (is : IsReadable (length model) t layer) where
  pub guard_says : (guard : List SignedNode) → All (λ x. x.node.0 < length t.closure.nodes) guard
      → all_hold model (guard_literals layer guard) ≡ true → GuardHolds (layer_state model t layer) guard
  guard_says [] over h = All-nil (IsSignedIn (layer_state model t layer))
  guard_says (x ∷ guard) over h =
      let parts = and_parts (lit_holds model (signed_literal layer x)) (all_hold model (guard_literals layer guard)) h in
      All-cons (IsSignedIn (layer_state model t layer)) x guard
      ((sign_is model t layer x is (All-head (λ (y : SignedNode). y.node.0 < length t.closure.nodes) x guard over)).0 parts.0)
      (guard_says guard (All-tail (λ (y : SignedNode). y.node.0 < length t.closure.nodes) x guard over) parts.1)

  pub guard_fits : (guard : List SignedNode) → All (λ x. x.node.0 < length t.closure.nodes) guard
      → GuardHolds (layer_state model t layer) guard → all_hold model (guard_literals layer guard) ≡ true
  guard_fits [] over h = refl
  guard_fits (x ∷ guard) over h =
      and_from (lit_holds model (signed_literal layer x)) (all_hold model (guard_literals layer guard))
      ((sign_is model t layer x is (All-head (λ (y : SignedNode). y.node.0 < length t.closure.nodes) x guard over)).1
      (All-head (IsSignedIn (layer_state model t layer)) x guard h))
      (guard_fits guard (All-tail (λ (y : SignedNode). y.node.0 < length t.closure.nodes) x guard over)
      (All-tail (IsSignedIn (layer_state model t layer)) x guard h))

  pub question_is : (question : List SignedNode)
      → clauses_hold model (question_clauses layer question) ≡ all_hold model (guard_literals layer question)
  question_is [] = refl
  question_is (x ∷ question) =
      let first = sole_or (lit_holds model (signed_literal layer x)) in
      let rest = question_is question in
      λ j. first j && rest j

  -- ---- the start

  guard_case_unmet : (lits : List Lit) (bound : ℤ) → some_holds model (guard_case lits bound) ≡ true
      → (all_hold model lits ≡ true) × (IsUpTo 0 bound → ⊥)
  guard_case_unmet lits (pos b) h = absurd (true≢false (sym h))
  guard_case_unmet lits (negsuc n) h = (sym (sole_or (all_hold model lits)) ∙ h, λ u. u)

  guard_case_met : (lits : List Lit) (bound : ℤ) → some_holds model (guard_case lits bound) ≡ false → all_hold model lits ≡ true
      → IsUpTo 0 bound
  guard_case_met lits (pos b) h on = omega arith
  guard_case_met lits (negsuc n) h on = true≢false (sym on ∙ (sym (sole_or (all_hold model lits)) ∙ h))

  pub start_unmet : (entries : List GuardedBound) → AreGuardsOver t entries → some_holds model (start_cases layer entries) ≡ true
      → MeetsAll (layer_state model t layer) 0 entries → ⊥
  start_unmet [] over h met = true≢false (sym h)
  start_unmet (entry ∷ entries) over h met =
      let lits = guard_literals layer entry.guard in
      let here = guard_case lits entry.bound in
      let known = All-head (λ (e : GuardedBound). All (λ x. x.node.0 < length t.closure.nodes) e.guard) entry entries over in
      let rest = All-tail (λ (e : GuardedBound). All (λ x. x.node.0 < length t.closure.nodes) e.guard) entry entries over in
      elim (or_cases (some_holds model here) (some_holds model (start_cases layer entries))
      (sym (list_any-append (all_hold model) here (start_cases layer entries)) ∙ h)) [
        | inl now ↦
            let unmet = guard_case_unmet lits entry.bound now in
            unmet.1 (All-head (MeetsBound (layer_state model t layer) 0) entry entries met (guard_says entry.guard known unmet.0))
        | inr later ↦ start_unmet entries rest later (All-tail (MeetsBound (layer_state model t layer) 0) entry entries met)
      ]

  pub start_met : (entries : List GuardedBound) → AreGuardsOver t entries → some_holds model (start_cases layer entries) ≡ false
      → MeetsAll (layer_state model t layer) 0 entries
  start_met [] over h = All-nil (MeetsBound (layer_state model t layer) 0)
  start_met (entry ∷ entries) over h =
      let lits = guard_literals layer entry.guard in
      let here = guard_case lits entry.bound in
      let known = All-head (λ (e : GuardedBound). All (λ x. x.node.0 < length t.closure.nodes) e.guard) entry entries over in
      let rest = All-tail (λ (e : GuardedBound). All (λ x. x.node.0 < length t.closure.nodes) e.guard) entry entries over in
      let none = sym (list_any-append (all_hold model) here (start_cases layer entries)) ∙ h in
      All-cons (MeetsBound (layer_state model t layer) 0) entry entries
      (λ g. guard_case_met lits entry.bound (neither_left (some_holds model here) (some_holds model (start_cases layer entries)) none)
      (guard_fits entry.guard known g))
      (start_met entries rest (neither_right (some_holds model here) (some_holds model (start_cases layer entries)) none))

  -- ---- with a progress that a row of variables has

  module _ (n most p : ℕ) (row : IsRow model n (most + 1) (λ b. nat_lt b p)) where
    beyond_says : (bound : ℤ) → IsProgressBound most bound → all_hold model (beyond_literals n bound) ≡ true → IsUpTo p bound → ⊥
    beyond_says (pos b) within h up =
        let on : nat_lt b p ≡ true = sym (row b (omega (arith, within))) ∙ (sym (sole_and (lit_holds model (literal (n + b)))) ∙ h) in
        omega (arith, ltb-true b p on, up)
    beyond_says (negsuc i) within h up = up

    beyond_not : (bound : ℤ) → IsProgressBound most bound → all_hold model (beyond_literals n bound) ≡ false → IsUpTo p bound
    beyond_not (pos b) within h =
        ltb-false b p (sym (row b (omega (arith, within))) ∙ (sym (sole_and (lit_holds model (literal (n + b)))) ∙ h))
    beyond_not (negsuc i) within h = true≢false h

    entry_unmet : (entry : GuardedBound) → All (λ x. x.node.0 < length t.closure.nodes) entry.guard → IsProgressBound most entry.bound
        → all_hold model (unmet_literals layer n entry) ≡ true → MeetsBound (layer_state model t layer) p entry → ⊥
    entry_unmet entry over within h met =
        let lits = guard_literals layer entry.guard in
        let parts = and_parts (all_hold model lits) (all_hold model (beyond_literals n entry.bound))
        (sym (list_all-append (lit_holds model) lits (beyond_literals n entry.bound)) ∙ h) in
        beyond_says entry.bound within parts.1 (met (guard_says entry.guard over parts.0))

    entry_met : (entry : GuardedBound) → All (λ x. x.node.0 < length t.closure.nodes) entry.guard → IsProgressBound most entry.bound
        → all_hold model (unmet_literals layer n entry) ≡ false → MeetsBound (layer_state model t layer) p entry
    entry_met entry over within h = λ g.
        let lits = guard_literals layer entry.guard in
        beyond_not entry.bound within (not_both (all_hold model lits) (all_hold model (beyond_literals n entry.bound))
        (sym (list_all-append (lit_holds model) lits (beyond_literals n entry.bound)) ∙ h) (guard_fits entry.guard over g))

    pub some_unmet : (entries : List GuardedBound) → AreGuardsOver t entries → AreBoundsWithin most entries
        → some_holds model (unmet_cases layer n entries) ≡ true → MeetsAll (layer_state model t layer) p entries → ⊥
    some_unmet [] over within h met = true≢false (sym h)
    some_unmet (entry ∷ entries) over within h met =
        elim (or_cases (all_hold model (unmet_literals layer n entry)) (some_holds model (unmet_cases layer n entries)) h) [
          | inl now ↦ entry_unmet entry (All-head (λ (e : GuardedBound). All (λ x. x.node.0 < length t.closure.nodes) e.guard) entry entries over)
              (All-head (λ (e : GuardedBound). IsProgressBound most e.bound) entry entries within) now
              (All-head (MeetsBound (layer_state model t layer) p) entry entries met)
          | inr later ↦ some_unmet entries (All-tail (λ (e : GuardedBound). All (λ x. x.node.0 < length t.closure.nodes) e.guard) entry entries over)
              (All-tail (λ (e : GuardedBound). IsProgressBound most e.bound) entry entries within) later
              (All-tail (MeetsBound (layer_state model t layer) p) entry entries met)
        ]

    pub all_met : (entries : List GuardedBound) → AreGuardsOver t entries → AreBoundsWithin most entries
        → some_holds model (unmet_cases layer n entries) ≡ false → MeetsAll (layer_state model t layer) p entries
    all_met [] over within h = All-nil (MeetsBound (layer_state model t layer) p)
    all_met (entry ∷ entries) over within h =
        let here = all_hold model (unmet_literals layer n entry) in
        let later = some_holds model (unmet_cases layer n entries) in
        All-cons (MeetsBound (layer_state model t layer) p) entry entries
        (entry_met entry (All-head (λ (e : GuardedBound). All (λ x. x.node.0 < length t.closure.nodes) e.guard) entry entries over)
        (All-head (λ (e : GuardedBound). IsProgressBound most e.bound) entry entries within) (neither_left here later h))
        (all_met entries (All-tail (λ (e : GuardedBound). All (λ x. x.node.0 < length t.closure.nodes) e.guard) entry entries over)
        (All-tail (λ (e : GuardedBound). IsProgressBound most e.bound) entry entries within) (neither_right here later h))
