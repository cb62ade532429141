-- What the clauses of cases say of a model, and that they fit where the variables have the cases' values.
use Rattle.std.proofs.Common.{◌≡◌, ℕ, zero, suc, ◌+◌, ◌<◌, ◌≤◌, Bool, true, false, not, ◌&&◌, ◌||◌, List, [], ◌∷◌, ◌++◌, length, map, get_or}
use Rattle.std.proofs.Common.{inl, inr, refl, sym, ap, ◌∙◌, arith, append_assoc, length-append}
use Rattle.std.specs.Prelude.{All}
use Rattle.std.specs.List.{list_any, list_all}
use Rattle.std.proofs.lemmas.Bool.{and_parts, and_from, or_left, or_right, or_cases, cases_Bool, true≢false}
use Rattle.std.proofs.lemmas.List.Elements.{All-head, All-tail}
use Rattle.std.proofs.Math.Seq.{get_or-append_seam}
use Rattle.cnf.specs.declared.lit.Lit.{Lit}
use Rattle.cnf.specs.Clauses.{opposite, lit_holds, clause_holds, clauses_hold}
use Rattle.cnf.specs.Gates.{literal}
use Rattle.cnf.proofs.ModelLaws.{lit_holds-opposite}
use Rattle.cnf.proofs.ListLaws.{pairs_say, any_opposite}
use Rattle.state_coding.proofs.StateLaws.{parts_hold, both_hold}
use Rattle.counter_cert.specs.StartClauses.{implied_clauses, case_literals, cases_implied, some_case_clauses}
use Rattle.counter_cert.specs.StepClauses.{no_case_clauses}

abbrev pub all_hold : List Bool → List Lit → Bool
all_hold model lits = list_all (lit_holds model) lits

-- some case holds
abbrev pub some_holds : List Bool → List (List Lit) → Bool
some_holds model cases = list_any (all_hold model) cases

-- ---- the variable of a case

off_when : (model : List Bool) (n : ℕ) → n < length model → lit_holds model (literal n) ≡ true
    → lit_holds model (opposite (literal n)) ≡ false
off_when model n h on = lit_holds-opposite model (literal n) h ∙ ap not on

on_when : (model : List Bool) (n : ℕ) → n < length model → lit_holds model (literal n) ≡ false
    → lit_holds model (opposite (literal n)) ≡ true
on_when model n h off = lit_holds-opposite model (literal n) h ∙ ap not off

other_side : (a b : Bool) → a ≡ false → (a || b) ≡ true → b ≡ true
other_side true b e h = absurd (true≢false e)
other_side false b e h = h

pub implied_says : (model : List Bool) (n : ℕ) (lits : List Lit) → n < length model
    → clauses_hold model (implied_clauses n lits) ≡ true → lit_holds model (literal n) ≡ true → all_hold model lits ≡ true
implied_says model n lits h holds on =
    other_side (lit_holds model (opposite (literal n))) (all_hold model lits) (off_when model n h on)
    (sym (pairs_say model (opposite (literal n)) lits) ∙ holds)

pub implied_fits : (model : List Bool) (n : ℕ) (lits : List Lit) → n < length model
    → lit_holds model (literal n) ≡ all_hold model lits → clauses_hold model (implied_clauses n lits) ≡ true
implied_fits model n lits h same = pairs_say model (opposite (literal n)) lits ∙
    elim (cases_Bool (all_hold model lits)) [
      | inl on ↦ or_right (lit_holds model (opposite (literal n))) (all_hold model lits) on
      | inr off ↦ or_left (lit_holds model (opposite (literal n))) (all_hold model lits) (on_when model n h (same ∙ off))
    ]

-- ---- all cases

pub cases_say : (model : List Bool) (n : ℕ) (cases : List (List Lit)) → n + length cases ≤ length model
    → clauses_hold model (cases_implied n cases) ≡ true → clause_holds model (case_literals n cases) ≡ true
    → some_holds model cases ≡ true
cases_say model n [] le h any = any
cases_say model n (lits ∷ cases) le h any =
    let parts = parts_hold model (implied_clauses n lits) (cases_implied (n + 1) cases) h in
    elim (or_cases (lit_holds model (literal n)) (clause_holds model (case_literals (n + 1) cases)) any) [
      | inl on ↦ or_left (all_hold model lits) (some_holds model cases) (implied_says model n lits (omega (arith, le)) parts.0 on)
      | inr later ↦ or_right (all_hold model lits) (some_holds model cases)
          (cases_say model (n + 1) cases (omega (arith, le)) parts.1 later)
    ]

sole_says : (b : Bool) → (b && true) ≡ true → b ≡ true
sole_says true h = refl
sole_says false h = h

pub some_case_says : (model : List Bool) (n : ℕ) (cases : List (List Lit)) → n + length cases ≤ length model
    → clauses_hold model (some_case_clauses n cases) ≡ true → some_holds model cases ≡ true
some_case_says model n cases le h =
    let parts = parts_hold model (cases_implied n cases) (case_literals n cases ∷ []) h in
    cases_say model n cases le parts.0 (sole_says (clause_holds model (case_literals n cases)) parts.1)

-- the variables from n on have these values
abbrev pub HasValues : List Bool → ℕ → List Bool → Type 0
HasValues model n [] = Unit {0}
HasValues model n (v ∷ values) = (n < length model) × (lit_holds model (literal n) ≡ v) × HasValues model (n + 1) values

pub values_behind : (model : List Bool) (n : ℕ) (front values : List Bool) → model ≡ front ++ values → n ≡ length front
    → HasValues model n values
values_behind model n front [] e at = tt
values_behind model n front (v ∷ values) e at =
    let long : length model ≡ length front + suc (length values) = ap length e ∙ length-append front (v ∷ values) in (
      omega (arith, long, at),
      ap (λ (xs : List Bool). get_or xs n false) e ∙ (ap (λ (i : ℕ). get_or (front ++ v ∷ values) i false) at ∙ get_or-append_seam front v values false),
      values_behind model (n + 1) (front ++ v ∷ []) values (e ∙ sym (append_assoc front (v ∷ []) values))
          (ap (λ (i : ℕ). i + 1) at ∙ sym (length-append front (v ∷ []))),
    )

pub cases_fit : (model : List Bool) (n : ℕ) (cases : List (List Lit)) → HasValues model n (map (all_hold model) cases)
    → clauses_hold model (cases_implied n cases) ≡ true
cases_fit model n [] has = refl
cases_fit model n (lits ∷ cases) has =
    both_hold model (implied_clauses n lits) (cases_implied (n + 1) cases)
    (implied_fits model n lits has.0 has.1) (cases_fit model (n + 1) cases has.2)

pub any_fits : (model : List Bool) (n : ℕ) (cases : List (List Lit)) → HasValues model n (map (all_hold model) cases)
    → some_holds model cases ≡ true → clause_holds model (case_literals n cases) ≡ true
any_fits model n [] has h = h
any_fits model n (lits ∷ cases) has h =
    elim (or_cases (all_hold model lits) (some_holds model cases) h) [
      | inl on ↦ or_left (lit_holds model (literal n)) (clause_holds model (case_literals (n + 1) cases)) (has.1 ∙ on)
      | inr later ↦ or_right (lit_holds model (literal n)) (clause_holds model (case_literals (n + 1) cases))
          (any_fits model (n + 1) cases has.2 later)
    ]

pub some_case_fits : (model : List Bool) (n : ℕ) (cases : List (List Lit)) → HasValues model n (map (all_hold model) cases)
    → some_holds model cases ≡ true → clauses_hold model (some_case_clauses n cases) ≡ true
some_case_fits model n cases has h =
    both_hold model (cases_implied n cases) (case_literals n cases ∷ []) (cases_fit model n cases has)
    (and_from (clause_holds model (case_literals n cases)) true (any_fits model n cases has h) refl)

-- ---- no case

neither : (a b c d : Bool) → a ≡ not c → b ≡ not d → (a && b) ≡ not (c || d)
neither a b true d e f = rw (e) refl
neither a b false d e f = rw (e, f) refl

pub no_case_is : (model : List Bool) (cases : List (List Lit)) → All (All (λ lit. lit.var < length model)) cases
    → clauses_hold model (no_case_clauses cases) ≡ not (some_holds model cases)
no_case_is model [] known = refl
no_case_is model (lits ∷ cases) known =
    neither (clause_holds model (map opposite lits)) (clauses_hold model (no_case_clauses cases)) (all_hold model lits) (some_holds model cases)
    (any_opposite model lits (All-head (All (λ lit. lit.var < length model)) lits cases known))
    (no_case_is model cases (All-tail (All (λ lit. lit.var < length model)) lits cases known))
