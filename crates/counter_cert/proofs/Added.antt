-- Clauses and variables that are added one after the other.
use Rattle.std.proofs.Common.{◌≡◌, ℕ, zero, suc, ◌+◌, ◌<◌, ◌≤◌, List, [], ◌∷◌, ◌++◌, length, drop, get_or, refl, sym, ap, ◌∙◌, subst, append_assoc, arith}
use Rattle.std.specs.Prelude.{All}
use Rattle.std.proofs.lemmas.List.{drop_all}
use Rattle.cnf.specs.declared.lit.Lit.{Lit}
use Rattle.cnf.specs.Gates.{literal}
use Rattle.cnf.proofs.ModelLaws.{append_nil}
use Rattle.tableau.specs.TableauStates.{ClosureOverPorts, fairness}
use Rattle.tableau.specs.Copies.{LayerLits, LayerCoding, IsCodedLayer}
use Rattle.tableau.specs.Steps.{step_clauses}
use Rattle.tableau.specs.Laws.{LayersStay}
use Rattle.counter_cert.specs.StartClauses.{implied_clauses, case_literals, cases_implied, some_case_clauses}
use Rattle.counter_cert.specs.declared.bounds.GuardedBound.{GuardedBound}
use Rattle.counter_cert.specs.Progress.{most_progress}
use Rattle.counter_cert.specs.StepClauses.{each_below, counting_clauses, no_case_clauses, unmet_cases, step_over}

-- ---- lists of the numbers below one

each_more : (f : ℕ → List (List Lit)) (b : ℕ) → each_below f (b + 1) ≡ each_below f b ++ f b
each_more f b =
    let next : suc b ≡ b + 1 = omega arith in
    subst (λ (i : ℕ). each_below f i ≡ each_below f b ++ f b) next refl

pub each_goes_on : (f : ℕ → List (List Lit)) (b : ℕ) (old now new : List (List Lit)) → now ≡ old ++ each_below f b
    → new ≡ now ++ f b → new ≡ old ++ each_below f (b + 1)
each_goes_on f b old now new e en =
    en ∙ (ap (λ xs. xs ++ f b) e ∙ (append_assoc old (each_below f b) (f b) ∙ ap (λ xs. old ++ xs) (sym (each_more f b))))

-- ---- one more case

pub case_goes_on : (cases : List (List Lit)) (i n n' : ℕ) (d : List Lit) (now new whole : List (List Lit)) → i < length cases
    → now ++ cases_implied n (drop i cases) ≡ whole → n' ≡ n + 1 → new ≡ now ++ implied_clauses n (get_or cases i d)
    → new ++ cases_implied n' (drop (i + 1) cases) ≡ whole
case_goes_on cases i n n' d now new whole within e en eg =
    let rest = cases_implied (n + 1) (drop (i + 1) cases) in
    (λ j. eg j ++ cases_implied (en j) (drop (i + 1) cases))
    ∙ (append_assoc now (implied_clauses n (get_or cases i d)) rest
    ∙ (ap (λ xs. now ++ cases_implied n xs) (sym (place_at cases i d within)) ∙ e))
  where
    place_at : (cases : List (List Lit)) (i : ℕ) (d : List Lit) → i < length cases → drop i cases ≡ get_or cases i d ∷ drop (i + 1) cases
    place_at (x ∷ xs) zero d h = refl
    place_at [] i d h = absurd (omega (arith, h))
    place_at (x ∷ xs) (suc i) d h =
        let next : suc (i + 1) ≡ suc i + 1 = omega arith in
        place_at xs i d (omega (arith, h)) ∙ ap (λ (k : ℕ). get_or xs i d ∷ drop k (x ∷ xs)) next

pub literal_goes_on : (cases : List (List Lit)) (i n n' : ℕ) (now new whole : List Lit) → i < length cases
    → now ++ case_literals n (drop i cases) ≡ whole → n' ≡ n + 1 → new ≡ now ++ literal n ∷ []
    → new ++ case_literals n' (drop (i + 1) cases) ≡ whole
literal_goes_on cases i n n' now new whole within e en eg =
    (λ j. eg j ++ case_literals (en j) (drop (i + 1) cases))
    ∙ (append_assoc now (literal n ∷ []) (case_literals (n + 1) (drop (i + 1) cases))
    ∙ (ap (λ xs. now ++ xs) (sym (at cases i within)) ∙ e))
  where
    at : (cases : List (List Lit)) (i : ℕ) → i < length cases
        → case_literals n (drop i cases) ≡ literal n ∷ case_literals (n + 1) (drop (i + 1) cases)
    at (x ∷ xs) zero h = refl
    at [] i h = absurd (omega (arith, h))
    at (x ∷ xs) (suc i) h =
        let next : suc (i + 1) ≡ suc i + 1 = omega arith in
        at xs i (omega (arith, h)) ∙ ap (λ (k : ℕ). literal n ∷ case_literals (n + 1) (drop k (x ∷ xs))) next

pub cases_end : (cases : List (List Lit)) (i n m : ℕ) (old now new : List (List Lit)) (any : List Lit) → length cases ≤ i
    → now ++ cases_implied m (drop i cases) ≡ old ++ cases_implied n cases
    → any ++ case_literals m (drop i cases) ≡ case_literals n cases → new ≡ now ++ any ∷ []
    → new ≡ old ++ some_case_clauses n cases
cases_end cases i n m old now new any all e ea en =
    let none = drop_all i cases all in
    let now_is : now ≡ old ++ cases_implied n cases = sym (append_nil now) ∙ (ap (λ xs. now ++ cases_implied m xs) (sym none) ∙ e) in
    let any_is : any ≡ case_literals n cases = sym (append_nil any) ∙ (ap (λ xs. any ++ case_literals m xs) (sym none) ∙ ea) in
    en ∙ ((λ j. now_is j ++ any_is j ∷ []) ∙ append_assoc old (cases_implied n cases) (case_literals n cases ∷ []))

-- ---- a layer where more is added

pub coded_later : LayersStay → (n m : ℕ) (older newer : List (List Lit)) (t : ClosureOverPorts) (layer : LayerLits)
    → IsCodedLayer n older t layer → n ≤ m → ((added : List (List Lit)) × (newer ≡ older ++ added)) → IsCodedLayer m newer t layer
coded_later stay n m older newer t layer is le more = stay n m older newer more.0 t layer le more.1 is

-- with one more variable and a clause
pub coded_with_clause : LayersStay → (n m k : ℕ) (older mid newer : List (List Lit)) (clause : List Lit) (t : ClosureOverPorts)
    (layer : LayerLits) → IsCodedLayer n older t layer → m ≡ n + 1 → mid ≡ older → k ≡ m → newer ≡ mid ++ clause ∷ []
    → IsCodedLayer k newer t layer
coded_with_clause stay n m k older mid newer clause t layer is em ec ek en =
    stay n k older newer (clause ∷ []) t layer (omega (arith, em, ek)) (en ∙ ap (λ xs. xs ++ clause ∷ []) ec) is

-- ---- the whole of a step

pub step_whole : (t : ClosureOverPorts) (k : ℕ) (entries : List GuardedBound) (from to : LayerCoding) (at_from at_to : LayerLits)
    (base mid met_by new : List (List Lit)) (n over met next last most : ℕ) → at_from ≡ from.layer → at_to ≡ to.layer → n ≡ to.vars + 1
    → base ≡ from.clauses ++ to.clauses ++ (literal to.vars ∷ []) ∷ [] ++ step_clauses t at_from at_to (literal to.vars)
    → mid ≡ base
    → met_by ≡ mid ++ counting_clauses t most at_from over met next ++ no_case_clauses (unmet_cases at_from over entries)
    → new ≡ met_by ++ some_case_clauses last (unmet_cases at_to next entries)
    → most ≡ most_progress t k → over ≡ n → met ≡ over + (most + 1) → next ≡ met + length (fairness t) → last ≡ next + (most + 1)
    → new ≡ (step_over t k from to entries).clauses
step_whole t k entries from to at_from at_to base mid met_by new n over met next last most ef et en eb em ec ew ek eo ea eh el =
    let o = eo ∙ en in
    let a = ea ∙ (λ j. o j + (ek j + 1)) in
    let h = eh ∙ (λ j. a j + length (fairness t)) in
    let l = el ∙ (λ j. h j + (ek j + 1)) in
    let front : mid ≡ from.clauses ++ to.clauses ++ (literal to.vars ∷ []) ∷ [] ++ step_clauses t from.layer to.layer (literal to.vars) =
    em ∙ (eb ∙ (λ j. from.clauses ++ to.clauses ++ (literal to.vars ∷ []) ∷ [] ++ step_clauses t (ef j) (et j) (literal to.vars))) in
    ew ∙ ((λ j. ec j ++ some_case_clauses last (unmet_cases at_to next entries))
    ∙ (λ j. front j ++ counting_clauses t (ek j) (ef j) (o j) (a j) (h j) ++ no_case_clauses (unmet_cases (ef j) (o j) entries)
    ++ some_case_clauses (l j) (unmet_cases (et j) (h j) entries)))
