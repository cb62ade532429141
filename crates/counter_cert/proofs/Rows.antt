-- Models with rows of values behind them.
use Rattle.std.proofs.Common.{◌≡◌, ℕ, zero, suc, ◌+◌, ◌<◌, ◌≤◌, Bool, true, false, ◌&&◌, List, [], ◌∷◌, ◌++◌, length, map, get_or}
use Rattle.std.proofs.Common.{inl, inr, refl, sym, ap, ◌∙◌, subst, arith, length-append}
use Rattle.std.specs.Prelude.{All}
use Rattle.std.specs.List.{list_all}
use Rattle.std.proofs.lemmas.Bool.{cases_lt}
use Rattle.std.proofs.lemmas.List.{length-map, get_or_append_left, get_or_push, get_or-append-add}
use Rattle.std.proofs.lemmas.List.Elements.{All-head, All-tail}
use Rattle.cnf.specs.declared.lit.Lit.{Lit}
use Rattle.cnf.specs.Clauses.{lit_holds}
use Rattle.cnf.specs.Gates.{literal}
use Rattle.cnf.proofs.ModelLaws.{lit_holds-append}
use Rattle.cnf.proofs.GateSteps.{Within}
use Rattle.counter_cert.proofs.CaseLaws.{all_hold, HasValues, values_behind}
use Rattle.counter_cert.proofs.CountLaws.{IsRow}

-- the values of the numbers below k
abbrev pub row_values : (ℕ → Bool) → ℕ → List Bool
row_values f zero = []
row_values f (suc k) = row_values f k ++ f k ∷ []

pub length-row_values : (f : ℕ → Bool) (k : ℕ) → length (row_values f k) ≡ k
length-row_values f zero = refl
length-row_values f (suc k) =
    let front = length-row_values f k in
    let all : length (row_values f k ++ f k ∷ []) ≡ length (row_values f k) + 1 = length-append (row_values f k) (f k ∷ []) in
    omega (arith, front, all)

row_get : (f : ℕ → Bool) (k i : ℕ) → i < k → get_or (row_values f k) i false ≡ f i
row_get f zero i h = absurd (omega (arith, h))
row_get f (suc k) i h =
    let front = length-row_values f k in
    elim (cases_lt i k) [
      | inl less ↦ get_or_append_left (row_values f k) (f k ∷ []) false i (omega (arith, less, front)) ∙ row_get f k i less
      | inr ge ↦
          let same : k ≡ i = omega (arith, h, ge) in
          get_or_push (row_values f k) (f k) false i (front ∙ same) ∙ ap f same
    ]

pub row_made : (base : List Bool) (n : ℕ) (f : ℕ → Bool) (k : ℕ) → length base ≡ n → IsRow (base ++ row_values f k) n k f
row_made base n f k e = λ i h.
    ap (λ (m : ℕ). get_or (base ++ row_values f k) (m + i) false) (sym e)
    ∙ (get_or-append-add base (row_values f k) i false ∙ row_get f k i h)

pub row_later : (model more : List Bool) (n k : ℕ) (f : ℕ → Bool) → n + k ≤ length model → IsRow model n k f
    → IsRow (model ++ more) n k f
row_later model more n k f le row = λ i h. lit_holds-append model more (literal (n + i)) (omega (arith, le, h)) ∙ row i h

all_hold_stays : (base more : List Bool) (lits : List Lit) → All (λ lit. lit.var < length base) lits
    → all_hold (base ++ more) lits ≡ all_hold base lits
all_hold_stays base more [] h = refl
all_hold_stays base more (x ∷ lits) h =
    let first = lit_holds-append base more x (All-head (λ (lit : Lit). lit.var < length base) x lits h) in
    let rest = all_hold_stays base more lits (All-tail (λ (lit : Lit). lit.var < length base) x lits h) in
    λ j. first j && rest j

all_cases_stay : (base more : List Bool) (cases : List (List Lit)) → Within (length base) cases
    → map (all_hold (base ++ more)) cases ≡ map (all_hold base) cases
all_cases_stay base more [] h = refl
all_cases_stay base more (lits ∷ cases) h =
    let first = all_hold_stays base more lits (All-head (All (λ (lit : Lit). lit.var < length base)) lits cases h) in
    let rest = all_cases_stay base more cases (All-tail (All (λ (lit : Lit). lit.var < length base)) lits cases h) in
    λ j. first j ∷ rest j

-- the values of cases behind a model
pub case_values : (base : List Bool) (n : ℕ) (cases : List (List Lit)) → length base ≡ n → Within n cases
    → (values : List Bool) × (length values ≡ length cases)
    × HasValues (base ++ values) n (map (all_hold (base ++ values)) cases)
case_values base n cases e known =
    let values = map (all_hold base) cases in (
      values,
      length-map cases (all_hold base),
      subst (HasValues (base ++ values) n) (sym (all_cases_stay base values cases (subst (λ (m : ℕ). Within m cases) (sym e) known)))
          (values_behind (base ++ values) n base values refl (sym e)),
    )
