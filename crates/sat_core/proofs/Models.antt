-- A trail that gives each variable a value, and falsifies no clause, is a model.
use Rattle.std.proofs.Common.{◌≡◌, ◌<◌, ◌≤◌, ◌+◌, ◌-◌, ◌⊎◌, ℕ, zero, suc, Bool, true, false, not, ◌||◌, ◌&&◌, List, [], ◌∷◌, ◌++◌, length, get_or, map}
use Rattle.std.proofs.Common.{Contains, Option, Some, None, refl, sym, ap, ◌∙◌, subst, inl, inr, arith, length-append}
use Rattle.std.specs.List.{list_any, list_all}
use Rattle.std.specs.Prelude.{if◌then◌else◌}
use Rattle.std.proofs.lemmas.List.{get_or_append_left, get_or-append_right, get_or-map, length-map, get_or_default, get_or_push}
use Rattle.std.proofs.lemmas.Bool.{cases_lt, cases_eq}
use Rattle.cnf.specs.declared.lit.Lit.{Lit}
use Rattle.cnf.specs.Clauses.{opposite, lit_holds, clause_holds, IsModel}
use Rattle.sat_core.specs.declared.trail.Step.{Step}
use Rattle.sat_core.specs.Search.{clause_lists, unit_clause, MadeTrue, AllFalse, AssumptionsTrue, IsTrail, AllWithin, lit_at}
use Rattle.sat_core.specs.Decisions.{AllAssigned}
use Rattle.sat_core.proofs.Trails.{same_lit, other_sign, MadeTrue-within}
use Rattle.sat_core.proofs.Members.{any_lit}

or_false : (a b : Bool) → (a || b) ≡ false → (a ≡ false) × (b ≡ false)
or_false true b e = absurd (cc)
or_false false b e = (refl, e)

any_false_at : (p : Lit → Bool) (xs : List Lit) (k : ℕ) (d : Lit) → list_any p xs ≡ false → k < length xs
    → p (get_or xs k d) ≡ false
any_false_at p [] k d e h = absurd (omega arith)
any_false_at p (x ∷ xs) zero d e h = (or_false (p x) (list_any p xs) e).0
any_false_at p (x ∷ xs) (suc k) d e h = any_false_at p xs k d (or_false (p x) (list_any p xs) e).1 (omega arith)

any_false : (p : Lit → Bool) (xs : List Lit) → list_any p xs ≡ false → (m : Lit) → Contains xs m → p m ≡ false
any_false p xs e m c = ap p (sym c.2) ∙ any_false_at p xs c.0 m e c.1

any_cases : (p : Lit → Bool) (xs : List Lit) (b : Bool) → list_any p xs ≡ b
    → (((m : Lit) → Contains xs m → p m ≡ false) → ⊥) → b ≡ true
any_cases p xs true e h = refl
any_cases p xs false e h = absurd (h (any_false p xs e))

pub any_true : (p : Lit → Bool) (xs : List Lit) → (((m : Lit) → Contains xs m → p m ≡ false) → ⊥) → list_any p xs ≡ true
any_true p xs h = any_cases p xs (list_any p xs) refl h

all_true : (p : List Lit → Bool) (xs : List (List Lit)) → ((k : ℕ) → k < length xs → p (get_or xs k []) ≡ true)
    → list_all p xs ≡ true
all_true p [] h = refl
all_true p (x ∷ xs) h = ap (λ (b : Bool). b && list_all p xs) (h 0 (omega arith)) ∙ all_true p xs (λ k lt. h (suc k) (omega arith))

-- the list of values gives each literal that was made true its sign
abbrev pub Reflects : List Step → List Bool → Type 0
Reflects steps values = (lit : Lit) → MadeTrue steps (length steps) lit → (lit.var < length values) × (get_or values lit.var false ≡ lit.positive)

holds_by : (values : List Bool) (lit : Lit) (s : Bool) → lit.positive ≡ s → lit.var < length values
    → get_or values lit.var false ≡ s → lit_holds values lit ≡ true
holds_by values lit true p h e = ap (λ (b : Bool). if b then get_or values lit.var false else not (get_or values lit.var true)) p ∙ e
holds_by values lit false p h e = ap (λ (b : Bool). if b then get_or values lit.var false else not (get_or values lit.var true)) p ∙ ap not
    (get_or_default values lit.var true false h ∙ e)

pub true_holds : (steps : List Step) (values : List Bool) → Reflects steps values → (lit : Lit)
    → MadeTrue steps (length steps) lit → lit_holds values lit ≡ true
true_holds steps values r lit t = let e = r lit t in holds_by values lit lit.positive refl e.0 e.1

true≢false : (b : Bool) → b ≡ true → b ≡ false → ⊥
true≢false true e f = cc
true≢false false e f = cc

pub bool_same : (a b : Bool) → (a ≡ b) ⊎ (a ≡ b → ⊥)
bool_same true true = inl refl
bool_same true false = inr (λ e. cc)
bool_same false true = inr (λ e. cc)
bool_same false false = inl refl

module _ (steps : List Step) (places : List (Option ℕ)) (trail : IsTrail steps places) (placed : AllAssigned places) where
  placed_at : (v : ℕ) (o : Option ℕ) → v < length places → get_or places v None ≡ o → (p : ℕ) × (p < length steps) ×
      ((lit_at steps p).var ≡ v)
  placed_at v None h e = absurd (placed v h e)
  placed_at v (Some p) h e = let on = trail.stands v p e in (p, on.0, on.1)

  -- a literal is true or its opposite is
  pub decided : (lit : Lit) → lit.var < length places
      → MadeTrue steps (length steps) lit ⊎ MadeTrue steps (length steps) (opposite lit)
  decided lit h =
      let at = placed_at lit.var (get_or places lit.var None) h refl in
      elim (bool_same (lit_at steps at.0).positive lit.positive) [
        | inl same ↦ inl (at.0, at.1, same_lit _ _ at.2 same)
        | inr other ↦ inr (at.0, at.1, same_lit _ _ at.2 (other_sign _ _ other))
      ]

  -- a clause that isn't falsified holds
  pub clause_true : (values : List Bool) (clause : List Lit) → Reflects steps values
      → ((lit : Lit) → Contains clause lit → lit.var < length places) → (AllFalse steps (length steps) clause → ⊥)
      → clause_holds values clause ≡ true
  clause_true values clause r within quiet =
      any_true (lit_holds values) clause (λ none. quiet (λ lit c.
      elim (decided lit (within lit c)) [
        | inl t ↦ absurd (true≢false _ (true_holds steps values r lit t) (none lit c))
        | inr f ↦ f
      ]))

  pub model_from : (added learnt : List (List Lit)) (assumed : List Lit) (values : List Bool) (n : ℕ) → length values
      ≡ n → Reflects steps values → AllWithin (length places) added →
      ((k : ℕ) → k < length added → AllFalse steps (length steps) (get_or added k []) → ⊥) → AssumptionsTrue
      (clause_lists added learnt assumed) steps (length steps) → IsModel n (added ++ map unit_clause assumed) values
  model_from added learnt assumed values n len r within quiet assumptions = record {
    vars = len;
    holds = all_true (clause_holds values) (added ++ map unit_clause assumed) (λ k h.
        elim (cases_lt k (length added)) [
          | inl lt ↦
              ap (λ c. clause_holds values c) (get_or_append_left added (map unit_clause assumed) [] k lt)
              ∙ clause_true values (get_or added k []) r (within k lt) (quiet k lt)
          | inr ge ↦
              let j = k - length added in
              let short : j < length assumed = omega (arith, length-append added (map unit_clause assumed), length-map assumed unit_clause) in
              let unit_is : get_or (map unit_clause assumed) j [] ≡ unit_clause (get_or assumed j any_lit) =
              get_or-map unit_clause assumed j any_lit [] short in
              let t = assumptions j (omega (arith, length-map assumed unit_clause)) (get_or assumed j any_lit) unit_is in
              ap (λ c. clause_holds values c) (get_or-append_right added (map unit_clause assumed) (length added) k [] refl ge ∙ unit_is)
              ∙ ap (λ (b : Bool). b || false) (true_holds steps values r (get_or assumed j any_lit) t)
        ]);
  }

-- one value more
pub reflects_next : (steps : List Step) (values new : List Bool) (n : ℕ) (b : Bool) → length values ≡ n
    → new ≡ values ++ b ∷ []
    → ((lit : Lit) → MadeTrue steps (length steps) lit → lit.var < n → get_or values lit.var false ≡ lit.positive)
    → ((lit : Lit) → MadeTrue steps (length steps) lit → lit.var ≡ n → b ≡ lit.positive) → (lit : Lit)
    → MadeTrue steps (length steps) lit → lit.var < n + 1 → get_or new lit.var false ≡ lit.positive
reflects_next steps values new n b len e old here lit t h =
    ap (λ (l : List Bool). get_or l lit.var false) e ∙
    elim (cases_eq lit.var n) [
      | inl at ↦ get_or_push values b false lit.var (len ∙ sym at) ∙ here lit t at
      | inr other ↦ get_or_append_left values (b ∷ []) false lit.var (omega (arith, other)) ∙ old lit t (omega (arith, other))
    ]

-- where a search is done: each variable has a value, no added clause is false, and each assumption is true
pub record IsDone (steps : List Step) (places : List (Option ℕ)) (added learnt : List (List Lit)) (assumed : List Lit)
    : Type 0 where
  pub trail : IsTrail steps places
  pub placed : AllAssigned places
  pub within : AllWithin (length places) added
  pub none_false : (k : ℕ) → k < length added → AllFalse steps (length steps) (get_or added k []) → ⊥
  pub assumptions : AssumptionsTrue (clause_lists added learnt assumed) steps (length steps)

pub model_of : (steps : List Step) (places : List (Option ℕ)) (added learnt : List (List Lit)) (assumed : List Lit)
    (values model : List Bool) (n : ℕ) → model ≡ values → length values ≡ n → length places ≤ n → n ≤ length places
    → IsDone steps places added learnt assumed
    → ((lit : Lit) → MadeTrue steps (length steps) lit → lit.var < n → get_or values lit.var false ≡ lit.positive)
    → IsModel (length places) (added ++ map unit_clause assumed) model
model_of steps places added learnt assumed values model n e len ge le d reflects =
    let r : Reflects steps values = λ lit t. let w = MadeTrue-within steps places d.trail lit t in (omega (arith, w), reflects lit t (omega (arith, w))) in
    subst (λ (m : List Bool). IsModel (length places) (added ++ map unit_clause assumed) m) (sym e)
    (model_from steps places d.trail d.placed added learnt assumed values (length places) (omega arith) r d.within d.none_false d.assumptions)
