-- what is derived holds in each model
use Rattle.std.proofs.Common.{◌≡◌, ◌<◌, ◌≤◌, ◌+◌, ◌↔◌, ℕ, zero, suc, Bool, true, false, not, cond, List, [], ◌∷◌, ◌++◌, length, map, take}
use Rattle.std.proofs.Common.{get_or, refl, sym, ◌∙◌, ap, subst, inl, inr, arith, add-one, append_assoc}
use Rattle.std.specs.List.{Contains, All}
use Rattle.std.proofs.lemmas.List.Elements.{All-push}
use Rattle.std.proofs.lemmas.Bool.{false≢true, or_cases, and_parts, and_from}
use Rattle.std.proofs.lemmas.List.{take_more}
use Rattle.std.proofs.lemmas.Option.{slice_get-get_or}
use Rattle.std.proofs.lemmas.List.Folds.{list_any_at, list_all-append}
use Rattle.std.proofs.Math.Seq.{get_or-append_seam}
use Rattle.std.proofs.Math.ListN.{length-append}
use Rattle.cnf.specs.declared.lit.Lit.{Lit}
use Rattle.cnf.specs.Clauses.{opposite, lit_holds, clause_holds, clauses_hold, HasNoModel}
use Rattle.clause_log.specs.declared.chain.Pivot.{Pivot}
use Rattle.clause_log.specs.declared.chain.Chain.{Chain}
use Rattle.clause_log.specs.Derivations.{Resolves, Leads, Follows, clauses_before, EachFollows, EndsEmpty, Derives}
use Rattle.clause_log.proofs.Lits.{lit_cases, has_head, has_tail}

pub some_holds : (model : List Bool) (clause : List Lit) → clause_holds model clause ≡ true
    → (lit : Lit) × Contains clause lit × (lit_holds model lit ≡ true)
some_holds model [] h = absurd (false≢true h)
some_holds model (l ∷ ls) h =
    elim (or_cases (lit_holds model l) (clause_holds model ls) h) [
      | inl here ↦ (l, has_head l ls, here)
      | inr there ↦ let more = some_holds model ls there in (more.0, has_tail l ls more.0 more.1, more.2)
    ]

pub holds_by : (model : List Bool) (clause : List Lit) (lit : Lit) → Contains clause lit → lit_holds model lit ≡ true
    → clause_holds model clause ≡ true
holds_by model clause lit c h = list_any_at (lit_holds model) clause c.0 lit c.1 (ap (lit_holds model) c.2 ∙ h)

true_there : (model : List Bool) (v : ℕ) → get_or model v false ≡ true → get_or model v true ≡ true
true_there [] v h = absurd (false≢true h)
true_there (b ∷ bs) zero h = h
true_there (b ∷ bs) (suc v) h = true_there bs v h

not_true : (b : Bool) → b ≡ true → not b ≡ true → ⊥
not_true true e f = false≢true f
not_true false e f = false≢true e

signs_apart : (sign : Bool) (model : List Bool) (v : ℕ)
    → cond sign (get_or model v false) (not (get_or model v true)) ≡ true
    → cond (not sign) (get_or model v false) (not (get_or model v true)) ≡ true → ⊥
signs_apart true model v h k = not_true (get_or model v true) (true_there model v h) k
signs_apart false model v h k = not_true (get_or model v true) (true_there model v k) h

-- no model has a literal and its opposite
not_both : (model : List Bool) (lit : Lit) → lit_holds model lit ≡ true → lit_holds model (opposite lit) ≡ true → ⊥
not_both model lit h k = signs_apart lit.positive model lit.var h k

pub resolvent_holds : (model : List Bool) (left right after : List Lit) (pivot : Lit) → Resolves left right pivot after
    → clause_holds model left ≡ true → clause_holds model right ≡ true → clause_holds model after ≡ true
resolvent_holds model left right after pivot is hl hr =
    let l = some_holds model left hl in
    let r = some_holds model right hr in
    elim (lit_cases l.0 pivot) [
      | inl e ↦ elim (lit_cases r.0 (opposite pivot)) [
        | inl f ↦ absurd (not_both model pivot (sym (ap (lit_holds model) e) ∙ l.2) (sym (ap (lit_holds model) f) ∙ r.2))
        | inr m ↦ holds_by model after r.0 ((is.resolvent r.0).1 (inr (r.1, m))) r.2
      ]
      | inr n ↦ holds_by model after l.0 ((is.resolvent l.0).1 (inl (l.1, n))) l.2
    ]

pub one_holds : (model : List Bool) (clauses : List (List Lit)) (k : ℕ) → k < length clauses
    → clauses_hold model clauses ≡ true → clause_holds model (get_or clauses k []) ≡ true
one_holds model [] k low h = absurd (omega arith)
one_holds model (c ∷ cs) zero low h = (and_parts (clause_holds model c) (clauses_hold model cs) h).0
one_holds model (c ∷ cs) (suc k) low h = one_holds model cs k (omega arith) (and_parts (clause_holds model c) (clauses_hold model cs) h).1

leads_hold : (model : List Bool) (before : List (List Lit)) (so_far : List Lit) (steps : List Pivot) (clause : List Lit)
    → clauses_hold model before ≡ true → clause_holds model so_far ≡ true → Leads before so_far steps clause
    → clause_holds model clause ≡ true
leads_hold model before so_far [] clause all h same = let l = some_holds model so_far h in holds_by model clause l.0 ((same l.0).0 l.1) l.2
leads_hold model before so_far (step ∷ steps) clause all h leads =
    leads_hold model before leads.1.1 steps clause all
    (resolvent_holds model so_far (get_or before step.clause []) leads.1.1 leads.1.0 leads.1.3 h (one_holds model before step.clause leads.0 all))
    leads.1.4

follows_holds : (model : List Bool) (before : List (List Lit)) (chain : Chain) → clauses_hold model before ≡ true
    → Follows before chain → clause_holds model chain.clause ≡ true
follows_holds model before chain all is = leads_hold model before (get_or before chain.first []) chain.rest chain.clause all
    (one_holds model before chain.first is.0 all) is.1

map_append : {A B : Type 0} (f : A → B) (xs ys : List A) → map f (xs ++ ys) ≡ map f xs ++ map f ys
map_append f [] ys = refl
map_append f (x ∷ xs) ys = ap (λ l. f x ∷ l) (map_append f xs ys)

-- one chain more
pub before_more : (cnf : List (List Lit)) (log : List Chain) (k : ℕ) (d : Chain) → k < length log
    → clauses_before cnf log (k + 1) ≡ clauses_before cnf log k ++ (get_or log k d).clause ∷ []
before_more cnf log k d h =
    ap (λ (l : List Chain). cnf ++ map (λ (chain : Chain). chain.clause) l) (take_more log k d h)
    ∙ ap (λ (l : List (List Lit)). cnf ++ l) (map_append (λ (chain : Chain). chain.clause) (take k log) (get_or log k d ∷ []))
    ∙ sym (append_assoc cnf (map (λ (chain : Chain). chain.clause) (take k log)) ((get_or log k d).clause ∷ []))

append_none : {A : Type 0} (xs : List A) → xs ++ [] ≡ xs
append_none [] = refl
append_none (x ∷ xs) = ap (λ ys. x ∷ ys) (append_none xs)

all_hold : (model : List Bool) (cnf : List (List Lit)) (log : List Chain) (d : Chain) → clauses_hold model cnf ≡ true
    → EachFollows cnf log → (k : ℕ) → k ≤ length log → clauses_hold model (clauses_before cnf log k) ≡ true
all_hold model cnf log d h each zero le = ap (clauses_hold model) (append_none cnf) ∙ h
all_hold model cnf log d h each (suc k) le =
    let before : clauses_hold model (clauses_before cnf log k) ≡ true = all_hold model cnf log d h each k (omega arith) in
    let more : clauses_before cnf log (suc k) ≡ clauses_before cnf log k ++ (get_or log k d).clause ∷ [] = sym (ap (clauses_before cnf log) (add-one k))
    ∙ before_more cnf log k d (omega arith) in
    ap (clauses_hold model) more
    ∙ list_all-append (clause_holds model) (clauses_before cnf log k) ((get_or log k d).clause ∷ [])
    ∙ and_from (clauses_hold model (clauses_before cnf log k)) (clauses_hold model ((get_or log k d).clause ∷ [])) before
    (and_from (clause_holds model (get_or log k d).clause) true
    (follows_holds model (clauses_before cnf log k) (get_or log k d) before (each k (get_or log k d) (slice_get-get_or log k d (omega arith)))) refl)

-- what derives the empty clause has no model
pub refutes : (n : ℕ) (cnf : List (List Lit)) (log : List Chain) → Derives cnf log → HasNoModel n cnf
refutes n cnf log is model holds =
    let front : List Chain = is.ends.0 in
    let last : Chain = is.ends.1 in
    let whole : log ≡ front ++ last ∷ [] = is.ends.2 in
    let long : length log ≡ length front + 1 = ap length whole ∙ length-append front (last ∷ []) in
    let at : get_or log (length front) last ≡ last = ap (λ (l : List Chain). get_or l (length front) last) whole ∙ get_or-append_seam front last [] last in
    let before : clauses_hold model (clauses_before cnf log (length front)) ≡ true = all_hold model cnf log last holds.holds is.each (length front)
    (omega arith) in
    let is_last : Follows (clauses_before cnf log (length front)) last = subst (λ (c : Chain). Follows (clauses_before cnf log (length front)) c) at
    (is.each (length front) (get_or log (length front) last) (slice_get-get_or log (length front) last (omega arith))) in
    false≢true (sym (ap (clause_holds model) is.ends.3) ∙ follows_holds model (clauses_before cnf log (length front)) last before is_last)

pub known_more : (n : ℕ) (cnf : List (List Lit)) (log : List Chain) (k : ℕ) (d : Chain) → k < length log
    → All (All (λ lit. lit.var < n)) (clauses_before cnf log k) → All (λ lit. lit.var < n) (get_or log k d).clause
    → All (All (λ lit. lit.var < n)) (clauses_before cnf log (k + 1))
known_more n cnf log k d low all one = rw (before_more cnf log k d low)
    (All-push (All (λ lit. lit.var < n)) (clauses_before cnf log k) (get_or log k d).clause all one)

pub derived_by : (cnf cnf' : List (List Lit)) (log log' : List Chain) → cnf' ≡ cnf → log' ≡ log → EachFollows cnf' log'
    → EndsEmpty log' → Derives cnf log
derived_by cnf cnf' log log' ec el each ends =
    let is : Derives cnf' log' = record { each = each; ends = ends } in
    subst (λ (l : List Chain). Derives cnf l) el (subst (λ (l : List (List Lit)). Derives l log') ec is)

-- where a log ends empty, it derives exactly where each chain follows
pub derives_where : (cnf cnf' : List (List Lit)) (log log' : List Chain) (result : Bool) → cnf' ≡ cnf → log' ≡ log
    → (result ≡ true) ↔ EachFollows cnf' log' → EndsEmpty log' → (result ≡ true) ↔ Derives cnf log
derives_where cnf cnf' log log' result ec el exact ends = (
  λ h. derived_by cnf cnf' log log' ec el (exact.0 h) ends,
  λ is. exact.1
      (subst (λ (l : List Chain). EachFollows cnf' l) (sym el) (subst (λ (l : List (List Lit)). EachFollows l log) (sym ec) is.each)),
)
