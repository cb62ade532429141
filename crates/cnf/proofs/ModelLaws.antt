-- what follows from the definitions of models, for any clauses
use Rattle.std.proofs.Common.{◌≡◌, ◌+◌, ◌<◌, ℕ, zero, suc, Bool, true, false, not, ◌&&◌, List, [], ◌∷◌, ◌++◌, length, take, get_or, refl, sym, ◌∙◌, ap}
use Rattle.std.proofs.Common.{inl, inr, ⊎_elim, arith, cond, append_assoc, length-append}
use Rattle.std.proofs.lemmas.Bool.{and_parts, and_from, or_cases, or_left, or_right, cases_lt, false≢true}
use Rattle.std.proofs.lemmas.List.{get_or_append_left, get_or_past, take_all}
use Rattle.std.proofs.lemmas.List.Folds.{list_all-append}
use Rattle.std.proofs.Math.Seq.{get_or-append_seam}
use Rattle.cnf.specs.declared.lit.Lit.{Lit}
use Rattle.cnf.specs.Clauses.{opposite, lit_holds, clause_holds, clauses_hold, IsConservative}
use Rattle.cnf.specs.Gates.{literal}

-- the default of a read within the list does not matter
any_default : (xs : List Bool) (i : ℕ) (d e : Bool) → i < length xs → get_or xs i d ≡ get_or xs i e
any_default [] i d e h = absurd (omega arith)
any_default (x ∷ xs) zero d e h = refl
any_default (x ∷ xs) (suc i) d e h = any_default xs i d e (omega arith)

not_not : (b : Bool) → b ≡ not (not b)
not_not true = refl
not_not false = refl

sign_opposite : (s p q : Bool) → p ≡ q → cond (not s) p (not q) ≡ not (cond s p (not q))
sign_opposite true p q e = ap not (sym e)
sign_opposite false p q e = e ∙ not_not q

-- a literal and its opposite have opposite values where their variable has one
pub lit_holds-opposite : (model : List Bool) (lit : Lit) → lit.var < length model
    → lit_holds model (opposite lit) ≡ not (lit_holds model lit)
lit_holds-opposite model lit h = sign_opposite lit.positive _ _ (any_default model lit.var false true h)

-- a literal that holds still holds where variables are added
sign_more : (s : Bool) (model more : List Bool) (v : ℕ)
    → cond s (get_or model v false) (not (get_or model v true)) ≡ true
    → cond s (get_or (model ++ more) v false) (not (get_or (model ++ more) v true)) ≡ true
sign_more s model more v h =
    elim (cases_lt v (length model)) [
      | inl low ↦ rw (get_or_append_left model more false v low, get_or_append_left model more true v low) h
      | inr high ↦ absurd (false≢true (past s (get_or_past model v false high) (get_or_past model v true high) ∙ h))
    ]
  where
    past : (s : Bool) {p q : Bool} → p ≡ false → q ≡ true → false ≡ cond s p (not q)
    past true e f = sym e
    past false e f = sym (ap not f)

pub lit_holds-more : (model more : List Bool) (lit : Lit) → lit_holds model lit ≡ true
    → lit_holds (model ++ more) lit ≡ true
lit_holds-more model more lit h = sign_more lit.positive model more lit.var h

-- within the old variables nothing changes
pub lit_holds-append : (model more : List Bool) (lit : Lit) → lit.var < length model
    → lit_holds (model ++ more) lit ≡ lit_holds model lit
lit_holds-append model more lit low = rw (get_or_append_left model more false lit.var low, get_or_append_left model more true lit.var low) refl

pub clause_holds-more : (model more : List Bool) (clause : List Lit) → clause_holds model clause ≡ true
    → clause_holds (model ++ more) clause ≡ true
clause_holds-more model more [] h = absurd (false≢true h)
clause_holds-more model more (l ∷ ls) h =
    ⊎_elim
    (λ (here : lit_holds model l ≡ true). or_left (lit_holds (model ++ more) l) (clause_holds (model ++ more) ls) (lit_holds-more model more l here))
    (λ (there : clause_holds model ls ≡ true). or_right (lit_holds (model ++ more) l) (clause_holds (model ++ more) ls)
    (clause_holds-more model more ls there))
    (or_cases (lit_holds model l) (clause_holds model ls) h)

pub clauses_hold-more : (model more : List Bool) (clauses : List (List Lit)) → clauses_hold model clauses ≡ true
    → clauses_hold (model ++ more) clauses ≡ true
clauses_hold-more model more [] h = refl
clauses_hold-more model more (c ∷ cs) h =
    let both = and_parts (clause_holds model c) (clauses_hold model cs) h in
    and_from (clause_holds (model ++ more) c) (clauses_hold (model ++ more) cs)
    (clause_holds-more model more c both.0)
    (clauses_hold-more model more cs both.1)

pub clauses_hold-append : (model : List Bool) (xs ys : List (List Lit))
    → clauses_hold model (xs ++ ys) ≡ (clauses_hold model xs && clauses_hold model ys)
clauses_hold-append model xs ys = list_all-append (clause_holds model) xs ys

pub clauses_hold-take : (model : List Bool) (k : ℕ) (clauses : List (List Lit)) → clauses_hold model clauses ≡ true
    → clauses_hold model (take k clauses) ≡ true
clauses_hold-take model zero clauses h = refl
clauses_hold-take model (suc k) [] h = refl
clauses_hold-take model (suc k) (c ∷ cs) h =
    let both = and_parts (clause_holds model c) (clauses_hold model cs) h in
    and_from (clause_holds model c) (clauses_hold model (take k cs)) both.0 (clauses_hold-take model k cs both.1)

-- the value of the variable that is added last
pub lit_holds-last : (model : List Bool) (value : Bool) (n : ℕ) → length model ≡ n
    → lit_holds (model ++ value ∷ []) (literal n) ≡ value
lit_holds-last model value n e = rw (← e) (get_or-append_seam model value [] false)

pub append_nil : {A : Type 0} (xs : List A) → xs ++ [] ≡ xs
append_nil [] = refl
append_nil (x ∷ xs) = ap (λ ys. x ∷ ys) (append_nil xs)

pub IsConservative_refl : (n : ℕ) (clauses : List (List Lit)) → IsConservative n clauses n clauses
IsConservative_refl n clauses = record {
  vars = omega arith;
  clauses = ([], sym (append_nil clauses));
  extends = λ model is. ([], record { vars = ap length (append_nil model) ∙ is.vars; holds = clauses_hold-more model [] clauses is.holds });
}

pub IsConservative_trans : (n m k : ℕ) (xs ys zs : List (List Lit)) → IsConservative n xs m ys
    → IsConservative m ys k zs → IsConservative n xs k zs
IsConservative_trans n m k xs ys zs g h = record {
  vars = omega arith;
  clauses = (g.clauses.0 ++ h.clauses.0, h.clauses.1 ∙ ap (λ c. c ++ h.clauses.0) g.clauses.1 ∙ append_assoc xs g.clauses.0 h.clauses.0);
  extends = λ model is.
      let first = g.extends model is in
      let second = h.extends (model ++ first.0) first.1 in
      (first.0 ++ second.0, let e = append_assoc model first.0 second.0 in rw (← e) second.1);
}

-- a new variable alone
pub IsConservative-var : (n : ℕ) (clauses : List (List Lit)) → IsConservative n clauses (n + 1) clauses
IsConservative-var n clauses = record {
  vars = omega arith;
  clauses = ([], sym (append_nil clauses));
  extends = λ model is. (
    false ∷ [],
    record {
      vars = length-append model (false ∷ []) ∙ ap (λ k. k + 1) is.vars;
      holds = clauses_hold-more model
          (false ∷ []) clauses is.holds;
    },
  );
}

-- a new variable with clauses that some value of it meets
pub IsConservative-defined : (n : ℕ) (older gate : List (List Lit)) (k : ℕ)
    → ((model : List Bool) → length model ≡ n → (value : Bool) × (clauses_hold (model ++ value ∷ []) gate ≡ true))
    → IsConservative n older (n + 1) (older ++ take k gate)
IsConservative-defined n older gate k fits = record {
  vars = omega arith;
  clauses = (take k gate, refl);
  extends = λ model is.
      let fit = fits model is.vars in (
        fit.0 ∷ [],
        record {
          vars = length-append model (fit.0 ∷ []) ∙ ap (λ j. j + 1) is.vars;
          holds = clauses_hold-append (model ++ fit.0 ∷ []) older (take k gate)
              ∙ and_from (clauses_hold (model ++ fit.0 ∷ []) older) (clauses_hold (model ++ fit.0 ∷ []) (take k gate))
              (clauses_hold-more model (fit.0 ∷ []) older is.holds)
              (clauses_hold-take (model ++ fit.0 ∷ []) k gate fit.1);
        },
      );
}

pub IsConservative-all : (n : ℕ) (older gate : List (List Lit))
    → ((model : List Bool) → length model ≡ n → (value : Bool) × (clauses_hold (model ++ value ∷ []) gate ≡ true))
    → IsConservative n older (n + 1) (older ++ gate)
IsConservative-all n older gate fits = rw (← take_all (length gate) gate (omega arith)) (IsConservative-defined n older gate (length gate) fits)

-- a front of a gate's clauses
pub IsConservative-front : (n m : ℕ) (older gate now rest added : List (List Lit))
    → ((model : List Bool) → length model ≡ n → (value : Bool) × (clauses_hold (model ++ value ∷ []) gate ≡ true))
    → m ≡ n + 1 → now ≡ older ++ added → now ++ rest ≡ older ++ gate → IsConservative n older m now
IsConservative-front n m older gate now rest added fits em ea eg = record {
  vars = omega arith;
  clauses = (added, ea);
  extends = λ model is.
      let fit = fits model is.vars in
      let whole : clauses_hold (model ++ fit.0 ∷ []) (older ++ gate) ≡ true =
      clauses_hold-append (model ++ fit.0 ∷ []) older gate
      ∙ and_from (clauses_hold (model ++ fit.0 ∷ []) older) (clauses_hold (model ++ fit.0 ∷ []) gate)
      (clauses_hold-more model (fit.0 ∷ []) older is.holds) fit.1 in (
        fit.0 ∷ [],
        record {
          vars = length-append model (fit.0 ∷ []) ∙ ap (λ j. j + 1) is.vars ∙ sym em;
          holds = (and_parts (clauses_hold (model ++ fit.0 ∷ []) now) (clauses_hold (model ++ fit.0 ∷ []) rest)
              (sym (clauses_hold-append (model ++ fit.0 ∷ []) now rest) ∙ ap (clauses_hold (model ++ fit.0 ∷ [])) eg ∙ whole)).0;
        },
      );
}
