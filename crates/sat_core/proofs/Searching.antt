-- One round of the search.
use Rattle.std.proofs.Common.{◌≡◌, ◌<◌, ◌≤◌, ℕ, zero, suc, List, [], ◌∷◌, ◌++◌, length, take, get_or, map, Contains, All, Option, Some, None}
use Rattle.std.proofs.Common.{refl, sym, ap, ◌∙◌, subst, inl, inr, arith}
use Rattle.std.proofs.lemmas.List.{get_or_append_left, get_or_push, length_push, length-take, length-map, get_or-map}
use Rattle.std.proofs.lemmas.Bool.{cases_lt}
use Rattle.cnf.specs.declared.lit.Lit.{Lit}
use Rattle.cnf.specs.Clauses.{opposite}
use Rattle.sat_core.specs.declared.clause_ref.ClauseRef.{ClauseRef}
use Rattle.sat_core.specs.declared.clause_ref.ClauseRef.TheVariants.{Assumed}
use Rattle.sat_core.specs.declared.trail.Step.{Step}
use Rattle.sat_core.specs.Search.{ClauseLists, clause_lists, unit_clause, HasClause, clause_of, IsDerivation, MadeTrue, AllFalse, Forces, Justifies}
use Rattle.sat_core.specs.Search.{Justified, AssumptionsTrue, IsTrail, AllWithin, lit_at, step_at}
use Rattle.sat_core.specs.Learning.{Asserts, AssertsOrEmpty, IsLearntFrom}
use Rattle.sat_core.specs.declared.analyse.Backjump.{Backjump}
use Rattle.sat_core.specs.declared.analyse.LearntClause.{LearntClause}
use Rattle.sat_core.proofs.Trails.{step_at-take, MadeTrue-take, MadeTrue-later, not_both, MadeTrue-within}
use Rattle.sat_core.proofs.Members.{any_lit}
use Rattle.sat_core.proofs.Chains.{Contains-head}
use Rattle.sat_core.proofs.Growing.{IsDerivation-more, extends_assumed}

-- a variable that no step has, has no place
place_cases : (steps : List Step) (places : List (Option ℕ)) (var : ℕ) (o : Option ℕ) → IsTrail steps places
    → ((p : ℕ) → p < length steps → (lit_at steps p).var ≡ var → ⊥) → get_or places var None ≡ o → o ≡ None
place_cases steps places var None trail free e = refl
place_cases steps places var (Some p) trail free e = let on = trail.stands var p e in absurd (free p on.0 on.1)

-- where the trail is cut back, the literal that the learnt clause forces has no value
pub cut_free : (steps : List Step) (places : List (Option ℕ)) (clause : List Lit) (lit : Lit) (keep : ℕ)
    → IsTrail (take keep steps) places → Asserts steps clause lit keep → get_or places lit.var None ≡ None
cut_free steps places clause lit keep trail turns =
    place_cases (take keep steps) places lit.var (get_or places lit.var None) trail
    (λ p h e.
    let lt : p < keep = omega (arith, h, length-take keep steps) in
    turns.free p lt (ap (λ (s : Step). s.lit.var) (sym (step_at-take steps keep p lt)) ∙ e))
    refl

pub within_push : (n : ℕ) (clauses : List (List Lit)) (clause : List Lit) → AllWithin n clauses
    → ((lit : Lit) → Contains clause lit → lit.var < n) → AllWithin n (clauses ++ clause ∷ [])
within_push n clauses clause all here p h lit c =
    elim (cases_lt p (length clauses)) [
      | inl lt ↦ all p lt lit (subst (λ (l : List Lit). Contains l lit) (get_or_append_left clauses (clause ∷ []) [] p lt) c)
      | inr ge ↦
          let at : length clauses ≡ p = omega (arith, length_push clauses clause) in
          here lit (subst (λ (l : List Lit). Contains l lit) (get_or_push clauses clause [] p at) c)
    ]

-- the literals of a clause that is falsified are of the variables
pub false_clause_within : (steps : List Step) (places : List (Option ℕ)) (clause : List Lit) → IsTrail steps places
    → AllFalse steps (length steps) clause → (lit : Lit) → Contains clause lit → lit.var < length places
false_clause_within steps places clause trail all lit c = MadeTrue-within steps places trail (opposite lit) (all lit c)

pub Forces-take : (steps : List Step) (keep : ℕ) (clause : List Lit) (lit : Lit) → Forces steps keep clause lit → Forces
    (take keep steps) keep clause lit
Forces-take steps keep clause lit f = record {
  has = f.has;
  others = λ m c. elim (f.others m c) [ inl s ↦ inl s | inr t ↦ inr (MadeTrue-take steps keep keep (opposite m) (omega arith) t) ];
}

in_unit_at : (a m : Lit) (k : ℕ) → k < length (unit_clause a) → get_or (unit_clause a) k m ≡ m → a ≡ m
in_unit_at a m zero h e = e
in_unit_at a m (suc k) h e = absurd (omega arith)

pub in_unit : (a m : Lit) → Contains (unit_clause a) m → a ≡ m
in_unit a m c = in_unit_at a m c.0 c.1 c.2

module _ (added learnt : List (List Lit)) (assumed : List Lit) (steps : List Step) where
  pub assumed_named : (p : ℕ) → p < length assumed → HasClause (clause_lists added learnt assumed) (Assumed p)
  assumed_named p h = omega (arith, length-map assumed unit_clause)

  pub assumed_clause : (p : ℕ) → p < length assumed
      → clause_of (clause_lists added learnt assumed) (Assumed p) ≡ unit_clause (get_or assumed p any_lit)
  assumed_clause p h = get_or-map unit_clause assumed p any_lit [] h

  -- an assumption is forced by its unit clause
  pub assumed_justifies : (p : ℕ) → p < length assumed
      → Justifies (clause_lists added learnt assumed) steps (length steps) (get_or assumed p any_lit) (Some (Assumed p))
  assumed_justifies p h = (
    assumed_named p h,
    subst (λ (c : List Lit). Forces steps (length steps) c (get_or assumed p any_lit)) (sym (assumed_clause p h))
        (record { has = Contains-head _ []; others = λ m c. inl (sym (in_unit _ m c)) }),
  )

  pub assumptions_true : ((p : ℕ) → p < length assumed → MadeTrue steps (length steps) (get_or assumed p any_lit))
      → AssumptionsTrue (clause_lists added learnt assumed) steps (length steps)
  assumptions_true all p h a e =
      let h2 : p < length assumed = omega (arith, h, length-map assumed unit_clause) in
      let same : unit_clause (get_or assumed p any_lit) ≡ unit_clause a = sym (assumed_clause p h2) ∙ e in
      subst (λ (l : Lit). MadeTrue steps (length steps) l) (cc) (all p h2)

  -- where an assumption is false, no step was decided
  pub none_decided : (places : List (Option ℕ)) (p : ℕ) → IsTrail steps places
      → Justified (clause_lists added learnt assumed) steps → HasClause (clause_lists added learnt assumed) (Assumed p)
      → AllFalse steps (length steps) (clause_of (clause_lists added learnt assumed) (Assumed p)) → (q : ℕ)
      → q < length steps → (step_at steps q).reason ≡ None → ⊥
  none_decided places p trail justified named false' q h none =
      let h2 : p < length assumed = omega (arith, named, length-map assumed unit_clause) in
      let a = get_or assumed p any_lit in
      let j = subst (λ (o : Option ClauseRef). Justifies (clause_lists added learnt assumed) steps q (lit_at steps q) o) none (justified q h) in
      let t = MadeTrue-later steps q (length steps) a (omega arith) (j p named a (assumed_clause p h2)) in
      let has = subst (λ (l : List Lit). Contains l a) (sym (assumed_clause p h2)) (Contains-head a []) in
      not_both steps places trail a t (false' a has)

-- the variable of an assumption is one of the variables
pub assumed_var : (n : ℕ) (assumed : List Lit) (p : ℕ) → AllWithin n (map unit_clause assumed) → p < length assumed
    → (get_or assumed p any_lit).var < n
assumed_var n assumed p within h =
    let a = get_or assumed p any_lit in
    within p (omega (arith, length-map assumed unit_clause)) a
    (subst (λ (l : List Lit). Contains l a) (sym (get_or-map unit_clause assumed p any_lit [] h)) (Contains-head a []))

pub within_same : (n m : ℕ) (clauses : List (List Lit)) → n ≡ m → AllWithin m clauses → AllWithin n clauses
within_same n m clauses e w = subst (λ k. AllWithin k clauses) (sym e) w

pub within_more : (n m : ℕ) (clauses : List (List Lit)) → n ≤ m → AllWithin n clauses → AllWithin m clauses
within_more n m clauses le w p h lit c = omega (arith, w p h lit c)

-- the units of assumptions on the variables
pub within_units : (n : ℕ) (assumed : List Lit) → All (λ (lit : Lit). lit.var < n) assumed
    → AllWithin n (map unit_clause assumed)
within_units n assumed all p h lit c =
    let h2 : p < length assumed = omega (arith, h, length-map assumed unit_clause) in
    let same = in_unit (get_or assumed p any_lit) lit (subst (λ (l : List Lit). Contains l lit) (get_or-map unit_clause assumed p any_lit [] h2) c) in
    subst (λ (l : Lit). l.var < n) same (all p any_lit h2)

-- what a learnt clause that turns the trail says
pub lesson_turns : (k : ClauseLists) (steps : List Step) (learnt_clause : LearntClause) (backjump : Backjump)
    → learnt_clause.backjump ≡ Some backjump → IsLearntFrom k steps learnt_clause
    → Asserts steps learnt_clause.lits.items backjump.lit backjump.keep
lesson_turns k steps learnt_clause backjump e l = subst (λ (o : Option Backjump). AssertsOrEmpty steps learnt_clause.lits.items o) e l.turns

-- a learnt clause that is empty derives the empty clause
pub lesson_ends : (added learnt ls : List (List Lit)) (assumed : List Lit) (steps : List Step)
    (learnt_clause : LearntClause) → ls ≡ learnt
    → learnt_clause.backjump ≡ None → IsLearntFrom (clause_lists added ls []) steps learnt_clause
    → IsDerivation (clause_lists added learnt
    assumed) learnt_clause.derivation.first learnt_clause.derivation.rest.items []
lesson_ends added learnt ls assumed steps learnt_clause e none l =
    let empty = subst (λ (o : Option Backjump). AssertsOrEmpty steps learnt_clause.lits.items o) none l.turns in
    let d = subst (λ (c : List Lit). IsDerivation (clause_lists added ls []) learnt_clause.derivation.first learnt_clause.derivation.rest.items c)
    empty l.derived in
    let d2 = subst (λ (x : List (List Lit)). IsDerivation
    (clause_lists added x []) learnt_clause.derivation.first learnt_clause.derivation.rest.items []) e d in
    IsDerivation-more (clause_lists added learnt []) (clause_lists added learnt assumed) (extends_assumed added learnt assumed) _ _ _ d2
