-- What is learnt follows from the added clauses, and so does each kept clause.
use Rattle.std.proofs.Common.{◌≡◌, ◌<◌, ◌≤◌, ◌+◌, ◌-◌, ℕ, zero, suc, Bool, true, List, [], ◌∷◌, ◌++◌, length, take, get_or}
use Rattle.std.proofs.Common.{refl, sym, ap, ◌∙◌, arith, length-append}
use Rattle.std.proofs.lemmas.List.{get_or-append_right, get_or_default}
use Rattle.std.proofs.lemmas.Option.{slice_get-get_or}
use Rattle.cnf.specs.declared.lit.Lit.{Lit}
use Rattle.cnf.specs.Clauses.{clause_holds, clauses_hold}
use Rattle.clause_log.specs.Derivations.{SameLits}
use Rattle.clause_log.proofs.Soundness.{some_holds, holds_by, resolvent_holds, one_holds}
use Rattle.clause_links.specs.WatchLists.{WatchLists}
use Rattle.sat_core.specs.declared.clause_ref.ClauseRef.{ClauseRef}
use Rattle.sat_core.specs.declared.clause_ref.ClauseRef.TheVariants.{Added, Learnt, Assumed}
use Rattle.sat_core.specs.declared.chain.Resolution.{Resolution}
use Rattle.sat_core.specs.declared.chain.Derivation.{Derivation}
use Rattle.sat_core.specs.Search.{ClauseLists, clause_lists, HasClause, clause_of, ResolvesTo, IsDerivation}
use Rattle.sat_core.specs.Decisions.{AreDerivations}
use Rattle.sat_core.specs.Engines.{AreKept}
use Rattle.sat_core.specs.Solving.{FollowFrom}

same_holds : (model : List Bool) (clause other : List Lit) → SameLits other clause → clause_holds model clause ≡ true
    → clause_holds model other ≡ true
same_holds model clause other same h = let l = some_holds model clause h in holds_by model other l.0 ((same l.0).1 l.1) l.2

module _ (model : List Bool) (k : ClauseLists)
    (all : (reason : ClauseRef) → HasClause k reason → clause_holds model (clause_of k reason) ≡ true) where
  resolves_hold : (so_far : List Lit) (resolutions : List Resolution) (clause : List Lit) → clause_holds model so_far
      ≡ true
      → ResolvesTo k so_far resolutions clause → clause_holds model clause ≡ true
  resolves_hold so_far [] clause h same = let l = some_holds model so_far h in holds_by model clause l.0 ((same l.0).0 l.1) l.2
  resolves_hold so_far (r ∷ rs) clause h leads =
      resolves_hold leads.1.1 rs clause
      (resolvent_holds model so_far (clause_of k r.reason) leads.1.1 leads.1.0 leads.1.3 h (all r.reason leads.0)) leads.1.4

  derivation_holds : (first : ClauseRef) (resolutions : List Resolution) (clause : List Lit)
      → IsDerivation k first resolutions clause
      → clause_holds model clause ≡ true
  derivation_holds first resolutions clause d = resolves_hold (clause_of k first) resolutions clause (all first d.named) d.reached

get_or-take_low : (n i : ℕ) (xs : List (List Lit)) → i < n → get_or (take n xs) i [] ≡ get_or xs i []
get_or-take_low zero i xs h = absurd (omega arith)
get_or-take_low (suc n) i [] h = refl
get_or-take_low (suc n) zero (x ∷ xs) h = refl
get_or-take_low (suc n) (suc i) (x ∷ xs) h = get_or-take_low n i xs (omega arith)

take_shorter : (n : ℕ) (xs : List (List Lit)) → length (take n xs) ≤ n
take_shorter zero xs = omega arith
take_shorter (suc n) [] = omega arith
take_shorter (suc n) (x ∷ xs) = let s = take_shorter n xs in omega (arith, s)

-- each learnt clause holds in each model of the added ones
module _ (model : List Bool) (added learnt : List (List Lit)) (derivations : List Derivation) (derived : AreDerivations added learnt derivations)
    (holds : clauses_hold model added ≡ true) where
  derived_at : (place : ℕ) → place < length learnt → (first : ClauseRef) × (rest : List Resolution)
      × IsDerivation (clause_lists added (take place learnt) []) first rest (get_or learnt place [])
  derived_at place low = at derivations derived.same derived.each
    where
      at : (ds : List Derivation) → length ds ≡ length learnt
          → ((p : ℕ) (none : Derivation) → p < length learnt
          → IsDerivation (clause_lists added (take p learnt) []) (get_or ds p none).first (get_or ds p none).rest.items
          (get_or learnt p []))
          → (first : ClauseRef) × (rest : List Resolution)
          × IsDerivation (clause_lists added (take place learnt) []) first rest (get_or learnt place [])
      at [] same each = absurd (omega (arith, low, same))
      at (d ∷ ds) same each = ((get_or (d ∷ ds) place d).first, (get_or (d ∷ ds) place d).rest.items, each place d low)

  learnt_hold_to : (n place : ℕ) → place < n → place < length learnt → clause_holds model (get_or learnt place [])
      ≡ true
  learnt_hold_to zero place less low = absurd (omega arith)
  learnt_hold_to (suc n) place less low =
      let d = derived_at place low in
      derivation_holds model (clause_lists added (take place learnt) []) (before n place (omega arith) low (learnt_hold_to n)) d.0 d.1
      (get_or learnt place []) d.2
    where
      before : (m p : ℕ) → p ≤ m → p < length learnt
          → ((q : ℕ) → q < m → q < length learnt → clause_holds model (get_or learnt q []) ≡ true)
          → (reason : ClauseRef) → HasClause (clause_lists added (take p learnt) []) reason
          → clause_holds model (clause_of (clause_lists added (take p learnt) []) reason) ≡ true
      before m p le short ih (Added q) named = one_holds model added q named holds
      before m p le short ih (Learnt q) named =
          let less' : q < p = omega (arith, named, take_shorter p learnt) in
          ap (λ (c : List Lit). clause_holds model c) (get_or-take_low p q learnt less') ∙ ih q (omega arith) (omega arith)
      before m p le short ih (Assumed q) named = absurd (omega arith)

  named_holds : (reason : ClauseRef) → HasClause (clause_lists added learnt []) reason
      → clause_holds model (clause_of (clause_lists added learnt []) reason) ≡ true
  named_holds (Added q) named = one_holds model added q named holds
  named_holds (Learnt q) named = learnt_hold_to (suc q) q (omega arith) named
  named_holds (Assumed q) named = absurd (omega arith)

  -- and so does each kept clause
  pub kept_holds : (clauses : List (List Lit)) (references : List ClauseRef) (n : ℕ) → AreKept
      (clause_lists added learnt []) clauses references
      → length references ≡ length clauses → n < length clauses → clause_holds model (get_or clauses n []) ≡ true
  kept_holds clauses references n kept same low =
      let reason = get_or references n (Added 0) in
      let s = kept n reason (slice_get-get_or references n (Added 0) (omega (arith, same, low))) in
      same_holds model (clause_of (clause_lists added learnt []) reason) (get_or clauses n []) s.same (named_holds reason s.named)

-- more kept clauses follow from the added ones
pub follow_from : (vars : ℕ) (added learnt : List (List Lit)) (derivations : List Derivation) (old new : WatchLists)
    (references : List ClauseRef) → AreDerivations added learnt derivations → AreKept (clause_lists added learnt []) new.clauses references
    → length references ≡ length new.clauses → (more : List (List Lit)) × (new.clauses ≡ old.clauses ++ more)
    → FollowFrom vars added old new
follow_from vars added learnt derivations old new references derived kept same (more, e) = (
  more,
  e,
  λ clause c model m.
      let low : length old.clauses + c.0 < length new.clauses =
      omega (arith, c.1, ap length e, length-append old.clauses more) in
      let is : get_or new.clauses (length old.clauses + c.0) [] ≡ clause =
      ap (λ (l : List (List Lit)). get_or l (length old.clauses + c.0) []) e
      ∙ get_or-append_right old.clauses more (length old.clauses) (length old.clauses + c.0) [] refl (omega arith)
      ∙ ap (λ i. get_or more i []) (plus_minus (length old.clauses) c.0)
      ∙ get_or_default more c.0 [] clause c.1 ∙ c.2 in
      ap (λ (x : List Lit). clause_holds model x) (sym is)
      ∙ kept_holds model added learnt derivations derived m.holds new.clauses references (length old.clauses + c.0) kept same low,
)
  where
    plus_minus : (a b : ℕ) → a + b - a ≡ b
    plus_minus a b = omega arith
