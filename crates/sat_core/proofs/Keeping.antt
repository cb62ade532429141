-- The kept clauses, the units and the learnt clauses, where one more comes.
use Rattle.std.proofs.Common.{◌≡◌, ◌<◌, ◌≤◌, ◌⊎◌, ℕ, List, [], ◌∷◌, ◌++◌, length, get_or, Some}
use Rattle.std.proofs.Common.{refl, sym, ap, ◌∙◌, subst, inl, inr, arith}
use Rattle.std.specs.List.{Contains, slice_get}
use Rattle.std.proofs.lemmas.List.{length_push, get_or_append_left, get_or_push}
use Rattle.std.proofs.lemmas.List.Elements.{Contains-append_left}
use Rattle.std.proofs.lemmas.Option.{slice_get_within, slice_get-get_or}
use Rattle.std.proofs.lemmas.Bool.{cases_lt}
use Rattle.cnf.specs.declared.lit.Lit.{Lit}
use Rattle.clause_log.specs.Derivations.{SameLits}
use Rattle.sat_core.specs.declared.clause_ref.ClauseRef.{ClauseRef}
use Rattle.sat_core.specs.declared.clause_ref.ClauseRef.TheVariants.{Added, Learnt}
use Rattle.sat_core.specs.declared.chain.Resolution.{Resolution}
use Rattle.sat_core.specs.declared.chain.Derivation.{Derivation}
use Rattle.sat_core.specs.Search.{ClauseLists, clause_lists, unit_clause, clause_of, ResolvesTo, IsDerivation}
use Rattle.sat_core.specs.Engines.{RefersTo, AreKept, AreUnits, IsCovered, AllCovered, AreOver}
use Rattle.sat_core.specs.Engines.IsCovered.{Kept, InUnits, Tautology, Empty}
use Rattle.sat_core.proofs.Chains.{same-refl}
use Rattle.sat_core.proofs.Growing.{KeepsReferences, extends_added, AreDerivations-added, AreDerivations-learnt}
use Rattle.sat_core.proofs.Reasons.{named_grown}
use Rattle.sat_core.proofs.Searching.{within_push, within_more}

pub some_is : {A : Type 0} (a b : A) → Some a ≡ Some b → a ≡ b
some_is a b e = cc

-- what a list with one more has at a place
pub get-push : {A : Type 0} (xs : List A) (x : A) (n : ℕ) (y : A) → slice_get (xs ++ x ∷ []) n ≡ Some y
    → (slice_get xs n ≡ Some y) ⊎ ((n ≡ length xs) × (x ≡ y))
get-push xs x n y e =
    let low = slice_get_within (xs ++ x ∷ []) n y e in
    let at : get_or (xs ++ x ∷ []) n y ≡ y = some_is _ _ (sym (slice_get-get_or (xs ++ x ∷ []) n y low) ∙ e) in
    elim (cases_lt n (length xs)) [
      | inl less ↦
          inl (slice_get-get_or xs n y less ∙ ap Some (sym (get_or_append_left xs (x ∷ []) y n less) ∙ at))
      | inr more ↦
          let is : n ≡ length xs = omega (arith, length_push xs x) in
          inr (is, sym (get_or_push xs x y n (sym is)) ∙ at)
    ]

pub get-push_old : {A : Type 0} (xs : List A) (x : A) (n : ℕ) (y : A) → slice_get xs n ≡ Some y → slice_get
    (xs ++ x ∷ []) n ≡ Some y
get-push_old xs x n y e =
    let low = slice_get_within xs n y e in
    let at : get_or xs n y ≡ y = some_is _ _ (sym (slice_get-get_or xs n y low) ∙ e) in
    slice_get-get_or (xs ++ x ∷ []) n y (omega (arith, length_push xs x, low)) ∙ ap Some (get_or_append_left xs (x ∷ []) y n low ∙ at)

pub same-sym : (xs ys : List Lit) → SameLits xs ys → SameLits ys xs
same-sym xs ys s m = ((s m).1, (s m).0)

pub same-trans : (xs ys zs : List Lit) → SameLits xs ys → SameLits ys zs → SameLits xs zs
same-trans xs ys zs s t m = (λ c. (t m).0 ((s m).0 c), λ c. (s m).1 ((t m).1 c))

-- the last clause of a derivation, with its literals in another order
ResolvesTo-same : (k : ClauseLists) (so_far : List Lit) (resolutions : List Resolution) (clause other : List Lit)
    → SameLits other clause
    → ResolvesTo k so_far resolutions clause → ResolvesTo k so_far resolutions other
ResolvesTo-same k so_far [] clause other s r = same-trans so_far clause other r (same-sym other clause s)
ResolvesTo-same k so_far (resolution ∷ resolutions) clause other s r =
    (r.0, (r.1.0, r.1.1, r.1.2, r.1.3, ResolvesTo-same k r.1.1 resolutions clause other s r.1.4))

pub IsDerivation-same : (k : ClauseLists) (first : ClauseRef) (resolutions : List Resolution) (clause other : List Lit)
    → SameLits other clause → IsDerivation k first resolutions clause → IsDerivation k first resolutions other
IsDerivation-same k first resolutions clause other s d = record {
  named = d.named;
  reached = ResolvesTo-same k (clause_of k first) resolutions clause other s d.reached;
}

-- ---- more clauses that a reference may name

pub RefersTo-more : (k more : ClauseLists) (reason : ClauseRef) (lits : List Lit) → KeepsReferences k more
    → RefersTo k reason lits
    → RefersTo more reason lits
RefersTo-more k more reason lits keeps s =
    let r = keeps reason s.named in
    record {
      named = r.0;
      kept = s.kept;
      same = subst (λ (c : List Lit). SameLits lits c) (sym r.1) s.same;
    }

AreKept-more : (k more : ClauseLists) (clauses : List (List Lit)) (references : List ClauseRef) → KeepsReferences k more
    → AreKept k clauses references → AreKept more clauses references
AreKept-more k more clauses references keeps kept n reason e =
    RefersTo-more k more reason (get_or clauses n []) keeps (kept n reason e)

AreUnits-more : (k more : ClauseLists) (units : List Lit) (reasons : List ClauseRef) → KeepsReferences k more
    → AreUnits k units reasons → AreUnits more units reasons
AreUnits-more k more units reasons keeps u = record {
  same = u.same;
  each = λ n lit reason e f. RefersTo-more k more reason (unit_clause lit) keeps (u.each n lit reason e f);
}

-- ---- one kept clause more, or one unit

AreKept-push : (k : ClauseLists) (clauses : List (List Lit)) (references : List ClauseRef) (clause : List Lit)
    (reference : ClauseRef)
    → length references ≡ length clauses → RefersTo k reference clause → AreKept k clauses references
    → AreKept k (clauses ++ clause ∷ []) (references ++ reference ∷ [])
AreKept-push k clauses references clause reference same here kept n reason e =
    elim (get-push references reference n reason e) [
      | inl old ↦
          let low = slice_get_within references n reason old in
          subst (λ (c : List Lit). RefersTo k reason c) (sym (get_or_append_left clauses (clause ∷ []) [] n (omega (arith, same, low))))
          (kept n reason old)
      | inr new ↦
          subst (λ (c : List Lit). RefersTo k reason c) (sym (get_or_push clauses clause [] n (sym same ∙ sym new.0)))
          (subst (λ (r : ClauseRef). RefersTo k r clause) new.1 here)
    ]

AreUnits-push : (k : ClauseLists) (units : List Lit) (reasons : List ClauseRef) (lit : Lit) (reference : ClauseRef)
    → RefersTo k reference (unit_clause lit) → AreUnits k units reasons → AreUnits k (units ++ lit ∷ [])
    (reasons ++ reference ∷ [])
AreUnits-push k units reasons lit reference here u = record {
  same = omega (arith, u.same, length_push units lit, length_push reasons reference);
  each = λ n l reason e f. elim (get-push units lit n l e) [
    | inl old ↦ elim (get-push reasons reference n reason f) [
      | inl old' ↦ u.each n l reason old old'
      | inr new ↦ absurd (let low = slice_get_within units n l old in omega (arith, low, u.same, new.0))
    ]
    | inr new ↦ elim (get-push reasons reference n reason f) [
      | inl old ↦ absurd (let low = slice_get_within reasons n reason old in omega (arith, low, u.same, new.0))
      | inr new' ↦
          subst (λ (r : ClauseRef). RefersTo k r (unit_clause l)) new'.1
          (subst (λ (m : Lit). RefersTo k reference (unit_clause m)) new.1 here)
    ]
  ];
}

IsCovered-clause : (clauses : List (List Lit)) (units : List Lit) (clause more : List Lit)
    → IsCovered clauses units clause
    → IsCovered (clauses ++ more ∷ []) units clause
IsCovered-clause clauses units clause more (Kept n low same) =
    Kept n (omega (arith, low, length_push clauses more))
    (subst (λ (c : List Lit). SameLits c clause) (sym (get_or_append_left clauses (more ∷ []) [] n low)) same)
IsCovered-clause clauses units clause more (InUnits lit has same) = InUnits lit has same
IsCovered-clause clauses units clause more (Tautology lit has other) = Tautology lit has other
IsCovered-clause clauses units clause more (Empty e) = Empty e

IsCovered-unit : (clauses : List (List Lit)) (units : List Lit) (clause : List Lit) (more : Lit)
    → IsCovered clauses units clause
    → IsCovered clauses (units ++ more ∷ []) clause
IsCovered-unit clauses units clause more (Kept n low same) = Kept n low same
IsCovered-unit clauses units clause more (InUnits lit has same) = InUnits lit (Contains-append_left units (more ∷ []) lit has) same
IsCovered-unit clauses units clause more (Tautology lit has other) = Tautology lit has other
IsCovered-unit clauses units clause more (Empty e) = Empty e

-- one added clause more
AllCovered-push : (added clauses : List (List Lit)) (units : List Lit) (clause : List Lit)
    → IsCovered clauses units clause
    → AllCovered added clauses units → AllCovered (added ++ clause ∷ []) clauses units
AllCovered-push added clauses units clause here all n low =
    elim (cases_lt n (length added)) [
      | inl less ↦ subst (λ (c : List Lit). IsCovered clauses units c) (sym (get_or_append_left added (clause ∷ []) [] n less)) (all n less)
      | inr more ↦
          let at : length added ≡ n = omega (arith, low, length_push added clause) in
          subst (λ (c : List Lit). IsCovered clauses units c) (sym (get_or_push added clause [] n at)) here
    ]

module _ (n : ℕ) (added clauses : List (List Lit)) (references : List ClauseRef) (units : List Lit) (reasons : List ClauseRef)
    (learnt : List (List Lit)) (derivations : List Derivation)
    (o : AreOver n added clauses references units reasons learnt derivations) where
  -- one clause more is learnt
  pub over_learnt : (clause : List Lit) (derivation : Derivation)
      → IsDerivation (clause_lists added learnt []) derivation.first derivation.rest.items clause
      → ((lit : Lit) → Contains clause lit → lit.var < n)
      → AreOver n added clauses references units reasons (learnt ++ clause ∷ []) (derivations ++ derivation ∷ [])
  over_learnt clause derivation d within =
      let keeps : KeepsReferences (clause_lists added learnt []) (clause_lists added (learnt ++ clause ∷ []) []) =
      λ reason named. named_grown added learnt [] clause reason named in
      record {
        kept = AreKept-more _ _ clauses references keeps o.kept;
        units = AreUnits-more _ _ units reasons keeps o.units;
        covered = o.covered;
        derived = AreDerivations-learnt added learnt derivations clause derivation o.derived d;
        added_within = o.added_within;
        learnt_within = within_push n learnt clause o.learnt_within within;
      }

  -- one clause more is kept
  pub over_kept : (clause : List Lit) (reference : ClauseRef) → length references ≡ length clauses
      → RefersTo (clause_lists added learnt []) reference clause
      → AreOver n added (clauses ++ clause ∷ []) (references ++ reference ∷ []) units reasons learnt derivations
  over_kept clause reference same here = record {
    kept = AreKept-push (clause_lists added learnt []) clauses references clause reference same here o.kept;
    units = o.units;
    covered = λ p low. IsCovered-clause clauses units (get_or added p []) clause (o.covered p low);
    derived = o.derived;
    added_within = o.added_within;
    learnt_within = o.learnt_within;
  }

  -- one unit more
  pub over_unit : (lit : Lit) (reference : ClauseRef) → RefersTo (clause_lists added learnt []) reference
      (unit_clause lit)
      → AreOver n added clauses references (units ++ lit ∷ []) (reasons ++ reference ∷ []) learnt derivations
  over_unit lit reference here = record {
    kept = o.kept;
    units = AreUnits-push (clause_lists added learnt []) units reasons lit reference here o.units;
    covered = λ p low. IsCovered-unit clauses units (get_or added p []) lit (o.covered p low);
    derived = o.derived;
    added_within = o.added_within;
    learnt_within = o.learnt_within;
  }

  -- one clause more is added, not yet covered: all but `covered`
  pub over_added : (clause : List Lit) → IsCovered clauses units clause →
      ((lit : Lit) → Contains clause lit → lit.var < n)
      → AreOver n (added ++ clause ∷ []) clauses references units reasons learnt derivations
  over_added clause here within =
      let keeps : KeepsReferences (clause_lists added learnt []) (clause_lists (added ++ clause ∷ []) learnt []) = extends_added added learnt [] clause in
      record {
        kept = AreKept-more _ _ clauses references keeps o.kept;
        units = AreUnits-more _ _ units reasons keeps o.units;
        covered = AllCovered-push added clauses units clause here o.covered;
        derived = AreDerivations-added added learnt derivations clause o.derived;
        added_within = within_push n added clause o.added_within within;
        learnt_within = o.learnt_within;
      }

  -- one clause more is added and kept
  pub over_added_kept : (clause own : List Lit) → length references ≡ length clauses → SameLits own clause
      → ((lit : Lit) → Contains clause lit → lit.var < n)
      → AreOver n (added ++ clause ∷ []) (clauses ++ own ∷ [])
      (references ++ Added (length added) ∷ []) units reasons learnt derivations
  over_added_kept clause own same lits within =
      let keeps : KeepsReferences (clause_lists added learnt []) (clause_lists (added ++ clause ∷ []) learnt []) = extends_added added learnt [] clause in
      let new : RefersTo (clause_lists (added ++ clause ∷ []) learnt []) (Added (length added)) own = record {
        named = omega (arith, length_push added clause);
        kept = refl;
        same = subst (λ (c : List Lit). SameLits own c) (sym (get_or_push added clause [] (length added) refl)) lits;
      } in
      let here : IsCovered (clauses ++ own ∷ []) units clause =
      Kept (length clauses) (omega (arith, length_push clauses own))
      (subst (λ (c : List Lit). SameLits c clause) (sym (get_or_push clauses own [] (length clauses) refl)) lits) in
      record {
        kept = AreKept-push _ clauses references own (Added (length added)) same new (AreKept-more _ _ clauses references keeps o.kept);
        units = AreUnits-more _ _ units reasons keeps o.units;
        covered =
            AllCovered-push added (clauses ++ own ∷ []) units clause here
            (λ p low. IsCovered-clause clauses units (get_or added p []) own (o.covered p low));
        derived = AreDerivations-added added learnt derivations clause o.derived;
        added_within = within_push n added clause o.added_within within;
        learnt_within = o.learnt_within;
      }

  -- one clause more is added, a unit
  pub over_added_unit : (clause : List Lit) (lit : Lit) → SameLits (unit_clause lit) clause
      → ((m : Lit) → Contains clause m → m.var < n)
      → AreOver n (added ++ clause ∷ []) clauses references (units ++ lit ∷ [])
      (reasons ++ Added (length added) ∷ []) learnt derivations
  over_added_unit clause lit lits within =
      let keeps : KeepsReferences (clause_lists added learnt []) (clause_lists (added ++ clause ∷ []) learnt []) = extends_added added learnt [] clause in
      let new : RefersTo (clause_lists (added ++ clause ∷ []) learnt []) (Added (length added)) (unit_clause lit) = record {
        named = omega (arith, length_push added clause);
        kept = refl;
        same = subst (λ (c : List Lit). SameLits (unit_clause lit) c) (sym (get_or_push added clause [] (length added) refl)) lits;
      } in
      let here : IsCovered clauses (units ++ lit ∷ []) clause = InUnits lit (has_last units lit) lits in
      record {
        kept = AreKept-more _ _ clauses references keeps o.kept;
        units = AreUnits-push _ units reasons lit (Added (length added)) new (AreUnits-more _ _ units reasons keeps o.units);
        covered =
            AllCovered-push added clauses (units ++ lit ∷ []) clause here
            (λ p low. IsCovered-unit clauses units (get_or added p []) lit (o.covered p low));
        derived = AreDerivations-added added learnt derivations clause o.derived;
        added_within = within_push n added clause o.added_within within;
        learnt_within = o.learnt_within;
      }
    where
      has_last : (xs : List Lit) (x : Lit) → Contains (xs ++ x ∷ []) x
      has_last xs x = (length xs, omega (arith, length_push xs x), get_or_push xs x x (length xs) refl)

  -- more variables
  pub over_vars : (m : ℕ) → n ≤ m → AreOver m added clauses references units reasons learnt derivations
  over_vars m le = record {
    kept = o.kept;
    units = o.units;
    covered = o.covered;
    derived = o.derived;
    added_within = within_more n m added le o.added_within;
    learnt_within = within_more n m learnt le o.learnt_within;
  }

-- the reference of the clause that was learnt last
pub learnt_stands : (added learnt : List (List Lit)) (clause : List Lit)
    → RefersTo (clause_lists added (learnt ++ clause ∷ []) []) (Learnt (length learnt)) clause
learnt_stands added learnt clause = record {
  named = omega (arith, length_push learnt clause);
  kept = refl;
  same = subst (λ (c : List Lit). SameLits clause c) (sym (get_or_push learnt clause [] (length learnt) refl)) (same-refl clause);
}

-- the same facts of lists that are equal
pub over_same : (n m : ℕ) (added clauses clauses' : List (List Lit)) (references references' : List ClauseRef)
    (units units' : List Lit)
    (reasons reasons' : List ClauseRef) (learnt learnt' : List (List Lit)) (derivations derivations' : List Derivation)
    → (m ≡ n) × (clauses' ≡ clauses) × (references' ≡ references) → (units' ≡ units) × (reasons' ≡ reasons)
    → (learnt' ≡ learnt) × (derivations' ≡ derivations)
    → AreOver n added clauses references units reasons learnt derivations
    → AreOver m added clauses' references' units' reasons' learnt' derivations'
over_same n m added clauses clauses' references references' units units' reasons reasons' learnt learnt' derivations derivations'
    (a, b, c) (d, e) (f, g) o =
    subst (λ x. AreOver x added clauses' references' units' reasons' learnt' derivations') (sym a)
    (subst (λ (x : List (List Lit)). AreOver n added x references' units' reasons' learnt' derivations') (sym b)
    (subst (λ (x : List ClauseRef). AreOver n added clauses x units' reasons' learnt' derivations') (sym c)
    (subst (λ (x : List Lit). AreOver n added clauses references x reasons' learnt' derivations') (sym d)
    (subst (λ (x : List ClauseRef). AreOver n added clauses references units x learnt' derivations') (sym e)
    (subst (λ (x : List (List Lit)). AreOver n added clauses references units reasons x derivations') (sym f)
    (subst (λ (x : List Derivation). AreOver n added clauses references units reasons learnt x) (sym g) o))))))
