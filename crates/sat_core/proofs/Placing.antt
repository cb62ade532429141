-- The engine at rest: at its start, with one variable more, and where a clause that is added finds its place.
use Rattle.std.proofs.Common.{◌≡◌, ◌≢◌, ◌<◌, ◌≤◌, ◌⊎◌, ℕ, zero, suc, List, [], ◌∷◌, ◌++◌, length, get_or, Some}
use Rattle.std.proofs.Common.{refl, sym, ap, ◌∙◌, subst, inl, inr, arith}
use Rattle.std.specs.List.{Contains, slice_get, All}
use Rattle.std.proofs.lemmas.List.{get_or_default}
use Rattle.std.proofs.lemmas.List.Elements.{All-contains}
use Rattle.std.proofs.lemmas.Option.{slice_get_within, slice_get-get_or}
use Rattle.cnf.specs.declared.lit.Lit.{Lit}
use Rattle.clause_log.specs.Derivations.{SameLits}
use Rattle.sat_core.specs.declared.clause_ref.ClauseRef.{ClauseRef}
use Rattle.sat_core.specs.declared.clause_ref.ClauseRef.TheVariants.{Added}
use Rattle.sat_core.specs.declared.engine.Engine.{Engine}
use Rattle.sat_core.specs.Search.{unit_clause}
use Rattle.sat_core.specs.Outcomes.{HasOpposites}
use Rattle.sat_core.specs.Solving.{AreOnce, IsKeptWith}
use Rattle.sat_core.specs.Watching.{AllSettled}
use Rattle.sat_core.specs.Engines.{IsCovered, Keeps, Propagated, IsEngine, IsEngineAtRest}
use Rattle.sat_core.specs.Engines.IsCovered.{Empty}
use Rattle.sat_core.proofs.Chains.{Contains-head}
use Rattle.sat_core.proofs.Members.{any_lit, no_lits}
use Rattle.sat_core.proofs.WatchLaws.{head_lit}
use Rattle.sat_core.proofs.EngineLaws.{first_of, second_of}
use Rattle.sat_core.proofs.Keeping.{some_is, over_added, over_added_kept, over_added_unit, over_same, over_vars}
use Rattle.sat_core.proofs.SearchLaws.{HasSame, keeps_same}

-- what is left to show of an engine at rest
pub rest_engine : (added : List (List Lit)) (e : Engine) → IsEngineAtRest e → Propagated e 0 → Keeps added e
    → length e.phases.items ≡ e.propagator.links.vars → IsEngine added e
rest_engine added e rest state keeps phases =
    let none_true : length e.propagator.trail.steps.items ≡ 0 = ap length rest.0 in
    record {
      propagator = subst (λ n. Propagated e n) (omega (arith, none_true)) state;
      settled = λ q. subst (λ n. AllSettled e.propagator.links e.propagator.trail.steps.items n) (sym none_true) state.settled;
      keeps = keeps;
      phases = phases;
    }

-- ---- one clause more is added

empty_from : (clause : List Lit) → SameLits [] clause → clause ≡ []
empty_from [] same = refl
empty_from (x ∷ xs) same = absurd (no_lits x ((same x).1 (Contains-head x xs)))

pub within_of : (n : ℕ) (lits clause : List Lit) → All (λ (lit : Lit). lit.var < n) lits → SameLits lits clause →
    (lit : Lit)
    → Contains clause lit → lit.var < n
within_of n lits clause all same lit c = All-contains (λ (l : Lit). l.var < n) lits lit all ((same lit).1 c)

-- the clause is always true or empty
pub placed_apart : (added : List (List Lit)) (clause : List Lit) (e m : Engine) → IsEngineAtRest m → Propagated m 0
    → HasSame e m × (length m.phases.items ≡ length e.phases.items) →
    ((lit : Lit) → Contains clause lit → lit.var < e.propagator.links.vars)
    → IsCovered e.propagator.links.clauses e.units.lits.items clause → IsEngine added e → IsEngine
    (added ++ clause ∷ []) m
placed_apart added clause e m rest state (same, phases) within covered s =
    rest_engine (added ++ clause ∷ []) m rest state
    (keeps_same (added ++ clause ∷ []) e m same (over_added _ added _ _ _ _ _ _ s.keeps clause covered within))
    (phases ∙ s.phases ∙ sym same.vars)

pub placed_empty : (added : List (List Lit)) (clause : List Lit) (e : Engine) → IsEngineAtRest e → Propagated e 0 → SameLits
    [] clause
    → IsEngine added e → IsEngine (added ++ clause ∷ []) e
placed_empty added clause e rest state same s =
    placed_apart added clause e e rest state
    (record { vars = refl; clauses = refl; references = refl; units = refl; reasons = refl; learnt = refl; derivations = refl }, refl)
    (λ lit c. absurd (no_lits lit ((same lit).1 c))) (Empty (empty_from clause same)) s

-- the clause is a unit
pub record HasUnit (e m : Engine) (lit : Lit) (reference : ClauseRef) : Type 0 where
  pub links : m.propagator ≡ e.propagator
  pub units : m.units.lits.items ≡ e.units.lits.items ++ lit ∷ []
  pub reasons : m.units.reasons.items ≡ e.units.reasons.items ++ reference ∷ []
  pub learnt : m.learnt ≡ e.learnt
  pub phases : m.phases ≡ e.phases

pub placed_unit : (added : List (List Lit)) (clause : List Lit) (e m : Engine) (lit : Lit) (reference : ClauseRef)
    → IsEngineAtRest m × Propagated m 0 → HasUnit e m lit reference → reference ≡ Added (length added)
    → SameLits (unit_clause lit) clause → lit.var < e.propagator.links.vars → IsEngine added e → IsEngine (added ++ clause ∷ []) m
placed_unit added clause e m lit reference (rest, state) h is same low s =
    rest_engine (added ++ clause ∷ []) m rest state
    (over_same _ _ (added ++ clause ∷ []) _ _ _ _ _ _ _ _ _ _ _ _ (
      ap (λ (p : _). p.links.vars) h.links,
      ap (λ (p : _). p.links.clauses) h.links,
      ap (λ (p : _). p.references.items) h.links,
    )
    (h.units, h.reasons ∙ ap (λ (r : ClauseRef). e.units.reasons.items ++ r ∷ []) is)
    (ap (λ (l : _). l.clauses.items) h.learnt, ap (λ (l : _). l.derivations.items) h.learnt)
    (over_added_unit _ added _ _ _ _ _ _ s.keeps clause lit same
    (λ k c. subst (λ (l : Lit). l.var < e.propagator.links.vars) (one_lit lit k ((same k).1 c)) low)))
    (ap (λ (p : _). length p.items) h.phases ∙ s.phases ∙ ap (λ (p : _). p.links.vars) (sym h.links))
  where
    one_lit : (a k : Lit) → Contains (unit_clause a) k → a ≡ k
    one_lit a k c = elim (head_lit a [] k c) [ inl e ↦ e | inr none ↦ absurd (no_lits k none) ]

-- the clause is kept
pub record HasKept (e m : Engine) (own : List Lit) (reference : ClauseRef) : Type 0 where
  pub vars : m.propagator.links.vars ≡ e.propagator.links.vars
  pub clauses : m.propagator.links.clauses ≡ e.propagator.links.clauses ++ own ∷ []
  pub references : m.propagator.references.items ≡ e.propagator.references.items ++ reference ∷ []
  pub units : m.units ≡ e.units
  pub learnt : m.learnt ≡ e.learnt
  pub phases : m.phases ≡ e.phases

pub placed_kept : (added : List (List Lit)) (clause own : List Lit) (e m : Engine) (reference : ClauseRef)
    → IsEngineAtRest m × Propagated m 0 → HasKept e m own reference → reference ≡ Added (length added) → SameLits own clause
    → All (λ (lit : Lit). lit.var < e.propagator.links.vars) own → IsEngine added e → IsEngine (added ++ clause ∷ []) m
placed_kept added clause own e m reference (rest, state) h is same all s =
    rest_engine (added ++ clause ∷ []) m rest state
    (over_same _ _ (added ++ clause ∷ []) _ _ _ _ _ _ _ _ _ _ _ _
    (h.vars, h.clauses, h.references ∙ ap (λ (r : ClauseRef). e.propagator.references.items ++ r ∷ []) is)
    (ap (λ (u : _). u.lits.items) h.units, ap (λ (u : _). u.reasons.items) h.units)
    (ap (λ (l : _). l.clauses.items) h.learnt, ap (λ (l : _). l.derivations.items) h.learnt)
    (over_added_kept _ added _ _ _ _ _ _ s.keeps clause own s.propagator.referred same (within_of _ own clause all same)))
    (ap (λ (p : _). length p.items) h.phases ∙ s.phases ∙ sym h.vars)

-- nothing but memory changed
pub unplaced : (added : List (List Lit)) (e m : Engine) → IsEngineAtRest m → Propagated m 0
    → HasSame e m × (length m.phases.items ≡ length e.phases.items) → IsEngine added e → IsEngine added m
unplaced added e m rest state (same, phases) s =
    rest_engine added m rest state (keeps_same added e m same s.keeps) (phases ∙ s.phases ∙ sym same.vars)

-- one variable more
pub wider_engine : (added : List (List Lit)) (e m : Engine) → IsEngineAtRest m → Propagated m 0
    → (e.propagator.links.vars ≤ m.propagator.links.vars) × (m.propagator.links.clauses ≡ e.propagator.links.clauses)
    × (m.propagator.references.items ≡ e.propagator.references.items) → (m.units ≡ e.units) × (m.learnt ≡ e.learnt)
    → length m.phases.items ≡ m.propagator.links.vars → IsEngine added e → IsEngine added m
wider_engine added e m rest state (more, clauses, references) (units, learnt) phases s =
    rest_engine added m rest state
    (over_same _ _ added _ _ _ _ _ _ _ _ _ _ _ _ (refl, clauses, references)
    (ap (λ (u : _). u.lits.items) units, ap (λ (u : _). u.reasons.items) units)
    (ap (λ (l : _). l.clauses.items) learnt, ap (λ (l : _). l.derivations.items) learnt)
    (over_vars _ added _ _ _ _ _ _ s.keeps m.propagator.links.vars more))
    phases

-- ---- what contracts see of the kept clauses

pub kept_grows : (old new : List (List Lit)) (clause own : List Lit) → SameLits own clause → AreOnce own →
    (HasOpposites clause → ⊥)
    → (2 ≤ length own → new ≡ old ++ own ∷ []) → (length own < 2 → new ≡ old) → IsKeptWith old new clause
kept_grows old new clause own same once none more stays = record {
  kept = λ k. (own, same, once, more (two_or_more k.two.0 k.two.1 k.two.4 ((same _).1 k.two.2) ((same _).1 k.two.3)));
  stays = λ no. elim (below_two (length own)) [
    | inl few ↦ stays few
    | inr many ↦
        let a = first_of own (omega (arith, many)) in
        let b = second_of own many in
        absurd (no (record {
          two = (a.0, b.0, (same a.0).0 a.2, (same b.0).0 (second_in b.0 b.1), apart a.0 b.0 a.1 b.1);
          none_opposite = none;
        }))
  ];
}
  where
    not_one : (p q : ℕ) → p ≡ 0 → q ≡ 1 → p ≡ q → ⊥
    not_one p q a b c = omega (arith, a, b, c)

    below_two : (n : ℕ) → (n < 2) ⊎ (2 ≤ n)
    below_two zero = inl (omega arith)
    below_two (suc zero) = inl (omega arith)
    below_two (suc (suc n)) = inr (omega arith)

    two_or_more : (a b : Lit) → (a ≢ b) → Contains own a → Contains own b → 2 ≤ length own
    two_or_more a b apart ha hb = elim (below_two (length own)) [
      | inl few ↦
          let za : ha.0 ≡ 0 = omega (arith, ha.1, few) in
          let zb : hb.0 ≡ 0 = omega (arith, hb.1, few) in
          absurd (apart (sym (at_first a ha za) ∙ at_first b hb zb))
      | inr many ↦ many
    ]
      where
        at_first : (x : Lit) → (h : Contains own x) → h.0 ≡ 0 → get_or own 0 any_lit ≡ x
        at_first x h z = get_or_default own 0 any_lit x (omega (arith, h.1, z)) ∙ ap (λ i. get_or own i x) (sym z) ∙ h.2

    second_in : (b : Lit) → slice_get own 1 ≡ Some b → Contains own b
    second_in b e =
        let low = slice_get_within own 1 b e in
        (1, low, some_is _ _ (sym (slice_get-get_or own 1 b low) ∙ e))

    apart : (a b : Lit) → slice_get own 0 ≡ Some a → slice_get own 1 ≡ Some b → a ≢ b
    apart a b ea eb e =
        let low = slice_get_within own 1 b eb in
        let la = some_is _ _ (sym (slice_get-get_or own 0 any_lit (omega (arith, low))) ∙ ea) in
        let lb = some_is _ _ (sym (slice_get-get_or own 1 any_lit low) ∙ eb) in
        not_one 0 1 refl refl (once 0 1 any_lit (omega (arith, low)) low (la ∙ e ∙ sym lb))
