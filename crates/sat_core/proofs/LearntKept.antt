-- The engine where a learnt clause is kept.
use Rattle.std.proofs.Common.{◌≡◌, ◌<◌, List, [], ◌∷◌, ◌++◌, length, Some}
use Rattle.std.proofs.Common.{sym, ◌∙◌, subst, inl, inr}
use Rattle.std.specs.List.{Contains, slice_get, All}
use Rattle.std.proofs.lemmas.List.Elements.{All-contains}
use Rattle.std.proofs.lemmas.Option.{slice_get_within, slice_get-get_or}
use Rattle.cnf.specs.declared.lit.Lit.{Lit}
use Rattle.clause_log.specs.Derivations.{SameLits}
use Rattle.sat_core.specs.declared.clause_ref.ClauseRef.{ClauseRef}
use Rattle.sat_core.specs.declared.clause_ref.ClauseRef.TheVariants.{Learnt}
use Rattle.sat_core.specs.declared.chain.Derivation.{Derivation}
use Rattle.sat_core.specs.declared.trail.Step.{Step}
use Rattle.sat_core.specs.declared.engine.Engine.{Engine}
use Rattle.sat_core.specs.Search.{clause_lists, unit_clause, IsDerivation}
use Rattle.sat_core.specs.Learning.{IsWatchOrder}
use Rattle.sat_core.specs.Engines.{RefersTo, AreOver, Keeps}
use Rattle.sat_core.proofs.Chains.{Contains-head}
use Rattle.sat_core.proofs.Members.{no_lits}
use Rattle.sat_core.proofs.WatchLaws.{head_lit}
use Rattle.sat_core.proofs.Keeping.{some_is, same-trans, over_learnt, over_kept, over_unit, over_same, learnt_stands}

-- the learnt clauses grew by one with its derivation
pub record HasLearnt (e m : Engine) (clause : List Lit) (derivation : Derivation) : Type 0 where
  pub vars : m.propagator.links.vars ≡ e.propagator.links.vars
  pub learnt : m.learnt.clauses.items ≡ e.learnt.clauses.items ++ clause ∷ []
  pub derivations : m.learnt.derivations.items ≡ e.learnt.derivations.items ++ derivation ∷ []

-- a clause with one literal, which it forces
pub only_one : (steps : List Step) (forced : Lit) (lits : List Lit) → IsWatchOrder steps forced lits → length lits ≡ 1
    → SameLits (unit_clause forced) lits
only_one steps forced lits order one m = (
  λ c. elim (head_lit forced [] m c) [
    | inl e ↦ subst (λ (l : Lit). Contains lits l) e (first_in lits forced order.first)
    | inr none ↦ absurd (no_lits m none)
  ],
  λ c. subst (λ (l : Lit). Contains (unit_clause forced) l) (sym (order.only m one c)) (Contains-head forced []),
)
  where
    first_in : (xs : List Lit) (x : Lit) → slice_get xs 0 ≡ Some x → Contains xs x
    first_in xs x e =
        let low = slice_get_within xs 0 x e in
        (0, low, some_is _ _ (sym (slice_get-get_or xs 0 x low) ∙ e))

module _ (added : List (List Lit)) (e m : Engine) (clause : List Lit) (derivation : Derivation) (h : HasLearnt e m clause derivation)
    (keeps : Keeps added e)
    (derived : IsDerivation (clause_lists added e.learnt.clauses.items []) derivation.first derivation.rest.items clause)
    (known : All (λ (lit : Lit). lit.var < e.propagator.links.vars) clause) where
  grown : AreOver e.propagator.links.vars added e.propagator.links.clauses e.propagator.references.items e.units.lits.items
      e.units.reasons.items (e.learnt.clauses.items ++ clause ∷ []) (e.learnt.derivations.items ++ derivation ∷ [])
  grown =
      over_learnt _ added _ _ _ _ _ _ keeps clause derivation derived
      (λ lit c. All-contains (λ (l : Lit). l.var < e.propagator.links.vars) clause lit known c)

  -- nothing else changed
  pub learnt_alone : (m.propagator.links.clauses ≡ e.propagator.links.clauses)
      × (m.propagator.references.items ≡ e.propagator.references.items)
      → (m.units.lits.items ≡ e.units.lits.items) × (m.units.reasons.items ≡ e.units.reasons.items) → Keeps added m
  learnt_alone (clauses, references) units =
      over_same _ _ added _ _ _ _ _ _ _ _ _ _ _ _ (h.vars, clauses, references) units (h.learnt, h.derivations) grown

  -- the clause is a unit
  pub learnt_unit : (lit : Lit) (reason : ClauseRef) → SameLits (unit_clause lit) clause → reason ≡ Learnt
      (length e.learnt.clauses.items)
      → (m.propagator.links.clauses ≡ e.propagator.links.clauses) ×
      (m.propagator.references.items ≡ e.propagator.references.items)
      → (m.units.lits.items ≡ e.units.lits.items ++ lit ∷ []) ×
      (m.units.reasons.items ≡ e.units.reasons.items ++ reason ∷ [])
      → Keeps added m
  learnt_unit lit reason same is (clauses, references) units =
      let s = learnt_stands added e.learnt.clauses.items clause in
      let here : RefersTo (clause_lists added (e.learnt.clauses.items ++ clause ∷ []) []) reason (unit_clause lit) =
      subst (λ (r : ClauseRef). RefersTo (clause_lists added (e.learnt.clauses.items ++ clause ∷ []) []) r (unit_clause lit)) (sym is)
      (record { named = s.named; kept = s.kept; same = same-trans (unit_clause lit) clause _ same s.same }) in
      over_same _ _ added _ _ _ _ _ _ _ _ _ _ _ _ (h.vars, clauses, references) units (h.learnt, h.derivations)
      (over_unit _ added _ _ _ _ _ _ grown lit reason here)

  -- the clause is kept
  pub learnt_kept : (reason : ClauseRef) → length e.propagator.references.items ≡ length e.propagator.links.clauses
      → reason ≡ Learnt (length e.learnt.clauses.items)
      → (m.propagator.links.clauses ≡ e.propagator.links.clauses ++ clause ∷ [])
      × (m.propagator.references.items ≡ e.propagator.references.items ++ reason ∷ [])
      → (m.units.lits.items ≡ e.units.lits.items) × (m.units.reasons.items ≡ e.units.reasons.items) → Keeps added m
  learnt_kept reason same is (clauses, references) units =
      let here : RefersTo (clause_lists added (e.learnt.clauses.items ++ clause ∷ []) []) reason clause =
      subst (λ (r : ClauseRef). RefersTo (clause_lists added (e.learnt.clauses.items ++ clause ∷ []) []) r clause) (sym is)
      (learnt_stands added e.learnt.clauses.items clause) in
      over_same _ _ added _ _ _ _ _ _ _ _ _ _ _ _ (h.vars, clauses, references) units (h.learnt, h.derivations)
      (over_kept _ added _ _ _ _ _ _ grown clause reason same here)
