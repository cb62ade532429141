-- What contracts see of a solver, from what its engine keeps.
use Rattle.std.proofs.Common.{◌≡◌, ◌<◌, ◌+◌, ◌-◌, ℕ, List, [], ◌∷◌, ◌++◌, length, get_or, Option, Some, None}
use Rattle.std.proofs.Common.{refl, sym, ap, ◌∙◌, subst, inl, inr, arith}
use Rattle.std.specs.List.{Contains, slice_get}
use Rattle.std.proofs.lemmas.List.{length_push, get_or_push}
use Rattle.std.proofs.lemmas.Option.{slice_get_within, slice_get-get_or}
use Rattle.cnf.specs.declared.lit.Lit.{Lit}
use Rattle.cnf.specs.Clauses.{opposite}
use Rattle.clause_links.specs.WatchLists.{WatchLists, clause_lits}
use Rattle.sat_core.specs.declared.trail.Step.{Step}
use Rattle.sat_core.specs.declared.engine.Engine.{Engine}
use Rattle.sat_core.specs.declared.propagator.Propagation.{Propagation}
use Rattle.sat_core.specs.declared.propagator.Propagation.TheVariants.{Quiet, Conflict}
use Rattle.sat_core.specs.Search.{AllFalse, IsTrail, lit_at}
use Rattle.sat_core.specs.Solving.{IsAllFalse, HasConflict, EndsPropagation, FollowFrom}
use Rattle.sat_core.specs.Watching.{NoConflict, Propagates}
use Rattle.sat_core.specs.Engines.{Propagated, IsEngine, IsEngineAtRest, IsLonger, IsSolver}
use Rattle.sat_core.proofs.Trails.{same_lit, other_sign}
use Rattle.sat_core.proofs.Models.{bool_same}
use Rattle.sat_core.proofs.EngineLaws.{propagator_full, propagator_less}
use Rattle.sat_core.proofs.LitSets.{lits_of, true_from, true_to}
use Rattle.sat_core.proofs.SearchLaws.{HasSame, keeps_same, settled_if, NoConflict-same}
use Rattle.sat_core.proofs.Following.{follow_from}
use Rattle.sat_core.proofs.Keeping.{get-push, get-push_old, some_is}

-- all literals of a clause are false, told by the steps or by their literals
false_to : (steps : List Step) (clause : List Lit) → AllFalse steps (length steps) clause → IsAllFalse
    (lits_of steps) clause
false_to steps clause all lit c = true_to steps (opposite lit) (all lit c)

false_from : (steps : List Step) (clause : List Lit) → IsAllFalse (lits_of steps) clause → AllFalse steps
    (length steps) clause
false_from steps clause all lit c = true_from steps (opposite lit) (all lit c)

pub quiet_from : (lists : WatchLists) (steps : List Step) → (HasConflict lists (lits_of steps) → ⊥)
    → NoConflict lists steps
quiet_from lists steps none clause within all = none (clause, within, false_to steps (clause_lits lists clause) all)

pub quiet_to : (lists : WatchLists) (steps : List Step) → NoConflict lists steps → HasConflict lists (lits_of steps) → ⊥
quiet_to lists steps quiet (clause, within, all) = quiet clause within (false_from steps (clause_lits lists clause) all)

pub ends_to : (lists : WatchLists) (steps : List Step) (result : Propagation) → Propagates lists steps result
    → EndsPropagation lists (lits_of steps) result
ends_to lists steps Quiet p = quiet_to lists steps p.0
ends_to lists steps (Conflict clause) p = (p.0, false_to steps (clause_lits lists clause) p.1)

-- a literal that isn't true, and whose opposite isn't, has no value
place_or : (steps : List Step) (places : List (Option ℕ)) (lit : Lit) (o : Option ℕ) → IsTrail steps places
    → get_or places lit.var None ≡ o
    → (Contains (lits_of steps) lit → ⊥) → (Contains (lits_of steps) (opposite lit) → ⊥) → o ≡ None
place_or steps places lit None trail e a b = refl
place_or steps places lit (Some p) trail e a b =
    let on = trail.stands lit.var p e in
    elim (bool_same (lit_at steps p).positive lit.positive) [
      | inl same ↦ absurd (a (true_to steps lit (p, on.0, same_lit _ _ on.1 same)))
      | inr other ↦ absurd (b (true_to steps (opposite lit) (p, on.0, same_lit _ _ on.1 (other_sign _ _ other))))
    ]

pub free_from_lits : (steps : List Step) (places : List (Option ℕ)) (lit : Lit) → IsTrail steps places
    → (Contains (lits_of steps) lit → ⊥) → (Contains (lits_of steps) (opposite lit) → ⊥) → get_or places lit.var None
    ≡ None
free_from_lits steps places lit trail a b = place_or steps places lit (get_or places lit.var None) trail refl a b

-- the state before a propagation from outside
pub ready : (added : List (List Lit)) (e : Engine) → IsEngine added e
    → (HasConflict e.propagator.links (lits_of e.propagator.trail.steps.items) → ⊥)
    → Propagated e (length e.propagator.trail.steps.items)
ready added e s none =
    propagator_full _ _ _ _ _ _ (length e.propagator.trail.steps.items - 1) (length e.propagator.trail.steps.items)
    (s.settled (quiet_from e.propagator.links e.propagator.trail.steps.items none)) s.propagator

-- and the engine after it
pub after_propagation : (added : List (List Lit)) (e m : Engine) (step : Step) (result : Propagation) → IsEngine added e
    → Propagated m (length e.propagator.trail.steps.items)
    → m.propagator.trail.steps.items ≡ e.propagator.trail.steps.items ++ step ∷ []
    → Propagates m.propagator.links m.propagator.trail.steps.items result → HasSame e m → m.phases ≡ e.phases
    → IsEngine added m
after_propagation added e m step result s state trail ends same phases =
    let long : length m.propagator.trail.steps.items ≡ length e.propagator.trail.steps.items + 1 =
    ap length trail ∙ length_push e.propagator.trail.steps.items step in
    record {
      propagator = propagator_less _ _ _ _ _ _ (length e.propagator.trail.steps.items) (length m.propagator.trail.steps.items - 1) (omega (arith, long)) state;
      settled = λ q. settled_if m.propagator.links m.propagator.trail.steps.items result ends q;
      keeps = keeps_same added e m same s.keeps;
      phases = ap (λ (p : _). length p.items) phases ∙ s.phases ∙ sym same.vars;
    }

-- ---- an empty clause

pub empty_at : (added : List (List Lit)) (index : ℕ) → slice_get added index ≡ Some [] → (index < length added) ×
    (get_or added index [] ≡ [])
empty_at added index e =
    let low = slice_get_within added index [] e in
    (low, some_is _ _ (sym (slice_get-get_or added index [] low) ∙ e))

-- the solver with one clause more, which isn't empty
pub solver_added : (added grown : List (List Lit)) (clause : List Lit) (empty : Option ℕ) (e m : Engine)
    → IsSolver added empty e
    → grown ≡ added ++ clause ∷ [] → (clause ≡ [] → ⊥) → IsEngine (added ++ clause ∷ []) m → IsSolver grown empty m
solver_added added grown clause empty e m s is full engine =
    subst (λ (l : List (List Lit)). IsSolver l empty m) (sym is)
    (record {
      found = λ index at. get-push_old added clause index [] (s.found index at);
      none_empty = λ none c.
          let at : slice_get (added ++ clause ∷ []) c.0 ≡ Some [] = slice_get-get_or (added ++ clause ∷ []) c.0 [] c.1 ∙ ap Some c.2 in
          elim (get-push added clause c.0 [] at) [
            | inl old ↦ let here = empty_at added c.0 old in s.none_empty none (c.0, here.0, here.1)
            | inr new ↦ full new.1
          ];
      engine = engine;
    })

-- and with an empty one
pub solver_emptied : (added grown : List (List Lit)) (clause : List Lit) (index : ℕ) (m : Engine) → grown ≡ added
    ++ clause ∷ []
    → clause ≡ [] → index ≡ length added → IsEngine (added ++ clause ∷ []) m → IsSolver grown (Some index) m
solver_emptied added grown clause index m is full at engine =
    subst (λ (l : List (List Lit)). IsSolver l (Some index) m) (sym is)
    (record {
      found = λ i e.
          let same : index ≡ i = some_is index i e in
          slice_get-get_or (added ++ clause ∷ []) i [] (omega (arith, length_push added clause, same, at))
          ∙ ap Some (get_or_push added clause [] i (sym at ∙ same) ∙ full);
      none_empty = λ none c. absurd (cc);
      engine = engine;
    })

-- ---- at rest

-- nothing is to be settled
pub rest_state : (added : List (List Lit)) (e : Engine) → IsEngine added e → IsEngineAtRest e → Propagated e 0
rest_state added e s rest =
    propagator_less _ _ _ _ _ _ (length e.propagator.trail.steps.items - 1) 0 (omega arith) s.propagator

-- no kept clause is in conflict, after a change that left them
pub quiet_stays : (old new : WatchLists) (steps grown : List Step) → NoConflict old steps → steps ≡ [] → grown ≡ []
    → new.clauses ≡ old.clauses
    → HasConflict new (lits_of grown) → ⊥
quiet_stays old new steps grown quiet none none' same =
    quiet_to new grown
    (subst (λ (l : List Step). NoConflict new l) (sym none')
    (NoConflict-same old new [] same (subst (λ (l : List Step). NoConflict old l) none quiet)))

-- the solver with another engine
pub solver_with : (added same : List (List Lit)) (empty : Option ℕ) (e m : Engine) → IsSolver added empty e → same
    ≡ added → IsEngine added m
    → IsSolver same empty m
solver_with added same empty e m s is engine =
    subst (λ (l : List (List Lit)). IsSolver l empty m) (sym is)
    (record { found = s.found; none_empty = s.none_empty; engine = engine })

-- what a search kept follows from the added clauses
pub follow_answer : (added same : List (List Lit)) (empty : Option ℕ) (e rest new : Engine) → same ≡ added
    → rest.propagator.links ≡ e.propagator.links → IsLonger rest new → IsSolver same empty new
    → FollowFrom e.propagator.links.vars added e.propagator.links new.propagator.links
follow_answer added same empty e rest new is links longer s =
    let keeps = s.engine.keeps in
    subst (λ (l : List (List Lit)). FollowFrom e.propagator.links.vars l e.propagator.links new.propagator.links) is
    (follow_from e.propagator.links.vars same new.learnt.clauses.items new.learnt.derivations.items e.propagator.links new.propagator.links
    new.propagator.references.items keeps.derived keeps.kept s.engine.propagator.referred
    (longer.kept.0, longer.kept.1 ∙ ap (λ (l : WatchLists). l.clauses ++ longer.kept.0) links))
