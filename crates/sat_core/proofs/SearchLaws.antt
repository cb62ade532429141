-- The engine in a search: where the trail is taken back, where a clause is learnt, where a literal is made true, and what comes
-- next.
use Rattle.std.proofs.Common.{◌≡◌, ◌<◌, ◌≤◌, ◌+◌, ◌-◌, ℕ, zero, suc, Bool, List, [], ◌∷◌, ◌++◌, length, take, map, get_or, Option, Some, None}
use Rattle.std.proofs.Common.{refl, sym, ap, ◌∙◌, subst, inl, arith, append_assoc}
use Rattle.std.specs.List.{Contains, slice_get}
use Rattle.std.proofs.lemmas.List.{length_push, length-take-le, length-map, map_push, take_at, get_or_push, append-nil}
use Rattle.std.proofs.lemmas.Option.{slice_get-get_or}
use Rattle.cnf.specs.declared.lit.Lit.{Lit}
use Rattle.cnf.specs.Clauses.{opposite}
use Rattle.clause_log.specs.Derivations.{SameLits}
use Rattle.clause_links.specs.WatchLists.{WatchLists, AreExact}
use Rattle.sat_core.specs.declared.clause_ref.ClauseRef.{ClauseRef}
use Rattle.sat_core.specs.declared.clause_ref.ClauseRef.TheVariants.{Learnt}
use Rattle.sat_core.specs.declared.trail.Step.{Step}
use Rattle.sat_core.specs.declared.trail.Trail.{Trail}
use Rattle.sat_core.specs.declared.propagator.Propagator.{Propagator}
use Rattle.sat_core.specs.declared.propagator.Propagation.{Propagation}
use Rattle.sat_core.specs.declared.propagator.Propagation.TheVariants.{Quiet, Conflict}
use Rattle.sat_core.specs.declared.analyse.Backjump.{Backjump}
use Rattle.sat_core.specs.declared.analyse.LearntClause.{LearntClause}
use Rattle.sat_core.specs.declared.engine.Engine.{Engine}
use Rattle.sat_core.specs.Search.{ClauseLists, clause_lists, unit_clause, HasClause, clause_of, opens_level, MadeTrue, AllFalse, Forces, Justifies, Justified}
use Rattle.sat_core.specs.Search.{AssumptionsTrue, IsTrail, AllWithin, IsDerivation, level_marks, trail_weight, weight}
use Rattle.sat_core.specs.Learning.{IsFalseClause, Asserts, IsLearntFrom}
use Rattle.sat_core.specs.Decisions.{AreTrueTo, NoneFalse}
use Rattle.sat_core.specs.Watching.{IsPropagator, AllSettled, NoConflict, IsForcedBy, AreForced, Propagates}
use Rattle.sat_core.specs.Engines.{AreKept, AreUnits, IsCovered, Keeps, Propagated, IsEngine, IsEngineAtRest, IsSearching, CanFollow, TakesStep}
use Rattle.sat_core.specs.Engines.{step_weight, IsLonger}
use Rattle.sat_core.specs.Engines.IsCovered.{Kept, InUnits, Tautology, Empty}
use Rattle.sat_core.proofs.Trails.{MadeTrue-push, MadeTrue-later, not_both, trail_room, counted_le}
use Rattle.sat_core.proofs.Members.{any_lit}
use Rattle.sat_core.proofs.Growing.{extends_assumed}
use Rattle.sat_core.proofs.Reasons.{Justified-take, Justified-push, Justified-grown, weight_returned}
use Rattle.sat_core.proofs.Measure.{weight-push, weight-pos}
use Rattle.sat_core.proofs.Chains.{Contains-head}
use Rattle.sat_core.proofs.Searching.{in_unit, lesson_turns, false_clause_within, Forces-take, within_same, cut_free, assumptions_true}
use Rattle.sat_core.proofs.EngineLaws.{NoConflict-take, NoConflict-start, propagator_back, propagator_less}
use Rattle.sat_core.proofs.EngineLaws.{propagator_full, AreForced-none}
use Rattle.sat_core.proofs.Keeping.{IsDerivation-same, over_same}

-- whether a clause is conflicting depends on the clauses alone
pub NoConflict-same : (old new : WatchLists) (steps : List Step) → new.clauses ≡ old.clauses → NoConflict old steps
    → NoConflict new steps
NoConflict-same old new steps e quiet clause within all =
    quiet clause (subst (λ (l : List (List Lit)). clause < length l) e within)
    (subst (λ (l : List (List Lit)). AllFalse steps (length steps) (get_or l clause [])) e all)

-- an engine with the same clauses, units and learnt clauses as another
pub record HasSame (e m : Engine) : Type 0 where
  pub vars : m.propagator.links.vars ≡ e.propagator.links.vars
  pub clauses : m.propagator.links.clauses ≡ e.propagator.links.clauses
  pub references : m.propagator.references.items ≡ e.propagator.references.items
  pub units : m.units.lits.items ≡ e.units.lits.items
  pub reasons : m.units.reasons.items ≡ e.units.reasons.items
  pub learnt : m.learnt.clauses.items ≡ e.learnt.clauses.items
  pub derivations : m.learnt.derivations.items ≡ e.learnt.derivations.items

pub keeps_same : (added : List (List Lit)) (e m : Engine) → HasSame e m → Keeps added e → Keeps added m
keeps_same added e m s k =
    over_same _ _ added _ _ _ _ _ _ _ _ _ _ _ _ (s.vars, s.clauses, s.references) (s.units, s.reasons) (s.learnt, s.derivations) k

-- ---- going back

pub record IsBack (e m : Engine) (keep : ℕ) : Type 0 where
  pub trail : IsTrail m.propagator.trail.steps.items m.propagator.trail.places.items
  pub queue : IsTrail m.propagator.waiting.steps.items m.propagator.waiting.places.items
  pub vars : length m.propagator.trail.places.items ≡ length e.propagator.trail.places.items
  pub queue_vars : length m.propagator.waiting.places.items ≡ length e.propagator.waiting.places.items
  pub steps : m.propagator.trail.steps.items ≡ take keep e.propagator.trail.steps.items
  pub waiting : m.propagator.waiting.steps.items ≡ []
  pub links : m.propagator.links ≡ e.propagator.links
  pub same : HasSame e m
  pub phases : length m.phases.items ≡ length e.phases.items

-- what an engine is after a return
pub record IsReturned (added : List (List Lit)) (e m : Engine) : Type 0 where
  pub engine : IsEngine added m
  pub state : Propagated m (length m.propagator.trail.steps.items)
  pub quiet : NoConflict m.propagator.links m.propagator.trail.steps.items

back_state : (e m : Engine) (keep n : ℕ) → IsBack e m keep → keep ≤ n → Propagated e n → Propagated m keep
back_state e m keep n b le s =
    let p : IsPropagator e.propagator.links e.propagator.references.items m.propagator.trail.steps.items m.propagator.trail.places.items
    m.propagator.waiting.steps.items m.propagator.waiting.places.items keep =
    propagator_back e.propagator.links e.propagator.references.items e.propagator.trail.steps.items m.propagator.trail.steps.items
    e.propagator.trail.places.items m.propagator.trail.places.items e.propagator.waiting.steps.items m.propagator.waiting.steps.items
    e.propagator.waiting.places.items m.propagator.waiting.places.items n keep le s (b.steps, b.trail, b.vars)
    (b.waiting, b.queue, b.queue_vars) in
    subst (λ (l : WatchLists). IsPropagator l m.propagator.references.items m.propagator.trail.steps.items m.propagator.trail.places.items
    m.propagator.waiting.steps.items m.propagator.waiting.places.items keep) (sym b.links)
    (subst (λ (r : List ClauseRef). IsPropagator e.propagator.links r m.propagator.trail.steps.items m.propagator.trail.places.items
    m.propagator.waiting.steps.items m.propagator.waiting.places.items keep) (sym b.same.references) p)

-- to a place of the trail before its last one
pub returned : (added : List (List Lit)) (e m : Engine) (keep : ℕ) → IsEngine added e → IsBack e m keep
    → keep < length e.propagator.trail.steps.items
    → NoConflict e.propagator.links (take (length e.propagator.trail.steps.items - 1) e.propagator.trail.steps.items)
    → IsReturned added e m
returned added e m keep s b low before =
    let steps = e.propagator.trail.steps.items in
    let n = length steps - 1 in
    let long : length m.propagator.trail.steps.items ≡ keep = ap length b.steps ∙ length-take-le keep steps (omega arith) in
    let state : Propagated m keep = back_state e m keep n b (omega arith) s.propagator in
    let full : Propagated m (length m.propagator.trail.steps.items) = subst (λ k. Propagated m k) (sym long) state in
    let cut : take keep (take n steps) ≡ take keep steps = take_take keep n steps (omega arith) in
    let quiet : NoConflict e.propagator.links (take keep steps) =
    subst (λ (l : List Step). NoConflict e.propagator.links l) cut
    (NoConflict-take e.propagator.links (take n steps) keep (omega (arith, length-take-le n steps (omega arith))) before) in
    let quiet' : NoConflict m.propagator.links m.propagator.trail.steps.items =
    NoConflict-same e.propagator.links m.propagator.links m.propagator.trail.steps.items b.same.clauses
    (subst (λ (l : List Step). NoConflict e.propagator.links l) (sym b.steps) quiet) in
    record {
      engine = record {
        propagator = propagator_less _ _ _ _ _ _ (length m.propagator.trail.steps.items) (length m.propagator.trail.steps.items - 1) (omega arith) full;
        settled = λ q. full.settled;
        keeps = keeps_same added e m b.same s.keeps;
        phases = b.phases ∙ s.phases ∙ sym b.same.vars;
      };
      state = full;
      quiet = quiet';
    }
  where
    take_take : (k n : ℕ) (xs : List Step) → k ≤ n → take k (take n xs) ≡ take k xs
    take_take zero n xs le = refl
    take_take (suc k) zero xs le = absurd (omega arith)
    take_take (suc k) (suc n) [] le = refl
    take_take (suc k) (suc n) (x ∷ xs) le = ap (λ l. x ∷ l) (take_take k n xs (omega arith))

-- ---- learning

-- a learnt clause is kept after a return
pub record IsLearning (added : List (List Lit)) (m new : Engine) (order : List Lit) : Type 0 where
  pub state : Propagated new (length new.propagator.trail.steps.items)
  pub quiet : NoConflict new.propagator.links new.propagator.trail.steps.items
  pub trail : new.propagator.trail ≡ m.propagator.trail
  pub phases : new.phases ≡ m.phases
  pub keeps : Keeps added new
  pub vars : new.propagator.links.vars ≡ m.propagator.links.vars

-- an engine after that, also where memory was wanted
pub learnt_engine : (added : List (List Lit)) (m new : Engine) (order : List Lit) → IsEngine added m
    → IsLearning added m new order
    → IsEngine added new
learnt_engine added m new order s l = record {
  propagator =
      propagator_less _ _ _ _ _ _ (length new.propagator.trail.steps.items) (length new.propagator.trail.steps.items - 1) (omega arith) l.state;
  settled = λ q. l.state.settled;
  keeps = l.keeps;
  phases = ap (λ (p : _). length p.items) l.phases ∙ s.phases ∙ sym l.vars;
}

-- what was learnt from an engine, and where its trail was cut
pub record IsLesson (added : List (List Lit)) (assumed : List Lit) (e m : Engine) (lesson : LearntClause) (backjump : Backjump)
    (order : List Lit) : Type 0 where
  pub search : IsSearching added assumed e
  pub back : IsBack e m backjump.keep
  pub learnt : IsLearntFrom (clause_lists added e.learnt.clauses.items []) e.propagator.trail.steps.items lesson
  pub turns : lesson.backjump ≡ Some backjump
  pub same : SameLits order lesson.lits.items

abbrev pub forced_step : Lit → ℕ → Step
forced_step lit n = record { lit = lit; reason = Some (Learnt n) }

module _ (added : List (List Lit)) (assumed : List Lit) (e m : Engine) (learnt : LearntClause) (backjump : Backjump) (order : List Lit)
    (l : IsLesson added assumed e m learnt backjump order) where
  asserts : Asserts e.propagator.trail.steps.items learnt.lits.items backjump.lit backjump.keep
  asserts = lesson_turns (clause_lists added e.learnt.clauses.items []) e.propagator.trail.steps.items learnt backjump l.turns l.learnt

  pub lesson_returned : IsReturned added e m
  lesson_returned = returned added e m backjump.keep l.search.engine l.back asserts.within l.search.before

  -- the literals of the clause are of the variables
  pub lesson_within : (lit : Lit) → Contains order lit → lit.var < m.propagator.links.vars
  lesson_within lit c =
      let w = false_clause_within e.propagator.trail.steps.items e.propagator.trail.places.items learnt.lits.items l.search.engine.propagator.trail
      l.learnt.all lit ((l.same lit).0 c) in
      omega (arith, w, l.search.engine.propagator.vars, l.back.same.vars)

  forces_order : Forces e.propagator.trail.steps.items backjump.keep order backjump.lit
  forces_order = record {
    has = (l.same backjump.lit).1 asserts.forces.has;
    others = λ m c. asserts.forces.others m ((l.same m).0 c);
  }

  -- the literals that it forces has no value after the return
  pub lesson_free : get_or m.propagator.trail.places.items backjump.lit.var None ≡ None
  lesson_free =
      cut_free e.propagator.trail.steps.items m.propagator.trail.places.items learnt.lits.items backjump.lit backjump.keep
      (subst (λ (s : List Step). IsTrail s m.propagator.trail.places.items) l.back.steps l.back.trail) asserts

  -- and the clause is derived
  pub lesson_derived : IsDerivation (clause_lists added m.learnt.clauses.items
      []) learnt.derivation.first learnt.derivation.rest.items order
  lesson_derived =
      subst (λ (ls : List (List Lit)). IsDerivation (clause_lists added ls []) learnt.derivation.first learnt.derivation.rest.items order)
      (sym l.back.same.learnt)
      (IsDerivation-same (clause_lists added e.learnt.clauses.items []) learnt.derivation.first learnt.derivation.rest.items learnt.lits.items
      order l.same l.learnt.derived)

  module _ (new : Engine) (k : IsLearning added m new order) (grown : new.learnt.clauses.items ≡ m.learnt.clauses.items ++ order ∷ []) where
    cut_is : new.propagator.trail.steps.items ≡ take backjump.keep e.propagator.trail.steps.items
    cut_is = ap (λ (t : Trail). t.steps.items) k.trail ∙ l.back.steps

    learnt_is : new.learnt.clauses.items ≡ e.learnt.clauses.items ++ order ∷ []
    learnt_is = grown ∙ ap (λ (ls : List (List Lit)). ls ++ order ∷ []) l.back.same.learnt

    -- the search goes on with the literal that the clause forces
    pub lesson_goes_on : TakesStep added assumed new (forced_step backjump.lit (length m.learnt.clauses.items))
    lesson_goes_on =
        let steps = e.propagator.trail.steps.items in
        let old = e.learnt.clauses.items in
        let n = length m.learnt.clauses.items in
        let k' : ClauseLists = clause_lists added (old ++ order ∷ []) assumed in
        let cut = take backjump.keep steps in
        let len : length cut ≡ backjump.keep = length-take-le backjump.keep steps (omega (arith, asserts.within)) in
        let at : length old ≡ n = sym (ap length l.back.same.learnt) in
        let is : clause_of k' (Learnt n) ≡ order = get_or_push old order [] n at in
        let names : HasClause k' (Learnt n) = omega (arith, at, length_push old order) in
        let here : Justifies k' cut (length cut) backjump.lit (Some (Learnt n)) = (
          names,
          subst (λ p. Forces cut p (clause_of k' (Learnt n)) backjump.lit) (sym len)
              (subst (λ (c : List Lit). Forces cut backjump.keep c backjump.lit) (sym is)
              (Forces-take steps backjump.keep order backjump.lit forces_order)),
        ) in
        let here' : Justifies k' new.propagator.trail.steps.items (length new.propagator.trail.steps.items) backjump.lit (Some (Learnt n)) =
        subst (λ (s : List Step). Justifies k' s (length s) backjump.lit (Some (Learnt n))) (sym cut_is) here in
        let old_ones : Justified k' new.propagator.trail.steps.items =
        subst (λ (s : List Step). Justified k' s) (sym cut_is)
        (Justified-take k' steps backjump.keep (Justified-grown added old assumed order steps l.search.justified)) in
        record {
          search = record {
            engine = learnt_engine added m new order lesson_returned.engine k;
            justified =
                subst (λ (ls : List (List Lit)). Justified (clause_lists added ls assumed) new.propagator.trail.steps.items) (sym learnt_is)
                old_ones;
            assumed_within = within_same _ _ _ (k.vars ∙ l.back.same.vars) l.search.assumed_within;
            before =
                NoConflict-take new.propagator.links new.propagator.trail.steps.items (length new.propagator.trail.steps.items - 1) (omega arith)
                k.quiet;
          };
          quiet = k.quiet;
          next = record {
            within = omega (arith, k.vars, lesson_within backjump.lit forces_order.has);
            free = ap (λ (t : Trail). get_or t.places.items backjump.lit.var None) k.trail ∙ lesson_free;
            justifies =
                subst (λ (ls : List (List Lit)). Justifies (clause_lists added ls assumed) new.propagator.trail.steps.items
                (length new.propagator.trail.steps.items) backjump.lit (Some (Learnt n))) (sym learnt_is) here';
          };
        }

    -- with a smaller weight
    pub lesson_weight : step_weight new (forced_step backjump.lit (length m.learnt.clauses.items))
        < trail_weight e.propagator.trail.steps.items e.propagator.trail.places.items
    lesson_weight =
        let step = forced_step backjump.lit (length m.learnt.clauses.items) in
        let same : length new.propagator.trail.places.items ≡ length e.propagator.trail.places.items =
        k.state.vars ∙ k.vars ∙ l.back.same.vars ∙ sym l.search.engine.propagator.vars in
        subst (λ (s : List Step). trail_weight (s ++ step ∷ []) new.propagator.trail.places.items
        < trail_weight e.propagator.trail.steps.items e.propagator.trail.places.items) (sym cut_is)
        (weight_returned e.propagator.trail.steps.items e.propagator.trail.places.items new.propagator.trail.places.items backjump.keep step same
        l.search.engine.propagator.trail asserts.within asserts.opens refl)

-- ---- making a literal true

pub record IsStepped (e m : Engine) (step : Step) (result : Propagation) : Type 0 where
  pub state : Propagated m (length e.propagator.trail.steps.items)
  pub trail : m.propagator.trail.steps.items ≡ e.propagator.trail.steps.items ++ step ∷ []
  pub ends : Propagates m.propagator.links m.propagator.trail.steps.items result
  pub same : HasSame e m
  pub phases : length m.phases.items ≡ length e.phases.items

-- before a literal is made true, all places are settled
pub all_settled : (added : List (List Lit)) (assumed : List Lit) (e : Engine) (step : Step)
    → TakesStep added assumed e step
    → Propagated e (length e.propagator.trail.steps.items)
all_settled added assumed e step g =
    propagator_full _ _ _ _ _ _ (length e.propagator.trail.steps.items - 1) (length e.propagator.trail.steps.items)
    (g.search.engine.settled g.quiet) g.search.engine.propagator

pub settled_if : (lists : WatchLists) (steps : List Step) (result : Propagation) → Propagates lists steps result
    → NoConflict lists steps
    → AllSettled lists steps (length steps)
settled_if lists steps Quiet p quiet = p.1
settled_if lists steps (Conflict clause) p quiet = absurd (quiet clause p.0 p.1)

pub stepped_engine : (added : List (List Lit)) (assumed : List Lit) (e m : Engine) (step : Step) (result : Propagation)
    → TakesStep added assumed e step → IsStepped e m step result → IsEngine added m
stepped_engine added assumed e m step result g s =
    let long : length m.propagator.trail.steps.items ≡ length e.propagator.trail.steps.items + 1 =
    ap length s.trail ∙ length_push e.propagator.trail.steps.items step in
    record {
      propagator = propagator_less _ _ _ _ _ _ (length e.propagator.trail.steps.items) (length m.propagator.trail.steps.items - 1)
          (omega (arith, long)) s.state;
      settled = λ q. settled_if m.propagator.links m.propagator.trail.steps.items result s.ends q;
      keeps = keeps_same added e m s.same g.search.engine.keeps;
      phases = s.phases ∙ g.search.engine.phases ∙ sym s.same.vars;
    }

pub stepped : (added : List (List Lit)) (assumed : List Lit) (e m : Engine) (step : Step) (result : Propagation)
    → TakesStep added assumed e step → IsStepped e m step result → IsSearching added assumed m
stepped added assumed e m step result g s =
    let steps = e.propagator.trail.steps.items in
    let long : length m.propagator.trail.steps.items ≡ length steps + 1 = ap length s.trail ∙ length_push steps step in
    let front : take (length m.propagator.trail.steps.items - 1) m.propagator.trail.steps.items ≡ steps =
    ap (λ (l : List Step). take (length m.propagator.trail.steps.items - 1) l) s.trail
    ∙ take_at steps (step ∷ []) (length m.propagator.trail.steps.items - 1) (omega (arith, long)) in
    record {
      engine = stepped_engine added assumed e m step result g s;
      justified =
          subst (λ (ls : List (List Lit)). Justified (clause_lists added ls assumed) m.propagator.trail.steps.items) (sym s.same.learnt)
          (subst (λ (l : List Step). Justified (clause_lists added e.learnt.clauses.items assumed) l) (sym s.trail)
          (Justified-push (clause_lists added e.learnt.clauses.items assumed) steps step g.search.justified g.next.justifies));
      assumed_within = within_same _ _ _ s.same.vars g.search.assumed_within;
      before =
          subst (λ (l : List Step). NoConflict m.propagator.links l) (sym front)
          (NoConflict-same e.propagator.links m.propagator.links steps s.same.clauses g.quiet);
    }

-- what was seen to be true stays so
pub seen_push : (steps grown : List Step) (step : Step) (lits : List Lit) (n : ℕ) → grown ≡ steps ++ step ∷ []
    → AreTrueTo steps lits n
    → AreTrueTo grown lits n
seen_push steps grown step lits n e seen i lit low at =
    subst (λ (l : List Step). MadeTrue l (length l) lit) (sym e)
    (MadeTrue-later (steps ++ step ∷ []) (length steps) (length (steps ++ step ∷ [])) lit (omega (arith, length_push steps step))
    (MadeTrue-push steps step (length steps) lit (omega arith) (seen i lit low at)))

-- ---- what comes next

-- a kept clause whose literals are all false stands for a clause that may be named
pub kept_false : (added learnt : List (List Lit)) (assumed : List Lit) (clauses : List (List Lit))
    (references : List ClauseRef)
    (steps : List Step) (n : ℕ) (reason : ClauseRef) → AreKept (clause_lists added learnt []) clauses references
    → slice_get references n ≡ Some reason → AllFalse steps (length steps) (get_or clauses n [])
    → IsFalseClause (clause_lists added learnt assumed) steps reason
kept_false added learnt assumed clauses references steps n reason kept at all =
    let s = kept n reason at in
    let r = extends_assumed added learnt assumed reason s.named in
    record {
      named = r.0;
      kept = s.kept;
      all =
          subst (λ (c : List Lit). AllFalse steps (length steps) c) (sym r.1)
          (λ lit c. all lit ((s.same lit).1 c));
    }

-- a unit that is false, and one that has no value
pub unit_false : (added learnt : List (List Lit)) (assumed : List Lit) (units : List Lit) (reasons : List ClauseRef)
    (steps : List Step)
    (n : ℕ) (lit : Lit) (reason : ClauseRef) → AreUnits (clause_lists added learnt []) units reasons
    → (slice_get units n ≡ Some lit) × (slice_get reasons n ≡ Some reason) → MadeTrue steps (length steps)
    (opposite lit)
    → IsFalseClause (clause_lists added learnt assumed) steps reason
unit_false added learnt assumed units reasons steps n lit reason u (at, at') f =
    let s = u.each n lit reason at at' in
    let r = extends_assumed added learnt assumed reason s.named in
    record {
      named = r.0;
      kept = s.kept;
      all =
          subst (λ (c : List Lit). AllFalse steps (length steps) c) (sym r.1)
          (λ m c. subst (λ (x : Lit). MadeTrue steps (length steps) (opposite x)) (in_unit lit m ((s.same m).1 c)) f);
    }

pub unit_forces : (added learnt : List (List Lit)) (assumed : List Lit) (units : List Lit) (reasons : List ClauseRef)
    (steps : List Step)
    (n : ℕ) (lit : Lit) (reason : ClauseRef) → AreUnits (clause_lists added learnt []) units reasons
    → (slice_get units n ≡ Some lit) × (slice_get reasons n ≡ Some reason)
    → Justifies (clause_lists added learnt assumed) steps (length steps) lit (Some reason)
unit_forces added learnt assumed units reasons steps n lit reason u (at, at') =
    let s = u.each n lit reason at at' in
    let r = extends_assumed added learnt assumed reason s.named in (
      r.0,
      subst (λ (c : List Lit). Forces steps (length steps) c lit) (sym r.1)
          (record {
            has = (s.same lit).0 (Contains-head lit []);
            others = λ m c. inl (sym (in_unit lit m ((s.same m).1 c)));
          }),
    )

-- a literal that waits is forced by its reason
pub waiting_forces : (added learnt : List (List Lit)) (assumed : List Lit) (lists : WatchLists)
    (references : List ClauseRef)
    (steps : List Step) (step : Step) → AreKept (clause_lists added learnt []) lists.clauses references
    → length references ≡ length lists.clauses → IsForcedBy lists references steps step
    → Justifies (clause_lists added learnt assumed) steps (length steps) step.lit step.reason
waiting_forces added learnt assumed lists references steps step kept same f =
    let none : ClauseRef = Learnt 0 in
    let at : slice_get references f.clause ≡ Some (get_or references f.clause none) =
    slice_get-get_or references f.clause none (omega (arith, same, f.within)) in
    let reason = get_or references f.clause none in
    let s = kept f.clause reason at in
    let r = extends_assumed added learnt assumed reason s.named in
    subst (λ (o : Option ClauseRef). Justifies (clause_lists added learnt assumed) steps (length steps) step.lit o) (sym (f.reason ∙ at)) (
      r.0,
      subst (λ (c : List Lit). Forces steps (length steps) c step.lit) (sym r.1)
          (record {
            has = (s.same step.lit).0 f.forces.has;
            others = λ m c. f.forces.others m ((s.same m).1 c);
          }),
    )

-- the weight with one step more is smaller
pub next_weight : (e : Engine) (step : Step) → IsTrail e.propagator.trail.steps.items e.propagator.trail.places.items
    → step.lit.var < length e.propagator.trail.places.items → get_or e.propagator.trail.places.items step.lit.var None
    ≡ None
    → step_weight e step < trail_weight e.propagator.trail.steps.items e.propagator.trail.places.items
next_weight e step trail within free =
    let steps = e.propagator.trail.steps.items in
    let places = e.propagator.trail.places.items in
    let opens : Step → Bool = λ s. opens_level s.reason in
    let room = trail_room steps places step.lit.var trail within free in
    let w = weight-push (length places) (level_marks steps) (opens step) (omega (arith, room, length-map steps opens)) in
    subst (λ l. weight (length places) l < trail_weight steps places) (sym (map_push opens steps step)) w

-- ---- a model

-- where no kept clause is conflicting and each unit is true, no added clause has all its literals false
pub none_false_added : (added clauses : List (List Lit)) (units : List Lit) (lists : WatchLists) (steps : List Step)
    (places : List (Option ℕ))
    → IsTrail steps places → lists.clauses ≡ clauses → NoConflict lists steps → AreTrueTo steps units (length units)
    → (Contains added [] → ⊥) × ((n : ℕ) → n < length added → IsCovered clauses units (get_or added n []))
    → NoneFalse added steps
none_false_added added clauses units lists steps places trail same quiet seen (none_empty, covered) n low all =
    not_covered (get_or added n []) (covered n low) all (λ e. none_empty (n, low, e))
  where
    not_covered : (clause : List Lit) → IsCovered clauses units clause → AllFalse steps (length steps) clause →
        (clause ≡ [] → ⊥) → ⊥
    not_covered clause (Kept p less same') false' full =
        quiet p (subst (λ (l : List (List Lit)). p < length l) (sym same) less)
        (λ lit c. false' lit ((same' lit).0 (subst (λ (l : List (List Lit)). Contains (get_or l p []) lit) same c)))
    not_covered clause (InUnits lit has same') false' full =
        let at : slice_get units has.0 ≡ Some lit = slice_get-get_or units has.0 lit has.1 ∙ ap Some has.2 in
        not_both steps places trail lit (seen has.0 lit has.1 at) (false' lit ((same' lit).0 (Contains-head lit [])))
    not_covered clause (Tautology lit has other) false' full =
        not_both steps places trail (opposite lit) (false' lit has)
        (false' (opposite lit) other)
    not_covered clause (Empty e) false' full = full e

-- where all assumptions were seen to be true
pub assumptions_seen : (added learnt : List (List Lit)) (assumed : List Lit) (steps : List Step)
    → AreTrueTo steps assumed (length assumed)
    → AssumptionsTrue (clause_lists added learnt assumed) steps (length steps)
assumptions_seen added learnt assumed steps seen =
    assumptions_true added learnt assumed steps
    (λ p low. seen p (get_or assumed p any_lit) low (slice_get-get_or assumed p any_lit low))

-- ---- growth

pub longer_same : (e m : Engine) → m.propagator.links.vars ≡ e.propagator.links.vars → m.propagator.links.clauses
    ≡ e.propagator.links.clauses
    → IsLonger e m
longer_same e m vars clauses = record { vars = vars; kept = ([], clauses ∙ sym (append-nil e.propagator.links.clauses)) }

pub longer_then : (a b c : Engine) → IsLonger a b → IsLonger b c → IsLonger a c
longer_then a b c x y = record {
  vars = y.vars ∙ x.vars;
  kept = (
    x.kept.0 ++ y.kept.0,
    y.kept.1 ∙ ap (λ (l : List (List Lit)). l ++ y.kept.0) x.kept.1 ∙ append_assoc a.propagator.links.clauses x.kept.0 y.kept.0,
  );
}

-- ---- an engine with another propagator

abbrev pub with_propagator : Engine → Propagator → Engine
with_propagator e p = record { propagator = p; units = e.units; learnt = e.learnt; phases = e.phases }

pub back_is : (e : Engine) (p : Propagator) (keep : ℕ) → IsTrail p.trail.steps.items p.trail.places.items
    × IsTrail p.waiting.steps.items p.waiting.places.items
    → (length p.trail.places.items ≡ length e.propagator.trail.places.items)
    × (length p.waiting.places.items ≡ length e.propagator.waiting.places.items)
    → (p.trail.steps.items ≡ take keep e.propagator.trail.steps.items) × (p.waiting.steps.items ≡ [])
    → (p.links ≡ e.propagator.links) × (p.references.items ≡ e.propagator.references.items) → IsBack e
    (with_propagator e p) keep
back_is e p keep (trail, queue) (vars, queue_vars) (steps, waiting) (links, references) = record {
  trail = trail;
  queue = queue;
  vars = vars;
  queue_vars = queue_vars;
  steps = steps;
  waiting = waiting;
  links = links;
  same = record {
    vars = ap (λ (l : WatchLists). l.vars) links;
    clauses = ap (λ (l : WatchLists). l.clauses) links;
    references = references;
    units = refl;
    reasons = refl;
    learnt = refl;
    derivations = refl;
  };
  phases = refl;
}

-- ---- an engine where nothing waits any more

abbrev pub with_waiting : Engine → Trail → Engine
with_waiting e waiting =
    with_propagator e
    (record { links = e.propagator.links; references = e.propagator.references; trail = e.propagator.trail; waiting = waiting })

pub emptied : (added : List (List Lit)) (e : Engine) (waiting : Trail) → IsEngine added e
    → IsTrail waiting.steps.items waiting.places.items
    → length waiting.places.items ≡ length e.propagator.waiting.places.items → waiting.steps.items ≡ []
    → IsEngine added (with_waiting e waiting)
emptied added e waiting s trail vars none = record {
  propagator = record {
    trail = s.propagator.trail;
    vars = s.propagator.vars;
    queue = trail;
    queue_vars = vars ∙ s.propagator.queue_vars;
    referred = s.propagator.referred;
    settled = s.propagator.settled;
    forced =
        subst (λ (l : List Step). AreForced e.propagator.links e.propagator.references.items e.propagator.trail.steps.items l) (sym none)
        (AreForced-none e.propagator.links e.propagator.references.items e.propagator.trail.steps.items);
  };
  settled = s.settled;
  keeps = s.keeps;
  phases = s.phases;
}

-- the literal that is forced, by the clause in another order, after the return
pub lesson_forces : (added : List (List Lit)) (assumed : List Lit) (e m : Engine) (learnt : LearntClause)
    (backjump : Backjump)
    → IsLesson added assumed e m learnt backjump learnt.lits.items
    → Forces m.propagator.trail.steps.items (length m.propagator.trail.steps.items) learnt.lits.items backjump.lit
lesson_forces added assumed e m learnt backjump l =
    let steps = e.propagator.trail.steps.items in
    let a : Asserts steps learnt.lits.items backjump.lit backjump.keep =
    lesson_turns (clause_lists added e.learnt.clauses.items []) steps learnt backjump l.turns l.learnt in
    let long : length m.propagator.trail.steps.items ≡ backjump.keep =
    ap length l.back.steps ∙ length-take-le backjump.keep steps (omega (arith, a.within)) in
    subst (λ n. Forces m.propagator.trail.steps.items n learnt.lits.items backjump.lit) (sym long)
    (subst (λ (s : List Step). Forces s backjump.keep learnt.lits.items backjump.lit) (sym l.back.steps)
    (Forces-take steps backjump.keep learnt.lits.items backjump.lit a.forces))

pub weight_positive : (steps : List Step) (places : List (Option ℕ)) → IsTrail steps places
    → 0 < trail_weight steps places
weight_positive steps places trail =
    weight-pos (length places) (level_marks steps)
    (omega (arith, counted_le steps places trail, length-map steps (λ (s : Step). opens_level s.reason)))

-- the literal of an engine in a search that follows, told by its fields
pub goes_on : (added : List (List Lit)) (assumed : List Lit) (e : Engine) (step : Step) → IsSearching added assumed e
    → NoConflict e.propagator.links e.propagator.trail.steps.items → CanFollow
    (clause_lists added e.learnt.clauses.items assumed) e step
    → TakesStep added assumed e step
goes_on added assumed e step search quiet next = record { search = search; quiet = quiet; next = next }

pub follow_weight : (added : List (List Lit)) (assumed : List Lit) (e : Engine) (step : Step)
    → IsSearching added assumed e
    → CanFollow (clause_lists added e.learnt.clauses.items assumed) e step
    → step_weight e step < trail_weight e.propagator.trail.steps.items e.propagator.trail.places.items
follow_weight added assumed e step search next =
    next_weight e step search.engine.propagator.trail (omega (arith, next.within, search.engine.propagator.vars)) next.free

-- a search at its start: nothing was made true
pub search_begun : (added : List (List Lit)) (assumed : List Lit) (e : Engine) → IsEngine added e → IsEngineAtRest e
    → AllWithin e.propagator.links.vars (map unit_clause assumed) → AreExact e.propagator.links
    → IsSearching added assumed e × NoConflict e.propagator.links e.propagator.trail.steps.items
search_begun added assumed e s rest within exact =
    let steps = e.propagator.trail.steps.items in
    let none : length steps ≡ 0 = ap length rest.0 in
    let quiet : NoConflict e.propagator.links steps =
    subst (λ (l : List Step). NoConflict e.propagator.links l) (sym rest.0) (NoConflict-start e.propagator.links exact) in (
      record {
        engine = s;
        justified = λ place low. absurd (omega (arith, low, none));
        assumed_within = within;
        before = NoConflict-take e.propagator.links steps (length steps - 1) (omega arith) quiet;
      },
      quiet,
    )
