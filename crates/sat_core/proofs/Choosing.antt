-- What comes next in a search: a literal that waits, a unit, an assumption, or a decision.
use Rattle.std.proofs.Common.{◌≡◌, ◌<◌, ◌≤◌, ℕ, List, [], length, get_or, Some, None}
use Rattle.std.proofs.Common.{refl, sym, ap, ◌∙◌, subst, arith}
use Rattle.std.specs.List.{Contains, slice_get, All}
use Rattle.std.proofs.lemmas.List.{get_or_default}
use Rattle.std.proofs.lemmas.Option.{slice_get_within, slice_get-get_or}
use Rattle.cnf.specs.declared.lit.Lit.{Lit}
use Rattle.sat_core.specs.declared.clause_ref.ClauseRef.{ClauseRef}
use Rattle.sat_core.specs.declared.clause_ref.ClauseRef.TheVariants.{Added, Learnt, Assumed}
use Rattle.sat_core.specs.declared.trail.Step.{Step}
use Rattle.sat_core.specs.declared.decide.Pending.TheVariants.{Wrong, Free}
use Rattle.sat_core.specs.declared.engine.Engine.{Engine}
use Rattle.sat_core.specs.Search.{clause_lists, unit_clause, AllWithin}
use Rattle.sat_core.specs.Search.{lit_at, step_at}
use Rattle.sat_core.specs.Learning.{IsFalseClause}
use Rattle.sat_core.specs.Decisions.{IsPending, AreTrueTo, NoneFalse}
use Rattle.sat_core.specs.Watching.{NoConflict, IsForcedBy}
use Rattle.sat_core.specs.Engines.{RefersTo, IsSearching, CanFollow}
use Rattle.sat_core.proofs.Members.{any_lit}
use Rattle.sat_core.proofs.Chains.{Contains-head}
use Rattle.sat_core.proofs.Trails.{var_within}
use Rattle.sat_core.proofs.Searching.{assumed_var, assumed_justifies}
use Rattle.sat_core.proofs.Keeping.{some_is}
use Rattle.sat_core.proofs.SearchLaws.{unit_false, unit_forces, waiting_forces, assumptions_seen, none_false_added}

-- a literal of a clause that may be named is of the variables
stands_within : (n : ℕ) (added learnt : List (List Lit)) (reason : ClauseRef) (lit : Lit) → AllWithin n added
    → AllWithin n learnt
    → RefersTo (clause_lists added learnt []) reason (unit_clause lit) → lit.var < n
stands_within n added learnt (Added p) lit a l s = a p s.named lit ((s.same lit).0 (Contains-head lit []))
stands_within n added learnt (Learnt p) lit a l s = l p s.named lit ((s.same lit).0 (Contains-head lit []))
stands_within n added learnt (Assumed p) lit a l s = absurd (let h = s.named in omega (arith, h))

read_at : {A : Type 0} (xs : List A) (n : ℕ) (x : A) → n < length xs → x ≡ get_or xs n x → slice_get xs n ≡ Some x
read_at xs n x low e = slice_get-get_or xs n x low ∙ ap Some (sym e)

module _ (added : List (List Lit)) (assumed : List Lit) (e : Engine) (s : IsSearching added assumed e) where
  unit_at : (n : ℕ) (lit : Lit) (reason : ClauseRef) → slice_get e.units.lits.items n ≡ Some lit
      → reason ≡ get_or e.units.reasons.items n reason → slice_get e.units.reasons.items n ≡ Some reason
  unit_at n lit reason at read =
      let low = slice_get_within e.units.lits.items n lit at in
      read_at e.units.reasons.items n reason (omega (arith, low, s.engine.keeps.units.same)) read

  pub unit_wrong : (n : ℕ) (reason : ClauseRef)
      → IsPending e.propagator.trail.steps.items e.propagator.trail.places.items e.units.lits.items (Wrong n)
      → reason ≡ get_or e.units.reasons.items n reason
      → IsFalseClause (clause_lists added e.learnt.clauses.items assumed) e.propagator.trail.steps.items reason
  unit_wrong n reason (lit, at, f) read =
      unit_false added e.learnt.clauses.items assumed e.units.lits.items e.units.reasons.items e.propagator.trail.steps.items n lit reason
      s.engine.keeps.units (at, unit_at n lit reason at read) f

  pub unit_next : (n : ℕ) (own : Lit) (reason : ClauseRef)
      → IsPending e.propagator.trail.steps.items e.propagator.trail.places.items e.units.lits.items (Free n)
      → own ≡ get_or e.units.lits.items n own → reason ≡ get_or e.units.reasons.items n reason
      → CanFollow (clause_lists added e.learnt.clauses.items assumed) e (record { lit = own; reason = Some reason })
  unit_next n own reason (lit, at, free) is read =
      let low = slice_get_within e.units.lits.items n lit at in
      let same : own ≡ lit = some_is own lit (sym (read_at e.units.lits.items n own low is) ∙ at) in
      let at' = unit_at n lit reason at read in
      subst (λ (l : Lit). CanFollow (clause_lists added e.learnt.clauses.items assumed) e (record { lit = l; reason = Some reason })) (sym same)
      (record {
        within = stands_within e.propagator.links.vars added e.learnt.clauses.items reason lit s.engine.keeps.added_within
            s.engine.keeps.learnt_within (s.engine.keeps.units.each n lit reason at at');
        free = free;
        justifies =
            unit_forces added e.learnt.clauses.items assumed e.units.lits.items e.units.reasons.items e.propagator.trail.steps.items n lit reason
            s.engine.keeps.units (at, at');
      })

  -- the units are of the variables
  pub units_within : All (λ (lit : Lit). lit.var < length e.propagator.trail.places.items) e.units.lits.items
  units_within = λ n d low.
      let lit = get_or e.units.lits.items n d in
      let reason = get_or e.units.reasons.items n (Added 0) in
      let at : slice_get e.units.lits.items n ≡ Some lit = slice_get-get_or e.units.lits.items n d low in
      let at' : slice_get e.units.reasons.items n ≡ Some reason =
      slice_get-get_or e.units.reasons.items n (Added 0) (omega (arith, low, s.engine.keeps.units.same)) in
      let w = stands_within e.propagator.links.vars added e.learnt.clauses.items reason lit s.engine.keeps.added_within
      s.engine.keeps.learnt_within (s.engine.keeps.units.each n lit reason at at') in
      omega (arith, w, s.engine.propagator.vars)

  pub assumed_within_places : All (λ (lit : Lit). lit.var < length e.propagator.trail.places.items) assumed
  assumed_within_places = λ n d low.
      let w = assumed_var e.propagator.links.vars assumed n s.assumed_within low in
      let same : get_or assumed n any_lit ≡ get_or assumed n d = get_or_default assumed n any_lit d low in
      subst (λ (l : Lit). l.var < length e.propagator.trail.places.items) same (omega (arith, w, s.engine.propagator.vars))

  pub assumption_next : (n : ℕ) → IsPending e.propagator.trail.steps.items e.propagator.trail.places.items assumed
      (Free n)
      → CanFollow (clause_lists added e.learnt.clauses.items assumed) e
      (record { lit = get_or assumed n any_lit; reason = Some (Assumed n) })
  assumption_next n (lit, at, free) =
      let low = slice_get_within assumed n lit at in
      let is : get_or assumed n any_lit ≡ lit = some_is _ _ (sym (slice_get-get_or assumed n any_lit low) ∙ at) in
      record {
        within = assumed_var e.propagator.links.vars assumed n s.assumed_within low;
        free = ap (λ (l : Lit). get_or e.propagator.trail.places.items l.var None) is ∙ free;
        justifies = assumed_justifies added e.learnt.clauses.items assumed e.propagator.trail.steps.items n low;
      }

  -- a decision comes where each assumption is true
  pub decision_next : (lit : Lit) → AreTrueTo e.propagator.trail.steps.items assumed (length assumed)
      → (lit.var < length e.propagator.trail.places.items) ×
      (get_or e.propagator.trail.places.items lit.var None ≡ None)
      → CanFollow (clause_lists added e.learnt.clauses.items assumed) e (record { lit = lit; reason = None })
  decision_next lit seen (low, free) = record {
    within = omega (arith, low, s.engine.propagator.vars);
    free = free;
    justifies = assumptions_seen added e.learnt.clauses.items assumed e.propagator.trail.steps.items seen;
  }

  -- a literal that waits
  pub waiting_next : (step : Step) (p : ℕ) → p < length e.propagator.waiting.steps.items → step
      ≡ step_at e.propagator.waiting.steps.items p
      → get_or e.propagator.trail.places.items step.lit.var None ≡ None
      → CanFollow (clause_lists added e.learnt.clauses.items assumed) e step
  waiting_next step p low is free =
      let state = s.engine.propagator in
      let w : (lit_at e.propagator.waiting.steps.items p).var < length e.propagator.waiting.places.items =
      var_within e.propagator.waiting.steps.items e.propagator.waiting.places.items state.queue p low in
      let same : step.lit.var ≡ (lit_at e.propagator.waiting.steps.items p).var = ap (λ (t : Step). t.lit.var) is in
      record {
        within = omega (arith, w, same, state.queue_vars);
        free = free;
        justifies =
            waiting_forces added e.learnt.clauses.items assumed e.propagator.links e.propagator.references.items e.propagator.trail.steps.items step
            s.engine.keeps.kept state.referred
            (subst (λ (t : Step). IsForcedBy e.propagator.links e.propagator.references.items e.propagator.trail.steps.items t) (sym is)
            (state.forced p low));
      }

-- what was seen further on
pub seen_less : (steps : List Step) (lits : List Lit) (n m : ℕ) → n ≤ m → AreTrueTo steps lits m
    → AreTrueTo steps lits n
seen_less steps lits n m le seen i lit low at = seen i lit (omega (arith, low, le)) at

pub seen_none : (steps : List Step) (lits : List Lit) (n : ℕ) → n ≡ 0 → AreTrueTo steps lits n
seen_none steps lits n none i lit low at = absurd (omega (arith, low, none))

-- a search is done: no added clause has all its literals false
pub done_none_false : (added : List (List Lit)) (assumed : List Lit) (e : Engine) → IsSearching added assumed e
    → NoConflict e.propagator.links e.propagator.trail.steps.items → (Contains added [] → ⊥)
    → AreTrueTo e.propagator.trail.steps.items e.units.lits.items (length e.units.lits.items)
    → NoneFalse added e.propagator.trail.steps.items
done_none_false added assumed e s quiet full seen =
    none_false_added added e.propagator.links.clauses e.units.lits.items e.propagator.links e.propagator.trail.steps.items
    e.propagator.trail.places.items s.engine.propagator.trail refl quiet seen (full, s.engine.keeps.covered)
