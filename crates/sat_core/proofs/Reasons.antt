-- The reasons of a trail through pushes and cuts, and where learnt clauses are added.
use Rattle.std.proofs.Common.{◌≡◌, ◌<◌, ◌≤◌, ℕ, Bool, true, false, List, [], ◌∷◌, ◌++◌, length, take, get_or, Option, Some, None, refl, sym, ap, ◌∙◌}
use Rattle.std.proofs.Common.{subst, inl, inr, arith}
use Rattle.std.proofs.lemmas.List.{get_or_append_left, length_push, length-take, length-map, map_push, take-map, get_or-map}
use Rattle.std.proofs.lemmas.Bool.{cases_lt}
use Rattle.cnf.specs.declared.lit.Lit.{Lit}
use Rattle.cnf.specs.Clauses.{opposite}
use Rattle.sat_core.specs.declared.clause_ref.ClauseRef.{ClauseRef}
use Rattle.sat_core.specs.declared.clause_ref.ClauseRef.TheVariants.{Added, Learnt, Assumed}
use Rattle.sat_core.specs.declared.trail.Step.{Step}
use Rattle.sat_core.specs.Search.{ClauseLists, clause_lists, HasClause, clause_of, opens_level, Forces, Justifies, Justified, IsTrail, lit_at, step_at}
use Rattle.sat_core.specs.Search.{no_step, level_marks, trail_weight, weight}
use Rattle.sat_core.proofs.Trails.{step_at-push, step_at-last, step_at-take, MadeTrue-push, MadeTrue-take, counted_le}
use Rattle.sat_core.proofs.Measure.{weight-return}

Justifies-push : (k : ClauseLists) (steps : List Step) (step : Step) (place : ℕ) (lit : Lit) (reason : Option ClauseRef)
    → place ≤ length steps
    → Justifies k steps place lit reason → Justifies k (steps ++ step ∷ []) place lit reason
Justifies-push k steps step place lit None h j = λ n w a e. MadeTrue-push steps step place a h (j n w a e)
Justifies-push k steps step place lit (Some reason) h j = (
  j.0,
  record {
    has = j.1.has;
    others = λ other c. elim (j.1.others other c) [ inl s ↦ inl s | inr t ↦ inr (MadeTrue-push steps step place (opposite other) h t) ];
  },
)

Justifies-take : (k : ClauseLists) (steps : List Step) (keep place : ℕ) (lit : Lit) (reason : Option ClauseRef)
    → place ≤ keep → Justifies k steps place lit reason → Justifies k (take keep steps) place lit reason
Justifies-take k steps keep place lit None h j = λ n w a e. MadeTrue-take steps keep place a h (j n w a e)
Justifies-take k steps keep place lit (Some reason) h j = (
  j.0,
  record {
    has = j.1.has;
    others = λ other c. elim (j.1.others other c) [ inl s ↦ inl s | inr t ↦ inr (MadeTrue-take steps keep place (opposite other) h t) ];
  },
)

pub Justified-push : (k : ClauseLists) (steps : List Step) (step : Step) → Justified k steps
    → Justifies k steps (length steps) step.lit step.reason → Justified k (steps ++ step ∷ [])
Justified-push k steps step old here = λ place h.
    let new = steps ++ step ∷ [] in
    elim (cases_lt place (length steps)) [
      | inl before ↦ subst (λ (s : Step). Justifies k new place s.lit s.reason) (sym (step_at-push steps step place before))
          (Justifies-push k steps step place (lit_at steps place) (step_at steps place).reason (omega arith) (old place before))
      | inr past ↦
          let at : length steps ≡ place = omega (arith, length_push steps step) in
          subst (λ p. Justifies k new p (lit_at new p) (step_at new p).reason) at
          (subst (λ (s : Step). Justifies k new (length steps) s.lit s.reason) (sym (step_at-last steps step))
          (Justifies-push k steps step (length steps) step.lit step.reason (omega arith) here))
    ]

pub Justified-take : (k : ClauseLists) (steps : List Step) (keep : ℕ) → Justified k steps
    → Justified k (take keep steps)
Justified-take k steps keep old = λ place h.
    let short = length-take keep steps in
    let a : place < keep = omega arith in
    let b : place < length steps = omega arith in
    subst (λ (s : Step). Justifies k (take keep steps) place s.lit s.reason) (sym (step_at-take steps keep place a))
    (Justifies-take k steps keep place (lit_at steps place) (step_at steps place).reason (omega arith) (old place b))

-- a clause more among those learnt
pub named_grown : (added learnt : List (List Lit)) (assumed clause : List Lit) (reason : ClauseRef)
    → HasClause (clause_lists added learnt assumed) reason
    → HasClause (clause_lists added (learnt ++ clause ∷ []) assumed) reason ×
    (clause_of (clause_lists added (learnt ++ clause ∷ []) assumed) reason ≡ clause_of (clause_lists added learnt assumed) reason)
named_grown added learnt assumed clause (Added p) n = (n, refl)
named_grown added learnt assumed clause (Learnt p) n = (omega (arith, n, length_push learnt clause), get_or_append_left learnt (clause ∷ []) [] p n)
named_grown added learnt assumed clause (Assumed p) n = (n, refl)

Justifies-grown : (added learnt : List (List Lit)) (assumed clause : List Lit) (steps : List Step) (place : ℕ)
    (lit : Lit) (reason : Option ClauseRef)
    → Justifies (clause_lists added learnt assumed) steps place lit reason
    → Justifies (clause_lists added (learnt ++ clause ∷ []) assumed) steps place lit reason
Justifies-grown added learnt assumed clause steps place lit None j = j
Justifies-grown added learnt assumed clause steps place lit (Some reason) j =
    let g = named_grown added learnt assumed clause reason j.0 in
    (g.0, subst (λ (c : List Lit). Forces steps place c lit) (sym g.1) j.1)

pub Justified-grown : (added learnt : List (List Lit)) (assumed clause : List Lit) (steps : List Step)
    → Justified (clause_lists added learnt assumed) steps
    → Justified (clause_lists added (learnt ++ clause ∷ []) assumed) steps
Justified-grown added learnt assumed clause steps old = λ place h. Justifies-grown added learnt assumed clause steps place (lit_at steps place)
    (step_at steps place).reason (old place h)

-- and with a return to a step that opened a level
pub weight_returned : (steps : List Step) (places new : List (Option ℕ)) (keep : ℕ) (step : Step)
    → length new ≡ length places → IsTrail steps places → keep < length steps
    → opens_level (step_at steps keep).reason ≡ true → opens_level step.reason ≡ false
    → trail_weight (take keep steps ++ step ∷ []) new < trail_weight steps places
weight_returned steps places new keep step same trail h opened forced =
    let opens : Step → Bool = λ s. opens_level s.reason in
    let le = counted_le steps places trail in
    let n = length-map steps opens in
    let at : get_or (level_marks steps) keep false ≡ true = get_or-map opens steps keep no_step false h ∙ opened in
    let w = weight-return (length places) (level_marks steps) keep (omega arith) (omega arith) at in
    let e : level_marks (take keep steps ++ step ∷ []) ≡ take keep (level_marks steps) ++ false ∷ [] =
    map_push opens (take keep steps) step
    ∙ ap (λ l. l ++ opens step ∷ []) (sym (take-map opens keep steps))
    ∙ ap (λ (b : Bool). take keep (level_marks steps) ++ b ∷ []) forced in
    subst (λ m. weight m (level_marks (take keep steps ++ step ∷ [])) < trail_weight steps places) (sym same)
    (subst (λ l. weight (length places) l < trail_weight steps places) (sym e) w)
