-- The state of a propagation: after the push, at each clause of the walk, and at its end.
use Rattle.std.proofs.Common.{◌≡◌, ◌<◌, ◌≤◌, ◌+◌, ◌⊎◌, ℕ, suc, Bool, true, false, cond, List, [], ◌∷◌, ◌++◌, length, get_or, take, Option, Some, None}
use Rattle.std.proofs.Common.{sym, ap, ◌∙◌, subst, inl, inr, arith, length-append, append_assoc}
use Rattle.std.specs.List.{Contains, slice_get}
use Rattle.std.proofs.lemmas.List.{length_push, take_more}
use Rattle.std.proofs.lemmas.List.Elements.{Contains-append_left, Contains-append_right, Contains-push, Contains-push_cases, All-contains}
use Rattle.std.specs.Prelude.{nat_eq}
use Rattle.std.proofs.lemmas.Bool.{cases_lt}
use Rattle.std.proofs.lemmas.Option.{slice_get_within}
use Rattle.cnf.specs.declared.lit.Lit.{Lit}
use Rattle.cnf.specs.Clauses.{opposite}
use Rattle.clause_links.specs.WatchLists.{WatchLists, WatchesBoth, Watches, watchers, clause_lits, AreExact, Precedes, IsRewatched}
use Rattle.sat_core.specs.declared.clause_ref.ClauseRef.{ClauseRef}
use Rattle.sat_core.specs.declared.trail.Step.{Step}
use Rattle.sat_core.specs.declared.propagator.Examined.TheVariants.{Satisfied, Movable, Forcing}
use Rattle.sat_core.specs.Search.{step_at, MadeTrue, AllFalse, Forces, IsTrail}
use Rattle.sat_core.specs.Learning.{OthersFalse}
use Rattle.sat_core.specs.Watching.{AllSettled, NoConflict, IsForcedBy, AreForced, IsPropagator, Examines, IsWrong, IsVisiting}
use Rattle.sat_core.specs.Watching.{rest_from, left_from}
use Rattle.sat_core.proofs.Trails.{step_at-push, step_at-last}
use Rattle.sat_core.proofs.WatchLaws.{both_back, rest_of_parts, rest_from-passed, AllSettled-push, Forces-push, IsPassed, IsMoved}
use Rattle.sat_core.proofs.WatchLaws.{head_is, visiting_from_start, passed_satisfied, passed_forcing, settled_after_move, rest_is}

-- what waits is forced after a push, too
AreForced-push : (lists : WatchLists) (references : List ClauseRef) (steps waiting : List Step) (step : Step)
    → AreForced lists references steps waiting → AreForced lists references (steps ++ step ∷ []) waiting
AreForced-push lists references steps waiting step forced p low =
    let f = forced p low in
    record {
      clause = f.clause;
      within = f.within;
      reason = f.reason;
      forces = Forces-push steps step (clause_lits lists f.clause) (step_at waiting p).lit f.forces;
    }

-- the state with one step more, where the last place is not yet settled
pub propagator_pushed : (lists : WatchLists) (references : List ClauseRef) (steps grown : List Step)
    (places new : List (Option ℕ))
    (waiting : List Step) (queue_places : List (Option ℕ)) (step : Step)
    → IsPropagator lists references steps places waiting queue_places (length steps) → grown ≡ steps ++ step ∷ []
    → IsTrail grown new → length new ≡ length places → IsPropagator lists references grown new waiting queue_places
    (length steps)
propagator_pushed lists references steps grown places new waiting queue_places step s e trail same = record {
  trail = trail;
  vars = same ∙ s.vars;
  queue = s.queue;
  queue_vars = s.queue_vars;
  referred = s.referred;
  settled =
      subst (λ (l : List Step). AllSettled lists l (length steps)) (sym e)
      (AllSettled-push lists steps step (length steps) (omega arith) s.settled);
  forced =
      subst (λ (l : List Step). AreForced lists references l waiting) (sym e)
      (AreForced-push lists references steps waiting step s.forced);
}

-- the walk at its start
pub visiting_begun : (lists : WatchLists) (references : List ClauseRef) (steps grown : List Step)
    (places : List (Option ℕ))
    (waiting : List Step) (queue_places : List (Option ℕ)) (step : Step) (watch : Lit) (at : Option ℕ) → AreExact lists
    → IsPropagator lists references steps places waiting queue_places (length steps) → NoConflict lists steps
    → grown ≡ steps ++ step ∷ [] → (watch ≡ opposite step.lit) × (at ≡ slice_get (watchers lists watch) 0)
    → IsVisiting lists grown watch None at
visiting_begun lists references steps grown places waiting queue_places step watch at exact s quiet e is =
    subst (λ (l : List Step). IsVisiting lists l watch None at) (sym e)
    (visiting_from_start lists steps step places watch at exact s.trail s.settled quiet is)

-- the walk has the whole list before it
pub left_at_start : (lists : WatchLists) (steps : List Step) (watch : Lit) (at : Option ℕ) → AreExact lists
    → (v : IsVisiting lists steps watch None at) → left_from lists watch at ≤ length (watchers lists watch)
left_at_start lists steps watch at exact v =
    let rest = ap length (rest_is lists steps watch None at exact v) in
    let whole = ap length v.whole in
    omega (arith, rest, whole, length-append v.front v.rest)

-- the clause of the walk watches the literal, behind the one before
pub at_watches : (lists : WatchLists) (steps : List Step) (watch : Lit) (before : Option ℕ) (clause : ℕ)
    → AreExact lists
    → IsVisiting lists steps watch before (Some clause) → Watches lists clause watch
at_watches lists steps watch before clause exact v =
    let here = head_is v.rest clause v.next in
    let whole : watchers lists watch ≡ v.front ++ clause ∷ here.0 = v.whole ∙ ap (λ l. v.front ++ l) here.1 in
    (exact.members watch clause).0
    (subst (λ l. Contains l clause) (sym whole)
    (Contains-append_right v.front (clause ∷ here.0) clause (Contains-append_left (clause ∷ []) here.0 clause (Contains-push [] clause))))

pub at_precedes : (lists : WatchLists) (steps : List Step) (watch : Lit) (before : Option ℕ) (clause : ℕ)
    → IsVisiting lists steps watch before (Some clause) → Precedes (watchers lists watch) before clause
at_precedes lists steps watch before clause v =
    let here = head_is v.rest clause v.next in
    (v.front, here.0, v.whole ∙ ap (λ l. v.front ++ l) here.1, v.behind)

-- a clause that watches a literal is one of the clauses
pub watched_within : (lists : WatchLists) (clause : ℕ) (watch : Lit) → AreExact lists → Watches lists clause watch
    → clause < length lists.clauses
watched_within lists clause watch exact (other, inl e) =
    let w = slice_get_within lists.pairs clause (watch, other) e in omega (arith, w, exact.paired)
watched_within lists clause watch exact (other, inr e) =
    let w = slice_get_within lists.pairs clause (other, watch) e in omega (arith, w, exact.paired)

pub moved_from : (old new : WatchLists) (steps : List Step) (places : List (Option ℕ)) (clause : ℕ) (watch to : Lit)
    → AreExact old
    → Examines old steps places clause watch (Movable to) → IsRewatched old new clause watch to → new.clauses
    ≡ old.clauses
    → IsMoved old new steps clause watch to
moved_from old new steps places clause watch to exact (own, open', (other, pair, apart)) rewatched same = record {
  other = other;
  pair = pair;
  rewatched = rewatched.other other pair;
  apart = (apart, (exact.own clause watch other pair).0);
  own = own;
  open' = open';
  clauses = same;
  others = rewatched.others;
}

-- what does not change where a watch moves
pub propagator_moved : (old new : WatchLists) (references : List ClauseRef) (steps : List Step)
    (places : List (Option ℕ))
    (waiting : List Step) (queue_places : List (Option ℕ)) (n clause : ℕ) (watch to : Lit) → IsWrong steps watch
    → IsMoved old new steps clause watch to → new.vars ≡ old.vars → n + 1 ≤ length steps
    → IsPropagator old references steps places waiting queue_places n
    → IsPropagator new references steps places waiting queue_places n
propagator_moved old new references steps places waiting queue_places n clause watch to wrong moved vars le s = record {
  trail = s.trail;
  vars = s.vars ∙ sym vars;
  queue = s.queue;
  queue_vars = s.queue_vars ∙ sym vars;
  referred = s.referred ∙ ap length (sym moved.clauses);
  settled = settled_after_move old new steps clause watch to moved places n s.trail wrong le s.settled;
  forced = λ p low.
      let f = s.forced p low in
      record {
        clause = f.clause;
        within = subst (λ (l : List (List Lit)). f.clause < length l) (sym moved.clauses) f.within;
        reason = f.reason;
        forces =
            subst (λ (l : List (List Lit)). Forces steps (length steps) (get_or l f.clause []) (step_at waiting p).lit) (sym moved.clauses)
            f.forces;
      };
}

-- a literal more that waits
pub propagator_waits : (lists : WatchLists) (references : List ClauseRef) (steps : List Step) (places : List (Option ℕ))
    (waiting more : List Step) (queue_places new : List (Option ℕ)) (n clause : ℕ) (lit : Lit)
    → IsPropagator lists references steps places waiting queue_places n → clause < length lists.clauses
    → Forces steps (length steps) (clause_lits lists clause) lit
    → IsTrail more new × (length new ≡ length queue_places)
    → (more ≡ waiting) ⊎ ((reason : ClauseRef) × (slice_get references clause ≡ Some reason)
    × (more ≡ waiting ++ record { lit = lit; reason = Some reason } ∷ []))
    → IsPropagator lists references steps places more new n
propagator_waits lists references steps places waiting more queue_places new n clause lit s within forces (queue, same) waits = record {
  trail = s.trail;
  vars = s.vars;
  queue = queue;
  queue_vars = same ∙ s.queue_vars;
  referred = s.referred;
  settled = s.settled;
  forced = elim waits [
    | inl e ↦ subst (λ (l : List Step). AreForced lists references steps l) (sym e) s.forced
    | inr w ↦
        let step : Step = record { lit = lit; reason = Some w.0 } in
        subst (λ (l : List Step). AreForced lists references steps l) (sym w.2)
        (λ p low. elim (cases_lt p (length waiting)) [
          | inl less ↦ subst (λ (x : Step). IsForcedBy lists references steps x) (sym (step_at-push waiting step p less)) (s.forced p less)
          | inr past ↦
              let at : p ≡ length waiting = omega (arith, length_push waiting step) in
              subst (λ (x : Step). IsForcedBy lists references steps x)
              (sym (step_at-last waiting step) ∙ ap (λ q. step_at (waiting ++ step ∷ []) q) (sym at))
              (record { clause = clause; within = within; reason = sym w.1; forces = forces })
        ])
  ];
}

-- what a look at the clause says of the literal that it forces
pub forcing_forces : (lists : WatchLists) (steps : List Step) (places : List (Option ℕ)) (clause : ℕ) (watch lit : Lit)
    → AreExact lists
    → Examines lists steps places clause watch (Forcing lit) → Forces steps (length steps)
    (clause_lits lists clause) lit
forcing_forces lists steps places clause watch lit exact (both, others, free) = record {
  has = (exact.own clause lit watch (both_back lists clause watch lit both)).1;
  others = others;
}

-- literals of a clause that are gone through
pub others_next : (steps : List Step) (n : ℕ) (xs : List Lit) (i : ℕ) (d but : Lit) → i < length xs
    → (get_or xs i d ≡ but) ⊎ MadeTrue steps n (opposite (get_or xs i d)) → OthersFalse steps n (take i xs) but
    → OthersFalse steps n (take (i + 1) xs) but
others_next steps n xs i d but low here before lit c =
    elim (Contains-push_cases (take i xs) (get_or xs i d) lit (subst (λ (l : List Lit). Contains l lit) (take_more xs i d low) c)) [
      | inl old ↦ before lit old
      | inr e ↦
          subst (λ (l : Lit). (l ≡ but) ⊎ MadeTrue steps n (opposite l)) e here
    ]

pub own_within : (lists : WatchLists) (clause : ℕ) (a b : Lit) → AreExact lists → WatchesBoth lists clause a b
    → a.var < lists.vars
own_within lists clause a b exact both =
    let within = watched_within lists clause a exact (b, both) in
    All-contains (λ (lit : Lit). lit.var < lists.vars) (clause_lits lists clause) a (exact.known clause [] within) (exact.own clause a b both).1

-- a clause whose other literals are all false, and the one besides too
pub all_false_by : (steps : List Step) (clause : List Lit) (other : Lit) → MadeTrue steps (length steps)
    (opposite other)
    → OthersFalse steps (length steps) clause other → AllFalse steps (length steps) clause
all_false_by steps clause other is others lit c =
    elim (others lit c) [
      | inl same ↦ subst (λ (l : Lit). MadeTrue steps (length steps) (opposite l)) (sym same) is
      | inr t ↦ t
    ]

-- ---- one clause of the walk

-- where the walk goes on, fewer clauses are left
pub left_past : (lists new : WatchLists) (steps : List Step) (watch : Lit) (before after at : Option ℕ) (clause : ℕ)
    → AreExact lists
    → AreExact new → IsVisiting lists steps watch before (Some clause) → IsVisiting new steps watch after at
    → ((front back : List ℕ) → watchers lists watch ≡ front ++ clause ∷ back → at ≡ slice_get back 0)
    → ((front back : List ℕ) → watchers lists watch ≡ front ++ clause ∷ back
    → (watchers new watch ≡ front ++ clause ∷ back) ⊎ (watchers new watch ≡ front ++ back))
    → left_from new watch at + 1 ≡ left_from lists watch (Some clause)
left_past lists new steps watch before after at clause exact exact' v w behind stays =
    let here = head_is v.rest clause v.next in
    let back = here.0 in
    let whole : watchers lists watch ≡ v.front ++ clause ∷ back = v.whole ∙ ap (λ l. v.front ++ l) here.1 in
    let old : left_from lists watch (Some clause) ≡ suc (length back) =
    ap length (rest_is lists steps watch before (Some clause) exact v) ∙ ap length here.1 in
    let new_is : rest_from (watchers new watch) at ≡ back = elim (stays v.front back whole) [
      | inl e ↦
          rest_of_parts (v.front ++ clause ∷ []) back (watchers new watch) at (e ∙ sym (append_assoc v.front (clause ∷ []) back))
          (behind v.front back whole) (exact'.once watch)
      | inr e ↦ rest_of_parts v.front back (watchers new watch) at e (behind v.front back whole) (exact'.once watch)
    ] in
    omega (arith, old, ap length new_is)

-- what a look says of a clause that is passed
pub satisfied_passed : (lists : WatchLists) (steps : List Step) (places : List (Option ℕ)) (clause : ℕ) (watch : Lit)
    → AreExact lists
    → IsTrail steps places → IsWrong steps watch → Examines lists steps places clause watch Satisfied → (last : ℕ)
    → length steps ≡ last + 1 → IsPassed lists steps clause last
satisfied_passed lists steps places clause watch exact trail wrong (other, both, true') last long =
    passed_satisfied lists steps places clause watch other exact trail wrong both true' last long

pub forcing_passed : (lists : WatchLists) (steps : List Step) (places : List (Option ℕ)) (clause : ℕ) (watch lit : Lit)
    → AreExact lists
    → IsTrail steps places → IsWrong steps watch → Examines lists steps places clause watch (Forcing lit) → (last : ℕ)
    → length steps ≡ last + 1 → IsPassed lists steps clause last
forcing_passed lists steps places clause watch lit exact trail wrong (both, others, free) last long =
    passed_forcing lists steps places clause watch lit exact trail wrong both (others, free) last long

-- a walk that stands at a clause has it still to look at
some_left : (front back : List ℕ) (x : ℕ) → 1 ≤ length (rest_from (front ++ x ∷ back) (Some x))
some_left [] back x = subst (λ l. 1 ≤ length l) (sym (rest_from-passed [] back x (λ c. absurd (omega (arith, c.1))))) (omega arith)
some_left (y ∷ ys) back x = some_by (nat_eq y x) y (ys ++ x ∷ back) (rest_from (ys ++ x ∷ back) (Some x)) (some_left ys back x)
  where
    some_by : (b : Bool) (z : ℕ) (whole later : List ℕ) → 1 ≤ length later → 1 ≤ length (cond b (z ∷ whole) later)
    some_by true z whole later h = omega arith
    some_by false z whole later h = h

pub left_some : (lists : WatchLists) (steps : List Step) (watch : Lit) (before at : Option ℕ) (clause : ℕ) → at
    ≡ Some clause
    → IsVisiting lists steps watch before at → 1 ≤ left_from lists watch at
left_some lists steps watch before at clause e v =
    let here = head_is v.rest clause (sym e ∙ v.next) in
    let whole : watchers lists watch ≡ v.front ++ clause ∷ here.0 = v.whole ∙ ap (λ l. v.front ++ l) here.1 in
    subst (λ (o : Option ℕ). 1 ≤ length (rest_from (watchers lists watch) o)) (sym e)
    (subst (λ l. 1 ≤ length (rest_from l (Some clause))) (sym whole) (some_left v.front here.0 clause))
