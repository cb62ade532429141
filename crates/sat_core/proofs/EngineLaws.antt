-- The state of a propagation where the trail is taken back, where a variable comes, and where a clause comes.
use Rattle.std.proofs.Common.{◌≡◌, ◌<◌, ◌≤◌, ◌+◌, ◌⊎◌, ℕ, suc, false, List, [], ◌∷◌, ◌++◌, length, take, get_or, Option, Some, None}
use Rattle.std.proofs.Common.{refl, sym, ap, ◌∙◌, subst, inl, inr, arith}
use Rattle.std.specs.List.{Contains, slice_get}
use Rattle.std.proofs.lemmas.List.{length_push, get_or_append_left, get_or_push, get_or_past, length-take-le}
use Rattle.std.proofs.lemmas.List.Elements.{Contains-get_or}
use Rattle.std.proofs.lemmas.Option.{slice_get_within, slice_get-get_or}
use Rattle.std.proofs.lemmas.Bool.{cases_lt, cases_eq}
use Rattle.cnf.specs.declared.lit.Lit.{Lit}
use Rattle.cnf.specs.Clauses.{opposite}
use Rattle.clause_links.specs.WatchLists.{WatchLists, WatchesBoth, clause_lits, AreExact, IsWatchedFirst}
use Rattle.sat_core.specs.declared.clause_ref.ClauseRef.{ClauseRef}
use Rattle.sat_core.specs.declared.trail.Step.{Step}
use Rattle.sat_core.specs.Search.{lit_at, step_at, MadeTrue, AllFalse, Forces, IsTrail, unassigned_count}
use Rattle.sat_core.specs.Learning.{OthersFalse, IsWatchOrder}
use Rattle.sat_core.specs.Watching.{AllSettled, NoConflict, AreForced, IsPropagator, CanWatch}
use Rattle.sat_core.proofs.Trails.{step_at-take, MadeTrue-take, MadeTrue-later, one_place, free_from_none, free_not_true}
use Rattle.sat_core.proofs.Keeping.{some_is, get-push_old}
use Rattle.sat_core.proofs.WatchLaws.{pair_of_clause, both_cases}

-- ---- going back

-- what was settled stays so where the trail is cut
pub AllSettled-take : (lists : WatchLists) (steps : List Step) (n keep : ℕ) → keep ≤ n → AllSettled lists steps n
    → AllSettled lists (take keep steps) keep
AllSettled-take lists steps n keep le settled clause place low watch other both at =
    let was : lit_at steps place ≡ opposite watch = ap (λ (s : Step). s.lit) (sym (step_at-take steps keep place low)) ∙ at in
    elim (settled clause place (omega arith) watch other both was) [
      | inl t ↦ inl (MadeTrue-take steps keep (place + 1) other (omega arith) t)
      | inr others ↦ inr (λ lit c. elim (others lit c) [
        | inl same ↦ inl same
        | inr t ↦ inr (MadeTrue-take steps keep (place + 1) (opposite lit) (omega arith) t)
      ])
    ]

-- a literal that a cut trail made true, was made true before
pub MadeTrue-from_take : (steps : List Step) (keep n : ℕ) (lit : Lit) → n ≤ keep → MadeTrue (take keep steps) n lit
    → MadeTrue steps n lit
MadeTrue-from_take steps keep n lit le t =
    (t.0, t.1, ap (λ (s : Step). s.lit) (sym (step_at-take steps keep t.0 (omega (arith, t.1)))) ∙ t.2)

-- no clause is conflicting in a part of a trail where none is
pub NoConflict-take : (lists : WatchLists) (steps : List Step) (keep : ℕ) → keep ≤ length steps → NoConflict lists steps
    → NoConflict lists (take keep steps)
NoConflict-take lists steps keep le quiet clause within all =
    let short : length (take keep steps) ≡ keep = length-take-le keep steps le in
    quiet clause within (λ lit c.
    let t : MadeTrue (take keep steps) keep (opposite lit) = subst (λ n. MadeTrue (take keep steps) n (opposite lit)) short (all lit c) in
    MadeTrue-later steps keep (length steps) (opposite lit) le (MadeTrue-from_take steps keep keep (opposite lit) (omega arith) t))

-- where nothing is true, no clause is conflicting
pub NoConflict-start : (lists : WatchLists) → AreExact lists → NoConflict lists []
NoConflict-start lists exact clause within all =
    let pair = pair_of_clause lists clause exact within in
    let t = all pair.0 (exact.own clause pair.0 pair.1 pair.2).1 in
    absurd (omega (arith, t.1))

-- nothing waits
pub AreForced-none : (lists : WatchLists) (references : List ClauseRef) (steps : List Step)
    → AreForced lists references steps []
AreForced-none lists references steps p low = absurd (omega arith)

-- the state where the trail is cut and nothing waits any more
pub propagator_back : (lists : WatchLists) (references : List ClauseRef) (steps back : List Step)
    (places new : List (Option ℕ))
    (waiting none : List Step) (queue_places cleared : List (Option ℕ)) (n keep : ℕ) → keep ≤ n
    → IsPropagator lists references steps places waiting queue_places n
    → (back ≡ take keep steps) × IsTrail back new × (length new ≡ length places)
    → (none ≡ take 0 waiting) × IsTrail none cleared × (length cleared ≡ length queue_places)
    → IsPropagator lists references back new none cleared keep
propagator_back lists references steps back places new waiting none queue_places cleared n keep le s (e, trail, same) (f, queue, same') =
    let no : none ≡ [] = f ∙ refl in
    record {
      trail = trail;
      vars = same ∙ s.vars;
      queue = queue;
      queue_vars = same' ∙ s.queue_vars;
      referred = s.referred;
      settled = subst (λ (l : List Step). AllSettled lists l keep) (sym e) (AllSettled-take lists steps n keep le s.settled);
      forced = subst (λ (l : List Step). AreForced lists references back l) (sym no) (AreForced-none lists references back);
    }

-- ---- one variable more

unassigned-push : (places : List (Option ℕ)) → unassigned_count (places ++ None ∷ []) ≡ suc (unassigned_count places)
unassigned-push [] = refl
unassigned-push (None ∷ places) = ap suc (unassigned-push places)
unassigned-push (Some p ∷ places) = unassigned-push places

pub IsTrail-wider : (steps : List Step) (places : List (Option ℕ)) → IsTrail steps places → IsTrail steps
    (places ++ None ∷ [])
IsTrail-wider steps places trail = record {
  stands = λ var place e. elim (cases_lt var (length places)) [
    | inl less ↦ trail.stands var place (sym (get_or_append_left places (None ∷ []) None var less) ∙ e)
    | inr more ↦ elim (cases_eq var (length places)) [
      | inl at ↦ let none : get_or (places ++ None ∷ []) var None ≡ None = get_or_push places None None var (sym at) in absurd (cc)
      | inr past ↦
          let long : length (places ++ None ∷ []) ≡ length places + 1 = length_push places None in
          let none : get_or (places ++ None ∷ []) var None ≡ None = get_or_past (places ++ None ∷ []) var None (omega arith) in
          absurd (cc)
    ]
  ];
  placed = λ place low.
      let old = trail.placed place low in
      elim (cases_lt (lit_at steps place).var (length places)) [
        | inl less ↦ get_or_append_left places (None ∷ []) None (lit_at steps place).var less ∙ old
        | inr more ↦ let none : get_or places (lit_at steps place).var None ≡ None = get_or_past places (lit_at steps place).var None more in absurd (cc)
      ];
  counted = omega (arith, trail.counted, unassigned-push places, length_push places None);
}

pub trail_wider : (steps new : List Step) (places wider : List (Option ℕ)) → new ≡ steps → wider ≡ places ++ None ∷ []
    → IsTrail steps places
    → IsTrail new wider
trail_wider steps new places wider e f trail =
    subst (λ (l : List Step). IsTrail l wider) (sym e) (subst (λ (l : List (Option ℕ)). IsTrail steps l) (sym f) (IsTrail-wider steps places trail))

-- ---- one clause more, which forces its first literal

-- a clause that was there before watches what it did
older_pair : (old new : WatchLists) (clause : ℕ) (a b c d : Lit) → IsWatchedFirst old new (length old.clauses) a b
    → length old.pairs ≡ length old.clauses → clause < length old.clauses → WatchesBoth new clause c d
    → WatchesBoth old clause c d
older_pair old new clause a b c d first paired low both =
    let read : slice_get new.pairs clause ≡ slice_get old.pairs clause =
    ap (λ (l : List (Lit × Lit)). slice_get l clause) first.pairs
    ∙ slice_get-get_or (old.pairs ++ (a, b) ∷ []) clause (a, b) (omega (arith, length_push old.pairs (a, b), paired))
    ∙ ap Some (get_or_append_left old.pairs ((a, b) ∷ []) (a, b) clause (omega (arith, paired)))
    ∙ sym (slice_get-get_or old.pairs clause (a, b) (omega (arith, paired))) in
    elim both [ inl e ↦ inl (sym read ∙ e) | inr e ↦ inr (sym read ∙ e) ]

-- the new clause watches its first two
newest_pair : (old new : WatchLists) (a b c d : Lit) → IsWatchedFirst old new (length old.clauses) a b
    → length old.pairs ≡ length old.clauses → WatchesBoth new (length old.clauses) c d → ((c ≡ a) × (d ≡ b)) ⊎
    ((c ≡ b) × (d ≡ a))
newest_pair old new a b c d first paired both =
    let read : slice_get new.pairs (length old.clauses) ≡ Some (a, b) =
    ap (λ (l : List (Lit × Lit)). slice_get l (length old.clauses)) first.pairs
    ∙ slice_get-get_or (old.pairs ++ (a, b) ∷ []) (length old.clauses) (a, b) (omega (arith, length_push old.pairs (a, b), paired))
    ∙ ap Some (get_or_push old.pairs (a, b) (a, b) (length old.clauses) paired) in
    both_cases new (length old.clauses) c d a b both (inl read)

-- what was settled stays so, and the new clause is settled, since nothing made its first literal false and all its others are
-- false where the second is
pub AllSettled-clause : (old new : WatchLists) (steps : List Step) (clause : List Lit) (a b : Lit)
    → IsWatchedFirst old new (length old.clauses) a b × (new.clauses ≡ old.clauses ++ clause ∷ [])
    → length old.pairs ≡ length old.clauses → AllSettled old steps (length steps)
    → (MadeTrue steps (length steps) (opposite a) → ⊥)
    → ((p : ℕ) → p < length steps → lit_at steps p ≡ opposite b → OthersFalse steps (p + 1) clause a)
    → length new.pairs ≡ length new.clauses → AllSettled new steps (length steps)
AllSettled-clause old new steps clause a b (first, grown) paired settled free others paired' c place low watch other both at =
    let lits_old : c < length old.clauses → clause_lits new c ≡ clause_lits old c =
    λ h. ap (λ (l : List (List Lit)). get_or l c []) grown ∙ get_or_append_left old.clauses (clause ∷ []) [] c h in
    let within : c < length new.clauses = watched_pair new.pairs c watch other both (length new.clauses) paired' in
    elim (cases_lt c (length old.clauses)) [
      | inl less ↦ elim (settled c place low watch other (older_pair old new c a b watch other first paired less both) at) [
        | inl t ↦ inl t
        | inr f ↦ inr (subst (λ (l : List Lit). OthersFalse steps (place + 1) l other) (sym (lits_old less)) f)
      ]
      | inr more ↦
          let is : c ≡ length old.clauses = omega (arith, within, ap length grown, length_push old.clauses clause) in
          let lits : clause_lits new c ≡ clause =
          ap (λ (l : List (List Lit)). get_or l c []) grown ∙ get_or_push old.clauses clause [] c (sym is) in
          elim (newest_pair old new a b watch other first paired (subst (λ n. WatchesBoth new n watch other) is both)) [
            | inl s ↦ absurd (free (place, low, at ∙ ap opposite s.0))
            | inr s ↦
                inr (subst (λ (l : List Lit). OthersFalse steps (place + 1) l other) (sym lits)
                (subst (λ (l : Lit). OthersFalse steps (place + 1) clause l) (sym s.1) (others place low (at ∙ ap opposite s.0))))
          ]
    ]
  where
    watched_pair : (pairs : List (Lit × Lit)) (n : ℕ) (x y : Lit) → (slice_get pairs n ≡ Some (x, y)) ⊎
        (slice_get pairs n ≡ Some (y, x))
        → (m : ℕ) → length pairs ≡ m → n < m
    watched_pair pairs n x y (inl e) m len = let w = slice_get_within pairs n (x, y) e in omega (arith, w)
    watched_pair pairs n x y (inr e) m len = let w = slice_get_within pairs n (y, x) e in omega (arith, w)

-- no clause is conflicting where one comes whose literal isn't false
pub NoConflict-clause : (old new : WatchLists) (steps : List Step) (clause : List Lit) (a : Lit)
    → new.clauses ≡ old.clauses ++ clause ∷ [] → Contains clause a → (MadeTrue steps (length steps) (opposite a) → ⊥)
    → NoConflict old steps → NoConflict new steps
NoConflict-clause old new steps clause a grown has free quiet c within all =
    elim (cases_lt c (length old.clauses)) [
      | inl less ↦
          let lits : clause_lits new c ≡ clause_lits old c =
          ap (λ (l : List (List Lit)). get_or l c []) grown ∙ get_or_append_left old.clauses (clause ∷ []) [] c less in
          quiet c less (subst (λ (l : List Lit). AllFalse steps (length steps) l) lits all)
      | inr more ↦
          let is : c ≡ length old.clauses = omega (arith, within, ap length grown, length_push old.clauses clause) in
          let lits : clause_lits new c ≡ clause =
          ap (λ (l : List (List Lit)). get_or l c []) grown ∙ get_or_push old.clauses clause [] c (sym is) in
          free (all a (subst (λ (l : List Lit). Contains l a) (sym lits) has))
    ]

-- ---- the whole state

-- where nothing is true and nothing waits, nothing is to be settled
pub propagator_at_rest : (lists : WatchLists) (references : List ClauseRef) (steps : List Step)
    (places : List (Option ℕ))
    (waiting : List Step) (queue_places : List (Option ℕ)) (n : ℕ) → n ≡ 0 → waiting ≡ [] → IsTrail steps places × IsTrail waiting queue_places
    → (length places ≡ lists.vars) × (length queue_places ≡ lists.vars) → length references ≡ length lists.clauses
    → IsPropagator lists references steps places waiting queue_places n
propagator_at_rest lists references steps places waiting queue_places n at_start none (trail, queue) (vars, queue_vars) referred = record {
  trail = trail;
  vars = vars;
  queue = queue;
  queue_vars = queue_vars;
  referred = referred;
  settled = λ clause place low. absurd (omega (arith, low, at_start));
  forced = subst (λ (l : List Step). AreForced lists references steps l) (sym none) (AreForced-none lists references steps);
}

-- fewer places are settled, too
pub propagator_less : (lists : WatchLists) (references : List ClauseRef) (steps : List Step) (places : List (Option ℕ))
    (waiting : List Step) (queue_places : List (Option ℕ)) (n m : ℕ) → m ≤ n
    → IsPropagator lists references steps places waiting queue_places n
    → IsPropagator lists references steps places waiting queue_places m
propagator_less lists references steps places waiting queue_places n m le s = record {
  trail = s.trail;
  vars = s.vars;
  queue = s.queue;
  queue_vars = s.queue_vars;
  referred = s.referred;
  settled = λ clause place low. s.settled clause place (omega (arith, low, le));
  forced = s.forced;
}

-- all places are settled
pub propagator_full : (lists : WatchLists) (references : List ClauseRef) (steps : List Step) (places : List (Option ℕ))
    (waiting : List Step) (queue_places : List (Option ℕ)) (n m : ℕ) → AllSettled lists steps m
    → IsPropagator lists references steps places waiting queue_places n
    → IsPropagator lists references steps places waiting queue_places m
propagator_full lists references steps places waiting queue_places n m settled s = record {
  trail = s.trail;
  vars = s.vars;
  queue = s.queue;
  queue_vars = s.queue_vars;
  referred = s.referred;
  settled = settled;
  forced = s.forced;
}

-- the first two literals of a clause that can be watched
pub first_of : (lits : List Lit) → 1 ≤ length lits → (a : Lit) × (slice_get lits 0 ≡ Some a) × Contains lits a
first_of lits le =
    let none : Lit = record { var = 0; positive = false } in
    (get_or lits 0 none, slice_get-get_or lits 0 none (omega arith), Contains-get_or lits 0 none (omega arith))

pub second_of : (lits : List Lit) → 2 ≤ length lits → (b : Lit) × (slice_get lits 1 ≡ Some b)
second_of lits le =
    let none : Lit = record { var = 0; positive = false } in
    (get_or lits 1 none, slice_get-get_or lits 1 none (omega arith))

-- one clause more
pub propagator_clause : (old new : WatchLists) (references grown : List ClauseRef) (steps : List Step)
    (places : List (Option ℕ))
    (waiting : List Step) (queue_places : List (Option ℕ)) (clause : List Lit) (reference : ClauseRef) → AreExact old → AreExact new
    → CanWatch steps clause
    → ((a b : Lit) → slice_get clause 0 ≡ Some a → slice_get clause 1 ≡ Some b → IsWatchedFirst old new
    (length old.clauses) a b)
    → (new.clauses ≡ old.clauses ++ clause ∷ []) × (new.vars ≡ old.vars) × (grown ≡ references ++ reference ∷ [])
    → IsPropagator old references steps places waiting queue_places (length steps)
    → IsPropagator new grown steps places waiting queue_places (length steps)
propagator_clause old new references grown steps places waiting queue_places clause reference exact exact' can watched (more, vars, refs) s =
    let a = first_of clause (omega (arith, can.two)) in
    let b = second_of clause can.two in
    record {
      trail = s.trail;
      vars = s.vars ∙ sym vars;
      queue = s.queue;
      queue_vars = s.queue_vars ∙ sym vars;
      referred =
          ap length refs ∙ length_push references reference ∙ ap (λ n. n + 1) s.referred ∙ sym (length_push old.clauses clause)
          ∙ ap length (sym more);
      settled =
          AllSettled-clause old new steps clause a.0 b.0 (watched a.0 b.0 a.1 b.1, more) exact.paired s.settled (can.free a.0 a.1)
          (λ p low at. can.others a.0 b.0 p a.1 b.1 low at) exact'.paired;
      forced = λ p low.
          let f = s.forced p low in
          record {
            clause = f.clause;
            within = omega (arith, f.within, ap length more, length_push old.clauses clause);
            reason =
                f.reason ∙ older references reference f.clause (omega (arith, f.within, s.referred))
                ∙ ap (λ (l : List ClauseRef). slice_get l f.clause) (sym refs);
            forces =
                subst (λ (l : List Lit). Forces steps (length steps) l (step_at waiting p).lit)
                (sym (ap (λ (l : List (List Lit)). get_or l f.clause []) more ∙ get_or_append_left old.clauses (clause ∷ []) [] f.clause f.within))
                f.forces;
          };
    }
  where
    older : (refs : List ClauseRef) (r : ClauseRef) (n : ℕ) → n < length refs → slice_get refs n ≡ slice_get
        (refs ++ r ∷ []) n
    older refs r n low =
        slice_get-get_or refs n r low ∙ sym (get-push_old refs r n (get_or refs n r) (slice_get-get_or refs n r low))

-- the order of a learnt clause can be watched
pub can_watch : (steps : List Step) (places : List (Option ℕ)) (forced : Lit) (lits : List Lit) → IsTrail steps places
    → get_or places forced.var None ≡ None → IsWatchOrder steps forced lits → 2 ≤ length lits → CanWatch steps lits
can_watch steps places forced lits trail free order two =
    let b = second_of lits two in
    let sec = order.second b.0 b.1 in
    record {
      two = two;
      apart = λ e. sec.0 (sym (some_is forced b.0 (sym order.first ∙ e ∙ b.1)));
      free = λ a e t.
          let is : a ≡ forced = some_is a forced (sym e ∙ order.first) in
          free_not_true steps (opposite forced) (free_from_none steps places trail forced.var free)
          (subst (λ (l : Lit). MadeTrue steps (length steps) (opposite l)) is t);
      others = λ a c p ea ec low at.
          let is : a ≡ forced = some_is a forced (sym ea ∙ order.first) in
          let is' : c ≡ b.0 = some_is c b.0 (sym ec ∙ b.1) in
          let here = sec.1 in
          let same : p ≡ here.0 =
          one_place steps places trail p here.0 low here.1
          (ap (λ (l : Lit). l.var) (at ∙ ap opposite is') ∙ sym (ap (λ (l : Lit). l.var) here.2)) in
          subst (λ q. OthersFalse steps (q + 1) lits a) (sym same)
          (subst (λ (l : Lit). OthersFalse steps (here.0 + 1) lits l) (sym is) here.3);
    }
