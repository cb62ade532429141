-- Watched literals through a push: which clauses can become conflicting, and what a look at one of them keeps.
use Rattle.std.proofs.Common.{◌≡◌, ◌≢◌, ◌<◌, ◌≤◌, ◌+◌, ◌⊎◌, ℕ, zero, suc, Bool, true, false, List, [], ◌∷◌, ◌++◌, length, cond, ◌-◌}
use Rattle.std.proofs.Common.{get_or, Option, Some, None, refl, sym, ap, ◌∙◌, subst, inl, inr, arith, append_assoc}
use Rattle.std.specs.List.{Contains, slice_get, IsDistinct, AllByRecursion}
use Rattle.std.specs.Prelude.{nat_eq}
use Rattle.std.proofs.lemmas.List.{length_push, get_or_push}
use Rattle.std.proofs.lemmas.List.Elements.{Contains-push, Contains-push_cases, Contains-append_left, Contains-append_right, Contains-append_cases}
use Rattle.std.proofs.lemmas.Option.{slice_get-get_or, slice_get_within}
use Rattle.std.proofs.lemmas.Bool.{cases_lt, cases_eq, eqb-true, eq-eqb, false_from_ne_true, false≢true}
use Rattle.cnf.specs.declared.lit.Lit.{Lit}
use Rattle.cnf.specs.Clauses.{opposite}
use Rattle.clause_links.specs.WatchLists.{WatchLists, WatchesBoth, watchers, clause_lits, last_member, AreExact}
use Rattle.sat_core.specs.declared.trail.Step.{Step}
use Rattle.sat_core.specs.Search.{lit_at, MadeTrue, AllFalse, Forces, IsTrail}
use Rattle.sat_core.specs.Learning.{OthersFalse}
use Rattle.sat_core.specs.Watching.{IsSettledAt, AllSettled, IsConflicting, NoConflict, IsWrong, IsVisiting, rest_from}
use Rattle.sat_core.proofs.Trails.{opposite-opposite, same_lit, step_at-push, step_at-last, MadeTrue-push, MadeTrue-later, not_both, free_from_none}

-- two literals are the same or not
pub lit_or_not : (a b : Lit) → (a ≡ b) ⊎ (a ≡ b → ⊥)
lit_or_not a b =
    elim (cases_eq a.var b.var) [
      | inl v ↦ elim (sign_or_not a.positive b.positive) [
        | inl p ↦ inl (same_lit a b v p)
        | inr n ↦ inr (λ e. n (ap (λ (l : Lit). l.positive) e))
      ]
      | inr n ↦ inr (λ e. n (ap (λ (l : Lit). l.var) e))
    ]
  where
    sign_or_not : (x y : Bool) → (x ≡ y) ⊎ (x ≡ y → ⊥)
    sign_or_not true true = inl refl
    sign_or_not true false = inr (λ e. cc)
    sign_or_not false true = inr (λ e. cc)
    sign_or_not false false = inl refl

-- a literal whose opposite is that of another is the other
pub opposite_same : (a b : Lit) → opposite a ≡ opposite b → a ≡ b
opposite_same a b e = sym (opposite-opposite a) ∙ ap opposite e ∙ opposite-opposite b

-- the two literals that a clause watches
pair_or : Lit → Option (Lit × Lit) → Lit × Lit
pair_or d None = (d, d)
pair_or d (Some pair) = pair

pair_same : (a b c d : Lit) → ◌≡◌ {A = Option (Lit × Lit)} (Some (a, b)) (Some (c, d)) → (a ≡ c) × (b ≡ d)
unfolding pair_or
pair_same a b c d e = (ap (λ (o : Option (Lit × Lit)). (pair_or a o).0) e, ap (λ (o : Option (Lit × Lit)). (pair_or a o).1) e)

-- the literals of one pair, in whatever order it is read
pub both_cases : (lists : WatchLists) (clause : ℕ) (a b c d : Lit) → WatchesBoth lists clause a b
    → WatchesBoth lists clause c d
    → ((a ≡ c) × (b ≡ d)) ⊎ ((a ≡ d) × (b ≡ c))
both_cases lists clause a b c d (inl e) (inl f) = inl (pair_same a b c d (sym e ∙ f))
both_cases lists clause a b c d (inl e) (inr f) = inr (pair_same a b d c (sym e ∙ f))
both_cases lists clause a b c d (inr e) (inl f) = let s = pair_same b a c d (sym e ∙ f) in inr (s.1, s.0)
both_cases lists clause a b c d (inr e) (inr f) = let s = pair_same b a d c (sym e ∙ f) in inl (s.1, s.0)

pub both_back : (lists : WatchLists) (clause : ℕ) (a b : Lit) → WatchesBoth lists clause a b
    → WatchesBoth lists clause b a
both_back lists clause a b (inl e) = inr e
both_back lists clause a b (inr e) = inl e

-- the other literal is the same, however the pair is read
pub other_same : (lists : WatchLists) (clause : ℕ) (w a b : Lit) → WatchesBoth lists clause w a
    → WatchesBoth lists clause w b → a ≡ b
other_same lists clause w a b x y =
    elim (both_cases lists clause w a w b x y) [ inl s ↦ s.1 | inr s ↦ s.1 ∙ s.0 ]

module _ (lists : WatchLists) (steps : List Step) (exact : AreExact lists) where
  -- both watched literals are false before the trail's end: then so are all literals of the clause
  false_by_order : (clause p q : ℕ) (a b : Lit) → WatchesBoth lists clause a b → (p < q) × (q < length steps)
      → lit_at steps p ≡ opposite a → lit_at steps q ≡ opposite b → IsSettledAt lists steps clause p
      → (MadeTrue steps (length steps) b → MadeTrue steps (length steps) (opposite b) → ⊥)
      → IsConflicting lists steps clause
  false_by_order clause p q a b both (less, within) pa qb settled apart lit c =
      elim (settled a b both pa) [
        | inl t ↦ absurd (apart (MadeTrue-later steps (p + 1) (length steps) b (omega arith) t) (q, within, qb))
        | inr others ↦ elim (others lit c) [
          | inl same ↦ (q, within, qb ∙ ap opposite (sym same))
          | inr t ↦ MadeTrue-later steps (p + 1) (length steps) (opposite lit) (omega arith) t
        ]
      ]

  -- where no clause was conflicting, one whose two watched literals are false is not there
  pub watched_not_false : (places : List (Option ℕ)) (clause : ℕ) (a b : Lit) → IsTrail steps places
      → clause < length lists.clauses → WatchesBoth lists clause a b → AllSettled lists steps (length steps)
      → NoConflict lists steps
      → MadeTrue steps (length steps) (opposite a) × MadeTrue steps (length steps) (opposite b) → ⊥
  watched_not_false places clause a b trail within both settled quiet (fa, fb) =
      let apart : a ≡ b → ⊥ = (exact.own clause a b both).0 in
      elim (cases_lt fa.0 fb.0) [
        | inl less ↦
            quiet clause within
            (false_by_order clause fa.0 fb.0 a b both (less, fb.1) fa.2 fb.2 (settled clause fa.0 fa.1) (not_both steps places trail b))
        | inr more ↦ elim (cases_eq fa.0 fb.0) [
          | inl same ↦ apart (opposite_same a b (sym fa.2 ∙ ap (λ p. lit_at steps p) same ∙ fb.2))
          | inr other ↦
              quiet clause within
              (false_by_order clause fb.0 fa.0 b a (both_back lists clause a b both) (omega arith, fa.1) fb.2 fa.2 (settled clause fb.0 fb.1)
              (not_both steps places trail a))
        ]
      ]

-- the last place of a trail with one step more
pub lit_at-last : (steps : List Step) (step : Step) (last : ℕ) → length (steps ++ step ∷ []) ≡ last + 1
    → lit_at (steps ++ step ∷ []) last ≡ step.lit
lit_at-last steps step last e =
    let at : last ≡ length steps = omega (arith, length_push steps step) in
    ap (λ p. lit_at (steps ++ step ∷ []) p) at ∙ ap (λ (s : Step). s.lit) (step_at-last steps step)

-- a literal that another step made true, was true before the push
pub MadeTrue-before : (steps : List Step) (step : Step) (lit : Lit) → (step.lit ≡ lit → ⊥)
    → MadeTrue (steps ++ step ∷ []) (length (steps ++ step ∷ [])) lit → MadeTrue steps (length steps) lit
MadeTrue-before steps step lit other t =
    elim (cases_lt t.0 (length steps)) [
      | inl before ↦ (t.0, before, ap (λ (s : Step). s.lit) (sym (step_at-push steps step t.0 before)) ∙ t.2)
      | inr past ↦
          let at : t.0 ≡ length steps = omega (arith, t.1, length_push steps step) in
          absurd (other (ap (λ (s : Step). s.lit) (sym (step_at-last steps step)) ∙ ap (λ p. lit_at (steps ++ step ∷ []) p) (sym at) ∙ t.2))
    ]

-- what was settled stays so with a push
pub AllSettled-push : (lists : WatchLists) (steps : List Step) (step : Step) (n : ℕ) → n ≤ length steps
    → AllSettled lists steps n → AllSettled lists (steps ++ step ∷ []) n
AllSettled-push lists steps step n le settled clause place low watch other both at =
    let was : lit_at steps place ≡ opposite watch = ap (λ (s : Step). s.lit) (sym (step_at-push steps step place (omega arith))) ∙ at in
    elim (settled clause place low watch other both was) [
      | inl t ↦ inl (MadeTrue-push steps step (place + 1) other (omega arith) t)
      | inr others ↦ inr (λ lit c. elim (others lit c) [
        | inl same ↦ inl same
        | inr t ↦ inr (MadeTrue-push steps step (place + 1) (opposite lit) (omega arith) t)
      ])
    ]

pub Forces-push : (steps : List Step) (step : Step) (clause : List Lit) (lit : Lit) → Forces steps
    (length steps) clause lit
    → Forces (steps ++ step ∷ []) (length (steps ++ step ∷ [])) clause lit
Forces-push steps step clause lit f = record {
  has = f.has;
  others = λ m c. elim (f.others m c) [
    | inl same ↦ inl same
    | inr t ↦
        inr (MadeTrue-later (steps ++ step ∷ []) (length steps) (length (steps ++ step ∷ [])) (opposite m) (omega (arith, length_push steps step))
        (MadeTrue-push steps step (length steps) (opposite m) (omega arith) t))
  ];
}

-- the pair of a clause
pub pair_of_clause : (lists : WatchLists) (clause : ℕ) → AreExact lists → clause < length lists.clauses
    → (a : Lit) × (b : Lit) × WatchesBoth lists clause a b
pair_of_clause lists clause exact within =
    let none : Lit = record { var = 0; positive = false } in
    let pair = get_or lists.pairs clause (none, none) in
    (pair.0, pair.1, inl (slice_get-get_or lists.pairs clause (none, none) (omega (arith, exact.paired))))

-- the walk along the list of the literal that the last step made false begins with the whole list
pub visiting_from_start : (lists : WatchLists) (steps : List Step) (step : Step) (places : List (Option ℕ))
    (watch : Lit)
    (at : Option ℕ) → AreExact lists → IsTrail steps places → AllSettled lists steps (length steps)
    → NoConflict lists steps → (watch ≡ opposite step.lit) × (at ≡ slice_get (watchers lists watch) 0)
    → IsVisiting lists (steps ++ step ∷ []) watch None at
visiting_from_start lists steps step places watch at exact trail settled quiet (is, head) = record {
  front = [];
  rest = watchers lists watch;
  whole = refl;
  behind = refl;
  next = head;
  each = λ clause last within long.
      let pair = pair_of_clause lists clause exact within in
      let a = pair.0 in
      let b = pair.1 in
      let both = pair.2 in
      let made : lit_at (steps ++ step ∷ []) last ≡ step.lit = lit_at-last steps step last long in
      elim (lit_or_not a watch) [
        | inl e ↦ inl ((exact.members watch clause).1 (b, subst (λ (l : Lit). WatchesBoth lists clause l b) e both))
        | inr na ↦ elim (lit_or_not b watch) [
          | inl e ↦ inl ((exact.members watch clause).1 (a, subst (λ (l : Lit). WatchesBoth lists clause l a) e (both_back lists clause a b both)))
          | inr nb ↦ inr (
            λ w o pair' here.
                let w_is : w ≡ watch = sym (opposite-opposite w) ∙ ap opposite (sym here ∙ made) ∙ sym is in
                absurd (elim (both_cases lists clause w o a b pair' both) [
                  | inl s ↦ na (sym s.0 ∙ w_is)
                  | inr s ↦ nb (sym s.0 ∙ w_is)
                ]),
            λ all.
                let before : (l : Lit) → (l ≡ watch → ⊥) → Contains (clause_lits lists clause) l → MadeTrue steps (length steps) (opposite l) =
                λ l n c. MadeTrue-before steps step (opposite l) (λ e. n (sym (opposite-opposite l) ∙ ap opposite (sym e) ∙ sym is)) (all l c) in
                watched_not_false lists steps exact places clause a b trail within both settled quiet
                (before a na (exact.own clause a b both).1, before b nb (exact.own clause b a (both_back lists clause a b both)).1),
          )
        ]
      ];
}

-- ---- one clause of the walk

-- a list that begins with something
pub head_is : (xs : List ℕ) (x : ℕ) → Some x ≡ slice_get xs 0 → (back : List ℕ) × (xs ≡ x ∷ back)
head_is [] x e = absurd (cc)
head_is (y ∷ ys) x e = let same : y ≡ x = cc in (ys, ap (λ n. n ∷ ys) same)

none_is : (xs : List ℕ) → None ≡ slice_get xs 0 → xs ≡ []
none_is [] e = refl
none_is (y ∷ ys) e = absurd (cc)

last-push : (xs : List ℕ) (x : ℕ) → Some x ≡ last_member (xs ++ x ∷ [])
last-push xs x =
    let at : length (xs ++ x ∷ []) - 1 ≡ length xs = omega (arith, length_push xs x) in
    sym (ap (λ i. slice_get (xs ++ x ∷ []) i) at
    ∙ slice_get-get_or (xs ++ x ∷ []) (length xs) x (omega (arith, length_push xs x))
    ∙ ap Some (get_or_push xs x x (length xs) refl))

head_cases : (x : ℕ) (xs : List ℕ) (y : ℕ) → Contains (x ∷ xs) y → (x ≡ y) ⊎ Contains xs y
head_cases x xs y h =
    elim (Contains-append_cases (x ∷ []) xs y h) [
      | inl here ↦ elim (Contains-push_cases [] x y here) [ inl none ↦ absurd (omega (arith, none.1)) | inr e ↦ inl e ]
      | inr there ↦ inr there
    ]

pub head_lit : (x : Lit) (xs : List Lit) (y : Lit) → Contains (x ∷ xs) y → (x ≡ y) ⊎ Contains xs y
head_lit x xs y (zero, low, e) = inl e
head_lit x xs y (suc i, low, e) = inr (i, omega arith, e)

-- what a look found of a clause at the last place: it is settled there, and not conflicting
pub record IsPassed (lists : WatchLists) (steps : List Step) (clause last : ℕ) : Type 0 where
  pub settled : IsSettledAt lists steps clause last
  pub quiet : IsConflicting lists steps clause → ⊥

-- the walk goes on behind a clause that stays in the list
pub visiting_past : (lists : WatchLists) (steps : List Step) (watch : Lit) (before at : Option ℕ) (clause : ℕ)
    → IsVisiting lists steps watch before (Some clause)
    → ((front back : List ℕ) → watchers lists watch ≡ front ++ clause ∷ back → at ≡ slice_get back 0)
    → ((last : ℕ) → length steps ≡ last + 1 → IsPassed lists steps clause last)
    → IsVisiting lists steps watch (Some clause) at
visiting_past lists steps watch before at clause v behind passed =
    let here = head_is v.rest clause v.next in
    let back = here.0 in
    let whole : watchers lists watch ≡ v.front ++ clause ∷ back = v.whole ∙ ap (λ l. v.front ++ l) here.1 in
    record {
      front = v.front ++ clause ∷ [];
      rest = back;
      whole = whole ∙ sym (append_assoc v.front (clause ∷ []) back);
      behind = last-push v.front clause;
      next = behind v.front back whole;
      each = λ c last within long. elim (v.each c last within long) [
        | inl there ↦ elim (head_cases clause back c (subst (λ l. Contains l c) here.1 there)) [
          | inl e ↦ inr (subst (λ n. IsSettledAt lists steps n last × (IsConflicting lists steps n → ⊥)) e
              ((passed last long).settled, (passed last long).quiet))
          | inr later ↦ inl later
        ]
        | inr done ↦ inr done
      ];
    }

pub wrong_false : (steps : List Step) (watch : Lit) → IsWrong steps watch → MadeTrue steps (length steps)
    (opposite watch)
wrong_false steps watch w = (w.last, omega (arith, w.long), w.made)

-- the clause whose other watched literal is true
pub passed_satisfied : (lists : WatchLists) (steps : List Step) (places : List (Option ℕ)) (clause : ℕ)
    (watch other : Lit)
    → AreExact lists → IsTrail steps places → IsWrong steps watch → WatchesBoth lists clause watch other
    → MadeTrue steps (length steps) other → (last : ℕ) → length steps ≡ last + 1 → IsPassed lists steps clause last
passed_satisfied lists steps places clause watch other exact trail wrong both true' last long = record {
  settled = λ w o both' at.
      let same : last ≡ wrong.last = omega (arith, wrong.long) in
      let w_is : w ≡ watch = opposite_same w watch (sym at ∙ ap (λ p. lit_at steps p) same ∙ wrong.made) in
      let o_is : other ≡ o = other_same lists clause watch other o both (subst (λ (l : Lit). WatchesBoth lists clause l o) w_is both') in
      inl (subst (λ n. MadeTrue steps n o) long (subst (λ (l : Lit). MadeTrue steps (length steps) l) o_is true'));
  quiet = λ all. not_both steps places trail other true' (all other (exact.own clause other watch (both_back lists clause watch other both)).1);
}

-- the clause that forces the other literal that it watches
pub passed_forcing : (lists : WatchLists) (steps : List Step) (places : List (Option ℕ)) (clause : ℕ)
    (watch other : Lit)
    → AreExact lists → IsTrail steps places → IsWrong steps watch → WatchesBoth lists clause watch other
    → OthersFalse steps (length steps) (clause_lits lists clause) other × (get_or places other.var None ≡ None)
    → (last : ℕ) → length steps ≡ last + 1 → IsPassed lists steps clause last
passed_forcing lists steps places clause watch other exact trail wrong both (others, free) last long = record {
  settled = λ w o both' at.
      let same : last ≡ wrong.last = omega (arith, wrong.long) in
      let w_is : w ≡ watch = opposite_same w watch (sym at ∙ ap (λ p. lit_at steps p) same ∙ wrong.made) in
      let o_is : other ≡ o = other_same lists clause watch other o both (subst (λ (l : Lit). WatchesBoth lists clause l o) w_is both') in
      inr (subst (λ n. OthersFalse steps n (clause_lits lists clause) o) long
      (subst (λ (l : Lit). OthersFalse steps (length steps) (clause_lits lists clause) l) o_is others));
  quiet = λ all.
      let t = all other (exact.own clause other watch (both_back lists clause watch other both)).1 in
      free_from_none steps places trail other.var free t.0 t.1 (ap (λ (l : Lit). l.var) t.2);
}

-- the lists before and after a watch moved to a literal that isn't false
pub record IsMoved (old new : WatchLists) (steps : List Step) (clause : ℕ) (from to : Lit) : Type 0 where
  pub other : Lit
  pub pair : WatchesBoth old clause from other
  pub rewatched : WatchesBoth new clause to other
  pub apart : (to ≡ other → ⊥) × (from ≡ other → ⊥)
  pub own : Contains (clause_lits old clause) to
  pub open' : MadeTrue steps (length steps) (opposite to) → ⊥
  pub clauses : new.clauses ≡ old.clauses
  pub others : (c : ℕ) → c ≢ clause → slice_get new.pairs c ≡ slice_get old.pairs c

module _ (old new : WatchLists) (steps : List Step) (clause : ℕ) (from to : Lit) (moved : IsMoved old new steps clause from to) where
  lits_stay : (c : ℕ) → clause_lits new c ≡ clause_lits old c
  lits_stay c = ap (λ (l : List (List Lit)). get_or l c []) moved.clauses

  -- a clause that did not move watches what it did
  pair_stays : (c : ℕ) (a b : Lit) → c ≢ clause → WatchesBoth new c a b → WatchesBoth old c a b
  pair_stays c a b other (inl e) = inl (sym (moved.others c other) ∙ e)
  pair_stays c a b other (inr e) = inr (sym (moved.others c other) ∙ e)

  settled_others : (c place : ℕ) → c ≢ clause → IsSettledAt old steps c place → IsSettledAt new steps c place
  settled_others c place other settled w o both at =
      elim (settled w o (pair_stays c w o other both) at) [
        | inl t ↦ inl t
        | inr f ↦ inr (subst (λ (l : List Lit). OthersFalse steps (place + 1) l o) (sym (lits_stay c)) f)
      ]

  -- the clause that moved is settled at each place, since it watches one literal that isn't false
  pub settled_moved : (places : List (Option ℕ)) (place : ℕ) → IsTrail steps places → IsWrong steps from
      → place < length steps
      → (place + 1 < length steps → IsSettledAt old steps clause place) → IsSettledAt new steps clause place
  settled_moved places place trail wrong low settled w o both at =
      let false' : MadeTrue steps (length steps) (opposite w) = (place, low, at) in
      elim (both_cases new clause w o to moved.other both moved.rewatched) [
        | inl s ↦ absurd (moved.open' (subst (λ (l : Lit). MadeTrue steps (length steps) (opposite l)) s.0 false'))
        | inr s ↦
            let at' : lit_at steps place ≡ opposite moved.other = at ∙ ap opposite s.0 in
            let not_last : place ≡ wrong.last → ⊥ =
            λ e. moved.apart.1 (opposite_same from moved.other (sym wrong.made ∙ ap (λ p. lit_at steps p) (sym e) ∙ at')) in
            let before : place + 1 < length steps = omega (arith, not_last, wrong.long) in
            absurd (elim (settled before moved.other from (both_back old clause from moved.other moved.pair) at') [
              | inl t ↦
                  not_both steps places trail from (MadeTrue-later steps (place + 1) (length steps) from (omega arith) t)
                  (wrong_false steps from wrong)
              | inr f ↦ elim (f to moved.own) [
                | inl e ↦
                    moved.open' (subst (λ (l : Lit). MadeTrue steps (length steps) (opposite l)) (sym e) (wrong_false steps from wrong))
                | inr t ↦ moved.open' (MadeTrue-later steps (place + 1) (length steps) (opposite to) (omega arith) t)
              ]
            ])
      ]

  -- what was settled stays so
  pub settled_after_move : (places : List (Option ℕ)) (n : ℕ) → IsTrail steps places → IsWrong steps from
      → n + 1 ≤ length steps
      → AllSettled old steps n → AllSettled new steps n
  settled_after_move places n trail wrong le settled c place low =
      elim (cases_eq c clause) [
        | inl e ↦
            subst (λ k. IsSettledAt new steps k place) (sym e)
            (settled_moved places place trail wrong (omega arith) (λ h. subst (λ k. IsSettledAt old steps k place) e (settled c place low)))
        | inr other ↦ settled_others c place other (settled c place low)
      ]

  -- the walk goes on where the clause was
  pub visiting_moved : (places : List (Option ℕ)) (before at : Option ℕ) → IsTrail steps places → IsWrong steps from
      → AllSettled old steps (length steps - 1) × IsVisiting old steps from before (Some clause)
      → ((front back : List ℕ) → watchers old from ≡ front ++ clause ∷ back → at ≡ slice_get back 0)
      → ((front back : List ℕ) → watchers old from ≡ front ++ clause ∷ back → watchers new from ≡ front ++ back)
      → IsVisiting new steps from before at
  visiting_moved places before at trail wrong (settled, v) behind shorter =
      let here = head_is v.rest clause v.next in
      let back = here.0 in
      let whole : watchers old from ≡ v.front ++ clause ∷ back = v.whole ∙ ap (λ l. v.front ++ l) here.1 in
      let quiet : IsConflicting new steps clause → ⊥ =
      λ all. moved.open' (all to (subst (λ (l : List Lit). Contains l to) (sym (lits_stay clause)) moved.own)) in
      record {
        front = v.front;
        rest = back;
        whole = shorter v.front back whole;
        behind = v.behind;
        next = behind v.front back whole;
        each = λ c last within long.
            let within' : c < length old.clauses = subst (λ (l : List (List Lit)). c < length l) moved.clauses within in
            elim (cases_eq c clause) [
              | inl e ↦
                  inr (subst (λ k. IsSettledAt new steps k last × (IsConflicting new steps k → ⊥)) (sym e)
                  (settled_moved places last trail wrong (omega arith) (λ h. settled clause last (omega arith)), quiet))
              | inr other ↦ elim (v.each c last within' long) [
                | inl there ↦ elim (head_cases clause back c (subst (λ l. Contains l c) here.1 there)) [
                  | inl e ↦ absurd (other (sym e))
                  | inr later ↦ inl later
                ]
                | inr done ↦
                    inr (settled_others c last other done.0, λ all. done.1 (subst (λ (l : List Lit). AllFalse steps (length steps) l) (lits_stay c) all))
              ]
            ];
      }

-- the walk has come to the end
pub visited : (lists : WatchLists) (steps : List Step) (watch : Lit) (before : Option ℕ) (n : ℕ) → AreExact lists
    → length steps ≡ n + 1 → IsVisiting lists steps watch before None → AllSettled lists steps n
    → NoConflict lists steps × AllSettled lists steps (length steps)
visited lists steps watch before n exact long v settled =
    let none = none_is v.rest v.next in
    let all : (clause : ℕ) → clause < length lists.clauses → IsSettledAt lists steps clause n × (IsConflicting lists steps clause → ⊥) =
    λ clause within. elim (v.each clause n within long) [
      | inl there ↦ absurd (no_member clause (subst (λ l. Contains l clause) none there))
      | inr done ↦ done
    ] in (
      λ clause within. (all clause within).1,
      λ clause place low w o both at.
          elim (cases_lt place n) [
            | inl less ↦ settled clause place less w o both at
            | inr more ↦
                let same : place ≡ n = omega arith in
                subst (λ p. MadeTrue steps (p + 1) o ⊎ OthersFalse steps (p + 1) (clause_lits lists clause) o) (sym same)
                ((all clause (watched_within clause w o both)).0 w o both (ap (λ p. lit_at steps p) (sym same) ∙ at))
          ],
    )
  where
    no_member : (x : ℕ) → Contains [] x → ⊥
    no_member x h = omega (arith, h.1)

    watched_within : (clause : ℕ) (a b : Lit) → WatchesBoth lists clause a b → clause < length lists.clauses
    watched_within clause a b (inl e) = let w = slice_get_within lists.pairs clause (a, b) e in omega (arith, w, exact.paired)
    watched_within clause a b (inr e) = let w = slice_get_within lists.pairs clause (b, a) e in omega (arith, w, exact.paired)

-- ---- the walk ends: what is left of a list without repeats gets shorter

pub rest_from-passed : (front back : List ℕ) (x : ℕ) → (Contains front x → ⊥) → rest_from (front ++ x ∷ back) (Some x)
    ≡ x ∷ back
rest_from-passed [] back x h = ap (λ (b : Bool). cond b (x ∷ back) (rest_from back (Some x))) (eq-eqb x x refl)
rest_from-passed (y ∷ ys) back x h =
    let differs : nat_eq y x ≡ false =
    false_from_ne_true (nat_eq y x) (λ t. h (Contains-append_left (y ∷ []) ys x (subst (λ n. Contains (y ∷ []) n) (eqb-true y x t) (Contains-push [] y)))) in
    ap (λ (b : Bool). cond b (y ∷ (ys ++ x ∷ back)) (rest_from (ys ++ x ∷ back) (Some x))) differs
    ∙ rest_from-passed ys back x (λ c. h (Contains-append_right (y ∷ []) ys x c))

all_seam : (P : ℕ → Type 0) (front back : List ℕ) (x : ℕ) → AllByRecursion P (front ++ x ∷ back) → P x
all_seam P [] back x h = h.0
all_seam P (y ∷ ys) back x h = all_seam P ys back x h.1

distinct_seam : (front back : List ℕ) (x : ℕ) → IsDistinct nat_eq (front ++ x ∷ back) → Contains front x → ⊥
unfolding IsDistinct
distinct_seam [] back x d c = absurd (omega (arith, c.1))
distinct_seam (y ∷ ys) back x d c =
    elim (head_cases y ys x c) [
      | inl e ↦
          let differs : nat_eq y x ≡ false = all_seam (λ n. nat_eq y n ≡ false) ys back x d.0 in
          false≢true (sym differs ∙ eq-eqb y x e)
      | inr there ↦ distinct_seam ys back x d.1 there
    ]

pub rest_of_parts : (front rest whole : List ℕ) (at : Option ℕ) → whole ≡ front ++ rest → at ≡ slice_get rest 0
    → IsDistinct nat_eq whole
    → rest_from whole at ≡ rest
rest_of_parts front [] whole at e head d = ap (λ o. rest_from whole o) head
rest_of_parts front (x ∷ back) whole at e head d =
    ap (λ l. rest_from l at) e ∙ ap (λ o. rest_from (front ++ x ∷ back) o) head
    ∙ rest_from-passed front back x (distinct_seam front back x (subst (λ l. IsDistinct nat_eq l) e d))

pub rest_is : (lists : WatchLists) (steps : List Step) (watch : Lit) (before at : Option ℕ) → AreExact lists
    → (v : IsVisiting lists steps watch before at) → rest_from (watchers lists watch) at ≡ v.rest
rest_is lists steps watch before at exact v = rest_of_parts v.front v.rest (watchers lists watch) at v.whole v.next (exact.once watch)
