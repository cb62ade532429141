-- The set of literals that an analysis has met: how it grows, and what a resolution leaves of it.
use Rattle.std.proofs.Common.{◌≡◌, ◌<◌, ◌≤◌, ◌+◌, ◌⊎◌, ℕ, Bool, true, false, cond, List, [], ◌∷◌, ◌++◌, length, take, filter, get_or, Option, Some, None}
use Rattle.std.proofs.Common.{refl, sym, ap, ◌∙◌, subst, inl, inr, arith}
use Rattle.std.specs.List.{Contains}
use Rattle.std.specs.Prelude.{IfSome}
use Rattle.std.proofs.lemmas.Bool.{false≢true, ltb-true, lt-ltb}
use Rattle.std.proofs.lemmas.List.{map_push}
use Rattle.std.proofs.lemmas.List.Elements.{All-contains, All-filter, All-contains_itself, filter_passes, Contains-append_right, Contains-append_left}
use Rattle.std.proofs.lemmas.List.Elements.{Contains-push, Contains-push_cases}
use Rattle.cnf.specs.declared.lit.Lit.{Lit}
use Rattle.cnf.specs.Clauses.{opposite}
use Rattle.clause_log.specs.Derivations.{SameLits, Resolves}
use Rattle.sat_core.specs.declared.clause_ref.ClauseRef.{ClauseRef}
use Rattle.sat_core.specs.declared.chain.Resolution.{Resolution}
use Rattle.sat_core.specs.declared.trail.Step.{Step}
use Rattle.sat_core.specs.Search.{ClauseLists, IsDerivation, MadeTrue, AllFalse, Forces, IsTrail, lit_at}
use Rattle.sat_core.specs.Learning.{Asserts}
use Rattle.sat_core.specs.Meeting.{Met, met_lits, is_before, stands_before, reached, IsMetSet, CanMeet, HasMet}
use Rattle.sat_core.proofs.Trails.{opposite-opposite, MadeTrue-later, MadeTrue-within, one_place, free_from_none, free_not_true}
use Rattle.sat_core.proofs.Members.{any_lit, no_lits, self_read, more_cases, more_old, more_new}
use Rattle.sat_core.proofs.Chains.{before_or_at, Contains-head}
use Rattle.sat_core.proofs.Keeping.{IsDerivation-same}
use Rattle.sat_core.proofs.LitSets.{true_from, true_to}
use Rattle.sat_core.proofs.WatchLaws.{head_lit}

-- ---- what a filter keeps

kept_of : (test : Lit → Bool) (xs : List Lit) (x : Lit) → Contains (filter test xs) x → Contains xs x × (test x ≡ true)
kept_of test xs x c = (
  All-contains (Contains xs) (filter test xs) x (All-filter test (Contains xs) xs (All-contains_itself xs)) c,
  All-contains (λ y. test y ≡ true) (filter test xs) x (filter_passes test xs) c,
)

kept_behind : (b : Bool) (y x : Lit) (xs : List Lit) → Contains xs x → Contains (cond b (y ∷ xs) xs) x
kept_behind true y x xs c = Contains-append_right (y ∷ []) xs x c
kept_behind false y x xs c = c

kept_first : (b : Bool) (y x : Lit) (xs : List Lit) → b ≡ true → y ≡ x → Contains (cond b (y ∷ xs) xs) x
kept_first true y x xs t e = subst (λ l. Contains (y ∷ xs) l) e (Contains-head y xs)
kept_first false y x xs t e = absurd (false≢true t)

kept : (test : Lit → Bool) (xs : List Lit) (x : Lit) → Contains xs x → test x ≡ true → Contains (filter test xs) x
kept test [] x c t = absurd (no_lits x c)
kept test (y ∷ xs) x c t = elim (head_lit y xs x c) [
  | inl e ↦ kept_first (test y) y x (filter test xs) (ap test e ∙ t) e
  | inr c' ↦ kept_behind (test y) y x (filter test xs) (kept test xs x c' t)
]

is_before-true : (o : Option ℕ) (at : ℕ) → is_before o at ≡ true → (p : ℕ) × (p < at) × (o ≡ Some p)
is_before-true None at e = absurd (false≢true e)
is_before-true (Some p) at e = (p, ltb-true p at e, refl)

some_same : (a b : ℕ) → Some a ≡ Some b → a ≡ b
some_same a b e = cc

pub some_not_none : (o : Option ℕ) (q : ℕ) → o ≡ Some q → o ≡ None → ⊥
some_not_none o q e none = let clash : None ≡ Some q = sym none ∙ e in absurd (cc)

pub asserts_at : (steps : List Step) (clause : List Lit) (lit : Lit) (found : Option ℕ) (keep : ℕ) → found ≡ Some keep
    → IfSome found (λ n. Asserts steps clause lit n) → Asserts steps clause lit keep
asserts_at steps clause lit found keep e asserts =
    subst (λ (o : Option ℕ). IfSome o (λ n. Asserts steps clause lit n)) e asserts

-- ---- one literal more

-- a literal whose variable the set lacks was not met
pub not_met : (set : List Step) (set_places : List (Option ℕ)) (lit : Lit) → IsTrail set set_places
    → get_or set_places lit.var None ≡ None → Met set lit → ⊥
not_met set set_places lit trail none = free_not_true set lit (free_from_none set set_places trail lit.var none)

met_push : (set new : List Step) (step : Step) (m : Lit) → new ≡ set ++ step ∷ [] → Met new m → Met set m ⊎ (step.lit ≡ m)
met_push set new step m e met =
    let whole : met_lits new ≡ met_lits set ++ step.lit ∷ [] = ap met_lits e ∙ map_push (λ (s : Step). s.lit) set step in
    elim (Contains-push_cases (met_lits set) step.lit m (subst (λ (l : List Lit). Contains l m) whole (true_to new m met))) [
      | inl old ↦ inl (true_from set m old)
      | inr is ↦ inr is
    ]

met_pushed : (set new : List Step) (step : Step) (m : Lit) → new ≡ set ++ step ∷ [] → Met set m ⊎ (step.lit ≡ m) → Met new m
met_pushed set new step m e h =
    let whole : met_lits new ≡ met_lits set ++ step.lit ∷ [] = ap met_lits e ∙ map_push (λ (s : Step). s.lit) set step in
    true_from new m (subst (λ (l : List Lit). Contains l m) (sym whole) (elim h [
      | inl old ↦ Contains-append_left (met_lits set) (step.lit ∷ []) m (true_to set m old)
      | inr is ↦ subst (λ l. Contains (met_lits set ++ step.lit ∷ []) l) is (Contains-push (met_lits set) step.lit)
    ]))

one_lit : (x m : Lit) → Contains (x ∷ []) m → x ≡ m
one_lit x m c = elim (head_lit x [] m c) [ inl e ↦ e | inr none ↦ absurd (no_lits m none) ]

module _ (steps : List Step) (places : List (Option ℕ)) (trail : IsTrail steps places) where
  -- two false literals of one variable are one literal
  same_false : (a b : Lit) → MadeTrue steps (length steps) (opposite a) → MadeTrue steps (length steps) (opposite b)
      → a.var ≡ b.var → a ≡ b
  same_false a b s t e =
      let here : s.0 ≡ t.0 =
      one_place steps places trail s.0 t.0 s.1 t.1 (ap (λ (l : Lit). l.var) s.2 ∙ e ∙ sym (ap (λ (l : Lit). l.var) t.2)) in
      sym (opposite-opposite a)
      ∙ ap opposite (sym s.2 ∙ ap (λ p. lit_at steps p) here ∙ t.2)
      ∙ opposite-opposite b

  -- the false literal of a variable that the set has was met
  pub met_of_var : (set : List Step) (set_places : List (Option ℕ)) (m : Lit) → IsMetSet steps places set set_places
      → (get_or set_places m.var None ≡ None → ⊥) → MadeTrue steps (length steps) (opposite m) → Met set m
  met_of_var set set_places m s some t = at (get_or set_places m.var None) refl
    where
      at : (o : Option ℕ) → get_or set_places m.var None ≡ o → Met set m
      at None e = absurd (some e)
      at (Some q) e =
          let on = s.trail.stands m.var q e in
          (q, on.0, same_false (lit_at set q) m (s.false_ (lit_at set q) (q, on.0, refl)) t on.1)

  pub met_again : (set : List Step) (set_places : List (Option ℕ)) (lit : Lit) → IsMetSet steps places set set_places
      → (get_or set_places lit.var None ≡ None → ⊥) → HasMet steps set (lit ∷ []) set
  met_again set set_places lit s some m = (
    λ met. inl met,
    λ h. elim h [
      | inl met ↦ met
      | inr new ↦
          let is = one_lit lit m new.0 in
          met_of_var set set_places m s (λ none. some (ap (λ (l : Lit). get_or set_places l.var None) is ∙ none)) new.1
    ],
  )

  pub met_more : (set new : List Step) (set_places : List (Option ℕ)) (step : Step) → IsMetSet steps places set set_places
      → get_or set_places step.lit.var None ≡ None → CanMeet steps set step.lit → new ≡ set ++ step ∷ []
      → HasMet steps set (step.lit ∷ []) new
  met_more set new set_places step s none can e m =
      let wrong : MadeTrue steps (length steps) (opposite step.lit) = elim can [
        | inl met ↦ absurd (not_met set set_places (opposite step.lit) s.trail none met)
        | inr t ↦ t
      ] in (
        λ met. elim (met_push set new step m e met) [
          | inl old ↦ inl old
          | inr is ↦ inr (
            subst (λ l. Contains (step.lit ∷ []) l) is (Contains-head step.lit []),
            subst (λ (l : Lit). MadeTrue steps (length steps) (opposite l)) is wrong,
          )
        ],
        λ h. met_pushed set new step m e (elim h [ inl old ↦ inl old | inr new_one ↦ inr (one_lit step.lit m new_one.0) ]),
      )

  -- the variable of a literal that can be met is one of the variables
  pub can_within : (set : List Step) (set_places : List (Option ℕ)) (m : Lit) → IsMetSet steps places set set_places
      → CanMeet steps set m → m.var < length places
  can_within set set_places m s can = elim can [
    | inl met ↦
        let w : m.var < length set_places = MadeTrue-within set set_places s.trail (opposite m) met in
        omega (arith, w, s.vars)
    | inr t ↦ MadeTrue-within steps places trail (opposite m) t
  ]

  pub met_step : (set : List Step) (set_places : List (Option ℕ)) (at : ℕ) → IsMetSet steps places set set_places
      → at < length steps → (get_or set_places (lit_at steps at).var None ≡ None → ⊥) → Met set (opposite (lit_at steps at))
  met_step set set_places at s low some =
      met_of_var set set_places (opposite (lit_at steps at)) s some (at, low, sym (opposite-opposite (lit_at steps at)))

  -- ---- what is reached

  reached_from : (at : ℕ) (set : List Step) (m : Lit) → Contains (reached places at set) m
      → Met set m × ((p : ℕ) × (p < at) × (get_or places m.var None ≡ Some p))
  reached_from at set m c =
      let k = kept_of (stands_before places at) (met_lits set) m c in
      (true_from set m k.0, is_before-true (get_or places m.var None) at k.1)

  place_of : (m : Lit) (n : ℕ) → n ≤ length steps → (t : MadeTrue steps n (opposite m)) → get_or places m.var None ≡ Some t.0
  place_of m n le t =
      ap (λ (l : Lit). get_or places l.var None) (sym t.2) ∙ trail.placed t.0 (omega (arith, t.1, le))

  pub reached_to : (at : ℕ) (set : List Step) (m : Lit) → at ≤ length steps → Met set m → MadeTrue steps at (opposite m)
      → Contains (reached places at set) m
  reached_to at set m le met t =
      kept (stands_before places at) (met_lits set) m (true_to set m met)
      (ap (λ o. is_before o at) (place_of m at le t) ∙ lt-ltb t.0 at t.1)

  pub reached_false : (at : ℕ) (set : List Step) (set_places : List (Option ℕ)) → IsMetSet steps places set set_places
      → AllFalse steps at (reached places at set)
  reached_false at set set_places s m c =
      let r = reached_from at set m c in
      let t = s.false_ m r.0 in
      let same : t.0 ≡ r.1.0 = some_same t.0 r.1.0 (sym (place_of m (length steps) (omega arith) t) ∙ r.1.2) in
      (t.0, omega (arith, same, r.1.1), t.2)

  -- at first the clause whose literals are false
  pub reached_start : (set new : List Step) (clause : List Lit) → set ≡ [] → AllFalse steps (length steps) clause
      → HasMet steps set clause new → SameLits (reached places (length steps) new) clause
  reached_start set new clause none all has m = (
    λ c. elim ((has m).0 (reached_from (length steps) new m c).0) [
      | inl old ↦ absurd (omega (arith, old.1, ap length none))
      | inr x ↦ x.0
    ],
    λ c. reached_to (length steps) new m (omega arith) ((has m).1 (inr (c, all m c))) (all m c),
  )

  module _ (at : ℕ) (low : at < length steps) where
    -- the literals of a reason can be met
    pub can_meet_others : (set : List Step) (clause : List Lit) (lit m : Lit) → lit ≡ lit_at steps at
        → Met set (opposite (lit_at steps at)) → Forces steps at clause lit → Contains clause m → CanMeet steps set m
    can_meet_others set clause lit m is met forces c = elim (forces.others m c) [
      | inl same ↦ inl (subst (λ (l : Lit). Met set (opposite l)) (sym (same ∙ is)) met)
      | inr t ↦ inr (MadeTrue-later steps at (length steps) (opposite m) (omega arith) t)
    ]

    no_clash : (m : Lit) → MadeTrue steps at (opposite m) → m ≡ opposite (lit_at steps at) → ⊥
    no_clash m t e =
        let here : t.0 ≡ at =
        one_place steps places trail t.0 at (omega (arith, t.1, low)) low
        (ap (λ (l : Lit). l.var) (t.2 ∙ ap opposite e)) in
        omega (arith, here, t.1)

    -- a step whose literal was not met is passed by
    pub skipped : (set : List Step) (set_places : List (Option ℕ)) → IsMetSet steps places set set_places
        → (Met set (opposite (lit_at steps at)) → ⊥) → (k : ClauseLists) (first : ClauseRef) (rest : List Resolution)
        → IsDerivation k first rest (reached places (at + 1) set) → IsDerivation k first rest (reached places at set)
    skipped set set_places s unmet k first rest d =
        IsDerivation-same k first rest (reached places (at + 1) set) (reached places at set) (λ m. (
          λ c.
              let r = reached_from at set m c in
              let t = reached_false at set set_places s m c in
              reached_to (at + 1) set m (omega arith) r.0 (MadeTrue-later steps at (at + 1) (opposite m) (omega arith) t),
          λ c.
              let r = reached_from (at + 1) set m c in
              elim (before_or_at steps (at + 1) at (opposite m) refl (reached_false (at + 1) set set_places s m c)) [
                | inl before ↦ reached_to at set m (omega arith) r.0 before
                | inr here ↦ absurd (unmet (subst (λ (l : Lit). Met set l) (sym (opposite-opposite m) ∙ ap opposite (sym here)) r.0))
              ],
        )) d

    -- a resolution with the reason of a literal that was met
    pub reached_more : (set new : List Step) (set_places : List (Option ℕ)) (clause : List Lit)
        → IsMetSet steps places set set_places → Met set (opposite (lit_at steps at)) → Forces steps at clause (lit_at steps at)
        → HasMet steps set clause new
        → Resolves (reached places (at + 1) set) clause (opposite (lit_at steps at)) (reached places at new)
    reached_more set new set_places clause s met forces has =
        let lit = lit_at steps at in
        record {
          on_left =
              reached_to (at + 1) set (opposite lit) (omega arith) met (at, omega arith, sym (opposite-opposite lit));
          on_right = subst (λ (l : Lit). Contains clause l) (sym (opposite-opposite lit)) forces.has;
          resolvent = λ m. (
            λ c.
                let r = from_new m c in
                elim ((has m).0 r.0) [
                  | inl old ↦ inl (
                    reached_to (at + 1) set m (omega arith) old (MadeTrue-later steps at (at + 1) (opposite m) (omega arith) r.1),
                    no_clash m r.1,
                  )
                  | inr more ↦ inr (more.0, λ e. not_true m r.1 (e ∙ opposite-opposite lit))
                ],
            λ h. elim h [
              | inl l ↦
                  let r = reached_from (at + 1) set m l.0 in
                  elim (before_or_at steps (at + 1) at (opposite m) refl (reached_false (at + 1) set set_places s m l.0)) [
                    | inl before ↦ reached_to at new m (omega arith) ((has m).1 (inl r.0)) before
                    | inr here ↦ absurd (l.1 (sym (opposite-opposite m) ∙ ap opposite (sym here)))
                  ]
              | inr x ↦ elim (forces.others m x.0) [
                | inl same ↦ absurd (x.1 (same ∙ sym (opposite-opposite lit)))
                | inr before ↦
                    reached_to at new m (omega arith)
                    ((has m).1 (inr (x.0, MadeTrue-later steps at (length steps) (opposite m) (omega arith) before))) before
              ]
            ],
          );
        }
      where
        -- a literal that is false before the place isn't the one that stands there
        not_true : (m : Lit) → MadeTrue steps at (opposite m) → m ≡ lit_at steps at → ⊥
        not_true m t e =
            let here : t.0 ≡ at =
            one_place steps places trail t.0 at (omega (arith, t.1, low)) low (ap (λ (l : Lit). l.var) (t.2 ∙ ap opposite e)) in
            omega (arith, here, t.1)

        new_false : (m : Lit) → Met new m → MadeTrue steps (length steps) (opposite m)
        new_false m n = elim ((has m).0 n) [ inl old ↦ s.false_ m old | inr more ↦ more.1 ]

        from_new : (m : Lit) → Contains (reached places at new) m → Met new m × MadeTrue steps at (opposite m)
        from_new m c =
            let r = reached_from at new m c in
            let t = new_false m r.0 in
            let same : t.0 ≡ r.1.0 = some_same t.0 r.1.0 (sym (place_of m (length steps) (omega arith) t) ∙ r.1.2) in
            (r.0, (t.0, omega (arith, same, r.1.1), t.2))

-- ---- a clause more

-- one literal of the clause more
pub has_more : (steps set mid new : List Step) (lits : List Lit) (i : ℕ) → i < length lits
    → HasMet steps set (take i lits) mid → HasMet steps mid (get_or lits i any_lit ∷ []) new
    → HasMet steps set (take (i + 1) lits) new
has_more steps set mid new lits i low old one m =
    let x = get_or lits i any_lit in
    let read = self_read lits i low in (
      λ met. elim ((one m).0 met) [
        | inl was ↦ elim ((old m).0 was) [ inl o ↦ inl o | inr t ↦ inr (more_old lits i x low read m t.0, t.1) ]
        | inr t ↦ inr (subst (λ l. Contains (take (i + 1) lits) l) (one_lit x m t.0) (more_new lits i x low read), t.1)
      ],
      λ h. (one m).1 (elim h [
        | inl o ↦ inl ((old m).1 (inl o))
        | inr t ↦ elim (more_cases lits i x low read m t.0) [
          | inl was ↦ inl ((old m).1 (inr (was, t.1)))
          | inr is ↦ inr (subst (λ l. Contains (x ∷ []) l) is (Contains-head x []), t.1)
        ]
      ]),
    )

pub can_still : (steps set new : List Step) (clause : List Lit) (m : Lit) → HasMet steps set clause new
    → CanMeet steps set m → CanMeet steps new m
can_still steps set new clause m has can = elim can [ inl met ↦ inl ((has (opposite m)).1 (inl met)) | inr t ↦ inr t ]
