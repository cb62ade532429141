-- A trail as a set of literals.
use Rattle.std.proofs.Common.{◌≡◌, ◌<◌, ◌≤◌, ◌+◌, ℕ, zero, suc, List, [], ◌∷◌, ◌++◌, length, take, map, get_or, Option}
use Rattle.std.proofs.Common.{refl, sym, ap, ◌∙◌, subst, inl, inr, arith}
use Rattle.std.specs.List.{Contains, slice_get}
use Rattle.std.proofs.lemmas.List.{get_or-map, length-map, map_push}
use Rattle.std.proofs.lemmas.List.Elements.{Contains-append_left, Contains-push, Contains-push_cases, Contains-get_or}
use Rattle.std.proofs.lemmas.Option.{slice_get-get_or}
use Rattle.cnf.specs.declared.lit.Lit.{Lit}
use Rattle.cnf.specs.Clauses.{opposite}
use Rattle.clause_log.specs.Derivations.{SameLits}
use Rattle.sat_core.specs.declared.trail.Step.{Step}
use Rattle.sat_core.specs.Search.{MadeTrue, IsTrail, no_step}
use Rattle.sat_core.specs.Outcomes.{HasOpposites}
use Rattle.sat_core.specs.Solving.{AreOnce}
use Rattle.sat_core.proofs.Trails.{not_both, one_place}
use Rattle.sat_core.proofs.Members.{any_lit, self_read, more_cases, more_old, more_new, no_lits}
use Rattle.sat_core.proofs.Keeping.{some_is}

abbrev pub lits_of : List Step → List Lit
lits_of steps = map (λ (step : Step). step.lit) steps

-- the literals of a trail are those that were made true
pub true_from : (steps : List Step) (lit : Lit) → Contains (lits_of steps) lit → MadeTrue steps (length steps) lit
true_from steps lit c =
    let low : c.0 < length steps = omega (arith, c.1, length-map steps (λ (s : Step). s.lit)) in
    (c.0, low, sym (get_or-map (λ (s : Step). s.lit) steps c.0 no_step lit low) ∙ c.2)

pub true_to : (steps : List Step) (lit : Lit) → MadeTrue steps (length steps) lit → Contains (lits_of steps) lit
true_to steps lit t =
    (t.0, omega (arith, t.1, length-map steps (λ (s : Step). s.lit)), get_or-map (λ (s : Step). s.lit) steps t.0 no_step lit t.1 ∙ t.2)

-- the literals so far
pub gathered_more : (steps grown : List Step) (step : Step) (lits : List Lit) (i : ℕ) → i < length lits → grown ≡ steps
    ++ step ∷ []
    → step.lit ≡ get_or lits i any_lit → SameLits (lits_of steps) (take i lits) → SameLits (lits_of grown)
    (take (i + 1) lits)
gathered_more steps grown step lits i low e is same m =
    let x = get_or lits i any_lit in
    let read = self_read lits i low in
    let whole : lits_of grown ≡ lits_of steps ++ x ∷ [] =
    ap (λ (l : List Step). lits_of l) e ∙ map_push (λ (s : Step). s.lit) steps step ∙ ap (λ (l : Lit). lits_of steps ++ l ∷ []) is in (
      λ c. elim (Contains-push_cases (lits_of steps) x m (subst (λ (l : List Lit). Contains l m) whole c)) [
        | inl old ↦ more_old lits i x low read m ((same m).0 old)
        | inr new ↦ subst (λ (l : Lit). Contains (take (i + 1) lits) l) new (more_new lits i x low read)
      ],
      λ c. subst (λ (l : List Lit). Contains l m) (sym whole) (elim (more_cases lits i x low read m c) [
        | inl old ↦ Contains-append_left (lits_of steps) (x ∷ []) m ((same m).1 old)
        | inr new ↦ subst (λ (l : Lit). Contains (lits_of steps ++ x ∷ []) l) new (Contains-push (lits_of steps) x)
      ]),
    )

pub gathered_again : (steps : List Step) (lits : List Lit) (i : ℕ) → i < length lits
    → MadeTrue steps (length steps) (get_or lits i any_lit) → SameLits (lits_of steps) (take i lits)
    → SameLits (lits_of steps) (take (i + 1) lits)
gathered_again steps lits i low t same m =
    let x = get_or lits i any_lit in
    let read = self_read lits i low in (
      λ c. more_old lits i x low read m ((same m).0 c),
      λ c. elim (more_cases lits i x low read m c) [
        | inl old ↦ (same m).1 old
        | inr new ↦ subst (λ (l : Lit). Contains (lits_of steps) l) new (true_to steps x t)
      ],
    )

-- a literal whose opposite was gathered is in the list with it
taken_within : (lits : List Lit) (i : ℕ) (m : Lit) → Contains (take i lits) m → Contains lits m
taken_within [] zero m c = c
taken_within [] (suc i) m c = c
taken_within (x ∷ xs) zero m c = absurd (no_lits m c)
taken_within (x ∷ xs) (suc i) m (zero, low, e) = (zero, omega arith, e)
taken_within (x ∷ xs) (suc i) m (suc k, low, e) =
    let h = taken_within xs i m (k, omega arith, e) in (suc h.0, omega (arith, h.1), h.2)

pub clash_found : (steps : List Step) (lits : List Lit) (i : ℕ) → i < length lits → SameLits (lits_of steps)
    (take i lits)
    → MadeTrue steps (length steps) (opposite (get_or lits i any_lit))
    → Contains lits (get_or lits i any_lit) × Contains lits (opposite (get_or lits i any_lit))
clash_found steps lits i low same t =
    let x = get_or lits i any_lit in
    (Contains-get_or lits i any_lit low, taken_within lits i (opposite x) ((same (opposite x)).0 (true_to steps (opposite x) t)))

-- a list whose literals a trail has, has no opposite ones
pub none_opposite : (steps : List Step) (places : List (Option ℕ)) (lits : List Lit) → IsTrail steps places → SameLits
    (lits_of steps) lits
    → HasOpposites lits → ⊥
none_opposite steps places lits trail same (lit, a, b) =
    not_both steps places trail lit (true_from steps lit ((same lit).1 a)) (true_from steps (opposite lit) ((same (opposite lit)).1 b))

-- and the trail has each of them once
pub once_each : (steps : List Step) (places : List (Option ℕ)) (own : List Lit) → IsTrail steps places → own
    ≡ lits_of steps → AreOnce own
once_each steps places own trail e = subst (λ (l : List Lit). AreOnce l) (sym e) (λ p q none low low' same.
    let hp : p < length steps = omega (arith, low, length-map steps (λ (s : Step). s.lit)) in
    let hq : q < length steps = omega (arith, low', length-map steps (λ (s : Step). s.lit)) in
    one_place steps places trail p q hp hq
    (ap (λ (l : Lit). l.var)
    (sym (get_or-map (λ (s : Step). s.lit) steps p no_step none hp) ∙ same ∙ get_or-map (λ (s : Step). s.lit) steps q no_step none hq)))

pub first_apart : (own : List Lit) → AreOnce own → 2 ≤ length own → slice_get own 0 ≡ slice_get own 1 → ⊥
first_apart own once two e =
    let same : get_or own 0 any_lit ≡ get_or own 1 any_lit =
    some_is _ _ (sym (slice_get-get_or own 0 any_lit (omega arith)) ∙ e ∙ slice_get-get_or own 1 any_lit (omega arith)) in
    not_one 0 1 refl refl (once 0 1 any_lit (omega arith) (omega arith) same)
  where
    not_one : (p q : ℕ) → p ≡ 0 → q ≡ 1 → p ≡ q → ⊥
    not_one p q a b c = omega (arith, a, b, c)
