-- The walk back along the trail from a clause whose literals are all false.
use Rattle.std.proofs.Common.{◌≡◌, ◌<◌, ◌≤◌, ◌+◌, ℕ, true, List, [], ◌∷◌, ◌++◌, length, take, get_or, Contains, Option, Some, None, refl, sym, ap}
use Rattle.std.proofs.Common.{◌∙◌, subst, inl, inr, arith}
use Rattle.std.specs.Prelude.{IfSome}
use Rattle.std.specs.Ordering.{ord_max, nat_cmp}
use Rattle.std.proofs.lemmas.Bool.Decides.{nat_tests}
use Rattle.clause_log.specs.Derivations.{Resolves}
use Rattle.sat_core.specs.declared.chain.Resolution.{Resolution}
use Rattle.cnf.specs.declared.lit.Lit.{Lit}
use Rattle.cnf.specs.Clauses.{opposite}
use Rattle.sat_core.specs.declared.clause_ref.ClauseRef.{ClauseRef}
use Rattle.sat_core.specs.declared.trail.Step.{Step}
use Rattle.sat_core.specs.Search.{ClauseLists, HasClause, clause_of, IsDerivation, AllFalse, Forces, Justifies, Justified, IsTrail}
use Rattle.sat_core.specs.Search.{lit_at, step_at, opens_level}
use Rattle.sat_core.specs.Learning.{OthersFalse, SameReference, Asserts}
use Rattle.sat_core.proofs.Trails.{opposite-opposite, MadeTrue-later, one_place}
use Rattle.sat_core.proofs.Chains.{before_or_at, IsDerivation-push}
use Rattle.sat_core.proofs.Members.{more_cases}

abbrev pub link_of : ℕ → ClauseRef → Resolution
link_of var reason = record { var = var; reason = reason }

some_same : (a b : ℕ) → Some a ≡ Some b → a ≡ b
some_same a b e = cc

module _ (steps : List Step) (places : List (Option ℕ)) (trail : IsTrail steps places) where
  -- a literal that was made false last stands last
  pub others_least : (n p : ℕ) (x but : Lit) (clause : List Lit) → OthersFalse steps n clause but → n ≤ length steps
      → Contains clause x → (x ≡ but → ⊥) → p < length steps → lit_at steps p ≡ opposite x → p + 1 ≤ n
  others_least n p x but clause others le has other h e =
      elim (others x has) [
        | inl same ↦ absurd (other same)
        | inr t ↦
            let at : t.0 ≡ p = one_place steps places trail t.0 p (omega (arith, t.1)) h (ap (λ (l : Lit). l.var) (t.2 ∙ sym e)) in
            omega (arith, t.1, at)
      ]

module _ (steps : List Step) (xs : List Lit) (i : ℕ) (x : Lit) (h : i < length xs) (e : x ≡ get_or xs i x) where
  pub others-skip : (n : ℕ) (but : Lit) → x ≡ but → OthersFalse steps n (take i xs) but
      → OthersFalse steps n (take (i + 1) xs) but
  others-skip n but same o m c = elim (more_cases xs i x h e m c) [ inl old ↦ o m old | inr new ↦ inl (sym new ∙ same) ]

  pub others-more : (n later p : ℕ) (but : Lit) → n ≤ later → p < later → lit_at steps p ≡ opposite x
      → OthersFalse steps n (take i xs) but → OthersFalse steps later (take (i + 1) xs) but
  others-more n later p but le lt at o m c = elim (more_cases xs i x h e m c) [
    | inl old ↦ elim (o m old) [ inl s ↦ inl s | inr t ↦ inr (MadeTrue-later steps n later (opposite m) le t) ]
    | inr new ↦ inr (p, lt, at ∙ ap opposite new)
  ]

-- literals false before the place after: all but the one at the place are false before it
pub others_before : (steps : List Step) (at : ℕ) (clause : List Lit) → AllFalse steps (at + 1) clause
    → OthersFalse steps at clause (opposite (lit_at steps at))
others_before steps at clause all m c = elim (before_or_at steps (at + 1) at (opposite m) refl (all m c)) [
  | inl before ↦ inr before
  | inr here ↦ inl (sym (opposite-opposite m) ∙ ap opposite (sym here))
]

pub AllFalse-later : (steps : List Step) (n m : ℕ) (clause : List Lit) → n ≤ m → AllFalse steps n clause
    → AllFalse steps m clause
AllFalse-later steps n m clause le all lit c = MadeTrue-later steps n m (opposite lit) le (all lit c)

-- where an opening stands between the others and the literal, the clause turns the trail there
pub turns_at : (steps : List Step) (places : List (Option ℕ)) (clause : List Lit) (at keep n : ℕ)
    → IsTrail steps places → at < length steps → Contains clause (opposite (lit_at steps at))
    → OthersFalse steps n clause (opposite (lit_at steps at)) → (n ≤ keep) × (keep < at + 1)
    → opens_level (step_at steps keep).reason ≡ true → Asserts steps clause (opposite (lit_at steps at)) keep
turns_at steps places clause at keep n trail h has others (le, lt) opens = record {
  within = omega arith;
  opens = opens;
  forces = record {
    has = has;
    others = λ m c. elim (others m c) [ inl s ↦ inl s | inr t ↦ inr (MadeTrue-later steps n keep (opposite m) le t) ];
  };
  free = λ p lt2 e.
      let same : p ≡ at = one_place steps places trail p at (omega arith) h e in
      absurd (omega arith);
}

pub turning_some : (steps : List Step) (places : List (Option ℕ)) (clause : List Lit) (at n : ℕ) (lit : Lit)
    (found : Option ℕ)
    → lit ≡ opposite (lit_at steps at) → IsTrail steps places → at < length steps → Contains clause lit
    → OthersFalse steps n clause lit
    → IfSome found (λ place. (n ≤ place) × (place < at + 1) × (opens_level (step_at steps place).reason ≡ true))
    → IfSome found (λ keep. Asserts steps clause (opposite (lit_at steps at)) keep)
turning_some steps places clause at n lit None e trail h has others found = tt
turning_some steps places clause at n lit (Some keep) e trail h has others found =
    turns_at steps places clause at keep n trail h (subst (λ (l : Lit). Contains clause l) e has)
    (subst (λ (l : Lit). OthersFalse steps n clause l) e others) (found.0, found.1) found.2

-- what justifies a step with a reason
pub justified_by : (k : ClauseLists) (steps : List Step) (at : ℕ) (step : Step) (reason : ClauseRef)
    → Justified k steps → at < length steps → step ≡ step_at steps at → step.reason ≡ Some reason
    → HasClause k reason × Forces steps at (clause_of k reason) step.lit
justified_by k steps at step reason justified h e is =
    let j = subst (λ (s : Step). Justifies k steps at s.lit s.reason) (sym e) (justified at h) in
    subst (λ (o : Option ClauseRef). Justifies k steps at step.lit o) is j

pub derived_step : (k kf : ClauseLists) (steps : List Step) (at : ℕ) (step : Step) (reason first new_first : ClauseRef)
    (resolutions new_links : List Resolution) (left after : List Lit) → step ≡ step_at steps at → step.reason ≡ Some reason
    → SameReference k kf (step_at steps at).reason → Resolves left (clause_of kf reason) (opposite step.lit) after
    → (new_first ≡ first) × (new_links ≡ resolutions ++ link_of step.lit.var reason ∷ [])
    → IsDerivation k first resolutions left → IsDerivation k new_first new_links after
derived_step k kf steps at step reason first new_first resolutions new_links left after e is agrees r (f, l) d =
    let a = subst (λ (o : Option ClauseRef). SameReference k kf o) (ap (λ (s : Step). s.reason) (sym e) ∙ is) agrees in
    let r2 = subst (λ (c : List Lit). Resolves left c (opposite step.lit) after) (sym a.1) r in
    let pushed = IsDerivation-push k first left after resolutions (link_of step.lit.var reason) (opposite step.lit) d a.0 refl r2 in
    subst (λ (s : ClauseRef). IsDerivation k s new_links after) (sym f) (subst (λ (ls : List Resolution). IsDerivation k first ls after) (sym l) pushed)

pub max_left : (a b : ℕ) → a ≤ ord_max nat_cmp a b
max_left a b = grind (arith, nat_tests)

pub max_right : (a b : ℕ) → b ≤ ord_max nat_cmp a b
max_right a b = grind (arith, nat_tests)

pub max_least : (a b n : ℕ) → a ≤ n → b ≤ n → ord_max nat_cmp a b ≤ n
max_least a b n h k = grind (arith, nat_tests)
