-- Resolution along the trail: what is reached, and that its literals stay false.
use Rattle.std.proofs.Common.{◌≡◌, ◌+◌, ◌⊎◌, ℕ, false, List, [], ◌∷◌, ◌++◌, Contains, Some, refl, sym, ap, ◌∙◌, inl, inr, arith}
use Rattle.std.proofs.lemmas.Bool.{cases_eq}
use Rattle.cnf.specs.declared.lit.Lit.{Lit}
use Rattle.clause_log.specs.Derivations.{SameLits, Resolves}
use Rattle.sat_core.specs.declared.clause_ref.ClauseRef.{ClauseRef}
use Rattle.sat_core.specs.declared.clause_ref.ClauseRef.TheVariants.{Added, Learnt, Assumed}
use Rattle.sat_core.specs.declared.trail.Step.{Step}
use Rattle.sat_core.specs.declared.chain.Resolution.{Resolution}
use Rattle.sat_core.specs.Search.{ClauseLists, clause_lists, HasClause, clause_of, ResolvesTo, IsDerivation, lit_at, MadeTrue, AllFalse}
use Rattle.sat_core.specs.Search.{opens_level}

pub same-refl : (xs : List Lit) → SameLits xs xs
same-refl xs = λ lit. (λ h. h, λ h. h)

resolves-same : (xs ys right after : List Lit) (pivot : Lit) → SameLits xs ys → Resolves ys right pivot after
    → Resolves xs right pivot after
resolves-same xs ys right after pivot s r = record {
  on_left = (s pivot).1 r.on_left;
  on_right = r.on_right;
  resolvent = λ lit. (
    λ h. elim ((r.resolvent lit).0 h) [ inl l ↦ inl ((s lit).1 l.0, l.1) | inr x ↦ inr x ],
    λ h. (r.resolvent lit).1 (elim h [ inl l ↦ inl ((s lit).0 l.0, l.1) | inr x ↦ inr x ]),
  );
}

-- one resolution more
pub ResolvesTo-push : (k : ClauseLists) (so_far mid after : List Lit) (resolutions : List Resolution)
    (resolution : Resolution) (pivot : Lit)
    → ResolvesTo k so_far resolutions mid → HasClause k resolution.reason → pivot.var ≡ resolution.var
    → Resolves mid (clause_of k resolution.reason) pivot after → ResolvesTo k so_far
    (resolutions ++ resolution ∷ []) after
ResolvesTo-push k so_far mid after [] resolution pivot h names var r =
    (names, (pivot, after, var, resolves-same so_far mid (clause_of k resolution.reason) after pivot h r, same-refl after))
ResolvesTo-push k so_far mid after (l ∷ resolutions) resolution pivot h names var r =
    (h.0, (h.1.0, h.1.1, h.1.2, h.1.3, ResolvesTo-push k h.1.1 mid after resolutions resolution pivot h.1.4 names var r))

pub IsDerivation-push : (k : ClauseLists) (first : ClauseRef) (mid after : List Lit) (resolutions : List Resolution)
    (resolution : Resolution)
    (pivot : Lit) → IsDerivation k first resolutions mid → HasClause k resolution.reason → pivot.var ≡ resolution.var
    → Resolves mid (clause_of k resolution.reason) pivot after → IsDerivation k first
    (resolutions ++ resolution ∷ []) after
IsDerivation-push k first mid after resolutions resolution pivot d names var r =
    record { named = d.named; reached = ResolvesTo-push k (clause_of k first) mid after resolutions resolution pivot d.reached names var r }

pub IsDerivation-start : (k : ClauseLists) (first : ClauseRef) → HasClause k first
    → IsDerivation k first [] (clause_of k first)
IsDerivation-start k first names = record { named = names; reached = same-refl (clause_of k first) }

-- made true before the place after, or there
pub before_or_at : (steps : List Step) (n at : ℕ) (lit : Lit) → n ≡ at + 1 → MadeTrue steps n lit
    → MadeTrue steps at lit ⊎ (lit_at steps at ≡ lit)
before_or_at steps n at lit e t =
    elim (cases_eq t.0 at) [
      | inl here ↦ inr (ap (λ p. lit_at steps p) (sym here) ∙ t.2)
      | inr other ↦ inl (t.0, omega (arith, t.1, other), t.2)
    ]

pub Contains-head : (x : Lit) (xs : List Lit) → Contains (x ∷ xs) x
Contains-head x xs = (0, omega arith, refl)

-- nothing is false before the first place
pub none_false : (steps : List Step) (clause : List Lit) → AllFalse steps 0 clause → clause ≡ []
none_false steps [] h = refl
none_false steps (x ∷ xs) h = absurd (omega (arith, (h x (Contains-head x xs)).1))

-- a clause that was added or learnt needs no assumption
pub named_without : (added learnt : List (List Lit)) (assumed : List Lit) (reason : ClauseRef)
    → opens_level (Some reason) ≡ false → HasClause (clause_lists added learnt assumed) reason
    → HasClause (clause_lists added learnt []) reason ×
    (clause_of (clause_lists added learnt []) reason ≡ clause_of (clause_lists added learnt assumed) reason)
named_without added learnt assumed (Added place) o n = (n, refl)
named_without added learnt assumed (Learnt place) o n = (n, refl)
named_without added learnt assumed (Assumed place) o n = absurd (cc)
