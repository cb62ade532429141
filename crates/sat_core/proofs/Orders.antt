-- The order of a learnt clause's literals: the one that was made false last, and the two that come first.
use Rattle.std.proofs.Common.{◌≡◌, ◌≢◌, ◌<◌, ◌≤◌, ◌+◌, ◌⊎◌, ℕ, suc, List, [], ◌∷◌, length, take, get_or, Option, Some, None}
use Rattle.std.proofs.Common.{sym, ap, ◌∙◌, subst, inl, inr, arith}
use Rattle.std.specs.List.{Contains, slice_get}
use Rattle.cnf.specs.declared.lit.Lit.{Lit}
use Rattle.cnf.specs.Clauses.{opposite}
use Rattle.clause_log.specs.Derivations.{SameLits}
use Rattle.sat_core.specs.declared.trail.Step.{Step}
use Rattle.sat_core.specs.Search.{MadeTrue, IsWithout, lit_at}
use Rattle.sat_core.specs.Learning.{OthersFalse, IsLatest, IsWatchOrder}
use Rattle.sat_core.proofs.Trails.{MadeTrue-later}
use Rattle.sat_core.proofs.Members.{no_lits}
use Rattle.sat_core.proofs.Chains.{Contains-head}
use Rattle.sat_core.proofs.WatchLaws.{lit_or_not, head_lit}
use Rattle.sat_core.proofs.Propagating.{others_next}
use Rattle.sat_core.proofs.Keeping.{some_is}

-- where a literal stands, or that it is the one that is forced
abbrev pub PlaceAfter : List Step → Lit → Lit → ℕ → Type 0
PlaceAfter steps forced lit after =
    ((after ≡ 0) × (lit ≡ forced))
    ⊎ ((p : ℕ) × (after ≡ p + 1) × (lit ≢ forced) × (p < length steps) × (lit_at steps p ≡ opposite lit))

-- the last literal so far
abbrev pub LastSoFar : List Step → List Lit → Lit → ℕ → Option Lit → Type 0
LastSoFar steps lits forced end None = end ≡ 0
LastSoFar steps lits forced end (Some lit) =
    Contains lits lit × (lit ≢ forced) × ((p : ℕ) × (end ≡ p + 1) × (p < length steps) × (lit_at steps p ≡ opposite lit))

others_later : (steps : List Step) (n m : ℕ) (lits : List Lit) (but : Lit) → n ≤ m → OthersFalse steps n lits but
    → OthersFalse steps m lits but
others_later steps n m lits but le others lit c =
    elim (others lit c) [ inl e ↦ inl e | inr t ↦ inr (MadeTrue-later steps n m (opposite lit) le t) ]

false_by : (steps : List Step) (forced lit : Lit) (after end : ℕ) → after ≤ end → PlaceAfter steps forced lit after
    → (lit ≡ forced) ⊎ MadeTrue steps end (opposite lit)
false_by steps forced lit after end le (inl none) = inl none.1
false_by steps forced lit after end le (inr some) = inr (some.0, omega (arith, some.1), some.4)

-- one literal more
pub latest_next : (steps : List Step) (lits : List Lit) (forced : Lit) (i after end new : ℕ) (d : Lit) → i < length lits
    → PlaceAfter steps forced (get_or lits i d) after → end ≤ new → after ≤ new → OthersFalse steps end
    (take i lits) forced
    → OthersFalse steps new (take (i + 1) lits) forced
latest_next steps lits forced i after end new d low here le le' others =
    others_next steps new lits i d forced low (false_by steps forced (get_or lits i d) after new le' here)
    (others_later steps end new (take i lits) forced le others)

pub latest_here : (steps : List Step) (lits : List Lit) (forced : Lit) (after end : ℕ) (lit : Lit) → end < after
    → Contains lits lit
    → PlaceAfter steps forced lit after → LastSoFar steps lits forced after (Some lit)
latest_here steps lits forced after end lit less has (inl none) = absurd (omega (arith, none.0))
latest_here steps lits forced after end lit less has (inr some) = (has, some.2, (some.0, some.1, some.3, some.4))

-- all literals were looked at
pub latest_some : (steps : List Step) (lits : List Lit) (forced lit : Lit) (end : ℕ) → OthersFalse steps end lits forced
    → LastSoFar steps lits forced end (Some lit) → IsLatest steps lits forced lit
latest_some steps lits forced lit end others (has, other, (p, at, low, is)) =
    (has, other, (p, low, is, subst (λ n. OthersFalse steps n lits forced) at others))

pub latest_none : (steps : List Step) (lits : List Lit) (forced : Lit) (end : ℕ) → OthersFalse steps end lits forced
    → end ≡ 0 → (lit : Lit)
    → Contains lits lit → lit ≡ forced
latest_none steps lits forced end others at_start lit c =
    elim (others lit c) [ inl e ↦ e | inr t ↦ absurd (omega (arith, t.1, at_start)) ]

-- two literals first, and then all others
pub two_same : (lits others rest order : List Lit) (a b : Lit) → Contains lits a × Contains lits b
    → IsWithout lits a others
    → IsWithout others b rest → order ≡ a ∷ b ∷ rest → SameLits order lits
two_same lits others rest order a b (ha, hb) first second e m = (
  λ c. elim (head_lit a (b ∷ rest) m (subst (λ (l : List Lit). Contains l m) e c)) [
    | inl is ↦ subst (λ (l : Lit). Contains lits l) is ha
    | inr later ↦ elim (head_lit b rest m later) [
      | inl is ↦ subst (λ (l : Lit). Contains lits l) is hb
      | inr last ↦ ((first m).0 ((second m).0 last).0).0
    ]
  ],
  λ c. subst (λ (l : List Lit). Contains l m) (sym e) (elim (lit_or_not m a) [
    | inl is ↦ subst (λ (l : Lit). Contains (a ∷ b ∷ rest) l) (sym is) (Contains-head a (b ∷ rest))
    | inr na ↦ elim (lit_or_not m b) [
      | inl is ↦ behind a (b ∷ rest) m (subst (λ (l : Lit). Contains (b ∷ rest) l) (sym is) (Contains-head b rest))
      | inr nb ↦ behind a (b ∷ rest) m (behind b rest m ((second m).1 ((first m).1 (c, na), nb)))
    ]
  ]),
)
  where
    behind : (x : Lit) (xs : List Lit) (y : Lit) → Contains xs y → Contains (x ∷ xs) y
    behind x xs y c = (suc c.0, omega (arith, c.1), c.2)

-- these are in an order in which they can be watched
pub order_of_two : (steps : List Step) (lits order rest : List Lit) (forced second : Lit) → SameLits order lits
    → order ≡ forced ∷ second ∷ rest → IsLatest steps lits forced second → IsWatchOrder steps forced order
order_of_two steps lits order rest forced second same e (has, other, (p, low, at, others)) =
    let others' : OthersFalse steps (p + 1) order forced = λ lit c. others lit ((same lit).0 c) in
    let long : length order ≡ suc (suc (length rest)) = ap length e in
    record {
      first = ap (λ (l : List Lit). slice_get l 0) e;
      only = λ lit one c. absurd (omega (arith, long, one));
      second = λ lit read.
          let is : second ≡ lit = some_is second lit (sym (ap (λ (l : List Lit). slice_get l 1) e) ∙ read) in
          subst (λ (l : Lit). (l ≢ forced) × ((q : ℕ) × (q < length steps) × (lit_at steps q ≡ opposite l) × OthersFalse steps (q + 1) order forced)) is
          (other, (p, low, at, others'));
    }

-- the clause has the forced literal alone
pub one_same : (lits order : List Lit) (forced : Lit) → Contains lits forced →
    ((lit : Lit) → Contains lits lit → lit ≡ forced)
    → order ≡ forced ∷ [] → SameLits order lits
one_same lits order forced has all e m = (
  λ c. elim (head_lit forced [] m (subst (λ (l : List Lit). Contains l m) e c)) [
    | inl is ↦ subst (λ (l : Lit). Contains lits l) is has
    | inr none ↦ absurd (no_lits m none)
  ],
  λ c. subst (λ (l : List Lit). Contains l m) (sym e) (subst (λ (l : Lit). Contains (forced ∷ []) l) (sym (all m c)) (Contains-head forced [])),
)
