-- From a member to a minimal one and from a set outside to a maximal one, place by place.
use Rattle.std.proofs.Common.{◌≡◌, ℕ, zero, suc, ◌+◌, ◌<◌, ◌≤◌, ◌⊎◌, inl, inr, ◌↔◌, sym, ap, ◌∙◌, arith, subst}
use Rattle.std.specs.Int.{bit_at}
use Rattle.std.proofs.lemmas.Bool.{cases_lt, cases_eq}
use Rattle.std.proofs.lemmas.Nat.Bits.{bit_at-lt}
use Rattle.port_types.specs.Sets.{HasPlace, IsSubset}
use Rattle.port_types.specs.declared.sets.Set24.{Set24}
use Rattle.minimal_sets.specs.Families.{IsUpwardClosed, LiesBelow, IsMinimalMember, IsMaximalOutside}
use Rattle.minimal_sets.specs.Searches.{IsShrunk, IsGrown}

-- sets with the same members are the same: the law of sets, as a premise
abbrev pub ByMembers : Type 0
ByMembers = (s t : Set24) → ((p : ℕ) → HasPlace s p ↔ HasPlace t p) → s ≡ t

-- the second set is the first without a place
abbrev pub LeavesOut : Set24 → ℕ → Set24 → Type 0
LeavesOut set place less = (q : ℕ) → HasPlace less q ↔ ((q ≡ place → ⊥) × HasPlace set q)

-- the second set is the first with a place
abbrev pub PutsIn : Set24 → ℕ → Set24 → Type 0
PutsIn set place more = (q : ℕ) → HasPlace more q ↔ ((q ≡ place) ⊎ HasPlace set q)

has_or_not : (s : Set24) (p : ℕ) → HasPlace s p ⊎ (HasPlace s p → ⊥)
has_or_not s p = cases_eq (bit_at s.bits p) 1

pub itself : (s : Set24) → IsSubset s s
itself s = λ p has. has

pub chained : (a b c : Set24) → IsSubset a b → IsSubset b c → IsSubset a c
chained a b c first second = λ p has. second p (first p has)

pub both_ways : ByMembers → (s t : Set24) → IsSubset s t → IsSubset t s → s ≡ t
both_ways law s t first second = law s t (λ p. (first p, second p))

-- ---- members

pub shrunk_start : (F : Set24 → Type 0) (set : Set24) → F set → IsShrunk F set set 0
shrunk_start F set belongs = record {
  subset = λ p has. has;
  belongs = belongs;
  kept = λ p low has t within member. absurd (omega (arith, low));
}

-- the place is none of the set's
pub shrunk_without : (F : Set24 → Type 0) (set now : Set24) (p : ℕ) → (HasPlace now p → ⊥) → IsShrunk F set now p
    → IsShrunk F set now (p + 1)
shrunk_without F set now p lacks s = record {
  subset = s.subset;
  belongs = s.belongs;
  kept = λ q low has t within member. elim (cases_lt q p) [
    | inl before ↦ s.kept q before has t within member
    | inr past ↦ let e : q ≡ p = omega arith in absurd (lacks (subst (HasPlace now) e has))
  ];
}

-- what is left without the place still belongs
pub shrunk_less : (F : Set24 → Type 0) (set now less : Set24) (p : ℕ) → LeavesOut now p less → F less
    → IsShrunk F set now p
    → IsShrunk F set less (p + 1)
shrunk_less F set now less p out member s = record {
  subset = λ q has. s.subset q ((out q).0 has).1;
  belongs = member;
  kept = λ q low has t within belongs. elim (cases_lt q p) [
    | inl before ↦ s.kept q before ((out q).0 has).1 t (λ r in'. ((out r).0 (within r in')).1) belongs
    | inr past ↦ absurd (((out q).0 has).0 (omega arith))
  ];
}

-- what is left without the place does not belong
pub shrunk_kept : (F : Set24 → Type 0) → IsUpwardClosed F → (set now less : Set24) (p : ℕ) → LeavesOut now p less
    → (F less → ⊥) → IsShrunk F set now p → IsShrunk F set now (p + 1)
shrunk_kept F upward set now less p out lacks s = record {
  subset = s.subset;
  belongs = s.belongs;
  kept = λ q low has t within belongs. elim (cases_lt q p) [
    | inl before ↦ s.kept q before has t within belongs
    | inr past ↦
        let e : q ≡ p = omega arith in
        elim (has_or_not t q) [
          | inl in' ↦ in'
          | inr not' ↦ absurd (lacks (upward t less
              (λ r in'. (out r).1 ((λ (same : r ≡ p). not' (subst (HasPlace t) (same ∙ sym e) in')), within r in')) belongs))
        ]
  ];
}

pub shrunk_whole : (n : ℕ) (F : Set24 → Type 0) → ByMembers → (set now : Set24) → LiesBelow n set → IsShrunk F set now n
    → IsMinimalMember n F now
shrunk_whole n F law set now below s = record {
  below = λ p has. below p (s.subset p has);
  belongs = s.belongs;
  least = λ t within belongs. law t now (λ p. (
    within p,
    λ has. s.kept p (below p (s.subset p has)) has t within belongs,
  ));
}

-- ---- sets outside

pub grown_start : (n : ℕ) (F : Set24 → Type 0) (set : Set24) → LiesBelow n set → (F set → ⊥) → IsGrown n F set set 0
grown_start n F set below outside = record {
  superset = λ p has. has;
  below = below;
  outside = outside;
  lacked = λ p low t under within out has. absurd (omega (arith, low));
}

-- the place is one of the set's
pub grown_with : (n : ℕ) (F : Set24 → Type 0) (set now : Set24) (p : ℕ) → HasPlace now p → IsGrown n F set now p
    → IsGrown n F set now (p + 1)
grown_with n F set now p has s = record {
  superset = s.superset;
  below = s.below;
  outside = s.outside;
  lacked = λ q low t under within out in'. elim (cases_lt q p) [
    | inl before ↦ s.lacked q before t under within out in'
    | inr past ↦ let e : p ≡ q = omega arith in subst (HasPlace now) e has
  ];
}

-- with the place the set is still outside
pub grown_more : (n : ℕ) (F : Set24 → Type 0) (set now more : Set24) (p : ℕ) → p < n → PutsIn now p more → (F more → ⊥)
    → IsGrown n F set now p → IsGrown n F set more (p + 1)
grown_more n F set now more p small into outside s = record {
  superset = λ q has. (into q).1 (inr (s.superset q has));
  below = λ q has. elim ((into q).0 has) [ inl same ↦ omega (arith, same, small) | inr had ↦ s.below q had ];
  outside = outside;
  lacked = λ q low t under within out has. elim (cases_lt q p) [
    | inl before ↦ (into q).1 (inr (s.lacked q before t under (λ r in'. within r ((into r).1 (inr in'))) out has))
    | inr past ↦ (into q).1 (inl (omega arith))
  ];
}

-- with the place the set belongs
pub grown_kept : (n : ℕ) (F : Set24 → Type 0) → IsUpwardClosed F → (set now more : Set24) (p : ℕ) → PutsIn now p more
    → F more
    → IsGrown n F set now p → IsGrown n F set now (p + 1)
grown_kept n F upward set now more p into member s = record {
  superset = s.superset;
  below = s.below;
  outside = s.outside;
  lacked = λ q low t under within out has. elim (cases_lt q p) [
    | inl before ↦ s.lacked q before t under within out has
    | inr past ↦
        let e : q ≡ p = omega arith in
        absurd (out (upward more t (λ r in'. elim ((into r).0 in') [
          | inl same ↦ subst (HasPlace t) (e ∙ sym same) has
          | inr had ↦ within r had
        ]) member))
  ];
}

pub grown_whole : (n : ℕ) (F : Set24 → Type 0) → ByMembers → (set now : Set24) → IsGrown n F set now n
    → IsMaximalOutside n F now
grown_whole n F law set now s = record {
  below = s.below;
  outside = s.outside;
  greatest = λ t under within out. law t now (λ p. (
    λ has. s.lacked p (under p has) t under within out has,
    within p,
  ));
}
