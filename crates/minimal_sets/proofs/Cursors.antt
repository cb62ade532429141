-- How a search for minimal members goes on, and what it has found at its end.
use Rattle.std.proofs.Common.{◌≡◌, ◌≢◌, ℕ, zero, suc, ◌+◌, ◌-◌, ◌*◌, ◌^◌, ◌<◌, ◌≤◌, ◌⊎◌, inl, inr, ◌↔◌, List, [], ◌∷◌, ◌++◌, length, get_or, min, bit_and}
use Rattle.std.proofs.Common.{refl, sym, ap, ◌∙◌, arith, subst}
use Rattle.std.specs.Prelude.{All, AllPairs, Contains}
use Rattle.std.specs.Int.{bit_at}
use Rattle.std.proofs.lemmas.Bool.{cases_lt}
use Rattle.std.proofs.lemmas.Nat.{pow_pos, and_le_r}
use Rattle.std.proofs.lemmas.Nat.Bits.{bit_at_ones, bit_at_ones_above, bit_at_and, bit_at_above, bit_at-lt, same_from_bits}
use Rattle.std.proofs.Math.Nat.{mul-suc}
use Rattle.std.proofs.lemmas.List.Elements.{All-push, All-contains, All-weaker, Contains-append_left, Contains-push}
use Rattle.std.proofs.lemmas.List.Quantifiers.{all_pairs_push}
use Rattle.port_types.specs.Sets.{HasPlace, IsSubset}
use Rattle.port_types.specs.declared.sets.Set24.{Set24}
use Rattle.minimal_sets.specs.Families.{IsUpwardClosed, IsSameFamily, LiesBelow, IsMinimalMember, IsMaximalOutside, ListsExactly}
use Rattle.minimal_sets.specs.Searches.{HasSubsetIn, HasSupersetIn, IsSettled, IsUnsettled, AreSettled, IsSearch, Grows}
use Rattle.minimal_sets.proofs.PlaceByPlace.{ByMembers}

pub search_start : (n : ℕ) (F : Set24 → Type 0) → IsSearch n F 0 [] []
search_start n F = record {
  minimal = λ k d short. absurd (omega (arith, short));
  maximal = λ k d short. absurd (omega (arith, short));
  members_once = λ i j d before last. absurd (omega (arith, last));
  outside_once = λ i j d before last. absurd (omega (arith, last));
  settled = λ s from until. absurd (omega (arith, until));
}

-- the block after the sets that are settled is settled too
pub search_past : (n : ℕ) (F : Set24 → Type 0) (members outside : List Set24) (next past : ℕ)
    → IsSearch n F next members outside
    → AreSettled members outside next past → IsSearch n F past members outside
search_past n F members outside next past s block = record {
  minimal = s.minimal;
  maximal = s.maximal;
  members_once = s.members_once;
  outside_once = s.outside_once;
  settled = λ t from until. elim (cases_lt t.bits next) [
    | inl before ↦ s.settled t from before
    | inr later ↦ block t later until
  ];
}

-- one minimal member more
pub search_member : (n : ℕ) (F : Set24 → Type 0) (members outside : List Set24) (set found : Set24) (past : ℕ)
    → IsSearch n F set.bits members outside → IsUnsettled members outside set → IsMinimalMember n F found
    → IsSubset found set → ((s : Set24) → set.bits ≤ s.bits → s.bits < past → IsSubset found s)
    → IsSearch n F past (members ++ found ∷ []) outside
search_member n F members outside set found past s new minimal within block = record {
  minimal = All-push (IsMinimalMember n F) members found s.minimal minimal;
  maximal = s.maximal;
  members_once = all_pairs_push (λ a b. a ≢ b) members found s.members_once
      (λ k d short same. new.no_subset k d short (subst (λ (m : Set24). IsSubset m set) (sym same) within));
  outside_once = s.outside_once;
  settled = λ t from until. elim (cases_lt t.bits set.bits) [
    | inl before ↦ elim (s.settled t from before) [
      | inl below ↦ inl (record {
        known = below.known;
        listed = Contains-append_left members (found ∷ []) below.known below.listed;
        subset = below.subset;
      })
      | inr above ↦ inr above
    ]
    | inr later ↦ inl (record { known = found; listed = Contains-push members found; subset = block t later until })
  ];
}

-- one maximal set outside more
pub search_outside : (n : ℕ) (F : Set24 → Type 0) (members outside : List Set24) (set found : Set24) (past : ℕ)
    → IsSearch n F set.bits members outside → IsUnsettled members outside set → IsMaximalOutside n F found
    → IsSubset set found → ((s : Set24) → set.bits ≤ s.bits → s.bits < past → IsSubset s found)
    → IsSearch n F past members (outside ++ found ∷ [])
search_outside n F members outside set found past s new maximal within block = record {
  minimal = s.minimal;
  maximal = All-push (IsMaximalOutside n F) outside found s.maximal maximal;
  members_once = s.members_once;
  outside_once = all_pairs_push (λ a b. a ≢ b) outside found s.outside_once
      (λ k d short same. new.no_superset k d short (subst (IsSubset set) (sym same) within));
  settled = λ t from until. elim (cases_lt t.bits set.bits) [
    | inl before ↦ elim (s.settled t from before) [
      | inl below ↦ inl below
      | inr above ↦ inr (record {
        known = above.known;
        listed = Contains-append_left outside (found ∷ []) above.known above.listed;
        superset = above.superset;
      })
    ]
    | inr later ↦ inr (record { known = found; listed = Contains-push outside found; superset = block t later until })
  ];
}

-- every set of numbers below n has a number below the end
abbrev pub AreAllBefore : ℕ → ℕ → Type 0
AreAllBefore n end = (s : Set24) → LiesBelow n s → s.bits < end

pub members_exactly : (n : ℕ) (F : Set24 → Type 0) → IsUpwardClosed F → (end : ℕ) → AreAllBefore n end
    → (members outside : List Set24) → IsSearch n F end members outside → ListsExactly (IsMinimalMember n F) members
members_exactly n F upward end all members outside s = record {
  each = s.minimal;
  every = λ t minimal. elim (s.settled t (omega arith) (all t minimal.below)) [
    | inl below ↦
        let known : IsMinimalMember n F below.known = All-contains (IsMinimalMember n F) members below.known s.minimal below.listed in
        subst (Contains members) (minimal.least below.known below.subset known.belongs) below.listed
    | inr above ↦
        let known : IsMaximalOutside n F above.known = All-contains (IsMaximalOutside n F) outside above.known s.maximal above.listed in
        absurd (known.outside (upward t above.known above.superset minimal.belongs))
  ];
  once = s.members_once;
}

pub outside_exactly : (n : ℕ) (F : Set24 → Type 0) → IsUpwardClosed F → (end : ℕ) → AreAllBefore n end
    → (members outside : List Set24) → IsSearch n F end members outside → ListsExactly (IsMaximalOutside n F) outside
outside_exactly n F upward end all members outside s = record {
  each = s.maximal;
  every = λ t maximal. elim (s.settled t (omega arith) (all t maximal.below)) [
    | inl below ↦
        let known : IsMinimalMember n F below.known = All-contains (IsMinimalMember n F) members below.known s.minimal below.listed in
        absurd (maximal.outside (upward below.known t below.subset known.belongs))
    | inr above ↦
        let known : IsMaximalOutside n F above.known = All-contains (IsMaximalOutside n F) outside above.known s.maximal above.listed in
        subst (Contains outside) (maximal.greatest above.known known.below above.superset known.outside) above.listed
  ];
  once = s.outside_once;
}

-- ---- the same families

pub same_then : (F G H : Set24 → Type 0) → IsSameFamily F G → IsSameFamily G H → IsSameFamily F H
same_then F G H first second = λ s. (
  λ member. (second s).0 ((first s).0 member),
  λ member. (first s).1 ((second s).1 member),
)

pub same_back : (F G : Set24 → Type 0) → IsSameFamily F G → IsSameFamily G F
same_back F G same = λ s. ((same s).1, (same s).0)

pub minimal_same : (n : ℕ) (F G : Set24 → Type 0) → IsSameFamily F G → (s : Set24) → IsMinimalMember n F s
    → IsMinimalMember n G s
minimal_same n F G same s minimal = record {
  below = minimal.below;
  belongs = (same s).0 minimal.belongs;
  least = λ t within member. minimal.least t within ((same t).1 member);
}

pub maximal_same : (n : ℕ) (F G : Set24 → Type 0) → IsSameFamily F G → (s : Set24) → IsMaximalOutside n F s
    → IsMaximalOutside n G s
maximal_same n F G same s maximal = record {
  below = maximal.below;
  outside = λ member. maximal.outside ((same s).1 member);
  greatest = λ t below within out. maximal.greatest t below within (λ member. out ((same t).0 member));
}

pub search_same : (n : ℕ) (F G : Set24 → Type 0) → IsSameFamily F G → (next : ℕ) (members outside : List Set24)
    → IsSearch n F next members outside → IsSearch n G next members outside
search_same n F G same next members outside s = record {
  minimal = All-weaker (IsMinimalMember n F) (IsMinimalMember n G) (minimal_same n F G same) members s.minimal;
  maximal = All-weaker (IsMaximalOutside n F) (IsMaximalOutside n G) (maximal_same n F G same) outside s.maximal;
  members_once = s.members_once;
  outside_once = s.outside_once;
  settled = s.settled;
}

-- ---- numbers of sets

ones_below : (n : ℕ) (all : Set24) → ((p : ℕ) → HasPlace all p ↔ (p < n)) → all.bits ≡ 2 ^ n - 1
ones_below n all has = same_from_bits all.bits (2 ^ n - 1) (λ p.
    elim (cases_lt p n) [
      | inl low ↦ (has p).1 low ∙ sym (bit_at_ones n p low)
      | inr high ↦
          let none : bit_at all.bits p ≡ 0 =
          elim (cases_lt (bit_at all.bits p) 1) [
            | inl zero' ↦ omega (arith, zero')
            | inr some ↦ absurd (omega (arith, high, (has p).0 (omega (arith, some, bit_at-lt all.bits p))))
          ] in
          none ∙ sym (bit_at_ones_above n p high)
    ])

-- a number up to that of the set of all places below n has places below n alone
pub below_all : (n : ℕ) (all : Set24) → ((p : ℕ) → HasPlace all p ↔ (p < n)) → (bits : ℕ) → bits ≤ all.bits
    → (p : ℕ) → bit_at bits p ≡ 1 → p < n
below_all n all has bits upto p in' =
    elim (cases_lt p n) [
      | inl low ↦ low
      | inr high ↦
          let small : bits < 2 ^ n = omega (arith, upto, ones_below n all has, pow_pos n) in
          absurd (omega (arith, in', bit_at_above bits n p small high))
    ]

least_and : (a b : ℕ) → ((p : ℕ) → bit_at a p ≡ 1 → bit_at b p ≡ 1) → bit_and a b ≡ a
least_and a b h = same_from_bits (bit_and a b) a (λ p.
    let m : bit_at (bit_and a b) p ≡ min (bit_at a p) (bit_at b p) = bit_at_and a b p in
    elim (cases_lt (bit_at a p) 1) [
      | inl none ↦ omega (arith, m, none)
      | inr some ↦ let one : bit_at a p ≡ 1 = omega (arith, bit_at-lt a p, some) in omega (arith, m, one, h p one)
    ])

-- and the number of such a set is at most that
pub all_before : (n : ℕ) (all : Set24) → ((p : ℕ) → HasPlace all p ↔ (p < n)) → (end : ℕ) → all.bits < end
    → AreAllBefore n end
all_before n all has end past = λ s below.
    let within : bit_and s.bits all.bits ≡ s.bits = least_and s.bits all.bits (λ p in'. (has p).1 (below p in')) in
    omega (arith, past, within, and_le_r s.bits all.bits)

-- ---- counts

pub grows_none : (n now sets : ℕ) → Grows n now now sets sets
grows_none n now sets = omega arith

pub grows_one : (n before now sets more : ℕ) → now ≤ before + (n + 1) → more ≡ sets + 1 → Grows n before now sets more
grows_one n before now sets more rise e =
    let e' : more ≡ suc sets = omega (arith, e) in
    let next : (n + 1) * more ≡ (n + 1) * sets + (n + 1) = ap (λ (m : ℕ). (n + 1) * m) e' ∙ mul-suc (n + 1) sets in
    omega (arith, rise, next)

pub grows_on : (n start before now sets more : ℕ) → before ≤ start + (n + 1) * sets → Grows n before now sets more
    → now ≤ start + (n + 1) * more
grows_on n start before now sets more upto grows = omega (arith, upto, grows)
