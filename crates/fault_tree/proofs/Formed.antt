-- The unions that the code forms are those of the definition, and as many as its width says.
use Rattle.std.proofs.Common.{◌≡◌, ℕ, suc, ◌+◌, ◌*◌, inl, inr, ◌↔◌, List, [], ◌∷◌, map, length, length-append, refl, sym, ap, ◌∙◌, arith, subst}
use Rattle.std.specs.Prelude.{Contains}
use Rattle.std.specs.List.{flat_map}
use Rattle.std.proofs.lemmas.List.Elements.{Contains-append_left, Contains-append_right, Contains-append_cases}
use Rattle.std.proofs.Math.Nat.{suc-mul}
use Rattle.std.proofs.lemmas.List.Sums.{sum_by-cons}
use Rattle.fault_tree.specs.Leaves.{IsRising, IsMinimalOf, AreMinimalOf}
use Rattle.fault_tree.specs.Trees.{IsChoice, IsUnionOf, IsFormed, product, width}
use Rattle.fault_tree.specs.Forming.{merged, times, cut_unions, all_unions}
use Rattle.fault_tree.specs.Tables.{AllRising}
use Rattle.fault_tree.proofs.Elements.{in_head, in_tail, in_cases, in_none, rising_none, same_rising}
use Rattle.fault_tree.proofs.Merging.{merged_has, merged_keeps, merged_rising}

-- ---- elements of lists of lists

pub flat_has : {A B : Type 0} (f : A → List B) (xs : List A) (y : B) → Contains (flat_map f xs) y
    → (x : A) × Contains xs x × Contains (f x) y
flat_has f [] y at = absurd (in_none y at)
flat_has f (x ∷ xs) y at =
    elim (Contains-append_cases (f x) (flat_map f xs) y at) [
      | inl here ↦ (x, in_head x xs, here)
      | inr later ↦ let found = flat_has f xs y later in (found.0, in_tail x found.0 xs found.1, found.2)
    ]

pub flat_keeps : {A B : Type 0} (f : A → List B) (xs : List A) (x : A) (y : B) → Contains xs x → Contains (f x) y
    → Contains (flat_map f xs) y
flat_keeps f [] x y at in' = absurd (in_none x at)
flat_keeps f (z ∷ xs) x y at in' =
    elim (in_cases z x xs at) [
      | inl same ↦ Contains-append_left (f z) (flat_map f xs) y (subst (λ w. Contains (f w) y) (sym same) in')
      | inr later ↦ Contains-append_right (f z) (flat_map f xs) y (flat_keeps f xs x y later in')
    ]

map_has : {A B : Type 0} (f : A → B) (xs : List A) (y : B) → Contains (map f xs) y → (x : A) × Contains xs x × (f x ≡ y)
map_has f [] y at = absurd (in_none y at)
map_has f (x ∷ xs) y at =
    elim (in_cases (f x) y (map f xs) at) [
      | inl same ↦ (x, in_head x xs, same)
      | inr later ↦ let found = map_has f xs y later in (found.0, in_tail x found.0 xs found.1, found.2)
    ]

map_keeps : {A B : Type 0} (f : A → B) (xs : List A) (x : A) → Contains xs x → Contains (map f xs) (f x)
map_keeps f [] x at = absurd (in_none x at)
map_keeps f (z ∷ xs) x at =
    elim (in_cases z x xs at) [
      | inl same ↦ subst (Contains (map f (z ∷ xs))) (ap f same) (in_head (f z) (map f xs))
      | inr later ↦ in_tail (f z) (f x) (map f xs) (map_keeps f xs x later)
    ]

-- ---- the unions of a cut

record IsPair (sets others : List (List ℕ)) (s : List ℕ) : Type 0 where
  first : List ℕ
  second : List ℕ
  first_in : Contains sets first
  second_in : Contains others second
  is : merged first second ≡ s

times_has : (sets others : List (List ℕ)) (s : List ℕ) → Contains (times sets others) s → IsPair sets others s
times_has sets others s at =
    let outer = flat_has (λ c. map (merged c) others) sets s at in
    let inner = map_has (merged outer.0) others s outer.2 in
    record { first = outer.0; second = inner.0; first_in = outer.1; second_in = inner.1; is = inner.2 }

times_keeps : (sets others : List (List ℕ)) (c u : List ℕ) → Contains sets c → Contains others u
    → Contains (times sets others) (merged c u)
times_keeps sets others c u at at' =
    flat_keeps (λ d. map (merged d) others) sets c (merged c u) at (map_keeps (merged c) others u at')

no_union : IsUnionOf [] []
no_union = record {
  rising = rising_none;
  each = λ x at. absurd (in_none x at);
  every = λ c at x in'. absurd (in_none c at);
}

union_more : (c u : List ℕ) (chosen : List (List ℕ)) → IsRising c → IsUnionOf chosen u → IsUnionOf (c ∷ chosen) (merged c u)
union_more c u chosen up is = record {
  rising = merged_rising c u up is.rising;
  each = λ x at. elim (merged_has c u x at) [
    | inl left ↦ (c, in_head c chosen, left)
    | inr right ↦ let found = is.each x right in (found.0, in_tail c found.0 chosen found.1, found.2)
  ];
  every = λ d at x in'. elim (in_cases c d chosen at) [
    | inl same ↦ merged_keeps c u x (inl (subst (λ w. Contains w x) (sym same) in'))
    | inr later ↦ merged_keeps c u x (inr (is.every d later x in'))
  ];
}

record IsChosen (sets : ℕ → List (List ℕ)) (cut s : List ℕ) : Type 0 where
  chosen : List (List ℕ)
  choice : IsChoice sets cut chosen
  union : IsUnionOf chosen s

unions_chosen : (sets : ℕ → List (List ℕ)) → AllRising sets → (cut s : List ℕ) → Contains (cut_unions sets cut) s
    → IsChosen sets cut s
unions_chosen sets up [] s at =
    elim (in_cases [] s [] at) [
      | inl same ↦ record { chosen = []; choice = tt; union = subst (IsUnionOf []) same no_union }
      | inr later ↦ absurd (in_none s later)
    ]
unions_chosen sets up (member ∷ cut) s at =
    let pair : IsPair (sets member) (cut_unions sets cut) s = times_has (sets member) (cut_unions sets cut) s at in
    let rest : IsChosen sets cut pair.second = unions_chosen sets up cut pair.second pair.second_in in
    record {
      chosen = pair.first ∷ rest.chosen;
      choice = (pair.first_in, rest.choice);
      union = subst (IsUnionOf (pair.first ∷ rest.chosen)) pair.is
          (union_more pair.first pair.second rest.chosen (up member pair.first pair.first_in) rest.union);
    }

record IsFound (sets : ℕ → List (List ℕ)) (cut : List ℕ) (chosen : List (List ℕ)) : Type 0 where
  union : List ℕ
  found : Contains (cut_unions sets cut) union
  is : IsUnionOf chosen union

chosen_found : (sets : ℕ → List (List ℕ)) → AllRising sets → (cut : List ℕ) (chosen : List (List ℕ)) → IsChoice sets cut chosen
    → IsFound sets cut chosen
chosen_found sets up [] [] choice = record { union = []; found = in_head [] []; is = no_union }
chosen_found sets up [] (c ∷ chosen) choice = absurd choice
chosen_found sets up (member ∷ cut) [] choice = absurd choice
chosen_found sets up (member ∷ cut) (c ∷ chosen) choice =
    let rest : IsFound sets cut chosen = chosen_found sets up cut chosen choice.1 in
    record {
      union = merged c rest.union;
      found = times_keeps (sets member) (cut_unions sets cut) c rest.union choice.0 rest.found;
      is = union_more c rest.union chosen (up member c choice.0) rest.is;
    }

one_union : (chosen : List (List ℕ)) (s t : List ℕ) → IsUnionOf chosen s → IsUnionOf chosen t → s ≡ t
one_union chosen s t is is' =
    same_rising s t is.rising is'.rising
    (λ x at. let from = is.each x at in is'.every from.0 from.1 x from.2)
    (λ x at. let from = is'.each x at in is.every from.0 from.1 x from.2)

-- ---- the unions of some cuts

pub formed_is : (sets : ℕ → List (List ℕ)) → AllRising sets → (cuts : List (List ℕ)) (s : List ℕ)
    → Contains (all_unions sets cuts) s ↔ IsFormed sets cuts s
formed_is sets up cuts s = (
  λ at.
      let from = flat_has (cut_unions sets) cuts s at in
      let is : IsChosen sets from.0 s = unions_chosen sets up from.0 s from.2 in
      record { cut = from.0; chosen = is.chosen; listed = from.1; choice = is.choice; union = is.union },
  λ formed.
      let is : IsFound sets formed.cut formed.chosen = chosen_found sets up formed.cut formed.chosen formed.choice in
      flat_keeps (cut_unions sets) cuts formed.cut s formed.listed
      (subst (Contains (cut_unions sets formed.cut)) (one_union formed.chosen is.union s is.is formed.union) is.found),
)

-- the minimal ones of sets that are the same
pub minimal_of_same : (P Q : List ℕ → Type 0) → ((s : List ℕ) → P s ↔ Q s) → (sets : List (List ℕ)) → AreMinimalOf P sets
    → AreMinimalOf Q sets
minimal_of_same P Q same sets is = record {
  each = λ k d short. let one : IsMinimalOf P _ = is.each k d short in record {
    holds = (same _).0 one.holds;
    least = λ t holds within. one.least t ((same t).1 holds) within;
  };
  every = λ s one. is.every s (record { holds = (same s).1 one.holds; least = λ t holds within. one.least t ((same t).0 holds) within });
  order = is.order;
}

-- ---- how many

length_map : {A B : Type 0} (f : A → B) (xs : List A) → length (map f xs) ≡ length xs
length_map f [] = refl
length_map f (x ∷ xs) = ap suc (length_map f xs)

length_times : (sets others : List (List ℕ)) → length (times sets others) ≡ length sets * length others
length_times [] others = omega arith
length_times (s ∷ sets) others =
    length-append (map (merged s) others) (times sets others)
    ∙ omega (arith, length_map (merged s) others, length_times sets others, suc-mul (length sets) (length others))

pub length_unions : (sets : ℕ → List (List ℕ)) (cut : List ℕ)
    → length (cut_unions sets cut) ≡ product (map (λ member. length (sets member)) cut)
length_unions sets [] = refl
length_unions sets (member ∷ cut) =
    length_times (sets member) (cut_unions sets cut) ∙ ap (λ (n : ℕ). length (sets member) * n) (length_unions sets cut)

-- ---- sets that agree on the members of cuts

abbrev pub AgreeOn : (ℕ → List (List ℕ)) → (ℕ → List (List ℕ)) → List ℕ → Type 0
AgreeOn sets sets' cut = (member : ℕ) → Contains cut member → sets member ≡ sets' member

agree_tail : (sets sets' : ℕ → List (List ℕ)) (m : ℕ) (cut : List ℕ) → AgreeOn sets sets' (m ∷ cut) → AgreeOn sets sets' cut
agree_tail sets sets' m cut agree = λ member at. agree member (in_tail m member cut at)

choice_agree : (sets sets' : ℕ → List (List ℕ)) (cut : List ℕ) (chosen : List (List ℕ)) → AgreeOn sets sets' cut
    → IsChoice sets cut chosen → IsChoice sets' cut chosen
choice_agree sets sets' [] [] agree choice = tt
choice_agree sets sets' [] (c ∷ chosen) agree choice = absurd choice
choice_agree sets sets' (m ∷ cut) [] agree choice = absurd choice
choice_agree sets sets' (m ∷ cut) (c ∷ chosen) agree choice = (
  subst (λ l. Contains l c) (agree m (in_head m cut)) choice.0,
  choice_agree sets sets' cut chosen (agree_tail sets sets' m cut agree) choice.1,
)

product_agree : (sets sets' : ℕ → List (List ℕ)) (cut : List ℕ) → AgreeOn sets sets' cut
    → product (map (λ member. length (sets member)) cut) ≡ product (map (λ member. length (sets' member)) cut)
product_agree sets sets' [] agree = refl
product_agree sets sets' (m ∷ cut) agree =
    ap (λ (l : List (List ℕ)). length l * product (map (λ member. length (sets member)) cut)) (agree m (in_head m cut))
    ∙ ap (λ (n : ℕ). length (sets' m) * n) (product_agree sets sets' cut (agree_tail sets sets' m cut agree))

pub width_agree : (sets sets' : ℕ → List (List ℕ)) (cuts : List (List ℕ))
    → ((cut : List ℕ) → Contains cuts cut → AgreeOn sets sets' cut) → width sets cuts ≡ width sets' cuts
width_agree sets sets' [] agree = refl
width_agree sets sets' (cut ∷ cuts) agree =
    sum_by-cons (λ c. product (map (λ member. length (sets member)) c)) cut cuts
    ∙ ap (λ (n : ℕ). n + width sets cuts) (product_agree sets sets' cut (agree cut (in_head cut cuts)))
    ∙ ap (λ (n : ℕ). product (map (λ member. length (sets' member)) cut) + n)
    (width_agree sets sets' cuts (λ other at. agree other (in_tail cut other cuts at)))
    ∙ sym (sum_by-cons (λ c. product (map (λ member. length (sets' member)) c)) cut cuts)

pub formed_agree : (sets sets' : ℕ → List (List ℕ)) (cuts : List (List ℕ))
    → ((cut : List ℕ) → Contains cuts cut → AgreeOn sets sets' cut) → (s : List ℕ) → IsFormed sets cuts s → IsFormed sets' cuts s
formed_agree sets sets' cuts agree s formed = record {
  cut = formed.cut;
  chosen = formed.chosen;
  listed = formed.listed;
  choice = choice_agree sets sets' formed.cut formed.chosen (agree formed.cut formed.listed) formed.choice;
  union = formed.union;
}
