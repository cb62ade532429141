-- The instances of components are a size: one more than those of the subcomponents together.
use Rattle.std.proofs.Common.{◌≡◌, ℕ, zero, suc, ◌+◌, ◌<◌, ◌≤◌, inl, inr, Bool, true, false, ◌||◌, cond, nat_lt, nat_eq, List, [], ◌∷◌, length, map}
use Rattle.std.proofs.Common.{get_or, Option, Some, None, refl, sym, ap, subst, ◌∙◌, arith}
use Rattle.std.proofs.lemmas.Bool.{cases_lt, lt-ltb, le-ltb, ltb-true, false≢true, eq-eqb}
use Rattle.std.proofs.lemmas.List.Sums.{sum_by-cons, count_by-le-length}
use Rattle.std.proofs.lemmas.Option.{slice_get_past}
use Rattle.std.specs.List.{list_any, sum_by, count_by, cons_option}
use Rattle.std.specs.Option.{option_map_or}
use Rattle.oss_syntax.specs.Trees.{Component}
use Rattle.spec_names.specs.declared.directory.Directory.{Directory}
use Rattle.spec_names.specs.declared.refinements.RefinementTables.{RefinementTables}
use Rattle.spec_names.specs.Directory.{AreRefinements, RanksFall, IsDirectoryOf}
use Rattle.spec_names.specs.NamesFaults.{parts_at, is_sub_of, has_sub}
use Rattle.spec_names.specs.Scopes.{is_named, SubDeclaration, sub_declarations, component_place, refinement_parts}
use Rattle.spec_names.proofs.Lists.{position_within}
use Rattle.spec_limits.specs.LimitFaults.{instances_to, instances}
use Rattle.spec_limits.specs.Counting.{places_among, inner_at, IsSize}

-- how many numbers of a list are below one

abbrev pub below : ℕ → List ℕ → ℕ
below r ks = count_by (λ k. nat_lt k r) ks

-- 1 for true
abbrev one_if : Bool → ℕ
one_if t = cond t 1 0

below-cons : (r k : ℕ) (ks : List ℕ) → below r (k ∷ ks) ≡ one_if (nat_lt k r) + below r ks
below-cons r k ks = sum_by-cons (λ n. one_if (nat_lt n r)) k ks

one_le : (k a b : ℕ) (t : Bool) → a ≤ b → nat_lt k a ≡ t → one_if t ≤ one_if (nat_lt k b)
one_le k a b true l e =
    let h : nat_lt k b ≡ true = lt-ltb k b (let m = ltb-true k a e in omega (arith, m, l)) in
    subst (λ t. 1 ≤ one_if t) (sym h) (omega arith)
one_le k a b false l e = omega arith

below_le : (a b : ℕ) (ks : List ℕ) → a ≤ b → below a ks ≤ below b ks
below_le a b [] l = omega arith
below_le a b (k ∷ ks) l =
    let one = one_le k a b (nat_lt k a) l refl in
    let rest = below_le a b ks l in
    let x = below-cons a k ks in
    let y = below-cons b k ks in
    omega (arith, one, rest, x, y)

-- a number of the list is below a greater one, and not below itself
below_less : (a b i : ℕ) (ks : List ℕ) → a < b → i < length ks → get_or ks i 0 ≡ a → below a ks < below b ks
below_less a b i [] l w e = let h : i < 0 = w in absurd (omega (arith, h))
below_less a b zero (k ∷ ks) l w e =
    let h : k ≡ a = e in
    let none : one_if (nat_lt k a) ≡ 0 = ap one_if (le-ltb k a (omega (arith, h))) in
    let one : one_if (nat_lt k b) ≡ 1 = ap one_if (lt-ltb k b (omega (arith, h, l))) in
    let rest = below_le a b ks (omega (arith, l)) in
    let x = below-cons a k ks in
    let y = below-cons b k ks in
    omega (arith, none, one, rest, x, y)
below_less a b (suc i) (k ∷ ks) l w e =
    let h : suc i < suc (length ks) = w in
    let one = one_le k a b (nat_lt k a) (omega (arith, l)) refl in
    let rest = below_less a b i ks l (omega (arith, h)) e in
    let x = below-cons a k ks in
    let y = below-cons b k ks in
    omega (arith, one, rest, x, y)

-- instances, where ranks fall along subcomponents

module _ (components : List Component) (ranks : List ℕ) (fall : RanksFall components ranks) where
  -- how many components have a lesser rank
  abbrev height : ℕ → ℕ
  height place = below (get_or ranks place 0) ranks

  abbrev subs : ℕ → List SubDeclaration
  subs place = sub_declarations (parts_at components place)

  abbrev of_sub : (ℕ → ℕ) → SubDeclaration → ℕ
  of_sub size sub = option_map_or size (component_place components sub.component.text) 0

  -- only a component has subcomponents
  outer_within : (outer inner : ℕ) → has_sub components outer inner ≡ true → outer < length components
  outer_within outer inner has =
      elim (cases_lt outer (length components)) [
        | inl l ↦ l
        | inr l ↦ absurd (false≢true (sym (ap (λ o. list_any (is_sub_of components inner) (sub_declarations (option_map_or refinement_parts o [])))
            (slice_get_past components outer l)) ∙ has))
      ]

  height_falls : (outer inner : ℕ) → inner < length components → has_sub components outer inner ≡ true
      → height inner < height outer
  height_falls outer inner l has =
      let count = fall.count in
      below_less (get_or ranks inner 0) (get_or ranks outer 0) inner ranks (fall.falls outer inner (outer_within outer inner has) has)
      (omega (arith, l, count)) refl

  -- what holds of the components of all subcomponents in a list
  abbrev OfAll : (ℕ → Type 0) → List SubDeclaration → Type 0
  OfAll P xs = (s : ℕ) → s < length components → list_any (is_sub_of components s) xs ≡ true → P s

  or_here : (a b : Bool) → b ≡ true → (a || b) ≡ true
  or_here true b e = refl
  or_here false b e = e

  of_rest : (P : ℕ → Type 0) (x : SubDeclaration) (xs : List SubDeclaration) → OfAll P (x ∷ xs) → OfAll P xs
  of_rest P x xs all = λ s l has. all s l (or_here (is_sub_of components s x) (list_any (is_sub_of components s) xs) has)

  of_first : (P : ℕ → Type 0) (x : SubDeclaration) (xs : List SubDeclaration) (s : ℕ) → OfAll P (x ∷ xs)
      → component_place components x.component.text ≡ Some s → P s
  of_first P x xs s all at =
      all s (position_within (λ (c : Component). is_named x.component.text c.name) components s at)
      (ap (λ o. option_map_or (nat_eq s) o false || list_any (is_sub_of components s) xs) at
      ∙ ap (λ b. b || list_any (is_sub_of components s) xs) (eq-eqb s s refl))

  of_same : (f g : ℕ → ℕ) (x : SubDeclaration) (xs : List SubDeclaration) (o : Option ℕ) → OfAll (λ s. f s ≡ g s) (x ∷ xs)
      → component_place components x.component.text ≡ o → of_sub f x ≡ of_sub g x
  of_same f g x xs None all e = ap (λ o. option_map_or f o 0) e ∙ sym (ap (λ o. option_map_or g o 0) e)
  of_same f g x xs (Some s) all e =
      ap (λ o. option_map_or f o 0) e ∙ (of_first (λ s. f s ≡ g s) x xs s all e ∙ sym (ap (λ o. option_map_or g o 0) e))

  of_none : (f : ℕ → ℕ) (x : SubDeclaration) (xs : List SubDeclaration) (o : Option ℕ) → OfAll (λ s. ⊥) (x ∷ xs)
      → component_place components x.component.text ≡ o → of_sub f x ≡ 0
  of_none f x xs None all e = ap (λ o. option_map_or f o 0) e
  of_none f x xs (Some s) all e = absurd (of_first (λ s. ⊥) x xs s all e)

  sums_same : (f g : ℕ → ℕ) (xs : List SubDeclaration) → OfAll (λ s. f s ≡ g s) xs
      → sum_by (of_sub f) xs ≡ sum_by (of_sub g) xs
  sums_same f g [] all = refl
  sums_same f g (x ∷ xs) all =
      sum_by-cons (of_sub f) x xs
      ∙ ((λ j. of_same f g x xs (component_place components x.component.text) all refl j + sums_same f g xs (of_rest (λ s. f s ≡ g s) x xs all) j)
      ∙ sym (sum_by-cons (of_sub g) x xs))

  sums_none : (f : ℕ → ℕ) (xs : List SubDeclaration) → OfAll (λ s. ⊥) xs → sum_by (of_sub f) xs ≡ 0
  sums_none f [] none = refl
  sums_none f (x ∷ xs) none =
      let first = of_none f x xs (component_place components x.component.text) none refl in
      let rest = sums_none f xs (of_rest (λ s. ⊥) x xs none) in
      let all = sum_by-cons (of_sub f) x xs in
      omega (arith, first, rest, all)

  -- no instance is deeper than the height
  stable : (depth place : ℕ) → height place ≤ depth → instances_to components (suc depth) place
      ≡ instances_to components depth place
  stable zero place l =
      ap (λ n. 1 + n) (sums_none (instances_to components 0) (subs place)
      (λ s w has. let less = height_falls place s w has in omega (arith, less, l)))
  stable (suc depth) place l =
      ap (λ n. 1 + n) (sums_same (instances_to components (suc depth)) (instances_to components depth) (subs place)
      (λ s w has. let less = height_falls place s w has in stable depth s (omega (arith, less, l))))

  counts : (place : ℕ) → instances components place ≡ 1 + sum_by (of_sub (instances components)) (subs place)
  counts place =
      let most = count_by-le-length (λ k. nat_lt k (get_or ranks place 0)) ranks in
      let count = fall.count in
      sym (stable (length components) place (omega (arith, most, count)))

-- the same by the tables of the refinements

cons_sum : (size : ℕ → ℕ) (o : Option ℕ) (rest : List ℕ) → sum_by size (cons_option o rest)
    ≡ option_map_or size o 0 + sum_by size rest
cons_sum size None rest = let same : sum_by size rest ≡ 0 + sum_by size rest = omega arith in same
cons_sum size (Some y) rest = sum_by-cons size y rest

among : {A : Type 0} (size : ℕ → ℕ) (f : A → Option ℕ) (xs : List A)
    → sum_by size (places_among (map f xs)) ≡ sum_by (λ x. option_map_or size (f x) 0) xs
among size f [] = refl
among size f (x ∷ xs) =
    cons_sum size (f x) (places_among (map f xs))
    ∙ (ap (λ n. option_map_or size (f x) 0 + n) (among size f xs) ∙ sym (sum_by-cons (λ y. option_map_or size (f y) 0) x xs))

inner_sum : (all components : List Component) (tables : List RefinementTables) (place : ℕ) (size : ℕ → ℕ)
    → AreRefinements all components tables
    → sum_by size (inner_at tables place)
    ≡ sum_by (λ (sub : SubDeclaration). option_map_or size (component_place all sub.component.text) 0) (sub_declarations (parts_at components place))
inner_sum all [] [] place size are = refl
inner_sum all [] (t ∷ tables) place size are = absurd are
inner_sum all (c ∷ components) [] place size are = absurd are
inner_sum all (c ∷ components) (t ∷ tables) zero size are =
    ap (λ list. sum_by size (places_among list)) are.0.places
    ∙ among size (λ (sub : SubDeclaration). component_place all sub.component.text) (sub_declarations (refinement_parts c))
inner_sum all (c ∷ components) (t ∷ tables) (suc place) size are = inner_sum all components tables place size are.1

pub instances_are_size : (components : List Component) (d : Directory) → IsDirectoryOf components d
    → IsSize d.refinements.items (instances components)
instances_are_size components d is = λ place.
    counts components d.ranks.items is.ranks place
    ∙ ap (λ n. 1 + n) (sym (inner_sum components components d.refinements.items place (instances components) is.refinements))
