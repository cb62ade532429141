-- The order after a variable comes in or goes to the front.
use Rattle.std.proofs.Common.{◌≡◌, ◌≢◌, ◌<◌, ◌≤◌, ◌+◌, ◌⊎◌, ◌↔◌, ℕ, List, [], ◌∷◌, ◌++◌, length, reverse, get_or, Option, Some, None, refl, sym, ◌∙◌, ap}
use Rattle.std.proofs.Common.{subst, inl, inr, arith, length-append, append_assoc}
use Rattle.std.specs.Prelude.{nat_eq}
use Rattle.std.specs.List.{Contains, slice_get}
use Rattle.std.specs.Option.{ForSome}
use Rattle.std.proofs.lemmas.Bool.{cases_eq, cases_lt}
use Rattle.std.proofs.lemmas.List.{get_or_append_left, get_or_push, get_or_past, append-nil}
use Rattle.std.proofs.lemmas.List.Elements.{Contains-push_cases, Contains-push, Contains-append_left}
use Rattle.std.proofs.lemmas.Option.{none-some, same_Some}
use Rattle.clause_links.specs.Records.{GoesThrough, walk}
use Rattle.clause_links.proofs.Members.{Cut, cut_at, has_head, has_tail, has_middle, has_beside, has_cases, beside_cases, first_or_none, no_member}
use Rattle.clause_links.proofs.Walks.{same_way, way_on, way_past, first_is, stands_once, goes_once, walk_whole}
use Rattle.decision_queue.specs.declared.neighbours.Neighbours.{Neighbours}
use Rattle.decision_queue.specs.Order.{IsOrder}
use Rattle.decision_queue.specs.Neighbours.{no_neighbours, neighbours_at, after_at, before_at, with_after, joined_pair, with_first, last_without}
use Rattle.decision_queue.specs.Neighbours.{with_last, first_with, order_of, IsLinkedOrder}
use Rattle.decision_queue.proofs.Reversed.{reverse_cons, reverse_middle, reverse_last, ends_from, none_from, member_of_reverse, begins, way_longer}
use Rattle.decision_queue.proofs.Linking.{after-with_after, after-with_after_other, before-with_after, length-with_after, length-joined_pair}
use Rattle.decision_queue.proofs.Linking.{after-joined_pair, after-joined_pair_other, before-joined_end, before-joined_pair, before-joined_pair_other}
use Rattle.decision_queue.proofs.Linking.{length-with_first, after-with_first, after-with_first_other, before-with_first, before-with_first_old}
use Rattle.decision_queue.proofs.Linking.{before-with_first_other}

-- the order that is walked is the list that is linked
pub order_is : (links : List Neighbours) (first last : Option ℕ) (xs : List ℕ) → IsLinkedOrder links first last xs
    → order_of links first ≡ xs
order_is links first last xs is = walk_whole (after_at links) (length links) first xs is.onward (omega (arith, is.counted))

pub linked_order : (links : List Neighbours) (first last : Option ℕ) (xs : List ℕ) → IsLinkedOrder links first last xs
    → IsLinkedOrder links first last (order_of links first)
linked_order links first last xs is = subst (λ (l : List ℕ). IsLinkedOrder links first last l) (sym (order_is links first last xs is)) is

pub order_of_all : (links : List Neighbours) (first last : Option ℕ) (xs : List ℕ) → IsLinkedOrder links first last xs
    → IsOrder xs
order_of_all links first last xs is = record {
  members = λ var. (
    λ m. omega (arith, is.counted, (is.members var).0 m),
    λ h. (is.members var).1 (omega (arith, is.counted)),
  );
  once = goes_once (after_at links) first xs is.onward;
}

-- ---- reading

pub next_is : (links : List Neighbours) (first last : Option ℕ) (xs : List ℕ) (var : ℕ)
    → IsLinkedOrder links first last xs
    → (front back : List ℕ) → xs ≡ front ++ var ∷ back → after_at links var ≡ slice_get back 0
next_is links first last xs var is front back cut =
    first_is (after_at links) (after_at links var) back
    (way_on (after_at links) first front var back (subst (λ (l : List ℕ). GoesThrough (after_at links) first l) cut is.onward))

pub before_is : (links : List Neighbours) (first last : Option ℕ) (xs : List ℕ) (var : ℕ)
    → IsLinkedOrder links first last xs
    → (front back : List ℕ) → xs ≡ front ++ var ∷ back → before_at links var ≡ slice_get (reverse front) 0
before_is links first last xs var is front back cut =
    let all : reverse xs ≡ reverse back ++ var ∷ reverse front = ap (λ (l : List ℕ). reverse l) cut ∙ reverse_middle front var back in
    first_is (before_at links) (before_at links var) (reverse front)
    (way_on (before_at links) last (reverse back) var (reverse front) (subst (λ (l : List ℕ). GoesThrough (before_at links) last l) all is.backward))

pub cut_of : (links : List Neighbours) (first last : Option ℕ) (xs : List ℕ) (var : ℕ)
    → IsLinkedOrder links first last xs → var < length xs → Cut xs var
cut_of links first last xs var is h = cut_at xs var ((is.members var).1 (omega (arith, is.counted)))

pub last_is : (links : List Neighbours) (first last : Option ℕ) (xs : List ℕ) (var : ℕ)
    → IsLinkedOrder links first last xs → var < length xs
    → (after_at links var ≡ None) ↔ ((front : List ℕ) × (xs ≡ front ++ var ∷ []))
last_is links first last xs var is h = (
  λ e.
      let cut : Cut xs var = cut_of links first last xs var is h in
      let none : cut.back ≡ [] = first_or_none cut.back (sym (next_is links first last xs var is cut.front cut.back cut.is) ∙ e) in
      (cut.front, cut.is ∙ ap (λ (back : List ℕ). cut.front ++ var ∷ back) none),
  λ found. next_is links first last xs var is found.0 [] found.1,
)

-- where nothing stands before a variable, it is the first
pub first_there : (links : List Neighbours) (first last : Option ℕ) (xs : List ℕ) (var : ℕ)
    → IsLinkedOrder links first last xs → before_at links var ≡ None
    → (front back : List ℕ) → xs ≡ front ++ var ∷ back → xs ≡ var ∷ (front ++ back)
first_there links first last xs var is none front back cut =
    let empty : front ≡ [] = none_from front (first_or_none (reverse front) (sym (before_is links first last xs var is front back cut) ∙ none)) in
    cut ∙ ap (λ (l : List ℕ). l ++ var ∷ back) empty ∙ ap (λ (l : List ℕ). var ∷ (l ++ back)) (sym empty)

-- an order without a first variable is empty
pub none_there : (links : List Neighbours) (last : Option ℕ) (xs : List ℕ) → IsLinkedOrder links None last xs → xs ≡ []
none_there links last xs is = first_or_none xs (sym (first_is (after_at links) None xs is.onward))

-- the neighbours of a variable are variables
pub after_within : (links : List Neighbours) (first last : Option ℕ) (xs : List ℕ) (var : ℕ)
    → IsLinkedOrder links first last xs → var < length links
    → ForSome (after_at links var) (λ v. v < length links)
after_within links first last xs var is h v e =
    let cut : Cut xs var = cut_of links first last xs var is (omega (arith, is.counted)) in
    let found : (tail : List ℕ) × (cut.back ≡ v ∷ tail) = begins cut.back v (sym (next_is links first last xs var is cut.front cut.back cut.is) ∙ e) in
    let member : Contains xs v =
    subst (λ (l : List ℕ). Contains l v) (sym (cut.is ∙ ap (λ (l : List ℕ). cut.front ++ var ∷ l) found.1))
    (has_beside cut.front var (v ∷ found.0) v (has_middle cut.front v found.0)) in
    (is.members v).0 member

pub before_within : (links : List Neighbours) (first last : Option ℕ) (xs : List ℕ) (var : ℕ)
    → IsLinkedOrder links first last xs → var < length links
    → ForSome (before_at links var) (λ v. v < length links)
before_within links first last xs var is h v e =
    let cut : Cut xs var = cut_of links first last xs var is (omega (arith, is.counted)) in
    let found : (tail : List ℕ) × (reverse cut.front ≡ v ∷ tail) =
    begins (reverse cut.front) v (sym (before_is links first last xs var is cut.front cut.back cut.is) ∙ e) in
    let member : Contains cut.front v = member_of_reverse cut.front v (subst (λ (l : List ℕ). Contains l v) (sym found.1) (has_head v found.0)) in
    (is.members v).0 (subst (λ (l : List ℕ). Contains l v) (sym cut.is) (Contains-append_left cut.front (var ∷ cut.back) v member))

pub first_within : (links : List Neighbours) (first : ℕ) (last : Option ℕ) (xs : List ℕ)
    → IsLinkedOrder links (Some first) last xs → first < length links
first_within links first last xs is =
    let found : (tail : List ℕ) × (xs ≡ first ∷ tail) = begins xs first (sym (first_is (after_at links) (Some first) xs is.onward)) in
    (is.members first).0 (subst (λ (l : List ℕ). Contains l first) (sym found.1) (has_head first found.0))

pub last_within : (links : List Neighbours) (first last : Option ℕ) (xs : List ℕ) → IsLinkedOrder links first last xs
    → ForSome last (λ v. v < length links)
last_within links first last xs is v e =
    let found : (tail : List ℕ) × (reverse xs ≡ v ∷ tail) = begins (reverse xs) v (sym (first_is (before_at links) last (reverse xs) is.backward) ∙ e) in
    (is.members v).0 (member_of_reverse xs v (subst (λ (l : List ℕ). Contains l v) (sym found.1) (has_head v found.0)))

-- ---- to the front

-- a variable in the middle of an order, and the first variable
pub record InMiddle (links : List Neighbours) (last : Option ℕ) (init : List ℕ) (before var : ℕ) (back : List ℕ)
    (first : ℕ) : Type 0 where
  pub order : IsLinkedOrder links (Some first) last (init ++ before ∷ var ∷ back)
  pub known_before : before < length links
  pub known_var : var < length links
  pub known_first : first < length links
  pub known_after : ForSome (after_at links var) (λ v. v < length links)
  pub is_before : before_at links var ≡ Some before

onward_out : (links : List Neighbours) (last : Option ℕ) (init : List ℕ) (before var : ℕ) (back : List ℕ) (first : ℕ)
    → InMiddle links last init before var back first
    → GoesThrough (after_at (joined_pair links before (after_at links var))) (Some first) (init ++ before ∷ back)
onward_out links last init before var back first is =
    way_past (after_at links) (after_at (joined_pair links before (after_at links var))) (Some first) init before var back is.order.onward
    (after-joined_pair links before (after_at links var) is.known_before is.known_after)
    (λ y n m. after-joined_pair_other links before (after_at links var) y is.known_after n)

backward_all : (init : List ℕ) (before var : ℕ) (back : List ℕ) → reverse (init ++ before ∷ var ∷ back) ≡ reverse back
    ++ var ∷ before ∷ reverse init
backward_all init before var back =
    ap (λ (l : List ℕ). reverse l) (sym (append_assoc init (before ∷ []) (var ∷ back))) ∙ reverse_middle (init ++ before ∷ []) var back
    ∙ ap (λ (l : List ℕ). reverse back ++ var ∷ l) (reverse_last init before)

backward_out : (links : List Neighbours) (last : Option ℕ) (init : List ℕ) (before var : ℕ) (back : List ℕ) (first : ℕ)
    → InMiddle links last init before var back first
    → GoesThrough (before_at (joined_pair links before (after_at links var)))
    (last_without last before (after_at links var)) (reverse (init ++ before ∷ back))
backward_out links last init before var [] first is =
    let whole : init ++ before ∷ var ∷ [] ≡ (init ++ before ∷ []) ++ var ∷ [] = sym (append_assoc init (before ∷ []) (var ∷ [])) in
    let none : after_at links var ≡ None =
    next_is links (Some first) last (init ++ before ∷ var ∷ []) var is.order (init ++ before ∷ []) [] whole in
    let way : GoesThrough (before_at links) last (var ∷ before ∷ reverse init) =
    subst (λ (l : List ℕ). GoesThrough (before_at links) last l) (backward_all init before var []) is.order.backward in
    let from : GoesThrough (before_at links) (Some before) (before ∷ reverse init) = (refl, way.1.1) in
    subst (λ (o : Option ℕ). GoesThrough (before_at (joined_pair links before o)) (last_without last before o) (reverse (init ++ before ∷ []))) (sym none)
    (subst (λ (l : List ℕ). GoesThrough (before_at (joined_pair links before None)) (Some before) l) (sym (reverse_last init before))
    (same_way (before_at links) (before_at (joined_pair links before None)) (Some before) (before ∷ reverse init)
    (λ y m. before-joined_end links before y is.known_before) from))
backward_out links last init before var (a ∷ more) first is =
    let whole : init ++ before ∷ var ∷ a ∷ more ≡ (init ++ before ∷ []) ++ var ∷ a ∷ more = sym (append_assoc init (before ∷ []) (var ∷ a ∷ more)) in
    let some : after_at links var ≡ Some a =
    next_is links (Some first) last (init ++ before ∷ var ∷ a ∷ more) var is.order (init ++ before ∷ []) (a ∷ more) whole in
    let known : a < length links = is.known_after a some in
    let all : reverse (init ++ before ∷ var ∷ a ∷ more) ≡ reverse more ++ a ∷ var ∷ before ∷ reverse init =
    backward_all init before var (a ∷ more) ∙ ap (λ (l : List ℕ). l ++ var ∷ before ∷ reverse init) (reverse_cons a more)
    ∙ append_assoc (reverse more) (a ∷ []) (var ∷ before ∷ reverse init) in
    let rest : reverse (init ++ before ∷ a ∷ more) ≡ reverse more ++ a ∷ before ∷ reverse init =
    backward_all init before a more in
    subst (λ (o : Option ℕ). GoesThrough (before_at (joined_pair links before o)) (last_without last before o) (reverse (init ++ before ∷ a ∷ more)))
    (sym some)
    (subst (λ (l : List ℕ). GoesThrough (before_at (joined_pair links before (Some a))) last l) (sym rest)
    (way_past (before_at links) (before_at (joined_pair links before (Some a))) last (reverse more) a var (before ∷ reverse init)
    (subst (λ (l : List ℕ). GoesThrough (before_at links) last l) all is.order.backward)
    (before-joined_pair links before a known ∙ sym is.is_before)
    (λ y n m. before-joined_pair_other links before a y is.known_before n)))

-- a variable that is not in a list comes to its front
onward_first : (links : List Neighbours) (var first : ℕ) (xs : List ℕ) → var < length links → first < length links
    → (Contains xs var → ⊥)
    → GoesThrough (after_at links) (Some first) xs
    → GoesThrough (after_at (with_first links var first)) (Some var) (var ∷ xs)
onward_first links var first xs known known_first absent way = (
  refl,
  subst (λ (o : Option ℕ). GoesThrough (after_at (with_first links var first)) o xs) (sym (after-with_first links var first known))
      (same_way (after_at links) (after_at (with_first links var first)) (Some first) xs
      (λ y m. after-with_first_other links var first y known_first (λ e. absent (subst (λ (z : ℕ). Contains xs z) e m))) way),
)

backward_first : (links : List Neighbours) (last : Option ℕ) (var first : ℕ) (xs : List ℕ) → var < length links
    → first < length links → (Contains xs var → ⊥)
    → slice_get xs 0 ≡ Some first
    → GoesThrough (before_at links) last (reverse xs)
    → GoesThrough (before_at (with_first links var first)) last (reverse (var ∷ xs))
backward_first links last var first xs known known_first absent begin way =
    let found : (tail : List ℕ) × (xs ≡ first ∷ tail) = begins xs first begin in
    let old : reverse xs ≡ reverse found.0 ++ first ∷ [] = ap (λ (l : List ℕ). reverse l) found.1 ∙ reverse_cons first found.0 in
    let new : reverse (var ∷ xs) ≡ reverse found.0 ++ first ∷ var ∷ [] =
    reverse_cons var xs ∙ ap (λ (l : List ℕ). l ++ var ∷ []) old ∙ append_assoc (reverse found.0) (first ∷ []) (var ∷ []) in
    let apart : first ≢ var =
    λ e. absent (subst (λ (z : ℕ). Contains xs z) e (subst (λ (l : List ℕ). Contains l first) (sym found.1) (has_head first found.0))) in
    let absent_there : Contains (reverse found.0 ++ first ∷ []) var → ⊥ =
    λ m. absent (member_of_reverse xs var (subst (λ (l : List ℕ). Contains l var) (sym old) m)) in
    subst (λ (l : List ℕ). GoesThrough (before_at (with_first links var first)) last l) (sym new)
    (way_longer (before_at links) (before_at (with_first links var first)) last (reverse found.0) first var
    (subst (λ (l : List ℕ). GoesThrough (before_at links) last l) old way) absent_there
    (before-with_first_old links var first known_first apart) (before-with_first links var first known)
    (λ y n m. before-with_first_other links var first y m n))

abbrev pub with_front : List Neighbours → ℕ → ℕ → ℕ → List Neighbours
with_front links before var first = with_first (joined_pair links before (after_at links var)) var first

in_front : (links : List Neighbours) (last : Option ℕ) (init : List ℕ) (before var : ℕ) (back : List ℕ) (first : ℕ)
    → InMiddle links last init before var back first
    → IsLinkedOrder (with_front links before var first) (Some var) (last_without last before (after_at links var)) (var
    ∷ (init ++ before ∷ back))
in_front links last init before var back first is =
    let out : List Neighbours = joined_pair links before (after_at links var) in
    let rest : List ℕ = init ++ before ∷ back in
    let whole : init ++ before ∷ var ∷ back ≡ (init ++ before ∷ []) ++ var ∷ back = sym (append_assoc init (before ∷ []) (var ∷ back)) in
    let without : (init ++ before ∷ []) ++ back ≡ rest = append_assoc init (before ∷ []) back in
    let len : length out ≡ length links = length-joined_pair links before (after_at links var) in
    let known : var < length out = omega (arith, is.known_var, len) in
    let known_first : first < length out = omega (arith, is.known_first, len) in
    let way : GoesThrough (after_at links) (Some first) ((init ++ before ∷ []) ++ var ∷ back) =
    subst (λ (l : List ℕ). GoesThrough (after_at links) (Some first) l) whole is.order.onward in
    let absent : Contains rest var → ⊥ =
    λ m. stands_once (after_at links) (Some first) (init ++ before ∷ []) var back way (subst (λ (l : List ℕ). Contains l var) (sym without) m) in
    let onward : GoesThrough (after_at out) (Some first) rest = onward_out links last init before var back first is in
    let all_len : length (with_front links before var first) ≡ length links = length-with_first out var first ∙ len in
    record {
      onward = onward_first out var first rest known known_first absent onward;
      backward = backward_first out (last_without last before (after_at links var)) var first rest known known_first absent
          (sym (first_is (after_at out) (Some first) rest onward)) (backward_out links last init before var back first is);
      members = λ v. (
        λ m. elim (has_cases var rest v m) [
          | inl e ↦ omega (arith, all_len, is.known_var)
          | inr there ↦ omega (
            arith,
            all_len,
            (is.order.members v).0 (subst (λ (l : List ℕ). Contains l v) (sym whole)
                (has_beside (init ++ before ∷ []) var back v (subst (λ (l : List ℕ). Contains l v) (sym without) there))),
          )
        ],
        λ h. elim (beside_cases (init ++ before
            ∷ []) var back v (subst (λ (l : List ℕ). Contains l v) whole ((is.order.members v).1 (omega (arith, all_len))))) [
              | inl e ↦ subst (λ (z : ℕ). Contains (var ∷ rest) z) e (has_head var rest)
              | inr there ↦ has_tail var rest v (subst (λ (l : List ℕ). Contains l v) without there)
            ],
      );
      counted = omega (arith, all_len, is.order.counted, length-append init (before ∷ var ∷ back), length-append init (before ∷ back));
    }

pub IsLinkedOrder-brought : (links : List Neighbours) (first : ℕ) (last : Option ℕ) (xs : List ℕ) (before var : ℕ)
    → IsLinkedOrder links (Some first) last xs → var < length links
    → before_at links var ≡ Some before
    → (front back : List ℕ) → xs ≡ front ++ var ∷ back
    → IsLinkedOrder (with_front links before var first) (Some var) (last_without last before (after_at links var)) (var
    ∷ (front ++ back))
IsLinkedOrder-brought links first last xs before var is known is_before front back cut =
    let found : (tail : List ℕ) × (reverse front ≡ before ∷ tail) =
    begins (reverse front) before (sym (before_is links (Some first) last xs var is front back cut) ∙ is_before) in
    let init : List ℕ = reverse found.0 in
    let ends : front ≡ init ++ before ∷ [] = ends_from front before found.0 found.1 in
    let whole : xs ≡ init ++ before ∷ var ∷ back = cut ∙ ap (λ (l : List ℕ). l ++ var ∷ back) ends ∙ append_assoc init (before ∷ []) (var ∷ back) in
    let rest : front ++ back ≡ init ++ before ∷ back = ap (λ (l : List ℕ). l ++ back) ends ∙ append_assoc init (before ∷ []) back in
    let middle : InMiddle links last init before var back first =
    record {
      order = subst (λ (l : List ℕ). IsLinkedOrder links (Some first) last l) whole is;
      known_before = before_within links (Some first) last xs var is known before is_before;
      known_var = known;
      known_first = first_within links first last xs is;
      known_after = after_within links (Some first) last xs var is known;
      is_before = is_before;
    } in
    subst (λ (l : List ℕ). IsLinkedOrder (with_front links before var first) (Some var) (last_without last before (after_at links var)) (var ∷ l))
    (sym rest)
    (in_front links last init before var back first middle)

-- ---- a variable more

-- the neighbours of a new last variable
abbrev pub new_last : Option ℕ → Neighbours
new_last last = record { before = last; after = None }

longer_at : (links : List Neighbours) (new : Neighbours) (y : ℕ) → y ≢ length links
    → get_or (links ++ new ∷ []) y no_neighbours ≡ get_or links y no_neighbours
longer_at links new y n =
    elim (cases_lt y (length links)) [
      | inl h ↦ get_or_append_left links (new ∷ []) no_neighbours y h
      | inr h ↦
          get_or_past (links ++ new ∷ []) y no_neighbours (omega (arith, length-append links (new ∷ []))) ∙ sym (get_or_past links y no_neighbours h)
    ]

longer_here : (links : List Neighbours) (new : Neighbours) → get_or (links ++ new ∷ []) (length links) no_neighbours
    ≡ new
longer_here links new = get_or_push links new no_neighbours (length links) refl

longer_members : (n : ℕ) (xs : List ℕ) → ((v : ℕ) → Contains xs v ↔ (v < n)) → (v : ℕ) → Contains (xs ++ n ∷ []) v
    ↔ (v < n + 1)
longer_members n xs members v = (
  λ m. elim (Contains-push_cases xs n v m) [ inl there ↦ omega (arith, (members v).0 there) | inr e ↦ omega arith ],
  λ h. elim (cases_eq v n) [
    | inl e ↦ subst (λ (z : ℕ). Contains (xs ++ n ∷ []) z) (sym e) (Contains-push xs n)
    | inr d ↦ Contains-append_left xs (n ∷ []) v ((members v).1 (omega arith))
  ],
)

first_stays : (links : List Neighbours) (first : Option ℕ) (xs init : List ℕ) (last n : ℕ)
    → GoesThrough (after_at links) first xs → xs ≡ init ++ last ∷ [] → first_with first n ≡ first
first_stays links (Some first) xs init last n way e = refl
first_stays links None xs init last n way e =
    let empty : xs ≡ [] = first_or_none xs (sym (first_is (after_at links) None xs way)) in
    absurd (omega (arith, ap length empty, ap length e, length-append init (last ∷ [])))

pub IsLinkedOrder-longer : (links : List Neighbours) (first last : Option ℕ) (xs : List ℕ)
    → IsLinkedOrder links first last xs
    → IsLinkedOrder (with_last (links ++ new_last last
    ∷ []) last (length links)) (first_with first (length links)) (Some (length links)) (xs ++ length links ∷ [])
IsLinkedOrder-longer links first None xs is =
    let n : ℕ = length links in
    let longer : List Neighbours = links ++ new_last None ∷ [] in
    let len : length longer ≡ n + 1 = length-append links (new_last None ∷ []) in
    let empty : xs ≡ [] = none_from xs (first_or_none (reverse xs) (sym (first_is (before_at links) None (reverse xs) is.backward))) in
    let no_first : first ≡ None = first_is (after_at links) first xs is.onward ∙ ap (λ (l : List ℕ). slice_get l 0) empty in
    let here : neighbours_at longer n ≡ new_last None = longer_here links (new_last None) in
    let alone : xs ++ n ∷ [] ≡ n ∷ [] = ap (λ (l : List ℕ). l ++ n ∷ []) empty in
    record {
      onward = subst (λ (o : Option ℕ). GoesThrough (after_at longer) (first_with o n) (xs ++ n ∷ [])) (sym no_first)
          (subst (λ (l : List ℕ). GoesThrough (after_at longer) (Some n) l) (sym alone) (refl, ap (λ (b : Neighbours). b.after) here));
      backward = subst (λ (l : List ℕ). GoesThrough (before_at longer) (Some n) (reverse l)) (sym alone) (refl, ap (λ (b : Neighbours). b.before) here);
      members = λ v. subst (λ (k : ℕ). Contains (xs ++ n ∷ []) v ↔ (v < k)) (sym len) (longer_members n xs is.members v);
      counted = omega (arith, len, is.counted, length-append xs (n ∷ []));
    }
IsLinkedOrder-longer links first (Some last) xs is =
    let n : ℕ = length links in
    let longer : List Neighbours = links ++ new_last (Some last) ∷ [] in
    let new : List Neighbours = with_after longer last (Some n) in
    let len : length longer ≡ n + 1 = length-append links (new_last (Some last) ∷ []) in
    let new_len : length new ≡ n + 1 = length-with_after longer last (Some n) ∙ len in
    let found : (tail : List ℕ) × (reverse xs ≡ last ∷ tail) =
    begins (reverse xs) last (sym (first_is (before_at links) (Some last) (reverse xs) is.backward)) in
    let init : List ℕ = reverse found.0 in
    let ends : xs ≡ init ++ last ∷ [] = ends_from xs last found.0 found.1 in
    let known : last < n = last_within links first (Some last) xs is last refl in
    let within : last < length longer = omega (arith, len) in
    let absent : Contains (init ++ last ∷ []) n → ⊥ =
    λ m. omega (arith, (is.members n).0 (subst (λ (l : List ℕ). Contains l n) (sym ends) m)) in
    let apart : n ≢ last = λ e. omega arith in
    let onward : GoesThrough (after_at new) first (init ++ last ∷ n ∷ []) =
    way_longer (after_at links) (after_at new) first init last n (subst (λ (l : List ℕ). GoesThrough (after_at links) first l) ends is.onward) absent
    (after-with_after longer last (Some n) within)
    (after-with_after_other longer last (Some n) n apart ∙ ap (λ (b : Neighbours). b.after) (longer_here links (new_last (Some last))))
    (λ y d m. after-with_after_other longer last (Some n) y d ∙ ap (λ (b : Neighbours). b.after) (longer_at links (new_last (Some last)) y m)) in
    let whole : xs ++ n ∷ [] ≡ init ++ last ∷ n ∷ [] = ap (λ (l : List ℕ). l ++ n ∷ []) ends ∙ append_assoc init (last ∷ []) (n ∷ []) in
    let first_same : first_with first n ≡ first = first_stays links first xs init last n is.onward ends in
    record {
      onward = subst (λ (o : Option ℕ). GoesThrough (after_at new) o (xs ++ n ∷ [])) (sym first_same)
          (subst (λ (l : List ℕ). GoesThrough (after_at new) first l) (sym whole) onward);
      backward = subst (λ (l : List ℕ). GoesThrough (before_at new) (Some n) l) (sym (reverse_last xs n)) (
        refl,
        subst (λ (o : Option ℕ). GoesThrough (before_at new) o (reverse xs))
            (sym (before-with_after longer last (Some n) n within ∙ ap (λ (b : Neighbours). b.before) (longer_here links (new_last (Some last)))))
            (same_way (before_at links) (before_at new) (Some last) (reverse xs)
            (λ y m. before-with_after longer last (Some n) y within ∙ ap (λ (b : Neighbours). b.before) (longer_at links (new_last (Some last)) y
            (λ e. omega (arith, (is.members y).0 (member_of_reverse xs y m))))) is.backward),
      );
      members = λ v. subst (λ (k : ℕ). Contains (xs ++ n ∷ []) v ↔ (v < k)) (sym new_len) (longer_members n xs is.members v);
      counted = omega (arith, new_len, is.counted, length-append xs (n ∷ []));
    }

-- ---- what the calls leave, by the links that they wrote

pub length-with_last : (links : List Neighbours) (last : Option ℕ) (var : ℕ) → length (with_last links last var)
    ≡ length links
length-with_last links None var = refl
length-with_last links (Some last) var = length-with_after links last (Some var)

pub grown_now : (links longer now : List Neighbours) (first last first_now : Option ℕ) (var : ℕ) (xs : List ℕ)
    → IsLinkedOrder links first last xs
    → now ≡ with_last longer last var → longer ≡ links ++ new_last last ∷ [] → var ≡ length links → first_now
    ≡ first_with first var
    → IsLinkedOrder now first_now (Some var) (xs ++ length links ∷ [])
grown_now links longer now first last first_now var xs is now_is longer_is var_is first_is =
    let n : ℕ = length links in
    let links_are : now ≡ with_last (links ++ new_last last ∷ []) last n =
    now_is ∙ ap (λ (l : List Neighbours). with_last l last var) longer_is ∙ ap (λ (v : ℕ). with_last (links ++ new_last last ∷ []) last v) var_is in
    subst (λ (v : ℕ). IsLinkedOrder now first_now (Some v) (xs ++ n ∷ [])) (sym var_is)
    (subst (λ (o : Option ℕ). IsLinkedOrder now o (Some n) (xs ++ n ∷ [])) (sym (first_is ∙ ap (λ (v : ℕ). first_with first v) var_is))
    (subst (λ (l : List Neighbours). IsLinkedOrder l (first_with first n) (Some n) (xs ++ n ∷ [])) (sym links_are)
    (IsLinkedOrder-longer links first last xs is)))

pub brought_now : (links now : List Neighbours) (first : ℕ) (last last_now : Option ℕ) (before var : ℕ) (xs : List ℕ)
    → IsLinkedOrder (with_front links before var first) (Some var) (last_without last before (after_at links var)) xs
    → now ≡ with_front links before var first → last_now ≡ last_without last before (after_at links var)
    → IsLinkedOrder now (Some var) last_now xs
brought_now links now first last last_now before var xs is now_is last_is =
    subst (λ (o : Option ℕ). IsLinkedOrder now (Some var) o xs) (sym last_is)
    (subst (λ (l : List Neighbours). IsLinkedOrder l (Some var) (last_without last before (after_at links var)) xs) (sym now_is) is)

pub length-with_front : (links : List Neighbours) (before var first : ℕ) → length (with_front links before var first)
    ≡ length links
length-with_front links before var first =
    length-with_first (joined_pair links before (after_at links var)) var first ∙ length-joined_pair links before (after_at links var)
