-- The values of a type, by kind.
use Rattle.std.proofs.Common.{◌≡◌, ◌≢◌, ◌<◌, ◌≤◌, ◌+◌, ◌-◌, ℕ, zero, suc, List, [], ◌∷◌, map, length, Bool, true, false, Option, get_or, refl, sym, ◌∙◌}
use Rattle.std.proofs.Common.{subst, ap, arith}
use Rattle.std.specs.Prelude.{ℤ, pos, negsuc, ◌+ℤ◌, ◌-ℤ◌, ◌≤ℤ◌, ◌<ℤ◌, ◌↔◌, IsTrue, All, AllPairs, Contains, Some, slice_get}
use Rattle.std.specs.List.{range_with_len}
use borrow.Author.Differences.{up, down}
use Rattle.std.proofs.lemmas.Int.{ints, by_lt_z}
use Rattle.std.proofs.lemmas.List.{length-map, get_or-map}
use Rattle.std.proofs.lemmas.List.FromFn.{length-range_with_len, get_or-range_with_len, length-map-range_with_len, get_or-map-range_with_len}
use Rattle.std.proofs.lemmas.List.Elements.{All-nil, All-cons, All-map, All-contains, All-contains_itself, All-weaker, Contains-get_or}
use Rattle.std.proofs.lemmas.Option.{slice_get-get_or}
use Rattle.port_types.specs.declared.types.PortType.{PortType}
use Rattle.port_types.specs.declared.types.PortType.TheVariants as kind
use Rattle.port_types.specs.declared.types.Value.{Value}
use Rattle.port_types.specs.declared.types.Value.TheVariants as value
use Rattle.port_types.specs.Types.{natural_part, range_size, values, IsOfType, IsIncluded, IsWithin}

pub natural_is : (z : ℤ) → natural_part z ≡ up z - down z
natural_is (pos n) = omega arith
natural_is (negsuc n) = omega arith

-- each value of a type is of its kind and within its bounds
all_of_type : (t : PortType) → All (IsOfType t) (values t)
all_of_type kind.Bool =
    All-cons (IsOfType kind.Bool) (value.Bool false) (value.Bool true ∷ []) tt
    (All-cons (IsOfType kind.Bool) (value.Bool true) [] tt (All-nil (IsOfType kind.Bool)))
all_of_type (kind.Range lo hi) =
    All-map (IsOfType (kind.Range lo hi)) (λ k. value.Int (lo +ℤ pos k)) (range_with_len 0 (range_size lo hi)) (λ k d h.
    let inside : k < range_size lo hi = subst (λ m. k < m) (length-range_with_len 0 (range_size lo hi)) h in
    let is : get_or (range_with_len 0 (range_size lo hi)) k d ≡ 0 + k = get_or-range_with_len 0 (range_size lo hi) k d inside in
    (omega (arith, ints), omega (arith, ints, natural_is ((hi +ℤ pos 1) -ℤ lo))))
all_of_type (kind.Enum names) = All-map (IsOfType (kind.Enum names)) value.Name names (All-contains_itself names)

pub listed_of_type : (t : PortType) (v : Value) → Contains (values t) v → IsOfType t v
listed_of_type t v h = All-contains (IsOfType t) (values t) v (all_of_type t) h

-- and each such value is one of the type
number_listed : (lo hi z : ℤ) → lo ≤ℤ z → z ≤ℤ hi → Contains (values (kind.Range lo hi)) (value.Int z)
number_listed lo hi z low high =
    let k : ℕ = natural_part (z -ℤ lo) in
    let inside : natural_part (z -ℤ lo) < range_size lo hi = omega (arith, ints, natural_is ((hi +ℤ pos 1) -ℤ lo), natural_is (z -ℤ lo)) in
    let is : lo +ℤ pos (natural_part (z -ℤ lo)) ≡ z = omega (arith, ints, natural_is (z -ℤ lo)) in (
      natural_part (z -ℤ lo),
      subst (λ m. natural_part (z -ℤ lo) < m) (sym (length-map-range_with_len (λ j. value.Int (lo +ℤ pos j)) 0 (range_size lo hi))) inside,
      get_or-map-range_with_len (λ j. value.Int (lo +ℤ pos j)) 0 (range_size lo hi) (natural_part (z -ℤ lo)) (natural_part (z -ℤ lo)) (value.Int z) inside
          (omega arith)
          ∙ ap value.Int is,
    )

name_listed : (names : List (List ℕ)) (name : List ℕ) → Contains names name
    → Contains (values (kind.Enum names)) (value.Name name)
name_listed names name h =
    (h.0, subst (λ m. h.0 < m) (sym (length-map names value.Name)) h.1, get_or-map value.Name names h.0 name (value.Name name) h.1 ∙ ap value.Name h.2)

pub of_type_listed : (t : PortType) (v : Value) → IsOfType t v → Contains (values t) v
of_type_listed kind.Bool (value.Bool false) h = (0, omega arith, refl)
of_type_listed kind.Bool (value.Bool true) h = (1, omega arith, refl)
of_type_listed kind.Bool (value.Int z) h = absurd h
of_type_listed kind.Bool (value.Name name) h = absurd h
of_type_listed (kind.Range lo hi) (value.Bool b) h = absurd h
of_type_listed (kind.Range lo hi) (value.Int z) h = number_listed lo hi z h.0 h.1
of_type_listed (kind.Range lo hi) (value.Name name) h = absurd h
of_type_listed (kind.Enum names) (value.Bool b) h = absurd h
of_type_listed (kind.Enum names) (value.Int z) h = absurd h
of_type_listed (kind.Enum names) (value.Name name) h = name_listed names name h

-- a type that is within another has no value more
within_of_type : (a b : PortType) (v : Value) → IsWithin a b → IsOfType a v → IsOfType b v
within_of_type kind.Bool kind.Bool v w h = h
within_of_type kind.Bool (kind.Range c d) v w h = absurd w
within_of_type kind.Bool (kind.Enum others) v w h = absurd w
within_of_type (kind.Range lo hi) kind.Bool v w h = absurd w
within_of_type (kind.Range lo hi) (kind.Range c d) (value.Bool b) w h = absurd h
within_of_type (kind.Range lo hi) (kind.Range c d) (value.Int z) w h = (omega (arith, ints), omega (arith, ints))
within_of_type (kind.Range lo hi) (kind.Range c d) (value.Name name) w h = absurd h
within_of_type (kind.Range lo hi) (kind.Enum others) v w h = absurd w
within_of_type (kind.Enum names) kind.Bool v w h = absurd w
within_of_type (kind.Enum names) (kind.Range c d) v w h = absurd w
within_of_type (kind.Enum names) (kind.Enum others) (value.Bool b) w h = absurd h
within_of_type (kind.Enum names) (kind.Enum others) (value.Int z) w h = absurd h
within_of_type (kind.Enum names) (kind.Enum others) (value.Name name) w h = All-contains (Contains others) names name w h

pub within_included : (a b : PortType) → IsWithin a b → IsIncluded a b
within_included a b w =
    All-weaker (IsOfType a) (Contains (values b)) (λ v h. of_type_listed b v (within_of_type a b v w h)) (values a) (all_of_type a)

-- what a test of all names says of two enumerations
pub names_within : (a b : PortType) (names others listed given : List (List ℕ)) (r : Bool)
    → a ≡ kind.Enum names → b ≡ kind.Enum others
    → listed ≡ names → given ≡ others → IsTrue r ↔ All (Contains given) listed → IsTrue r ↔ IsWithin a b
names_within a b names others listed given r e f n o h =
    subst (λ (t : PortType). IsTrue r ↔ IsWithin t b) (ap kind.Enum n ∙ sym e)
    (subst (λ (t : PortType). IsTrue r ↔ IsWithin (kind.Enum listed) t) (ap kind.Enum o ∙ sym f) h)

-- and a type with a value that has no value more than another is within it
moved : (a b : PortType) (v : Value) → IsIncluded a b → IsOfType a v → IsOfType b v
moved a b v h is = listed_of_type b v (All-contains (Contains (values b)) (values a) v h (of_type_listed a v is))

inhabited_ends : (lo hi : ℤ) → values (kind.Range lo hi) ≢ [] → lo ≤ℤ hi
inhabited_ends lo hi some =
    by_lt_z hi lo
    (λ above.
    let none : range_size lo hi ≡ 0 = omega (arith, ints, natural_is ((hi +ℤ pos 1) -ℤ lo)) in
    absurd (some (ap (λ n. map (λ k. value.Int (lo +ℤ pos k)) (range_with_len 0 n)) none)))
    (λ upto. upto)

same_lo : (lo : ℤ) → lo ≤ℤ lo
same_lo lo = omega (arith, ints)

pub included_within : (a b : PortType) → values a ≢ [] → IsIncluded a b → IsWithin a b
included_within kind.Bool kind.Bool some h = tt
included_within kind.Bool (kind.Range c d) some h = moved kind.Bool (kind.Range c d) (value.Bool true) h tt
included_within kind.Bool (kind.Enum others) some h = moved kind.Bool (kind.Enum others) (value.Bool true) h tt
included_within (kind.Range lo hi) kind.Bool some h = moved (kind.Range lo hi) kind.Bool (value.Int lo) h (same_lo lo, inhabited_ends lo hi some)
included_within (kind.Range lo hi) (kind.Range c d) some h = (
  (moved (kind.Range lo hi) (kind.Range c d) (value.Int lo) h (same_lo lo, inhabited_ends lo hi some)).0,
  (moved (kind.Range lo hi) (kind.Range c d) (value.Int hi) h (inhabited_ends lo hi some, same_lo hi)).1,
)
included_within (kind.Range lo hi) (kind.Enum others) some h =
    moved (kind.Range lo hi) (kind.Enum others) (value.Int lo) h (same_lo lo, inhabited_ends lo hi some)
included_within (kind.Enum []) kind.Bool some h = absurd (some refl)
included_within (kind.Enum (name ∷ names)) kind.Bool some h = moved (kind.Enum (name ∷ names)) kind.Bool (value.Name name) h (0, omega arith, refl)
included_within (kind.Enum []) (kind.Range c d) some h = absurd (some refl)
included_within (kind.Enum (name ∷ names)) (kind.Range c d) some h =
    moved (kind.Enum (name ∷ names)) (kind.Range c d) (value.Name name) h (0, omega arith, refl)
included_within (kind.Enum names) (kind.Enum others) some h =
    λ k d inside. moved (kind.Enum names) (kind.Enum others) (value.Name (get_or names k d)) h (Contains-get_or names k d inside)

-- how many values there are, and which is where
pub count_of_range : (t : PortType) (lo hi : ℤ) → t ≡ kind.Range lo hi → length (values t) ≡ range_size lo hi
count_of_range t lo hi e = ap (λ (u : PortType). length (values u)) e ∙ length-map-range_with_len (λ k. value.Int (lo +ℤ pos k)) 0 (range_size lo hi)

pub count_of_names : (t : PortType) (names : List (List ℕ)) → t ≡ kind.Enum names → length (values t) ≡ length names
count_of_names t names e = ap (λ (u : PortType). length (values u)) e ∙ length-map names value.Name

pub value_of_range : (t : PortType) (lo hi : ℤ) (k : ℕ) → t ≡ kind.Range lo hi → k < length (values t)
    → Some (value.Int (lo +ℤ pos k)) ≡ slice_get (values t) k
value_of_range t lo hi k e inside =
    let short : k < range_size lo hi = omega (arith, inside, count_of_range t lo hi e) in
    let here : k < length (values (kind.Range lo hi)) = omega (arith, short, count_of_range (kind.Range lo hi) lo hi refl) in
    sym (ap (λ (u : PortType). slice_get (values u) k) e ∙ slice_get-get_or (values (kind.Range lo hi)) k (value.Int lo) here
    ∙ ap Some (get_or-map-range_with_len (λ j. value.Int (lo +ℤ pos j)) 0 (range_size lo hi) k k (value.Int lo) short (omega arith)))

pub value_of_names : (t : PortType) (names : List (List ℕ)) (k : ℕ) (name : List ℕ) → t ≡ kind.Enum names
    → k < length (values t) → name ≡ get_or names k name
    → Some (value.Name name) ≡ slice_get (values t) k
value_of_names t names k name e inside is =
    let short : k < length names = omega (arith, inside, count_of_names t names e) in
    let here : k < length (values (kind.Enum names)) = omega (arith, short, count_of_names (kind.Enum names) names refl) in
    sym (ap (λ (u : PortType). slice_get (values u) k) e ∙ slice_get-get_or (values (kind.Enum names)) k (value.Name name) here
    ∙ ap Some (get_or-map value.Name names k name (value.Name name) short ∙ ap value.Name (sym is)))

-- no value stands twice
truth_once : (i j : ℕ) (d : Value) → i < j → j < 2
    → get_or (value.Bool false ∷ value.Bool true ∷ []) i d ≢ get_or (value.Bool false ∷ value.Bool true ∷ []) j d
truth_once zero zero d below within e = absurd (omega arith)
truth_once zero (suc zero) d below within e = cc
truth_once zero (suc (suc j)) d below within e = absurd (omega arith)
truth_once (suc i) j d below within e = absurd (omega arith)

same_number : (a b : ℤ) → value.Int a ≡ value.Int b → a ≡ b
same_number a b e = cc

same_name : (a b : List ℕ) → value.Name a ≡ value.Name b → a ≡ b
same_name a b e = cc

pub values_once : (t : PortType) → ((names : List (List ℕ)) → t ≡ kind.Enum names → AllPairs (λ a b. a ≢ b) names)
    → AllPairs (λ a b. a ≢ b) (values t)
values_once kind.Bool once = λ i j d below within. truth_once i j d below within
values_once (kind.Range lo hi) once = λ i j d below within e.
    let short : j < range_size lo hi = omega (arith, within, count_of_range (kind.Range lo hi) lo hi refl) in
    let first = get_or-map-range_with_len (λ k. value.Int (lo +ℤ pos k)) 0 (range_size lo hi) i i d (omega arith) (omega arith) in
    let second = get_or-map-range_with_len (λ k. value.Int (lo +ℤ pos k)) 0 (range_size lo hi) j j d short (omega arith) in
    let same : lo +ℤ pos i ≡ lo +ℤ pos j = same_number (lo +ℤ pos i) (lo +ℤ pos j) (sym first ∙ e ∙ second) in
    absurd (omega (arith, ints, same))
values_once (kind.Enum names) once = λ i j d below within e.
    let short : j < length names = omega (arith, within, count_of_names (kind.Enum names) names refl) in
    let first = get_or-map value.Name names i [] d (omega arith) in
    let second = get_or-map value.Name names j [] d short in
    once names refl i j [] below short (same_name (get_or names i []) (get_or names j []) (sym first ∙ e ∙ second))
