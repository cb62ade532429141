-- The index from enumerators to the components that declare them, and what a refinement sees by it (serves proofs
-- only).
use Rattle.std.specs.Prelude.{◌≡◌, ℕ, ◌<◌, Bool, false, ◌&&◌, ◌||◌, List, [], length, nat_eq, bytes_eq, Option, Some}
use Rattle.std.specs.Prelude.{option_and_then, slice_get}
use Rattle.std.specs.Option.{option_map_or}
use Rattle.std.specs.List.{list_any}
use Rattle.oss_syntax.specs.Trees.{Component}
use Rattle.spec_names.specs.declared.enumerators.EnumeratorIndex.{EnumeratorIndex}
use Rattle.spec_names.specs.declared.interfaces.InterfaceTables.{InterfaceTables}
use Rattle.spec_names.specs.Refinements.{Around, has_enumerator_in}
use Rattle.spec_names.specs.Scopes.{is_enumerator, interface_at}
use Rattle.spec_names.specs.Tables.{entry_place}

-- the places of the components that declare an enumerator of a name
abbrev pub declarers_in : EnumeratorIndex → List ℕ → List ℕ
declarers_in index text = option_map_or (λ (places : List ℕ). places)
    (option_and_then (slice_get index.declarers.items) (entry_place index.numbers text)) []

abbrev pub declares : EnumeratorIndex → List ℕ → ℕ → Bool
declares index text place = list_any (nat_eq place) (declarers_in index text)

-- the names have numbers of their own, and there are places for each
pub record IsIndex (index : EnumeratorIndex) : Type 0 where
  pub within :
      (text : List ℕ) (number : ℕ) → entry_place index.numbers text ≡ Some number
      → number < length index.declarers.items
  pub own :
      (a b : List ℕ) (number : ℕ) → entry_place index.numbers a ≡ Some number
      → entry_place index.numbers b ≡ Some number → a ≡ b

-- the component at a place is told to declare an enumerator of this name too
abbrev pub HasDeclarer : EnumeratorIndex → EnumeratorIndex → List ℕ → ℕ → Type 0
HasDeclarer old new name place =
    (text : List ℕ) (p : ℕ) → declares new text p ≡ (declares old text p || (bytes_eq text name && nat_eq p place))

-- the same of several names
abbrev pub HasDeclarerOfAll : EnumeratorIndex → EnumeratorIndex → (List ℕ → Bool) → ℕ → Type 0
HasDeclarerOfAll old new among place =
    (text : List ℕ) (p : ℕ) → declares new text p ≡ (declares old text p || (among text && nat_eq p place))

-- the index tells of each component which enumerators its interface declares
abbrev pub IsIndexOf : List Component → EnumeratorIndex → Type 0
IsIndexOf components index =
    (text : List ℕ) (place : ℕ) → declares index text place ≡ is_enumerator (interface_at components place) text

-- the same by the tables of the interfaces
abbrev pub Indexes : List InterfaceTables → EnumeratorIndex → Type 0
Indexes interfaces index =
    (text : List ℕ) (place : ℕ) → declares index text place ≡ has_enumerator_in text (slice_get interfaces place)

-- the place of a component, which may be missing, is this one
abbrev pub is_at : ℕ → Option ℕ → Bool
is_at place component = option_map_or (nat_eq place) component false

-- a set of places has those of these components
abbrev pub HasPlacesOf : List (Option ℕ) → List ℕ → Type 0
HasPlacesOf components places = (place : ℕ) → list_any (nat_eq place) places ≡ list_any (is_at place) components

-- a set of places has that of one component more
abbrev pub HasPlaceOf : List ℕ → List ℕ → Option ℕ → Type 0
HasPlaceOf old new component = (p : ℕ) → list_any (nat_eq p) new ≡ (list_any (nat_eq p) old || is_at p component)

-- the index is that of the interfaces around a refinement, and the set has the places of its components
pub record KnowsVisible (a : Around) (told : EnumeratorIndex) (set : List ℕ) : Type 0 where
  pub index : Indexes a.interfaces told
  pub places : HasPlacesOf a.subs.components.items set
