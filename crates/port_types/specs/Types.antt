-- Types and their values: a type is a finite list of values, as the enumerated and subrange types of
-- N. Wirth, The programming language Pascal (1971), are.
use Rattle.std.specs.Prelude.{ℕ, ◌<◌, ◌^◌, ◌≢◌, ℤ, pos, negsuc, ◌+ℤ◌, ◌-ℤ◌, neg_ℤ, ◌≤ℤ◌, false, true, List, []}
use Rattle.std.specs.Prelude.{◌∷◌, map, length, All, AllPairs, Contains}
use Rattle.std.specs.List.{range_with_len}
use Rattle.port_types.specs.Limits.{largest_numeral}
use Rattle.port_types.specs.declared.types.PortType.{PortType}
use Rattle.port_types.specs.declared.types.PortType.TheVariants as kind
use Rattle.port_types.specs.declared.types.Value.{Value}
use Rattle.port_types.specs.declared.types.Value.TheVariants as value

-- a whole number as a count, 0 where it is negative
abbrev pub natural_part : ℤ → ℕ
natural_part (pos n) = n
natural_part (negsuc n) = 0

-- how many whole numbers there are from lo to hi
abbrev pub range_size : ℤ → ℤ → ℕ
range_size lo hi = natural_part ((hi +ℤ pos 1) -ℤ lo)

-- The values of a type, in order: false, true; the whole numbers from one end to the other upwards, none
-- where the second end is below the first; the names as declared.
abbrev pub values : PortType → List Value
values kind.Bool = value.Bool false ∷ value.Bool true ∷ []
values (kind.Range lo hi) = map (λ k. value.Int (lo +ℤ pos k)) (range_with_len 0 (range_size lo hi))
values (kind.Enum names) = map value.Name names

-- A value of a type, by kind: a truth value, a whole number between the ends, one of the names. These are the
-- values of the type (law `values_by_kind`).
abbrev pub IsOfType : PortType → Value → Type 0
IsOfType kind.Bool (value.Bool truth) = Unit {0}
IsOfType (kind.Range lo hi) (value.Int number) = (lo ≤ℤ number) × (number ≤ℤ hi)
IsOfType (kind.Enum names) (value.Name name) = Contains names name
IsOfType _ _ = ⊥

-- Each value of the first type is one of the second.
abbrev pub IsIncluded : PortType → PortType → Type 0
IsIncluded inner outer = All (Contains (values outer)) (values inner)

-- A type is within another of its kind: by the ends of ranges, also of empty ones, and by the names.
abbrev pub IsWithin : PortType → PortType → Type 0
IsWithin kind.Bool kind.Bool = Unit {0}
IsWithin (kind.Range lo hi) (kind.Range least most) = (least ≤ℤ lo) × (hi ≤ℤ most)
IsWithin (kind.Enum names) (kind.Enum others) = All (Contains others) names
IsWithin _ _ = ⊥

-- a whole number that is a numeral of a file, perhaps behind a minus
abbrev pub IsSignedNumeral : ℤ → Type 0
IsSignedNumeral z = (neg_ℤ (pos largest_numeral) ≤ℤ z) × (z ≤ℤ pos largest_numeral)

-- A type as a file may declare one: the ends of a range are numerals, and an enumeration has fewer than
-- 2^32 names, none twice.
abbrev pub IsDeclarable : PortType → Type 0
IsDeclarable kind.Bool = Unit {0}
IsDeclarable (kind.Range lo hi) = IsSignedNumeral lo × IsSignedNumeral hi
IsDeclarable (kind.Enum names) = (length names < 2 ^ 32) × AllPairs (λ a b. a ≢ b) names
