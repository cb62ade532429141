-- Tables of names: the place of a name is that of the first entry with this name.
use Rattle.std.specs.Prelude.{◌≡◌, ℕ, if◌then◌else◌, List, [], ◌∷◌, ◌++◌, Option, Some, None, is_some, position}
use Rattle.std.specs.Prelude.{bytes_eq, String, string_bytes}
use Rattle.oss_syntax.specs.declared.words.Word.{Word}
use Rattle.spec_names.specs.Scopes.{is_named}

-- the entry of a map as contracts see it
abbrev pub bytes_of_entry : {A : Type 0} → String A × ℕ → List ℕ × ℕ
bytes_of_entry entry = (string_bytes entry.0, entry.1)

-- the place of a name: that of the first entry with this name
abbrev pub entry_place : List (List ℕ × ℕ) → List ℕ → Option ℕ
entry_place [] text = None
entry_place (entry ∷ entries) text = if bytes_eq text entry.0 then Some entry.1 else entry_place entries text

-- with one more entry, where the name is not there yet
abbrev pub with_place : List (List ℕ × ℕ) → List ℕ → ℕ → List (List ℕ × ℕ)
with_place entries text place = if is_some (entry_place entries text) then entries else entries ++ (text, place) ∷ []

-- the table tells for each name the place of the first of these words
abbrev pub IsPlaceTable : List Word → List (List ℕ × ℕ) → Type 0
IsPlaceTable words table = (text : List ℕ) → entry_place table text ≡ position (is_named text) words
