-- What a list of files, each a pair of a name and bytes, tells of a name.
use Rattle.std.specs.Prelude.{ℕ, List, [], drop, Option, None, Some, position, slice_index_or}
use Rattle.std.specs.Str.{bytes_eq}

-- the place of the first file of this name
abbrev pub file_place : List (List ℕ × List ℕ) → List ℕ → Option ℕ
file_place files name = position (λ file. bytes_eq file.0 name) files

-- the bytes of a place from an offset on, none where there is no such place
abbrev pub bytes_from : List (List ℕ × List ℕ) → Option ℕ → ℕ → List ℕ
bytes_from files None offset = []
bytes_from files (Some place) offset = drop offset (slice_index_or files place ([], [])).1

-- the bytes of the first file of this name, and none where there is no such file
abbrev pub bytes_or_empty : List (List ℕ × List ℕ) → List ℕ → List ℕ
bytes_or_empty files name = bytes_from files (file_place files name) 0

-- the bytes of a place, None where there is no place
abbrev pub bytes_at : List (List ℕ × List ℕ) → Option ℕ → Option (List ℕ)
bytes_at files None = None
bytes_at files (Some place) = Some (bytes_from files (Some place) 0)

-- the bytes of the first file of this name, None where there is no such file
abbrev pub file_bytes : List (List ℕ × List ℕ) → List ℕ → Option (List ℕ)
file_bytes files name = bytes_at files (file_place files name)
