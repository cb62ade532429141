-- The unions of cuts as the code forms them. This file serves proofs only: no public contract cites it.
use Rattle.std.specs.Prelude.{ℕ, ◌==◌, nat_lt, List, [], ◌∷◌, map, if◌then◌else◌, slice_index_or}
use Rattle.std.specs.List.{flat_map}

-- Two rising lists merged into one: beside a number and what follows it in the first list.
abbrev pub merged_with : ℕ → List ℕ → (List ℕ → List ℕ) → List ℕ → List ℕ
merged_with x xs rest [] = x ∷ xs
merged_with x xs rest (y ∷ ys) =
    if nat_lt x y then x ∷ rest (y ∷ ys) else (if x == y then x ∷ rest ys else y ∷ merged_with x xs rest ys)

abbrev pub merged : List ℕ → List ℕ → List ℕ
merged [] ys = ys
merged (x ∷ xs) ys = merged_with x xs (merged xs) ys

-- each set of one list with each of another
abbrev pub times : List (List ℕ) → List (List ℕ) → List (List ℕ)
times sets others = flat_map (λ s. map (merged s) others) sets

-- the unions of a cut, where the sets of each member are given
abbrev pub cut_unions : (ℕ → List (List ℕ)) → List ℕ → List (List ℕ)
cut_unions sets [] = [] ∷ []
cut_unions sets (member ∷ cut) = times (sets member) (cut_unions sets cut)

-- the unions of some cuts
abbrev pub all_unions : (ℕ → List (List ℕ)) → List (List ℕ) → List (List ℕ)
all_unions sets cuts = flat_map (cut_unions sets) cuts

-- the sets of a number in a table, none where it has no place
abbrev pub table_sets : List (List (List ℕ)) → ℕ → List (List ℕ)
table_sets table k = slice_index_or table k []
