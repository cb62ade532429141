use Rattle.std.proofs.Common.{◌≡◌, ℕ, ◌+◌, Bool, true, false, cond, nat_eq, List, [], ◌∷◌, ◌++◌, map, Option, Some, None, unwrap_or, length, take, slice_get}
use Rattle.std.proofs.Common.{get_or, ◌<◌, ◌≤◌, ◌⊎◌, inl, inr, refl, sym, ap, ◌∙◌, arith, if◌then◌else◌}
use Rattle.std.specs.Map.{lookup}
use Rattle.std.specs.List.{cons_option}
use Rattle.std.proofs.lemmas.List.{take_more, take_all, append-nil}
use Rattle.std.proofs.lemmas.Option.{slice_get_cases}
use Rattle.port_types.specs.declared.types.PortId.{PortId}
use Rattle.spec_types.specs.Uses.{count_one}
use Rattle.spec_types.specs.Walks.{counted_port, occurrences}
use Rattle.indexmap.specs.IndexMap.{insert_entry}

-- How occurrences of ports are count_one.

pub insert_counts : (entries : List (ℕ × ℕ)) (port count : ℕ) → count ≡ occurrences (map counted_port entries) port + 1
    → map counted_port (insert_entry nat_eq entries port count) ≡ count_one (map counted_port entries) port
insert_counts [] port count h = ap (λ (n : ℕ). (record { 0 = port }, n) ∷ []) h
insert_counts (e ∷ entries) port count h = step (nat_eq port e.0) h (insert_counts entries port count) where
  step : (b : Bool) → count ≡ cond b e.1 (occurrences (map counted_port entries) port) + 1
      → (count ≡ occurrences (map counted_port entries) port + 1
      → map counted_port (insert_entry nat_eq entries port count) ≡ count_one (map counted_port entries) port)
      → map counted_port (if b then (e.0, count) ∷ entries else e ∷ insert_entry nat_eq entries port count)
      ≡ cond b ((record { 0 = e.0 }, e.1 + 1) ∷ map counted_port entries) (counted_port e ∷ count_one (map counted_port entries) port)
  step true k rest = ap (λ (n : ℕ). (record { 0 = e.0 }, n) ∷ map counted_port entries) k
  step false k rest = ap (λ (list : List (PortId × ℕ)). counted_port e ∷ list) (rest k)

pub count_found : (entries : List (ℕ × ℕ)) (port : ℕ) (o : Option ℕ) → o ≡ lookup (nat_eq port) entries
    → unwrap_or o 0 ≡ occurrences (map counted_port entries) port
count_found [] port o h = ap (λ (q : Option ℕ). unwrap_or q 0) h
count_found (e ∷ entries) port o h = ap (λ (q : Option ℕ). unwrap_or q 0) h
    ∙ step (nat_eq port e.0) (count_found entries port (lookup (nat_eq port) entries) refl) where
      step : (b : Bool) → unwrap_or (lookup (nat_eq port) entries) 0 ≡ occurrences (map counted_port entries) port
          → unwrap_or (cond b (Some e.1) (lookup (nat_eq port) entries)) 0 ≡ cond b e.1 (occurrences (map counted_port entries) port)
      step true rest = refl
      step false rest = rest

one_more : {A : Type 0} (xs : List A) (i : ℕ)
    → ((x : A) × (i < length xs) × (slice_get xs i ≡ Some x) × (get_or xs i x ≡ x)) ⊎
    ((length xs ≤ i) × (slice_get xs i ≡ None))
    → take (i + 1) xs ≡ take i xs ++ cons_option (slice_get xs i) []
one_more xs i (inl h) =
    take_more xs i h.0 h.1
    ∙ (ap (λ y. take i xs ++ y ∷ []) h.3 ∙ ap (λ o. take i xs ++ cons_option o []) (sym h.2))
one_more xs i (inr h) =
    take_all (i + 1) xs (omega (arith, h.0))
    ∙ (sym (take_all i xs h.0) ∙ (sym (append-nil (take i xs)) ∙ ap (λ o. take i xs ++ cons_option o []) (sym h.1)))

pub taken_more : {A : Type 0} (xs taken more : List A) (i : ℕ) → taken ≡ take i xs
    → more ≡ taken ++ cons_option (slice_get xs i) [] → more ≡ take (i + 1) xs
taken_more xs taken more i t m = m ∙ (ap (λ list. list ++ cons_option (slice_get xs i) []) t ∙ sym (one_more xs i (slice_get_cases xs i).1))
