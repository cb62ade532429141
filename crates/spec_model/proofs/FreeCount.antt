-- How many ports are free: all of them but those whose places are driven.

use Rattle.std.proofs.Common.{◌≡◌, ℕ, suc, ◌+◌, ◌<◌, ◌^◌, Bool, true, false, not, cond, nat_eq, List, [], ◌∷◌, filter, length, map, Option, Some, None, sum}
use Rattle.std.proofs.Common.{refl, sym, ap, ◌∙◌, arith, add-zero, zero-add, get_or, take}
use Rattle.std.proofs.lemmas.List.{length-append}
use Rattle.std.proofs.lemmas.List.FromFn.{length-map-range_with_len}
use Rattle.std.proofs.lemmas.List.Sums.{sum_by-cons, sum_by_more, sum_by_more_le}
use Rattle.std.specs.List.{list_any, range_with_len}
use Rattle.spec_model.specs.declared.wire.Target.{Target}
use Rattle.spec_model.specs.Architecture.{target}
use Rattle.spec_model.specs.FreeRows.{row, rows, ports_among}
use Rattle.spec_model.specs.FreePlaces.{whole_place, is_undriven_at, free_by_places, count_before, Rises}
use Rattle.spec_model.proofs.FreePlaces.{Numbered, all_numbered, count_next, counts_next, no_count}

one_more : (ds : List ℕ) (t : Target) (kept : List Target) (k n : ℕ) (driven : Bool) → count_next ds k driven
    → length kept + count_before ds (k + 1 + n) ≡ n + count_before ds (k + 1)
    → length (cond (not driven) (t ∷ kept) kept) + count_before ds (k + suc n) ≡ suc n + count_before ds k
one_more ds t kept k n true next rest =
    let on : count_before ds (k + suc n) ≡ count_before ds (k + 1 + n) = ap (count_before ds) (omega arith) in
    omega (arith, next, rest, on)
one_more ds t kept k n false next rest =
    let on : count_before ds (k + suc n) ≡ count_before ds (k + 1 + n) = ap (count_before ds) (omega arith) in
    omega (arith, next, rest, on)

-- those of a numbered list that are not driven, and the driven places among those of the list
counted : (place : Target → Option ℕ) (ds : List ℕ) → Rises 0 ds → (k : ℕ) (ts : List Target) → Numbered place k ts
    → length (filter (λ t. is_undriven_at ds (place t)) ts) + count_before ds (k + length ts) ≡ length ts + count_before ds k
counted place ds r k [] n = ap (λ m. 0 + count_before ds m) (add-zero k)
counted place ds r k (t ∷ ts) n =
    let kept : List Target = filter (λ u. is_undriven_at ds (place u)) ts in
    ap (λ b. length (cond b (t ∷ kept) kept) + count_before ds (k + suc (length ts))) (ap (is_undriven_at ds) n.0)
    ∙ one_more ds t kept k (length ts) (list_any (nat_eq k) ds) (counts_next 0 k ds r (list_any (nat_eq k) ds) refl) (counted place ds r (k + 1) ts n.1)

length_rows : (k : ℕ) (counts : List ℕ) → length (rows k counts) ≡ sum counts
length_rows k [] = refl
length_rows k (count ∷ counts) =
    let all = length-append (row (Some (record { 0 = k })) count) (rows (k + 1) counts) in
    let first = length-map-range_with_len (target (Some (record { 0 = k }))) 0 count in
    let rest = length_rows (k + 1) counts in
    let whole = sum_by-cons (λ (x : ℕ). x) count counts in
    omega (arith, all, first, rest, whole)

length_ports : (own : ℕ) (counts : List ℕ) → length (ports_among own counts) ≡ own + sum counts
length_ports own counts =
    let all = length-append (row None own) (rows 0 counts) in
    let first = length-map-range_with_len (target None) 0 own in
    let rest = length_rows 0 counts in
    omega (arith, all, first, rest)

pub free_count : (own : ℕ) (counts ds : List ℕ) → Rises 0 ds
    → length (free_by_places own counts ds) + count_before ds (own + sum counts) ≡ own + sum counts
free_count own counts ds r =
    let all = counted (whole_place own counts) ds r 0 (ports_among own counts) (all_numbered own counts) in
    let none = no_count 0 0 ds r (omega arith) in
    let ports = length_ports own counts in
    let same : count_before ds (0 + length (ports_among own counts)) ≡ count_before ds (own + sum counts) = ap (count_before ds) (zero-add _ ∙ ports) in
    omega (arith, all, none, ports, same)
