-- A port that no connection drives has a place in the free order.
use Rattle.std.proofs.Common.{◌≡◌, ℕ, zero, suc, ◌+◌, ◌<◌, ◌≤◌, inl, inr, Bool, true, false, not, cond, List, [], ◌∷◌, map, filter, position, slice_get, get_or}
use Rattle.std.proofs.Common.{Option, Some, None, is_some, unwrap_or, refl, sym, ap, subst, ◌∙◌, arith}
use Rattle.std.specs.List.{list_any, range_with_len}
use Rattle.std.proofs.lemmas.Bool.{false≢true, or_cases, or_left, or_right, cases_eq}
use Rattle.std.proofs.lemmas.List.Folds.{list_any-append}
use Rattle.std.proofs.lemmas.List.Quantifiers.{position-Some}
use Rattle.std.proofs.lemmas.Option.{none-some, same_Some, slice_get-get_or}
use Rattle.oss_base.specs.declared.ids.SubId.{SubId}
use Rattle.spec_model.specs.Architecture.{target, same_target}
use Rattle.spec_model.specs.FreeRows.{row, rows, ports_among, is_unconnected, free_among}
use Rattle.spec_model.specs.declared.wire.Target.{Target}
use Rattle.spec_model.proofs.Targets.{same_target_is, same_target_itself}
use Rattle.spec_names.proofs.Lists.{position-any}
use Rattle.spec_types.specs.TreeComponents.{free_number}

row_has : (sub : Option SubId) (start count k : ℕ) → start ≤ k → k < start + count
    → list_any (same_target (target sub k)) (map (target sub) (range_with_len start count)) ≡ true
row_has sub start zero k low high = absurd (omega arith)
row_has sub start (suc count) k low high =
    elim (cases_eq k start) [
      | inl e ↦ or_left (same_target (target sub k) (target sub start))
          (list_any (same_target (target sub k)) (map (target sub) (range_with_len (start + 1) count)))
          (subst (λ (m : ℕ). same_target (target sub k) (target sub m) ≡ true) e (same_target_itself (target sub k)))
      | inr d ↦ or_right (same_target (target sub k) (target sub start))
          (list_any (same_target (target sub k)) (map (target sub) (range_with_len (start + 1) count)))
          (row_has sub (start + 1) count k (omega (arith, low, d)) (omega (arith, high)))
    ]

rows_have : (first : ℕ) (counts : List ℕ) (s port count : ℕ) → slice_get counts s ≡ Some count → port < count
    → list_any (same_target (target (Some (record { 0 = first + s })) port)) (rows first counts) ≡ true
rows_have first [] s port count at l = absurd (none-some count at)
rows_have first (n ∷ counts) zero port count at l =
    let t : Target = target (Some (record { 0 = first + 0 })) port in
    let here : first ≡ first + 0 = omega arith in
    let within : port < 0 + n = (let e = same_Some n count at in omega (arith, e, l)) in
    list_any-append (same_target t) (row (Some (record { 0 = first })) n) (rows (first + 1) counts)
    ∙ or_left (list_any (same_target t) (row (Some (record { 0 = first })) n)) (list_any (same_target t) (rows (first + 1) counts))
    (subst (λ (k : ℕ). list_any (same_target (target (Some (record { 0 = k })) port)) (row (Some (record { 0 = first })) n) ≡ true) here
    (row_has (Some (record { 0 = first })) 0 n port (omega arith) within))
rows_have first (n ∷ counts) (suc s) port count at l =
    let t : Target = target (Some (record { 0 = first + suc s })) port in
    let here : first + 1 + s ≡ first + suc s = omega arith in
    list_any-append (same_target t) (row (Some (record { 0 = first })) n) (rows (first + 1) counts)
    ∙ or_right (list_any (same_target t) (row (Some (record { 0 = first })) n)) (list_any (same_target t) (rows (first + 1) counts))
    (subst (λ (k : ℕ). list_any (same_target (target (Some (record { 0 = k })) port)) (rows (first + 1) counts) ≡ true) here
    (rows_have (first + 1) counts s port count at l))

pub own_among : (own : ℕ) (counts : List ℕ) (port : ℕ) → port < own
    → list_any (same_target (target None port)) (ports_among own counts) ≡ true
own_among own counts port l =
    list_any-append (same_target (target None port)) (row None own) (rows 0 counts)
    ∙ or_left (list_any (same_target (target None port)) (row None own)) (list_any (same_target (target None port)) (rows 0 counts))
    (row_has None 0 own port (omega arith) (omega (arith, l)))

pub sub_among : (own : ℕ) (counts : List ℕ) (s port count : ℕ) → slice_get counts s ≡ Some count → port < count
    → list_any (same_target (target (Some (record { 0 = s })) port)) (ports_among own counts) ≡ true
sub_among own counts s port count at l =
    let t : Target = target (Some (record { 0 = s })) port in
    let here : 0 + s ≡ s = omega arith in
    list_any-append (same_target t) (row None own) (rows 0 counts)
    ∙ or_right (list_any (same_target t) (row None own)) (list_any (same_target t) (rows 0 counts))
    (subst (λ (k : ℕ). list_any (same_target (target (Some (record { 0 = k })) port)) (rows 0 counts) ≡ true) here (rows_have 0 counts s port count at l))

-- what passes a test is kept
filter_has : (t : Target) (test : Target → Bool) (ts : List Target) → test t ≡ true → list_any (same_target t) ts ≡ true
    → list_any (same_target t) (filter test ts) ≡ true
filter_has t test [] passes has = absurd (false≢true has)
filter_has t test (u ∷ ts) passes has =
    elim (or_cases (same_target t u) (list_any (same_target t) ts) has) [
      | inl here ↦
          let kept : test u ≡ true = subst (λ (v : Target). test v ≡ true) (same_target_is t u here) passes in
          subst (λ (b : Bool). list_any (same_target t) (cond b (u ∷ filter test ts) (filter test ts)) ≡ true) (sym kept)
          (or_left (same_target t u) (list_any (same_target t) (filter test ts)) here)
      | inr more ↦ either (test u) (filter_has t test ts passes more)
    ]
  where
    either : (b : Bool) → list_any (same_target t) (filter test ts) ≡ true
        → list_any (same_target t) (cond b (u ∷ filter test ts) (filter test ts)) ≡ true
    either true h = or_right (same_target t u) (list_any (same_target t) (filter test ts)) h
    either false h = h

-- what is found stands at its place
place_at : (t : Target) (order : List Target) (o : Option ℕ) → position (same_target t) order ≡ o → is_some o ≡ true
    → slice_get order (unwrap_or o 0) ≡ Some t
place_at t order None e h = absurd (false≢true h)
place_at t order (Some place) e h =
    let found = position-Some (same_target t) order place t e in
    slice_get-get_or order place t found.0 ∙ ap Some (sym (same_target_is t (get_or order place t) found.1))

pub free_at : (own : ℕ) (counts : List ℕ) (driven : List Target) (t : Target)
    → list_any (same_target t) (ports_among own counts) ≡ true → list_any (same_target t) driven ≡ false
    → slice_get (free_among own counts driven) (free_number (free_among own counts driven) t) ≡ Some t
free_at own counts driven t has free =
    let order : List Target = free_among own counts driven in
    let kept = filter_has t (is_unconnected driven) (ports_among own counts) (ap not free) has in
    place_at t order (position (same_target t) order) refl (position-any (same_target t) order ∙ kept)
