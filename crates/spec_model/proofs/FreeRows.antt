use Rattle.std.proofs.Common.{◌≡◌, ℕ, zero, suc, ◌+◌, ◌<◌, ◌≤◌, Bool, true, false, not, cond, ◌&&◌, ◌||◌, nat_eq, List, [], ◌∷◌, ◌++◌, map, length, take}
use Rattle.std.proofs.Common.{get_or, Option, Some, None, refl, sym, ap, subst, ◌∙◌, arith, append_assoc, if◌then◌else◌}
use Rattle.std.proofs.lemmas.Bool.{false≢true}
use Rattle.std.proofs.lemmas.List.{append-nil, take_more, length-take-le}
use Rattle.std.proofs.lemmas.List.Folds.{list_any-append}
use Rattle.std.proofs.lemmas.List.Elements.{filter-append}
use Rattle.std.proofs.lemmas.List.FromFn.{filter_of_map_range_with_len_more}
use Rattle.std.proofs.Math.Dec.{eqb-suc-suc, eqb-suc-zero, eqb-zero-suc}
use Rattle.std.specs.List.{range_with_len, filter, list_any}
use Rattle.oss_base.specs.declared.ids.SubId.{SubId}
use Rattle.spec_model.specs.declared.wire.Target.{Target}
use Rattle.spec_model.specs.Architecture.{target, same_sub, same_target}
use Rattle.spec_model.specs.FreeRows.{row, rows, is_unconnected, ports_among, free_among}
use Rattle.spec_model.specs.TargetKeys.{key, same_key, has_key, lacks_key}
use Rattle.spec_model.proofs.Targets.{same_target_is}
use Rattle.indexmap.specs.IndexSet.{insert_key}

-- Which ports are free, by a table of the targets of connections.

next_is : (n : ℕ) → n + 1 ≡ suc n
next_is n = omega arith

zero_next : (n : ℕ) → nat_eq 0 (n + 1) ≡ false
zero_next n = ap (λ (k : ℕ). nat_eq 0 k) (next_is n) ∙ eqb-zero-suc n

next_zero : (n : ℕ) → nat_eq (n + 1) 0 ≡ false
next_zero n = ap (λ (k : ℕ). nat_eq k 0) (next_is n) ∙ eqb-suc-zero n

next_next : (n m : ℕ) → nat_eq (n + 1) (m + 1) ≡ nat_eq n m
next_next n m = ap (λ (k : ℕ). nat_eq k (m + 1)) (next_is n) ∙ (ap (λ (k : ℕ). nat_eq (suc n) k) (next_is m) ∙ eqb-suc-suc n m)

same_numbers : (a b : Option SubId) (m n : ℕ)
    → same_key (key (target a m)) (key (target b n)) ≡ same_target (target a m) (target b n)
same_numbers None None m n = refl
same_numbers None (Some s) m n = ap (λ (b : Bool). b && nat_eq m n) (zero_next s.0)
same_numbers (Some s) None m n = ap (λ (b : Bool). b && nat_eq m n) (next_zero s.0)
same_numbers (Some s) (Some r) m n = ap (λ (b : Bool). b && nat_eq m n) (next_next s.0 r.0)

pub same_keys : (t u : Target) → same_key (key t) (key u) ≡ same_target t u
same_keys t u = same_numbers t.sub u.sub t.port.0 u.port.0

-- a target joins the table
pub has_more : (keys new : List (ℕ × ℕ)) (t u : Target) → new ≡ insert_key same_key keys (key u)
    → has_key new t ≡ (same_target t u || has_key keys t)
has_more keys new t u h = ap (λ list. has_key list t) h ∙ by (has_key keys u) refl (same_target t u) refl where
  by : (b : Bool) → has_key keys u ≡ b → (s : Bool) → same_target t u ≡ s → has_key (if b then keys else keys ++ key u ∷ []) t ≡ (s || has_key keys t)
  by true f true s = ap (has_key keys) (same_target_is t u s) ∙ f
  by true f false s = refl
  by false f s e = list_any-append (same_key (key t)) keys (key u ∷ []) ∙ (ap (λ b. has_key keys t || (b || false)) (same_keys t u ∙ e)
      ∙ turn (has_key keys t) s)
    where
      turn : (a s : Bool) → (a || (s || false)) ≡ (s || a)
      turn true true = refl
      turn true false = refl
      turn false true = refl
      turn false false = refl

turn_any : (a s : Bool) → (s || a) ≡ (a || (s || false))
turn_any true true = refl
turn_any true false = refl
turn_any false true = refl
turn_any false false = refl

-- the table of the targets so far
abbrev pub IsTable : List (ℕ × ℕ) → List Target → Type 0
IsTable keys targets = (t : Target) → has_key keys t ≡ list_any (same_target t) targets

pub table_more : (keys new : List (ℕ × ℕ)) (targets : List Target) (i : ℕ) (u : Target) → i < length targets
    → u ≡ get_or targets i u
    → ((t : Target) → has_key new t ≡ (same_target t u || has_key keys t)) → IsTable keys (take i targets)
    → IsTable new (take (i + 1) targets)
table_more keys new targets i u within is added so t =
    added t
    ∙ (ap (λ b. same_target t u || b) (so t)
    ∙ (turn_any (list_any (same_target t) (take i targets)) (same_target t u)
    ∙ (sym (list_any-append (same_target t) (take i targets) (u ∷ []))
    ∙ ap (list_any (same_target t)) (sym (take_more targets i u within ∙ ap (λ (w : Target). take i targets ++ w ∷ []) (sym is))))))

-- one more port of a row
pub row_more : (keys : List (ℕ × ℕ)) (old free new : List Target) (sub : Option SubId) (n : ℕ) (t : Target)
    → t ≡ target sub n
    → new ≡ free ++ cond (lacks_key keys t) (t ∷ []) []
    → free ≡ old ++ filter (lacks_key keys) (row sub n) → new ≡ old ++ filter (lacks_key keys) (row sub (n + 1))
row_more keys old free new sub n t is put so =
    let last : List Target = cond (lacks_key keys t) (t ∷ []) [] in
    put
    ∙ (ap (λ list. list ++ last) so
    ∙ (append_assoc old (filter (lacks_key keys) (row sub n)) last
    ∙ ap (λ list. old ++ list) (sym (filter_of_map_range_with_len_more (lacks_key keys) (target sub) 0 n n (omega arith)
    ∙ ap (λ (u : Target). filter (lacks_key keys) (row sub n) ++ cond (lacks_key keys u) (u ∷ []) []) (sym is)))))

-- one more subcomponent

rows_push : (k : ℕ) (counts : List ℕ) (count : ℕ)
    → rows k (counts ++ count ∷ []) ≡ rows k counts ++ row (Some (record { 0 = k + length counts })) count
rows_push k [] count = append-nil (row (Some (record { 0 = k })) count) ∙ ap (λ (n : ℕ). row (Some (record { 0 = n })) count) (omega arith)
rows_push k (c ∷ counts) count =
    ap (λ list. row (Some (record { 0 = k })) c ++ list) (rows_push (k + 1) counts count
    ∙ ap (λ (n : ℕ). rows (k + 1) counts ++ row (Some (record { 0 = n })) count) (omega arith))
    ∙ sym (append_assoc (row (Some (record { 0 = k })) c) (rows (k + 1) counts) (row (Some (record { 0 = k + suc (length counts) })) count))

pub rows_more : (keys : List (ℕ × ℕ)) (old free new : List Target) (counts : List ℕ) (i count : ℕ) (sub : SubId)
    → i < length counts → count
    ≡ get_or counts i count → sub.0 ≡ i
    → free ≡ old ++ filter (lacks_key keys) (rows 0 (take i counts))
    → new ≡ free ++ filter (lacks_key keys) (row (Some sub) count)
    → new ≡ old ++ filter (lacks_key keys) (rows 0 (take (i + 1) counts))
rows_more keys old free new counts i count sub within is place so put =
    let some : row (Some (record { 0 = 0 + length (take i counts) })) count ≡ row (Some sub) count =
    ap (λ (n : ℕ). row (Some (record { 0 = n })) count) (omega (arith, length-take-le i counts (omega arith), place)) in
    let more : rows 0 (take (i + 1) counts) ≡ rows 0 (take i counts) ++ row (Some sub) count =
    ap (rows 0) (take_more counts i count within ∙ ap (λ (n : ℕ). take i counts ++ n ∷ []) (sym is)) ∙ (rows_push 0 (take i counts) count
    ∙ ap (λ list. rows 0 (take i counts) ++ list) some) in
    put
    ∙ (ap (λ list. list ++ filter (lacks_key keys) (row (Some sub) count)) so
    ∙ (append_assoc old (filter (lacks_key keys) (rows 0 (take i counts))) (filter (lacks_key keys) (row (Some sub) count))
    ∙ ap (λ list. old ++ list) (sym (ap (filter (lacks_key keys)) more ∙ filter-append (lacks_key keys) (rows 0 (take i counts)) (row (Some sub) count)))))

-- all ports

filter_same : (p q : Target → Bool) → ((t : Target) → p t ≡ q t) → (ts : List Target) → filter p ts ≡ filter q ts
filter_same p q h [] = refl
filter_same p q h (t ∷ ts) = ap (λ b. cond b (t ∷ filter p ts) (filter p ts)) (h t) ∙ ap (λ list. cond (q t) (t ∷ list) list) (filter_same p q h ts)

pub all_free : (keys : List (ℕ × ℕ)) (connected : List Target) (own : ℕ) (counts : List ℕ) (first free : List Target)
    → IsTable keys connected
    → first ≡ [] ++ filter (lacks_key keys) (row None own) → free ≡ first ++ filter (lacks_key keys) (rows 0 counts)
    → free ≡ free_among own counts connected
all_free keys connected own counts first free table a b =
    b
    ∙ (ap (λ list. list ++ filter (lacks_key keys) (rows 0 counts)) a
    ∙ (sym (filter-append (lacks_key keys) (row None own) (rows 0 counts))
    ∙ filter_same (lacks_key keys) (is_unconnected connected) (λ t. ap not (table t)) (ports_among own counts)))
