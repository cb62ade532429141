-- The first fault of levels, item by item.

use Rattle.std.proofs.Common.{◌≡◌, inl, inr, ℕ, ◌+◌, ◌<◌, ◌≤◌, ◌||◌, Bool, true, false, cond, min, nat_lt, List, [], ◌++◌, length, take, get_or}
use Rattle.std.proofs.Common.{Option, Some, None, Result, Ok, Err, slice_get, refl, ap, sym, subst, ◌∙◌, arith}
use Rattle.std.specs.Prelude.{OnOk}
use Rattle.std.proofs.lemmas.Bool.{cases_lt, lt-ltb, le-ltb, false≢true}
use Rattle.std.proofs.lemmas.Option.{same_Some}
use Rattle.std.specs.List.{flat_map, sum_by}
use Rattle.oss_base.specs.Faults.{IfFault}
use Rattle.oss_base.specs.Limits.{most_closure_members, most_level_size, most_value_bits, most_guards}
use Rattle.oss_base.specs.declared.fault.Fault.{Fault}
use Rattle.oss_base.specs.declared.fault.FaultKind.{FaultKind}
use Rattle.oss_base.specs.declared.fault.FaultKind.TheVariants as fault
use Rattle.oss_base.specs.declared.fault.Stop.{Stop}
use Rattle.oss_base.specs.declared.fault.Stop.TheVariants as stop
use Rattle.spec_model.specs.declared.spec.Spec.{Spec}
use Rattle.spec_model.specs.declared.item.Item.{Item}
use Rattle.connections.specs.Sizes.{level_size}
use Rattle.state_coding.specs.Codes.{type_bits}
use Rattle.core_ltl.specs.Nodes.{Members}
use Rattle.levels.specs.declared.level.Level.{Level}
use Rattle.levels.specs.Levels.{IsLevel}
use Rattle.levels.specs.LevelFaults.{is_large_level, level_faults, fault_where, level_bits, closure_size, guard_count}
use Rattle.levels.specs.Steps.{excess_of}
use Rattle.levels.proofs.Adding.{err_of}
use Rattle.levels.proofs.Lists.{first_here}

-- where the levels before have no fault, the first fault of this item is the first of all
pub fault_here : (width : ℕ) (spec : Spec) (items : List Item) (i : ℕ) (d item : Item) (e : Stop) → i < length items
    → get_or items i d ≡ item → flat_map (level_faults width spec) (take i items) ≡ []
    → IfFault (err_of Level e) (λ f. slice_get (level_faults width spec item) 0 ≡ Some f)
    → IfFault (err_of Level e) (λ f. slice_get (flat_map (level_faults width spec) items) 0 ≡ Some f)
fault_here width spec items i d item (stop.Fault f) l g h k = first_here (level_faults width spec) items i d item f l g h k
fault_here width spec items i d item stop.NoMemory l g h k = tt

-- a level that is too large, or not

-- whether a size is too large shows where it is counted up to one more
counted : (k size s : ℕ) → size ≡ min s (k + 1) → nat_lt k size ≡ nat_lt k s
counted k size s e =
    elim (cases_lt k s) [
      | inl more ↦ lt-ltb k size (omega (arith, e, more)) ∙ sym (lt-ltb k s more)
      | inr upto ↦ le-ltb k size (omega (arith, e, upto)) ∙ sym (le-ltb k s upto)
    ]

pub large_size : (spec : Spec) (item : Item) (size : ℕ) → size ≡ min (level_size spec item) (most_level_size + 1)
    → nat_lt most_level_size size ≡ nat_lt most_level_size (level_size spec item)
large_size spec item size e = counted most_level_size size (level_size spec item) e

first_true : (a b : Bool) → a ≡ true → (a || b) ≡ true
first_true a b e = ap (λ x. x || b) e

then_true : (a b : Bool) → b ≡ true → (a || b) ≡ true
then_true true b e = refl
then_true false b e = e

both_false : (a b : Bool) → a ≡ false → b ≡ false → (a || b) ≡ false
both_false a b e f = ap (λ x. x || b) e ∙ f

pub large_by_size : (spec : Spec) (item : Item) → nat_lt most_level_size (level_size spec item) ≡ true → is_large_level spec item ≡ true
unfolding is_large_level
large_by_size spec item e =
    first_true (nat_lt most_level_size (level_size spec item)) (nat_lt most_closure_members (closure_size spec item)) e

pub large_by_closure : (spec : Spec) (item : Item) → most_closure_members < closure_size spec item → is_large_level spec item ≡ true
unfolding is_large_level
large_by_closure spec item l =
    then_true (nat_lt most_level_size (level_size spec item)) (nat_lt most_closure_members (closure_size spec item))
    (lt-ltb most_closure_members (closure_size spec item) l)

pub not_large : (spec : Spec) (item : Item) → nat_lt most_level_size (level_size spec item) ≡ false → closure_size spec item ≤ most_closure_members
    → is_large_level spec item ≡ false
unfolding is_large_level
not_large spec item e l =
    both_false (nat_lt most_level_size (level_size spec item)) (nat_lt most_closure_members (closure_size spec item)) e
    (le-ltb most_closure_members (closure_size spec item) l)

-- the faults of one level, by what it has too many of

abbrev excess : Bool → Bool → Option FaultKind
excess bits guards = cond bits (Some fault.F29) (cond guards (Some fault.F30) None)

abbrev faults : Bool → Bool → Bool → Item → List Fault
faults large bits guards item = fault_where large fault.F28 item ++ fault_where bits fault.F29 item ++ fault_where guards fault.F30 item

none_of_three : (large bits guards : Bool) (item : Item) → large ≡ false → excess bits guards ≡ None → faults large bits guards item ≡ []
none_of_three true bits guards item e f = absurd (false≢true (sym e))
none_of_three false false false item e f = refl
none_of_three false false true item e f = cc
none_of_three false true guards item e f = cc

large_first : (large bits guards : Bool) (item : Item) → large ≡ true
    → slice_get (faults large bits guards item) 0 ≡ Some (record { kind = fault.F28; place = item.place })
large_first true bits guards item e = refl
large_first false bits guards item e = absurd (false≢true e)

excess_first : (large bits guards : Bool) (item : Item) (kind : FaultKind) → large ≡ false → excess bits guards ≡ Some kind
    → slice_get (faults large bits guards item) 0 ≡ Some (record { kind = kind; place = item.place })
excess_first true bits guards item kind e f = absurd (false≢true (sym e))
excess_first false true guards item kind e f = ap (λ (k : FaultKind). Some (record { kind = k; place = item.place })) (same_Some fault.F29 kind f)
excess_first false false true item kind e f = ap (λ (k : FaultKind). Some (record { kind = k; place = item.place })) (same_Some fault.F30 kind f)
excess_first false false false item kind e f = cc

-- what a level has too many of is told by the specification
excess_is : (width : ℕ) (spec : Spec) (item : Item) (level : Level) → IsLevel spec item level
    → excess_of width level
    ≡ excess (nat_lt most_value_bits (level_bits spec item)) (nat_lt most_guards (guard_count (closure_size spec item) width))
unfolding closure_size level_bits
excess_is width spec item level h = λ j.
    excess (nat_lt most_value_bits (sum_by type_bits (h.ports j))) (nat_lt most_guards (guard_count (length (h.closure j).nodes) width))

fewer : (a b m : ℕ) → a ≡ b → b ≤ m → a ≤ m
fewer a b m e l = omega arith

pub level_few : (spec : Spec) (item : Item) (level : Level) → IsLevel spec item level → closure_size spec item ≤ most_closure_members
    → length level.closure.nodes ≤ most_closure_members
unfolding closure_size
level_few spec item level h l =
    fewer (length level.closure.nodes) (closure_size spec item) most_closure_members (ap (λ (m : Members). length m.nodes) h.closure) l

pub level_clear : (width : ℕ) (spec : Spec) (item : Item) (level : Level) → IsLevel spec item level → is_large_level spec item ≡ false
    → excess_of width level ≡ None → level_faults width spec item ≡ []
unfolding level_faults
level_clear width spec item level h e f =
    none_of_three (is_large_level spec item) (nat_lt most_value_bits (level_bits spec item))
    (nat_lt most_guards (guard_count (closure_size spec item) width)) item e (sym (excess_is width spec item level h) ∙ f)

pub level_large : (width : ℕ) (spec : Spec) (item : Item) → is_large_level spec item ≡ true
    → slice_get (level_faults width spec item) 0 ≡ Some (record { kind = fault.F28; place = item.place })
unfolding level_faults
level_large width spec item e =
    large_first (is_large_level spec item) (nat_lt most_value_bits (level_bits spec item))
    (nat_lt most_guards (guard_count (closure_size spec item) width)) item e

pub level_over : (width : ℕ) (spec : Spec) (item : Item) (level : Level) (kind : FaultKind) → IsLevel spec item level
    → is_large_level spec item ≡ false → excess_of width level ≡ Some kind
    → slice_get (level_faults width spec item) 0 ≡ Some (record { kind = kind; place = item.place })
unfolding level_faults
level_over width spec item level kind h e f =
    excess_first (is_large_level spec item) (nat_lt most_value_bits (level_bits spec item))
    (nat_lt most_guards (guard_count (closure_size spec item) width)) item kind e (sym (excess_is width spec item level h) ∙ f)

-- the fault of a level that is too large is its first
pub large_told : (width : ℕ) (spec : Spec) (item : Item) (e : Stop) → IfFault (err_of Level e) (λ f. is_large_level spec item ≡ true)
    → IfFault (err_of Level e) (λ f. f ≡ record { kind = fault.F28; place = item.place })
    → IfFault (err_of Level e) (λ f. slice_get (level_faults width spec item) 0 ≡ Some f)
large_told width spec item (stop.Fault f) h k = level_large width spec item h ∙ ap Some (sym k)
large_told width spec item stop.NoMemory h k = tt

-- what is said of a fault holds of the one that was made
pub told : (T : Type 0) (P : Fault → Type 0) (s : Stop) (f : Fault) → s ≡ stop.Fault f → P f → IfFault (err_of T s) P
told T P s f e h = subst (λ (t : Stop). IfFault (err_of T t) P) (sym e) h

-- of an empty list nothing is the first
pub none_first : {T E X : Type 0} (r : Result T E) (xs : List X) → OnOk r (xs ≡ []) → OnOk r (slice_get xs 0 ≡ None)
none_first (Ok v) xs h = ap (λ ys. slice_get ys 0) h
none_first (Err e) xs h = tt
