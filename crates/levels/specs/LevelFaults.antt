-- The faults of levels: a level that is too large, that has too many value bits, or too many guards. A guard is a set
-- of at most so many members of the closure, each with a sign. (Closures and the bound on their members: Clarke,
-- Grumberg and Hamaguchi, Another Look at LTL Model Checking, 1994; the limits are choices of this language.)
use Rattle.std.specs.Prelude.{ℕ, zero, suc, ◌+◌, ◌*◌, ◌^◌, Bool, ◌||◌, cond, List, [], ◌∷◌, ◌++◌, length, nat_lt}
use Rattle.std.specs.Prelude.{Option, slice_get}
use Rattle.std.specs.List.{flat_map, sum_by}
use Rattle.oss_base.specs.declared.fault.Fault.{Fault}
use Rattle.oss_base.specs.declared.fault.FaultKind.{FaultKind}
use Rattle.oss_base.specs.declared.fault.FaultKind.TheVariants as fault
use Rattle.oss_base.specs.Limits.{most_closure_members, most_level_size, most_value_bits, most_guards}
use Rattle.spec_model.specs.declared.spec.Spec.{Spec}
use Rattle.spec_model.specs.declared.item.Item.{Item}
use Rattle.connections.specs.Sizes.{level_size}
use Rattle.state_coding.specs.Codes.{type_bits}
use Rattle.levels.specs.Levels.{level_members, level_types}

-- how many sets of k members n things have
abbrev pub combinations : ℕ → ℕ → ℕ
combinations n zero = 1
combinations zero (suc k) = 0
combinations (suc n) (suc k) = combinations n k + combinations n (suc k)

-- how many guards of at most so many members there are over n members
abbrev pub guard_count : ℕ → ℕ → ℕ
guard_count n zero = 1
guard_count n (suc width) = guard_count n width + 2 ^ suc width * combinations n (suc width)

unfoldable pub closure_size : Spec → Item → ℕ
closure_size spec item = length (level_members spec item).nodes

unfoldable pub level_bits : Spec → Item → ℕ
level_bits spec item = sum_by type_bits (level_types spec item)

unfoldable pub is_large_level : Spec → Item → Bool
is_large_level spec item =
    nat_lt most_level_size (level_size spec item) || nat_lt most_closure_members (closure_size spec item)

-- a fault of this kind at the place of the refined contract's name, where the test holds
abbrev pub fault_where : Bool → FaultKind → Item → List Fault
fault_where test kind item = cond test (record { kind = kind; place = item.place } ∷ []) []

unfoldable pub level_faults : ℕ → Spec → Item → List Fault
level_faults width spec item =
    fault_where (is_large_level spec item) fault.F28 item
    ++ fault_where (nat_lt most_value_bits (level_bits spec item)) fault.F29 item
    ++ fault_where (nat_lt most_guards (guard_count (closure_size spec item) width)) fault.F30 item

-- the faults of all levels, item by item in text order
abbrev pub faults_of_levels : ℕ → Spec → List Fault
faults_of_levels width spec = flat_map (level_faults width spec) spec.items

-- the first of them, if there is one
abbrev pub first_level_fault : ℕ → Spec → Option Fault
first_level_fault width spec = slice_get (faults_of_levels width spec) 0
