-- From what was built to the level of an item.

use Rattle.std.proofs.Common.{◌≡◌, ℕ, ◌<◌, ◌≤◌, List, length, Result, Ok, Err, sym, ap, subst, arith}
use Rattle.std.specs.Prelude.{IfOk, OnOk}
use Rattle.oss_base.specs.Limits.{most_closure_members}
use Rattle.oss_base.specs.declared.ids.ComponentId.{ComponentId}
use Rattle.port_types.specs.declared.types.PortType.{PortType}
use Rattle.spec_model.specs.declared.spec.Spec.{Spec}
use Rattle.spec_model.specs.declared.item.Item.{Item}
use Rattle.spec_model.specs.Architecture.{free_targets}
use Rattle.connections.specs.declared.substituting.LevelFormulas.{LevelFormulas}
use Rattle.connections.specs.LevelFormulas.{AreLevelFormulas}
use Rattle.core_ltl.specs.Nodes.{Members, members}
use Rattle.levels.specs.declared.level.Level.{Level}
use Rattle.levels.specs.LevelFaults.{closure_size}
use Rattle.spec_model.specs.FreeTypes.{free_types}
use Rattle.levels.specs.Levels.{LevelMeaning, level_meaning, occurring, level_places, level_types, with_formulas, no_members}
use Rattle.first_lasso.specs.UsedPorts.{types_at}
use Rattle.levels.specs.Levels.{IsNodeOf, AreAllPartNodes, IsLevel}
use Rattle.levels.specs.Steps.{IsBuilt, closure_over, formulas_meaning}
use Rattle.levels.proofs.Lists.{meaning_is}

-- these are the component of an item, the number of its free ports and their types
pub record IsTables (spec : Spec) (item : Item) (c : ComponentId) (count : ℕ) (all : List PortType) : Type 0 where
  pub component : c ≡ item.component
  pub free : count ≡ length (free_targets spec item.component)
  pub types : all ≡ free_types spec item.component

same_bound : (a b m : ℕ) → a ≡ b → a ≤ m → b ≤ m
same_bound a b m e l = omega arith

-- what is built of the formulas of an item
as_item : (spec : Spec) (item : Item) (formulas : LevelFormulas) (level : Level) (types : List PortType) (c : ComponentId) (free : ℕ)
    → AreLevelFormulas spec item formulas → IsTables spec item c free types
    → IsBuilt c (occurring free (formulas_meaning formulas)) (types_at types (occurring free (formulas_meaning formulas))) (formulas_meaning formulas) level
    → IsBuilt item.component (level_places spec item) (level_types spec item) (level_meaning spec item) level
as_item spec item formulas level types c free h t b =
    let m = meaning_is spec item formulas h in
    let At : LevelMeaning → ComponentId → ℕ → List PortType → Type 0 = λ x d n ts.
    IsBuilt d (occurring n x) (types_at ts (occurring n x)) x level in
    subst (λ (x : LevelMeaning). At x item.component (length (free_targets spec item.component)) (free_types spec item.component)) m
    (subst (λ (d : ComponentId). At (formulas_meaning formulas) d (length (free_targets spec item.component)) (free_types spec item.component)) t.component
    (subst (λ (n : ℕ). At (formulas_meaning formulas) c n (free_types spec item.component)) t.free
    (subst (λ (ts : List PortType). At (formulas_meaning formulas) c free ts) t.types b)))

pub level_is : (spec : Spec) (item : Item) (formulas : LevelFormulas) (level : Level) (types : List PortType) (c : ComponentId) (free : ℕ)
    → AreLevelFormulas spec item formulas → IsTables spec item c free types
    → IsBuilt c (occurring free (formulas_meaning formulas)) (types_at types (occurring free (formulas_meaning formulas))) (formulas_meaning formulas) level
    → IsLevel spec item level
level_is spec item formulas level types c free h t b =
    let a = as_item spec item formulas level types c free h t b in
    let m : Members = members level.closure in
    record {
      component = a.component;
      places = a.places;
      ports = a.ports;
      closure = a.closure;
      assume = subst (λ (p : List ℕ). IsNodeOf m p level.assume (level_meaning spec item).asks) (sym a.places) a.assume;
      guarantee = subst (λ (p : List ℕ). IsNodeOf m p level.guarantee (level_meaning spec item).gives) (sym a.places) a.guarantee;
      parts = subst (λ (p : List ℕ). AreAllPartNodes m p level.parts.items (level_meaning spec item).parts) (sym a.places) a.parts;
    }

pub level_within : (spec : Spec) (item : Item) (formulas : LevelFormulas) (level : Level) (types : List PortType) (c : ComponentId) (free : ℕ)
    → AreLevelFormulas spec item formulas → IsTables spec item c free types
    → IsBuilt c (occurring free (formulas_meaning formulas)) (types_at types (occurring free (formulas_meaning formulas))) (formulas_meaning formulas) level
    → closure_size spec item ≤ most_closure_members
unfolding closure_size
level_within spec item formulas level types c free h t b =
    let a = as_item spec item formulas level types c free h t b in
    let size : length level.closure.nodes ≡ closure_size spec item = ap (λ (m : Members). length m.nodes) a.closure in
    same_bound (length level.closure.nodes) (closure_size spec item) most_closure_members size a.within

pub level_exceeds : (spec : Spec) (item : Item) (formulas : LevelFormulas) (free : ℕ)
    → AreLevelFormulas spec item formulas → free ≡ length (free_targets spec item.component)
    → most_closure_members < length (with_formulas no_members (closure_over (occurring free (formulas_meaning formulas)) (formulas_meaning formulas))).nodes
    → most_closure_members < closure_size spec item
unfolding closure_size
level_exceeds spec item formulas free h e l =
    subst (λ (m : LevelMeaning). most_closure_members
    < length (with_formulas no_members (closure_over (occurring (length (free_targets spec item.component)) m) m)).nodes)
    (meaning_is spec item formulas h)
    (subst (λ (n : ℕ). most_closure_members
    < length (with_formulas no_members (closure_over (occurring n (formulas_meaning formulas)) (formulas_meaning formulas))).nodes) e l)

-- the same places and types
pub built_at : (c : ComponentId) (at bt : List ℕ) (types kinds : List PortType) (level : LevelMeaning) (made : Level) → at ≡ bt → types ≡ kinds
    → IsBuilt c at types level made → IsBuilt c bt kinds level made
built_at c at bt types kinds level made e f h =
    subst (λ (ps : List ℕ). IsBuilt c ps kinds level made) e (subst (λ (ts : List PortType). IsBuilt c at ts level made) f h)

pub exceeds_at : (at bt : List ℕ) (level : LevelMeaning) → at ≡ bt
    → most_closure_members < length (with_formulas no_members (closure_over at level)).nodes
    → most_closure_members < length (with_formulas no_members (closure_over bt level)).nodes
exceeds_at at bt level e l =
    subst (λ (ps : List ℕ). most_closure_members < length (with_formulas no_members (closure_over ps level)).nodes) e l

-- what follows from a value follows from a result that is this value
pub ok_then : {T E : Type 0} (r : Result T E) (P Q : T → Type 0) → ((v : T) → P v → Q v) → IfOk r P → IfOk r Q
ok_then (Ok v) P Q f h = f v h
ok_then (Err e) P Q f h = tt

pub ok_so : {T E : Type 0} (r : Result T E) (P : T → Type 0) (Q : Type 0) → ((v : T) → P v → Q) → IfOk r P → OnOk r Q
ok_so (Ok v) P Q f h = f v h
ok_so (Err e) P Q f h = tt
