-- Levels stand beside their items, and their closures are within the limit where no level has a fault.
use Rattle.std.proofs.Common.{◌≡◌, ℕ, zero, suc, ◌<◌, ◌≤◌, List, [], ◌∷◌, length, get_or, None, slice_get, Some, refl, sym, ap, subst, arith}
use Rattle.oss_base.specs.Limits.{most_closure_members}
use Rattle.spec_model.specs.declared.spec.Spec.{Spec}
use Rattle.spec_model.specs.declared.item.Item.{Item}
use Rattle.levels.specs.declared.level.Level.{Level}
use Rattle.levels.specs.Levels.{IsLevel, AreLevels}
use Rattle.levels.specs.LevelFaults.{first_level_fault}
use Rattle.coded_levels.specs.Laws.{ClearLevelsAreSmall, ClosuresAreCounted}

pub as_many : (spec : Spec) (items : List Item) (levels : List Level) → AreLevels spec items levels → length levels ≡ length items
as_many spec [] [] h = refl
as_many spec [] (level ∷ levels) h = absurd h
as_many spec (item ∷ items) [] h = absurd h
as_many spec (item ∷ items) (level ∷ levels) h = ap suc (as_many spec items levels h.1)

level_at : (spec : Spec) (items : List Item) (levels : List Level) (i : ℕ) (d : Item) (e : Level) → AreLevels spec items levels → i < length items
    → IsLevel spec (get_or items i d) (get_or levels i e)
level_at spec [] levels i d e h l = absurd (omega arith)
level_at spec (item ∷ items) [] i d e h l = absurd h
level_at spec (item ∷ items) (level ∷ levels) zero d e h l = h.0
level_at spec (item ∷ items) (level ∷ levels) (suc i) d e h l = level_at spec items levels i d e h.1 (omega arith)

-- the level at the place of an item is that of the item
pub level_there : (spec : Spec) (items : List Item) (levels : List Level) (i : ℕ) (item : Item) (level : Level) → AreLevels spec items levels
    → i < length items → item ≡ get_or items i item → level ≡ get_or levels i level → IsLevel spec item level
level_there spec items levels i item level h l e f =
    subst (λ (x : Item). IsLevel spec x level) (sym e)
    (subst (λ (y : Level). IsLevel spec (get_or items i item) y) (sym f) (level_at spec items levels i item level h l))

pub few_members : ClearLevelsAreSmall → ClosuresAreCounted → (spec : Spec) → (width : ℕ) × (first_level_fault width spec ≡ None)
    → (n : ℕ) (item : Item) (level : Level) → slice_get spec.items n ≡ Some item → IsLevel spec item level
    → length level.closure.nodes ≤ most_closure_members
few_members small counted spec clear n item level at is = rw (counted spec item level is) (small clear.0 spec n item clear.1 at).0
