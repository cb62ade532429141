-- Composition: what valid levels say of every trace of the whole system (Cimatti and Tonetta, Contracts-refinement
-- proof system for component-based embedded systems, 2015).
use Rattle.std.specs.Prelude.{◌≡◌, ℕ, Some, slice_get}
use Rattle.oss_base.specs.declared.ids.ComponentId.{ComponentId}
use Rattle.oss_base.specs.declared.ids.ContractId.{ContractId}
use Rattle.oss_base.specs.declared.ids.SubId.{SubId}
use Rattle.typed_ltl.specs.Formulas.{Ltl}
use Rattle.spec_model.specs.declared.spec.Spec.{Spec}
use Rattle.spec_model.specs.declared.item.Item.{Item}
use Rattle.spec_model.specs.Architecture.{IsWellFormed}
use Rattle.levels.specs.Levels.{level_meaning}
use Rattle.levels.specs.LevelQuestions.{entailment, met_assumption}
use Rattle.obligations.specs.Systems.{Path, IsRefinedBy, IsReached, IsSafeFor}
use Rattle.obligations.specs.Validity.{IsValid}

-- every question of a level is valid: its entailment, and the assumption of each listed contract
pub record IsValidLevel (spec : Spec) (item : Item) : Type 0 where
  pub entailed : IsValid spec item.component (entailment (level_meaning spec item))
  pub assumed : (j : ℕ) (part : SubId × Ltl × Ltl) → slice_get (level_meaning spec item).parts j ≡ Some part
      → IsValid spec item.component (met_assumption (level_meaning spec item) part)

-- every question of the levels of reached contracts is valid
abbrev pub ReachedLevelsAreValid : Spec → ContractId → Type 0
ReachedLevelsAreValid spec k = (p : Path) (c : ComponentId) (d : ContractId) → IsReached spec k p c d
    → (item : Item) → IsRefinedBy spec c d item → IsValidLevel spec item

-- Composition (Cimatti and Tonetta, 2015): where every question of the levels of reached contracts is
-- valid, each system trace whose unrefined reached contracts hold, and whose environment meets the
-- assumption of the system's contract, meets its guarantee and every reached assumption.
abbrev pub ContractsCompose : Type 0
ContractsCompose = (spec : Spec) (k : ContractId) → IsWellFormed spec → ReachedLevelsAreValid spec k → IsSafeFor spec k
