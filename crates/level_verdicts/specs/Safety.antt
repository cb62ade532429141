-- What the verdicts say of the whole system (Cimatti and Tonetta, Contracts-refinement proof system for component-based
-- embedded systems, 2015: where every proof obligation holds, the refinement of the system does).
use Rattle.std.specs.Prelude.{◌≡◌, ℕ, ◌≤◌, List, [], ◌∷◌, Some, slice_get}
use Rattle.typed_ltl.specs.declared.lasso.Verdict.{Verdict}
use Rattle.typed_ltl.specs.declared.lasso.Verdict.TheVariants as verdict
use Rattle.spec_model.specs.declared.spec.Spec.{Spec}
use Rattle.spec_model.specs.declared.item.Item.{Item}
use Rattle.obligations.specs.Systems.{IsSafe}
use Rattle.level_verdicts.specs.Verdicts.{CanBeDecided, AreVerdicts}

-- each of these verdicts says proved
abbrev pub AreProved : List Verdict → Type 0
AreProved [] = Unit {0}
AreProved (verdict.Proved ∷ vs) = AreProved vs
AreProved (_ ∷ vs) = ⊥

-- the verdicts of every level of the specification, by lassos of at most k states, say proved
abbrev pub AllAreProved : Spec → ℕ → Type 0
AllAreProved spec k = (n : ℕ) (item : Item) → slice_get spec.items n ≡ Some item
    → (vs : List Verdict) × AreVerdicts spec item k vs × AreProved vs

-- Where all questions of all levels are proved, the system is safe.
abbrev pub ProvedSystemsAreSafe : Type 0
ProvedSystemsAreSafe = (spec : Spec) (k : ℕ) → CanBeDecided spec → 1 ≤ k → AllAreProved spec k → IsSafe spec
