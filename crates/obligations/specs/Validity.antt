-- Validity of the questions of a level (Cimatti and Tonetta, Contracts-refinement proof system for component-based
-- embedded systems, 2015: a proof obligation of a refinement is an entailment between formulas). A question is a list
-- of formulas with signs, over the free ports of a component, that is claimed to have no common trace.
use Rattle.std.specs.Prelude.{Bool, List}
use Rattle.oss_base.specs.declared.ids.ComponentId.{ComponentId}
use Rattle.typed_ltl.specs.Formulas.{Ltl}
use Rattle.spec_model.specs.declared.spec.Spec.{Spec}
use Rattle.spec_model.specs.FreeTypes.{free_types}
use Rattle.first_lasso.specs.Lassos.{HasTraceOver}
use Rattle.narrowed_questions.specs.NarrowedQuestions.{HaveTruths}

-- On no infinite trace of the free ports has each formula at position 0 the truth that its sign says.
abbrev pub IsValid : Spec → ComponentId → List (Ltl × Bool) → Type 0
IsValid spec c formulas = HasTraceOver (free_types spec c) (HaveTruths formulas) → ⊥
