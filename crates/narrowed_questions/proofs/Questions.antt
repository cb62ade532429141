-- Each question of nodes of a level is that of the formulas, over the ports that occur.
use Rattle.std.proofs.Common.{◌≡◌, ℕ, Bool, List, length, All, sym, ap, ◌∙◌, subst}
use Rattle.std.proofs.lemmas.List.{length-map}
use Rattle.typed_ltl.specs.Formulas.{Ltl}
use Rattle.spec_model.specs.declared.spec.Spec.{Spec}
use Rattle.spec_model.specs.declared.item.Item.{Item}
use Rattle.spec_model.specs.Architecture.{free_targets}
use Rattle.core_ltl.specs.declared.question.SignedNode.{SignedNode}
use Rattle.core_ltl.specs.Nodes.{members}
use Rattle.first_lasso.specs.UsedPorts.{AreUsed, types_at}
use Rattle.levels.specs.declared.level.Level.{Level}
use Rattle.spec_model.specs.FreeTypes.{free_types, type_of_target}
use Rattle.levels.specs.Levels.{level_meaning, level_reads, IsLevel}
use Rattle.levels.specs.LevelQuestions.{entailment, met_assumption, entailment_without, Asks}
use Rattle.narrowed_questions.specs.NarrowedQuestions.{ReadsFreePorts, IsNarrowedQuestion, EntailmentsAreNarrowed, AssumptionsAreNarrowed}
use Rattle.narrowed_questions.specs.NarrowedQuestions.{DropsAreNarrowed}
use Rattle.narrowed_questions.proofs.AskedQuestions.{NarrowingLaws, question_narrows, ReadPlaces}
use Rattle.narrowed_questions.proofs.FreeReads.{level_reads_free}
use Rattle.narrowed_questions.proofs.LevelReads.{SignedAmong, occurring_are_used, read_places, entailment_among, drop_among, assumption_among}
use Rattle.narrowed_questions.proofs.LevelReads.{level_among, part_at}

-- a question whose formulas read what the level reads
question_is : NarrowingLaws → (spec : Spec) (item : Item) (level : Level) (question : List SignedNode) (formulas : List (Ltl × Bool))
    → ReadsFreePorts spec → IsLevel spec item level → Asks level question formulas
    → All (SignedAmong (level_reads (level_meaning spec item))) formulas → IsNarrowedQuestion spec item level question formulas
question_is laws spec item level question formulas free is asks among =
    let n : ℕ = length (free_targets spec item.component) in
    let size : n ≡ length (free_types spec item.component) = sym (length-map (free_targets spec item.component) (type_of_target spec item.component)) in
    let reads : ReadPlaces level.places formulas =
    subst (λ (places : List ℕ). ReadPlaces places formulas) (sym is.places)
    (read_places n (level_meaning spec item) formulas (level_reads_free spec free item) among) in
    record {
      used_ports = subst (λ (places : List ℕ). AreUsed (free_types spec item.component) places) (sym is.places)
          (occurring_are_used (free_types spec item.component) n (level_meaning spec item) size);
      types = is.ports ∙ ap (types_at (free_types spec item.component)) (sym is.places);
      narrowed = question_narrows laws (members level.closure) level.places question formulas asks reads;
    }

pub entailments_are_narrowed : NarrowingLaws → EntailmentsAreNarrowed
entailments_are_narrowed laws spec item level question free is asks =
    question_is laws spec item level question (entailment (level_meaning spec item)) free is asks (entailment_among (level_meaning spec item))

pub assumptions_are_narrowed : NarrowingLaws → AssumptionsAreNarrowed
assumptions_are_narrowed laws spec item level question part j free is e asks =
    let meaning = level_meaning spec item in
    question_is laws spec item level question (met_assumption (level_meaning spec item) part) free is asks
    (assumption_among (level_meaning spec item) part
    (part_at (level_reads (level_meaning spec item)) (level_meaning spec item).parts (level_among (level_meaning spec item)).parts j part e))

pub drops_are_narrowed : NarrowingLaws → DropsAreNarrowed
drops_are_narrowed laws spec item level question set free is asks =
    question_is laws spec item level question (entailment_without set (level_meaning spec item)) free is asks
    (drop_among set (level_meaning spec item))
