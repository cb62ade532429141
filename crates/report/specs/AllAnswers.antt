-- The answers to all obligations of a specification, and what they say of the whole system (Cimatti and Tonetta,
-- Contracts-refinement proof system for component-based embedded systems, 2015: the proof obligations of a refinement;
-- Biere, Cimatti, Clarke and Zhu, Symbolic Model Checking without BDDs, 1999: searches up to a number of states).
use Rattle.std.specs.Prelude.{◌≡◌, ℕ, zero, suc, ◌+◌, ◌≤◌, List, [], ◌∷◌, ◌++◌}
use Rattle.oss_base.specs.declared.ids.ItemId.{ItemId}
use Rattle.spec_model.specs.declared.spec.Spec.{Spec}
use Rattle.spec_model.specs.declared.item.Item.{Item}
use Rattle.typed_ltl.specs.declared.lasso.Verdict.{Verdict}
use Rattle.obligations.specs.declared.name.ObligationName.{ObligationName}
use Rattle.obligations.specs.declared.name.ObligationName.TheVariants as obligation
use Rattle.obligations.specs.Systems.{IsSafe}
use Rattle.level_verdicts.specs.Verdicts.{CanBeDecided, AreVerdicts}
use Rattle.report.specs.declared.answers.Answer.{Answer}
use Rattle.report.specs.Answers.{status}

abbrev pub answer : ObligationName → Verdict → Answer
answer name v = record { name = name; verdict = v }

-- the obligations of a level in order: first that its contract is entailed, then that each listed
-- assumption is met
abbrev pub obligation_of : ItemId → ℕ → ObligationName
obligation_of item zero = obligation.Entails item
obligation_of item (suc place) = obligation.Assumes item place

-- the answers of a level from this obligation on
abbrev pub answers_from : ItemId → ℕ → List Verdict → List Answer
answers_from item k [] = []
answers_from item k (v ∷ vs) = answer (obligation_of item k) v ∷ answers_from item (k + 1) vs

abbrev pub level_answers : ℕ → List Verdict → List Answer
level_answers n vs = answers_from (record { 0 = n }) 0 vs

-- The answers of levels one after the other, the first being the level with this number: the verdicts of
-- its questions in order, by lassos of at most `depth` states, then the answers of the further levels.
abbrev pub AreAnswersFrom : Spec → ℕ → ℕ → List Item → List Answer → Type 0
AreAnswersFrom spec depth n [] answers = answers ≡ []
AreAnswersFrom spec depth n (item ∷ items) answers =
    (vs : List Verdict) × (rest : List Answer) × AreVerdicts spec item depth vs
    × (answers ≡ level_answers n vs ++ rest)
    × AreAnswersFrom spec depth (n + 1) items rest

-- the answers to all obligations, in text order of the refined contracts
abbrev pub AreAnswers : Spec → ℕ → List Answer → Type 0
AreAnswers spec depth answers = AreAnswersFrom spec depth 0 spec.items answers

-- Where all obligations of a specification whose levels can be decided are answered and the status is 0, the system is
-- safe.
abbrev pub SuccessIsSafe : Type 0
SuccessIsSafe = (spec : Spec) (depth : ℕ) → CanBeDecided spec → 1 ≤ depth → (answers : List Answer)
    → AreAnswers spec depth answers → status answers ≡ 0 → IsSafe spec

-- A specification has one list of answers.
abbrev pub AnswersAreUnique : Type 0
AnswersAreUnique = (spec : Spec) (depth : ℕ) (a b : List Answer) → AreAnswers spec depth a → AreAnswers spec depth b
    → a ≡ b
