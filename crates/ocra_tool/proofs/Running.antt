-- What the outcome of the task that the words mean leaves open.
use Rattle.std.proofs.Common.{◌≡◌, ℕ, List, Option, Some, None, IfSome, subst, sym, ◌∙◌}
use Rattle.spec_model.specs.declared.spec.Spec.{Spec}
use Rattle.oss_base.specs.declared.fault.Fault.{Fault}
use Rattle.obligations.specs.Systems.{IsSafe}
use Rattle.ocra_tool.specs.Answers.{OfFile, OfFiles, IfHeld}
use Rattle.ocra_tool.specs.Files.{IsSpecification}
use Rattle.ocra_tool.specs.Laws.{SoundHasNoFault, SoundHasNoSecondFault}
use Rattle.ocra_tool.specs.Outcomes.{MayBeUnread}
use Rattle.ocra_tool.specs.Tasks.{SecondFault, LassoBreak, first_file, second_file, second_bytes, IfBoth, IsSound, IsFaultFor, HasFaultFor, AreSound}
use Rattle.ocra_tool.specs.Tasks.{IsSecondFaultFor, HasSecondFaultFor, IsStatusOf, IsAnswerTo}
use Rattle.ocra_tool.specs.Words.{Task, CheckFile, ReplayLasso, PrintFile}

first_sound : (t : Task) (b s : List ℕ) → AreSound t b s → IsSound t b
first_sound (CheckFile file depth width) b s a = a
first_sound (ReplayLasso file lasso) b s a = (a.0, a.1)
first_sound (PrintFile file) b s a = a

answer_sound : (t : Task) (b s text : List ℕ) (ended : ℕ) → IsAnswerTo t b s text ended → AreSound t b s
answer_sound (CheckFile file depth width) b s text ended a = (a.report.spec, a.report.described)
answer_sound (ReplayLasso file lasso) b s text ended a = (a.0.replay.spec, a.0.sole.is, a.0.replay.named, a.0.replay.lasso)
answer_sound (PrintFile file) b s text ended a = (a.0.spec, a.0.described)

second_fault_sound : (t : Task) (b s : List ℕ) (fault : SecondFault) → IsSecondFaultFor t b s fault → IsSound t b
second_fault_sound (CheckFile file depth width) b s fault f = absurd f
second_fault_sound (ReplayLasso file lasso) b s (LassoBreak line) f = (f.0, f.1.is)
second_fault_sound (PrintFile file) b s fault f = absurd f

of_first : {P : List ℕ → Type 0} {Q : List ℕ → List ℕ → Type 0} (told other : Option (List ℕ)) → ((b s : List ℕ) → P b → Q b s) → IfSome told P
    → IfBoth told other Q
of_first None other f p = tt
of_first (Some b) None f p = tt
of_first (Some b) (Some s) f p = f b s p

of_both : {P Q : List ℕ → List ℕ → Type 0} (told other : Option (List ℕ)) → ((b s : List ℕ) → P b s → Q b s) → IfBoth told other P
    → IfBoth told other Q
of_both None other f p = tt
of_both (Some b) None f p = tt
of_both (Some b) (Some s) f p = f b s p

of_one : {P Q : List ℕ → Type 0} (told : Option (List ℕ)) → ((b : List ℕ) → P b → Q b) → IfSome told P → IfSome told Q
of_one None f p = tt
of_one (Some b) f p = f b p

-- FILE has a fault: the files are not sound, and it is not the second file that has one.

pub faulty_not_sound : SoundHasNoFault → (task : Option Task) (t : Task) → task ≡ Some t → (held : List ℕ → Option (List ℕ)) (fault : Fault)
    → IfSome (held (first_file t)) (λ b. IsFaultFor t b fault) → (R : Task → Type 0)
    → OfFiles task held (λ u b s. AreSound u b s → R u)
faulty_not_sound law task t is held fault has R =
    subst (λ o. OfFiles o held (λ u b s. AreSound u b s → R u)) (sym is)
    (of_first (held (first_file t)) (second_bytes (second_file t) held) (λ b s f a. absurd (law t b fault (first_sound t b s a) f)) has)

pub faulty_not_second : SoundHasNoFault → (task : Option Task) (t : Task) → task ≡ Some t → (held : List ℕ → Option (List ℕ)) (fault : Fault)
    → IfSome (held (first_file t)) (λ b. IsFaultFor t b fault) → (R : Type 0)
    → OfFiles task held (λ u b s. HasSecondFaultFor u b s → R)
faulty_not_second law task t is held fault has R =
    subst (λ o. OfFiles o held (λ u b s. HasSecondFaultFor u b s → R)) (sym is)
    (of_first (held (first_file t)) (second_bytes (second_file t) held) (λ b s f a. absurd (law t b fault (second_fault_sound t b s a.0 a.1) f)) has)

-- FILE is sound: it has no fault.
pub sound_not_faulty : SoundHasNoFault → (task : Option Task) (t : Task) → task ≡ Some t → (held : List ℕ → Option (List ℕ))
    → IfSome (held (first_file t)) (IsSound t) → (R : Type 0)
    → OfFile task held (λ u b. HasFaultFor u b → R)
sound_not_faulty law task t is held has R =
    subst (λ o. OfFile o held (λ u b. HasFaultFor u b → R)) (sym is)
    (of_one (held (first_file t)) (λ b sound f. absurd (law t b f.0 sound f.1)) has)

-- Both are sound: the second one has no fault.
pub answered_not_second : SoundHasNoSecondFault → (task : Option Task) (t : Task) → task ≡ Some t → (held : List ℕ → Option (List ℕ))
    (text : List ℕ) (ended : ℕ) → IfHeld t held (λ b s. IsAnswerTo t b s text ended) → (R : Type 0)
    → OfFiles task held (λ u b s. HasSecondFaultFor u b s → R)
answered_not_second law task t is held text ended has R =
    subst (λ o. OfFiles o held (λ u b s. HasSecondFaultFor u b s → R)) (sym is)
    (of_both (held (first_file t)) (second_bytes (second_file t) held) (λ b s a f. absurd (law t b s f.0 (answer_sound t b s text ended a) f.1)) has)

-- The second one has a fault: they are not both sound.
pub second_not_sound : SoundHasNoSecondFault → (task : Option Task) (t : Task) → task ≡ Some t → (held : List ℕ → Option (List ℕ))
    (fault : SecondFault) → IfHeld t held (λ b s. IsSecondFaultFor t b s fault) → (R : Task → Type 0)
    → OfFiles task held (λ u b s. AreSound u b s → R u)
second_not_sound law task t is held fault has R =
    subst (λ o. OfFiles o held (λ u b s. AreSound u b s → R u)) (sym is)
    (of_both (held (first_file t)) (second_bytes (second_file t) held) (λ b s f a. absurd (law t b s fault a f)) has)

-- The second one is refused, whatever its fault.

refused_over : (t : Task) (told other : Option (List ℕ)) (R : Type 0) → R → IfBoth told other (λ b s. HasSecondFaultFor t b s → R)
refused_over t None other R r = tt
refused_over t (Some b) None R r = tt
refused_over t (Some b) (Some s) R r = λ f. r

pub second_refused : (task : Option Task) (held : List ℕ → Option (List ℕ)) (R : Type 0) → R
    → OfFiles task held (λ u b s. HasSecondFaultFor u b s → R)
second_refused None held R r = tt
second_refused (Some t) held R r = refused_over t (held (first_file t)) (second_bytes (second_file t) held) R r

-- What was answered, in part or whole.
pub front_of_answer : (task : Option Task) (t : Task) → task ≡ Some t → (held : List ℕ → Option (List ℕ)) (text : List ℕ) (ended : ℕ)
    (P : List ℕ → Type 0) → P text → IfHeld t held (λ b s. IsAnswerTo t b s text ended)
    → IfSome task (λ u. (x : List ℕ) × (n : ℕ) × P x × IfHeld u held (λ b s. IsAnswerTo u b s x n))
front_of_answer task t is held text ended P front has =
    subst (λ o. IfSome o (λ u. (x : List ℕ) × (n : ℕ) × P x × IfHeld u held (λ b s. IsAnswerTo u b s x n))) (sym is) (text, ended, front, has)

-- The whole that was answered.
pub whole_answer : (task : Option Task) (t : Task) → task ≡ Some t → (held : List ℕ → Option (List ℕ)) (text : List ℕ) (ended : ℕ)
    (P : List ℕ → Type 0) → P text → IsStatusOf t ended → IfSome (held (first_file t)) (IsSound t)
    → IfHeld t held (λ b s. IsAnswerTo t b s text ended)
    → IfSome task (λ u. IsStatusOf u ended × (x : List ℕ) × P x × IfSome (held (first_file u)) (IsSound u)
    × IfHeld u held (λ b s. IsAnswerTo u b s x ended))
whole_answer task t is held text ended P whole status sound has =
    subst (λ o. IfSome o (λ u. IsStatusOf u ended × (x : List ℕ) × P x × IfSome (held (first_file u)) (IsSound u)
    × IfHeld u held (λ b s. IsAnswerTo u b s x ended))) (sym is) (status, text, whole, sound, has)

-- The file that could not be read.
pub unread_file : (task : Option Task) (t : Task) → task ≡ Some t → (held : List ℕ → Option (List ℕ)) (name : List ℕ) (P : List ℕ → Type 0)
    → P name → MayBeUnread t (held (first_file t)) name → IfSome task (λ u. (x : List ℕ) × MayBeUnread u (held (first_file u)) x × P x)
unread_file task t is held name P said unread =
    subst (λ o. IfSome o (λ u. (x : List ℕ) × MayBeUnread u (held (first_file u)) x × P x)) (sym is) (name, unread, said)

-- A check that ends with 0.

checks : (file : List ℕ) (depth width : ℕ) (held : List ℕ → Option (List ℕ)) (text : List ℕ) (ended : ℕ) → ended ≡ 0
    → IfHeld (CheckFile file depth width) held (λ b s. IsAnswerTo (CheckFile file depth width) b s text ended)
    → IfSome (held file) (λ b. (spec : Spec) × IsSpecification width b spec × IsSafe spec)
checks file depth width held text ended zero has =
    of_one (held file) (λ b checked. (checked.report.spec, checked.report.described, checked.safe zero)) has

same_task : (t u : Task) → Some t ≡ Some u → t ≡ u
same_task t u e = cc

pub safe_check : (task : Option Task) (t : Task) → task ≡ Some t → (held : List ℕ → Option (List ℕ)) (text : List ℕ) (ended : ℕ)
    → IfHeld t held (λ b s. IsAnswerTo t b s text ended) → ended ≡ 0 → (file : List ℕ) (depth width : ℕ) → task ≡ Some (CheckFile file depth width)
    → IfSome (held file) (λ b. (spec : Spec) × IsSpecification width b spec × IsSafe spec)
safe_check task t is held text ended has zero file depth width checking =
    checks file depth width held text ended zero
    (subst (λ (u : Task). IfHeld u held (λ b s. IsAnswerTo u b s text ended)) (same_task t (CheckFile file depth width) (sym is ∙ checking)) has)
