-- Outcomes over bytes that are known, and over bytes that a shelf may tell.
use Rattle.std.proofs.Common.{◌≡◌, ℕ, ◌≤◌, List, Option, Some, None, IfSome, subst, arith}
use Rattle.std.proofs.Math.Logic.{inl, inr}
use Rattle.oss_io.specs.Outside.{Rose}
use Rattle.ocra_tool.specs.declared.outcome.Outcome.{Outcome}
use Rattle.ocra_tool.specs.declared.outcome.Outcome.TheVariants as outcome
use Rattle.ocra_tool.specs.Outcomes.{Means, MayBeUnread}
use Rattle.ocra_tool.specs.Tasks.{IfBoth, IsSound, IsFaultFor, IsSecondFaultFor, IsAnswerTo}
use Rattle.ocra_tool.specs.Words.{Task}

-- What is so of bytes is so of those that are told, where these are the same.
told_of : (P : List ℕ → Type 0) (told : Option (List ℕ)) (bytes : List ℕ) → IfSome told (λ h. bytes ≡ h) → P bytes → IfSome told P
told_of P None bytes same p = tt
told_of P (Some h) bytes same p = subst P same p

rises : (before mid now : ℕ) → before ≤ mid → Rose mid now → Rose before now
rises before mid now h k = (omega (arith, k.0), λ same. omega (arith, k.0, k.1 (omega (arith, k.0))))

unread_of : (task : Task) (told : Option (List ℕ)) (bytes name : List ℕ) → IfSome told (λ h. bytes ≡ h) → MayBeUnread task (Some bytes) name
    → MayBeUnread task told name
unread_of task told bytes name same (inl e) = inl e
unread_of task told bytes name same (inr e) = inr (e.0, told_of (IsSound task) told bytes same e.1)

-- FILE's bytes were read, as the count of faults went from `before` to `mid`.
pub after_first : (told other : Option (List ℕ)) (before mid now : ℕ) (task : Task) (bytes : List ℕ) (o : Outcome)
    → IfSome told (λ h. bytes ≡ h) → before ≤ mid → Means (Some bytes) other mid now task o → Means told other before now task o
after_first told other before mid now task bytes (outcome.Done report) same later is = (
  is.0,
  told_of (IsSound task) told bytes same is.1,
  told_of (λ (b : List ℕ). IfSome other (λ (s : List ℕ). IsAnswerTo task b s report.text report.status)) told bytes same is.2,
)
after_first told other before mid now task bytes (outcome.Refused line) same later is =
    (is.0, is.1, told_of (λ (b : List ℕ). IsFaultFor task b is.0) told bytes same is.2)
after_first told other before mid now task bytes (outcome.SecondRefused line) same later is = (
  is.0,
  is.1,
  is.2,
  is.3,
  told_of (IsSound task) told bytes same is.4,
  told_of (λ (b : List ℕ). IfSome other (λ (s : List ℕ). IsSecondFaultFor task b s is.2)) told bytes same is.5,
)
after_first told other before mid now task bytes (outcome.ReadFault name) same later is =
    (unread_of task told bytes name.now same is.0, rises before mid now later is.1)
after_first told other before mid now task bytes outcome.NoMemory same later is = tt

both_of : (P : List ℕ → List ℕ → Type 0) (told other : Option (List ℕ)) (second : List ℕ) → IfSome other (λ h. second ≡ h)
    → IfBoth told (Some second) P → IfBoth told other P
both_of P None other second same p = tt
both_of P (Some b) other second same p = told_of (P b) other second same p

-- The second file's bytes were read.
pub after_second : (told other : Option (List ℕ)) (before now : ℕ) (task : Task) (second : List ℕ) (o : Outcome)
    → IfSome other (λ h. second ≡ h) → Means told (Some second) before now task o → Means told other before now task o
after_second told other before now task second (outcome.Done report) same is =
    (is.0, is.1, both_of (λ b s. IsAnswerTo task b s report.text report.status) told other second same is.2)
after_second told other before now task second (outcome.Refused line) same is = is
after_second told other before now task second (outcome.SecondRefused line) same is =
    (is.0, is.1, is.2, is.3, is.4, both_of (λ b s. IsSecondFaultFor task b s is.2) told other second same is.5)
after_second told other before now task second (outcome.ReadFault name) same is = is
after_second told other before now task second outcome.NoMemory same is = tt
