-- What is answered of a lasso.
use Rattle.std.proofs.Common.{◌≡◌, ℕ, ◌<◌, List, length, Option, Some, None, Result, Ok, Err, IfOk, IfSome, refl, sym, ap, subst, ◌∙◌}
use Rattle.std.proofs.Math.Logic.{inl}
use Rattle.oss_base.specs.Limits.{most_bytes}
use Rattle.port_types.specs.declared.memory.NoMemory.{NoMemory}
use Rattle.spec_model.specs.declared.spec.Spec.{Spec}
use Rattle.spec_values.specs.SmallNumbers.{HasSmallNumbers}
use Rattle.replay.specs.declared.judgement.Judgement.{Judgement}
use Rattle.replay.specs.declared.named.NamedLasso.{NamedLasso}
use Rattle.replay.specs.Judgements.{AreJudgements}
use Rattle.replay.specs.LassoFiles.{IsLasso, IsBreak}
use Rattle.replay.specs.Laws.{TextsMeanOneLasso, JudgementsAreUnique}
use Rattle.report.specs.JudgementTexts.{judgements_text}
use Rattle.ocra_tool.specs.declared.outcome.Outcome.TheVariants as outcome
use Rattle.ocra_tool.specs.Files.{IsSoleSpecification}
use Rattle.ocra_tool.specs.Outcomes.{Means}
use Rattle.ocra_tool.specs.Laws.{ReplaysHaveOneText}
use Rattle.ocra_tool.specs.Replays.{IsReplayTextOf, IsReplayOf}
use Rattle.ocra_tool.specs.Tasks.{LassoBreak, second_fault_line, IsSecondFaultFor}
use Rattle.ocra_tool.specs.Words.{ReplayLasso, default_width}

pub record Judged (bytes second : List ℕ) (spec : Spec) (named : NamedLasso) (judgements : List Judgement) : Type 0 where
  pub sole : IsSoleSpecification default_width bytes spec
  pub lasso : IsLasso spec second named
  pub judged : AreJudgements spec named judgements

pub replay_of : (bytes second : List ℕ) (spec : Spec) (named : NamedLasso) (judgements : List Judgement) (r : Result (List ℕ) NoMemory)
    → ReplaysHaveOneText → Judged bytes second spec named judgements → IfOk r (λ text. text ≡ judgements_text spec judgements)
    → IfOk r (IsReplayOf bytes second)
replay_of bytes second spec named judgements (Ok text) law by is =
    let replay : IsReplayTextOf bytes second text = record {
      spec = spec;
      described = by.sole.is;
      named = named;
      lasso = by.lasso;
      judgements = judgements;
      judged = by.judged;
      is = is;
    } in
    record {
      replay = replay;
      sole = by.sole;
      only = λ other o. law bytes second text other spec by.sole replay o;
    }
replay_of bytes second spec named judgements (Err none) law by is = tt

-- Two files have one text of judgements.

-- what is told of one specification
pub record Told (spec : Spec) (second text : List ℕ) : Type 0 where
  pub named : NamedLasso
  pub lasso : IsLasso spec second named
  pub judgements : List Judgement
  pub judged : AreJudgements spec named judgements
  pub is : text ≡ judgements_text spec judgements

pub told_of : (bytes second text : List ℕ) (spec : Spec) (r : IsReplayTextOf bytes second text) → r.spec ≡ spec → Told spec second text
told_of bytes second text spec r same = subst (λ (s : Spec). Told s second text) same (record {
  named = r.named;
  lasso = r.lasso;
  judgements = r.judgements;
  judged = r.judged;
  is = r.is;
})

pub told_once : (spec : Spec) (second text other : List ℕ) → HasSmallNumbers spec → TextsMeanOneLasso → JudgementsAreUnique
    → Told spec second text → Told spec second other → other ≡ text
told_once spec second text other small one_lasso unique t o =
    let same : o.named ≡ t.named = one_lasso spec second o.named t.named small o.lasso t.lasso in
    let moved : AreJudgements spec t.named o.judgements = subst (λ (n : NamedLasso). AreJudgements spec n o.judgements) same o.judged in
    let judgements : o.judgements ≡ t.judgements = unique spec t.named o.judgements t.judgements moved t.judged in
    o.is ∙ (ap (judgements_text spec) judgements ∙ sym t.is)

broken : (file lasso bytes : List ℕ) (spec : Spec) (line : ℕ) (other : Option (List ℕ)) → IsSoleSpecification default_width bytes spec
    → IfSome other (λ second. IsBreak spec second line)
    → IfSome other (λ second. IsSecondFaultFor (ReplayLasso file lasso) bytes second (LassoBreak line))
broken file lasso bytes spec line None sole break = tt
broken file lasso bytes spec line (Some second) sole break = (spec, sole, break)

pub lasso_refused : (file lasso bytes text : List ℕ) (spec : Spec) (line : ℕ) (other : Option (List ℕ)) (before now : ℕ)
    → IsSoleSpecification default_width bytes spec → text ≡ second_fault_line lasso (LassoBreak line)
    → IfSome other (λ second. IsBreak spec second line)
    → Means (Some bytes) other before now (ReplayLasso file lasso) (outcome.SecondRefused text)
lasso_refused file lasso bytes text spec line other before now sole is break =
    (lasso, refl, LassoBreak line, is, (spec, sole.is), broken file lasso bytes spec line other sole break)

-- A file of too many bytes breaks at its first line.
pub too_many : (spec : Spec) (other : Option (List ℕ)) → IfSome other (λ second. most_bytes < length second)
    → IfSome other (λ second. IsBreak spec second 1)
too_many spec None long = tt
too_many spec (Some second) long = inl (long, refl)
