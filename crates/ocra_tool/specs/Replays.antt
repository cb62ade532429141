-- What `replay` answers on a specification and a lasso of it: what the lasso says of each contract, as text (a
-- counterexample that is replayed: Biere, Cimatti, Clarke and Zhu, Symbolic Model Checking without BDDs, 1999).
use Rattle.std.specs.Prelude.{◌≡◌, ℕ, List}
use Rattle.spec_model.specs.declared.spec.Spec.{Spec}
use Rattle.replay.specs.declared.named.NamedLasso.{NamedLasso}
use Rattle.replay.specs.declared.judgement.Judgement.{Judgement}
use Rattle.replay.specs.LassoFiles.{IsLasso}
use Rattle.replay.specs.Judgements.{AreJudgements}
use Rattle.report.specs.JudgementTexts.{judgements_text}
use Rattle.ocra_tool.specs.Files.{IsSpecification, IsSoleSpecification}
use Rattle.ocra_tool.specs.Words.{default_width}

-- The text tells the judgements of the contracts of a specification that the first bytes are by a lasso that the second
-- bytes mean.
pub record IsReplayTextOf (bytes second text : List ℕ) : Type 0 where
  pub spec : Spec
  pub described : IsSpecification default_width bytes spec
  pub named : NamedLasso
  pub lasso : IsLasso spec second named
  pub judgements : List Judgement
  pub judged : AreJudgements spec named judgements
  pub is : text ≡ judgements_text spec judgements

-- The text is the only such text of these bytes, and the specification the only one that the first bytes are.
pub record IsReplayOf (bytes second text : List ℕ) : Type 0 where
  pub replay : IsReplayTextOf bytes second text
  pub sole : IsSoleSpecification default_width bytes replay.spec
  pub only : (other : List ℕ) → IsReplayTextOf bytes second other → other ≡ text
