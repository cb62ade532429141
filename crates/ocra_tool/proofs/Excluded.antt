-- Files without a fault have none.
use Rattle.std.proofs.Common.{◌≡◌, ℕ, ◌<◌, ◌≤◌, List, length, Some, None, subst, sym, ap, ◌∙◌, arith, option_map}
use Rattle.std.proofs.Math.Logic.{inl, inr}
use Rattle.oss_base.specs.Limits.{most_bytes}
use Rattle.oss_base.specs.declared.fault.Fault.{Fault}
use Rattle.oss_lexer.specs.Laws.{OneTokenList, TokensWithoutFault}
use Rattle.oss_syntax.specs.declared.token.Token.{Token}
use Rattle.oss_syntax.specs.Terminals.{terminals_of}
use Rattle.oss_syntax.specs.Texts.{IsText}
use Rattle.oss_syntax.specs.Trees.{Component}
use Rattle.architecture.specs.FirstFaults.{tree_fault, fault_at}
use Rattle.architecture.specs.Standing.{Stands}
use Rattle.architecture.specs.Laws.{StandsIsUnique}
use Rattle.spec_model.specs.declared.spec.Spec.{Spec}
use Rattle.replay.specs.Laws.{LassosDontBreak}
use Rattle.replay.specs.LassoFiles.{IsLasso, IsBreak}
use Rattle.replay.specs.declared.named.NamedLasso.{NamedLasso}
use Rattle.ocra_tool.specs.Files.{IsSoleTreeOf, IsSpecOf, IsSpecification, IsSoleSpecification, IsFaultOf}
use Rattle.ocra_tool.specs.Files.{IsSyntaxFault, IsTreeFault, IsLevelFault}
use Rattle.ocra_tool.specs.Laws.{SoundHasNoFault, SoundHasNoSecondFault}
use Rattle.ocra_tool.specs.Tasks.{LassoBreak, task_width}
use Rattle.ocra_tool.specs.Words.{CheckFile, ReplayLasso, PrintFile}
use Rattle.levels.specs.LevelFaults.{first_level_fault}

too_long : (bytes : List ℕ) → most_bytes < length bytes → length bytes ≤ most_bytes → ⊥
too_long bytes long short = omega (arith, long, short)

no_syntax_fault : OneTokenList → (width : ℕ) (bytes : List ℕ) (fault : Fault) (s : Spec) (a : IsSpecification width bytes s) → IsSyntaxFault bytes fault → ⊥
no_syntax_fault one width bytes fault s a f =
    f.no_text a.components (subst (λ (ts : List Token). IsText (terminals_of bytes ts) a.components)
    (one bytes a.tree.tokens f.tokens a.tree.cut f.cut) a.tree.text)

no_tree_fault : (width : ℕ) (bytes : List ℕ) (fault : Fault) (s : Spec) (a : IsSpecification width bytes s) → IsTreeFault bytes fault → ⊥
no_tree_fault width bytes fault s a f =
    let same : a.components ≡ f.components = f.tree.sole a.components a.tree in
    let none : tree_fault bytes f.components ≡ None = ap (tree_fault bytes) (sym same) ∙ ap (option_map (fault_at bytes)) a.of.faultless in
    let both : None ≡ Some fault = sym none ∙ f.first in
    cc

no_level_fault : StandsIsUnique → (width : ℕ) (bytes : List ℕ) (fault : Fault) (s : Spec) (a : IsSpecification width bytes s)
    → IsLevelFault width bytes fault → ⊥
no_level_fault unique width bytes fault s a f =
    let same : a.components ≡ f.components = f.tree.sole a.components a.tree in
    let specs : s ≡ f.spec = unique bytes f.components s f.spec
    (subst (λ (all : List Component). Stands bytes all s) same a.of.stands) f.of.stands in
    let both : None ≡ Some fault = sym a.levels ∙ (ap (first_level_fault width) specs ∙ f.first) in
    cc

-- what excludes faults
pub record Excluding : Type 0 where
  pub one : OneTokenList
  pub without : TokensWithoutFault
  pub unique : StandsIsUnique

no_fault : Excluding → (width : ℕ) (bytes : List ℕ) (fault : Fault) (s : Spec) → IsSpecification width bytes s → IsFaultOf width bytes fault → ⊥
no_fault by width bytes fault s a (inl f) = too_long bytes f.long a.tree.short
no_fault by width bytes fault s a (inr (inl f)) = by.without bytes a.tree.tokens fault a.tree.cut f.first
no_fault by width bytes fault s a (inr (inr (inl f))) = no_syntax_fault by.one width bytes fault s a f
no_fault by width bytes fault s a (inr (inr (inr (inl f)))) = no_tree_fault width bytes fault s a f
no_fault by width bytes fault s a (inr (inr (inr (inr f)))) = no_level_fault by.unique width bytes fault s a f

pub sound_has_no_fault : Excluding → SoundHasNoFault
sound_has_no_fault by task bytes fault a f = no_fault by (task_width task) bytes fault a.0 a.1 f

-- The second file.

no_break : LassosDontBreak → (second : List ℕ) (s t : Spec) (named : NamedLasso) (line : ℕ) → s ≡ t → IsLasso s second named → IsBreak t second line → ⊥
no_break whole second s t named line same lasso break =
    whole t second named line (subst (λ (u : Spec). IsLasso u second named) same lasso) break

pub sound_has_no_second_fault : LassosDontBreak → SoundHasNoSecondFault
sound_has_no_second_fault whole (CheckFile file depth width) bytes second fault a f = f
sound_has_no_second_fault whole (ReplayLasso file lasso) bytes second (LassoBreak line) a f =
    no_break whole second a.0 f.0 a.2 line (f.1.only a.0 a.1) a.3 f.2
sound_has_no_second_fault whole (PrintFile file) bytes second fault a f = f

-- One tree, one specification.
pub sole_spec : StandsIsUnique → (width : ℕ) (bytes : List ℕ) (all : List Component) (s : Spec) → IsSoleTreeOf bytes all → IsSpecOf bytes all s
    → first_level_fault width s ≡ None → IsSoleSpecification width bytes s
sole_spec unique width bytes all s sole of clear = record {
  is = record { components = all; tree = sole.tree; of = of; levels = clear };
  only = λ other o. unique bytes all other s (subst (λ (cs : List Component). Stands bytes cs other) (sole.sole o.components o.tree) o.of.stands)
      of.stands;
}
