use Rattle.std.proofs.Common.{◌≡◌, ℕ, List, sym, subst, ◌∙◌}
use Rattle.oss_syntax.specs.Spanless.{bare_components}
use Rattle.oss_syntax.specs.Terminals.{terminals_of}
use Rattle.oss_syntax.specs.Texts.{IsText}
use Rattle.oss_syntax.specs.Tokens.{AreTokens}
use Rattle.oss_syntax.specs.Trees.{Component}
use Rattle.oss_printer.specs.Laws.{ReadsBack}
use Rattle.oss_printer.proofs.ReadingItems.{reads_back}
use Rattle.oss_printer.proofs.Spanless.{same_text}
use Rattle.oss_printer.proofs.laws.canonical_text_reads_back.Goals as goal

-- what is the same but for its spans reads back too
over_spans : (read components : List Component) → bare_components components ≡ bare_components read → ReadsBack read
    → ReadsBack components
over_spans read components same back =
    let one = same_text read components (sym same) in
    record {
      tokens = back.tokens;
      again = back.again;
      cut = subst (λ (text : List ℕ). AreTokens text back.tokens) one back.cut;
      text = subst (λ (text : List ℕ). IsText (terminals_of text back.tokens) back.again) one back.text;
      same = back.same ∙ sym same;
    }

pub returns : goal.returns
returns c = λ bytes tokens read components are text same. over_spans read components same (reads_back bytes tokens read are text)
