use Rattle.std.proofs.Common.{◌∷◌, List, [], ◌++◌, ◌∙◌, ap}
use Rattle.std.proofs.lemmas.Result.{err_from_is_err_and}
use Rattle.oss_syntax.specs.declared.words.Word.{Word}
use Rattle.oss_syntax.specs.declared.terminal.Mark.TheVariants as mark
use Rattle.oss_syntax.specs.Items.{IsNextName}
use Rattle.oss_syntax.specs.Steps.{Many}
use Rattle.oss_reader.specs.Reads.{NothingUntil, NoMark, NoName}
use Rattle.oss_reader.specs.Ahead.{ahead}
use Rattle.oss_reader.proofs.Sequences.{grows_last, grows_never, grows_more, on_broken}
use Rattle.oss_reader.proofs.Rules as rule
use Rattle.oss_reader.proofs.types.further_names.Goals as goal

pub returns-in-None : goal.returns-in-None
returns-in-None c = (
  c.further.invariant.0,
  c.further.invariant.1,
  grows_last IsNextName (NoMark mark.Comma)
      (ahead c.args.terminals) c.further.invariant.0 (ahead c.further.rest) c.further.invariant.2 c.in-None.ensures
      (rule.next_name_none (ahead c.further.rest) c.in-None.ensures),
)

pub returns-in_err-next-in-Some : goal.returns-in_err-next-in-Some
returns-in_err-next-in-Some c =
    let p = err_from_is_err_and c.from_residual-in_err-next-in-Some.result c.from_residual-in_err-next-in-Some.ensures.1 in
    rw (p.1, p.2)
    (on_broken c.in_err-next-in-Some.field-0.0 (NoName (ahead c.in-Some.more)) (NothingUntil (Many IsNextName) (NoMark mark.Comma) (ahead c.args.terminals))
    (λ none. grows_never IsNextName (NoMark mark.Comma) (ahead c.args.terminals) c.further.invariant.0 (ahead c.further.rest) c.further.invariant.2
    (λ stop. stop c.in-Some.ensures.span (ahead c.in-Some.more) c.in-Some.ensures.begins)
    (rule.next_name_never (ahead c.further.rest) (ahead c.in-Some.more) c.in-Some.ensures none))
    c.in_err-next-in-Some.ensures)

pub further-preserved : goal.further-preserved
further-preserved c = (
  c.further.invariant.0 ++ c.in_ok-next-in-Some.next ∷ [],
  c.in_ok-push-in-Some.ensures.ok ∙ ap (λ (x : List Word). x ++ c.in_ok-next-in-Some.next ∷ []) c.further.invariant.1,
  grows_more IsNextName (NoMark mark.Comma) (ahead c.args.terminals) c.further.invariant.0 (ahead c.further.rest) c.in_ok-next-in-Some.next
      (ahead c.in_ok-next-in-Some.left) c.further.invariant.2 (λ stop. stop c.in-Some.ensures.span (ahead c.in-Some.more) c.in-Some.ensures.begins)
      (rule.next_name (ahead c.further.rest) (ahead c.in-Some.more)
      (ahead c.in_ok-next-in-Some.left) c.in_ok-next-in-Some.next c.in-Some.ensures c.in_ok-next-in-Some.ensures),
)
