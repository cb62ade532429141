use Rattle.std.proofs.lemmas.Result.{err_from_is_err_and}
use Rattle.oss_reader.specs.Rules.{NoHead}
use Rattle.oss_syntax.specs.Texts.{IsNoText}
use Rattle.oss_reader.specs.Ahead.{ahead}
use Rattle.oss_reader.proofs.Sequences.{on_broken}
use Rattle.oss_reader.proofs.Texts as text
use Rattle.oss_reader.proofs.Results as result
use Rattle.oss_reader.proofs.component.text.Goals as goal

pub returns-in_err-left : goal.returns-in_err-left
returns-in_err-left c =
    let p = err_from_is_err_and c.from_residual.result c.from_residual.ensures.1 in
    rw (p.1, p.2)
    (on_broken c.in_err-left.field-0.0 (NoHead (ahead c.args.terminals)) (IsNoText (ahead c.args.terminals))
    (text.text_headless (ahead c.args.terminals))
    c.in_err-left.ensures)

pub returns : goal.returns
returns c = result.text_result (ahead c.args.terminals) (ahead c.in_ok-left.left) c.components.result c.in_ok-left.ensures c.components.ensures
