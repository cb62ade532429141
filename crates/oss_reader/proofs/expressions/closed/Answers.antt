use Rattle.std.proofs.lemmas.Result.{err_from_is_err_and}
use Rattle.oss_syntax.specs.declared.terminal.Mark.TheVariants as mark
use Rattle.oss_syntax.specs.Expressions.{tree}
use Rattle.oss_syntax.specs.Formulas.{Closed}
use Rattle.oss_reader.specs.Phrases.{NoPhrase}
use Rattle.oss_reader.specs.Reads.{Nothing, NoMark}
use Rattle.oss_reader.specs.Ahead.{ahead}
use Rattle.oss_reader.proofs.Sequences.{on_broken}
use Rattle.oss_reader.proofs.Rules as rule
use Rattle.oss_reader.proofs.expressions.closed.Goals as goal

pub returns-in_err-part : goal.returns-in_err-part
returns-in_err-part c =
    let p = err_from_is_err_and c.from_residual.result c.from_residual.ensures.1 in
    rw (p.1, p.2)
    (on_broken c.in_err-part.field-0.0 (NoPhrase c.args.role 128 10 (ahead c.args.terminals)) (Nothing (Closed c.args.role) (ahead c.args.terminals))
    (rule.closed_never c.args.role (ahead c.args.terminals))
    c.in_err-part.ensures)

pub returns-in_err-left : goal.returns-in_err-left
returns-in_err-left c =
    let p = err_from_is_err_and c.from_residual-in_err-left.result c.from_residual-in_err-left.ensures.1 in
    rw (p.1, p.2)
    (on_broken c.in_err-left.field-0.0 (NoMark mark.Semicolon (ahead c.in_ok-part.rest)) (Nothing (Closed c.args.role) (ahead c.args.terminals))
    (rule.closed_open c.args.role (ahead c.args.terminals) (tree c.in_ok-part.part.expr) (ahead c.in_ok-part.rest) c.in_ok-part.ensures)
    c.in_err-left.ensures)

pub returns : goal.returns
returns c = rule.closed_sole c.args.role (ahead c.args.terminals) (tree c.in_ok-part.part.expr) (ahead c.in_ok-part.rest)
    (ahead c.in_ok-left.left) c.in_ok-part.ensures c.in_ok-left.ensures
