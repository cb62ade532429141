use Rattle.std.proofs.lemmas.Result.{err_from_is_err_and}
use Rattle.oss_syntax.specs.declared.terminal.Mark.TheVariants as mark
use Rattle.oss_syntax.specs.Items.{IsNextName, IsEnumerators}
use Rattle.oss_syntax.specs.Steps.{Many}
use Rattle.oss_reader.specs.Reads.{Nothing, NothingUntil, NoMark, NoName}
use Rattle.oss_reader.specs.Ahead.{ahead}
use Rattle.oss_reader.proofs.Sequences.{on_broken}
use Rattle.oss_reader.proofs.Rules as rule
use Rattle.oss_reader.proofs.types.enumerators.Goals as goal

pub returns-in_err-first : goal.returns-in_err-first
returns-in_err-first c =
    let p = err_from_is_err_and c.from_residual.result c.from_residual.ensures.1 in
    rw (p.1, p.2)
    (on_broken c.in_err-first.field-0.0 (NoName (ahead c.args.terminals)) (Nothing IsEnumerators (ahead c.args.terminals))
    (rule.enumerators_nameless (ahead c.args.terminals))
    c.in_err-first.ensures)

pub returns-in_err-names : goal.returns-in_err-names
returns-in_err-names c =
    let p = err_from_is_err_and c.from_residual-in_err-names.result c.from_residual-in_err-names.ensures.1 in
    rw (p.1, p.2)
    (on_broken c.in_err-names.field-0.0 (NothingUntil (Many IsNextName) (NoMark mark.Comma) (ahead c.in_ok-first.more))
    (Nothing IsEnumerators (ahead c.args.terminals))
    (rule.enumerators_broken (ahead c.args.terminals) (ahead c.in_ok-first.more) c.in_ok-first.first c.in_ok-first.ensures)
    c.in_err-names.ensures)

pub returns-in_err-left : goal.returns-in_err-left
returns-in_err-left c =
    let p = err_from_is_err_and c.from_residual-in_err-left.result c.from_residual-in_err-left.ensures.1 in
    rw (p.1, p.2)
    (on_broken c.in_err-left.field-0.0 (NoMark mark.CloseBrace (ahead c.in_ok-names.rest)) (Nothing IsEnumerators (ahead c.args.terminals))
    (rule.enumerators_open (ahead c.args.terminals) (ahead c.in_ok-first.more)
    (ahead c.in_ok-names.rest) c.in_ok-first.first c.in_ok-names.ensures.0 c.in_ok-first.ensures c.in_ok-names.ensures.2)
    c.in_err-left.ensures)

pub returns : goal.returns
returns c =
    rw c.in_ok-names.ensures.1
    (rule.enumerators_sole (ahead c.args.terminals) (ahead c.in_ok-first.more) (ahead c.in_ok-names.rest)
    (ahead c.in_ok-left.left) c.in_ok-first.first c.in_ok-names.ensures.0
    c.in_ok-first.ensures c.in_ok-names.ensures.2 c.in_ok-left.ensures)
