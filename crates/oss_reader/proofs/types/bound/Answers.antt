use Rattle.std.proofs.lemmas.Result.{err_from_is_err_and}
use Rattle.oss_syntax.specs.Items.{IsBound}
use Rattle.oss_reader.specs.Reads.{Nothing, NoNumeral}
use Rattle.oss_reader.specs.Ahead.{ahead}
use Rattle.oss_reader.proofs.Sequences.{on_broken}
use Rattle.oss_reader.proofs.Rules as rule
use Rattle.oss_reader.proofs.types.bound.Goals as goal

pub returns-in_err-value-in-Some : goal.returns-in_err-value-in-Some
returns-in_err-value-in-Some c =
    let p = err_from_is_err_and c.from_residual.result c.from_residual.ensures.1 in
    rw (p.1, p.2)
    (on_broken c.in_err-value-in-Some.field-0.0 (NoNumeral (ahead c.in-Some.more)) (Nothing IsBound (ahead c.args.terminals))
    (rule.bound_minus_never (ahead c.args.terminals) (ahead c.in-Some.more) c.in-Some.span c.in-Some.ensures)
    c.in_err-value-in-Some.ensures)

pub returns-in_ok-value-in-Some : goal.returns-in_ok-value-in-Some
returns-in_ok-value-in-Some c =
    rule.bound_minus (ahead c.args.terminals) (ahead c.in-Some.more) c.in-Some.span c.in_ok-value-in-Some._numeral c.in_ok-value-in-Some.value
    (ahead c.in_ok-value-in-Some.left) c.in-Some.ensures c.in_ok-value-in-Some.ensures

pub returns-in_err-value-in-None : goal.returns-in_err-value-in-None
returns-in_err-value-in-None c =
    let p = err_from_is_err_and c.from_residual-in_err-value-in-None.result c.from_residual-in_err-value-in-None.ensures.1 in
    rw (p.1, p.2)
    (on_broken c.in_err-value-in-None.field-0.0 (NoNumeral (ahead c.args.terminals)) (Nothing IsBound (ahead c.args.terminals))
    (rule.bound_plain_never (ahead c.args.terminals) c.in-None.ensures)
    c.in_err-value-in-None.ensures)

pub returns-in_ok-value-in-None : goal.returns-in_ok-value-in-None
returns-in_ok-value-in-None c =
    rule.bound_plain (ahead c.args.terminals) c.in_ok-value-in-None.span c.in_ok-value-in-None.value
    (ahead c.in_ok-value-in-None.left) c.in_ok-value-in-None.ensures
