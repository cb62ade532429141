use Rattle.std.proofs.Common.{codes}
use Rattle.std.proofs.lemmas.Result.{err_from_is_err_and}
use Rattle.oss_reader.specs.Reads.{NoMinus, NotNamed}
use Rattle.oss_reader.specs.Rules.{NoHead}
use Rattle.oss_reader.specs.Ahead.{ahead}
use Rattle.oss_reader.proofs.Sequences.{on_broken}
use Rattle.oss_reader.proofs.Texts as text
use Rattle.oss_reader.proofs.component.head.Goals as goal

pub returns-in-None : goal.returns-in-None
returns-in-None c = text.head_none (ahead c.args.terminals) c.in-None.ensures

pub returns-in_err-required-in-Some : goal.returns-in_err-required-in-Some
returns-in_err-required-in-Some c =
    let p = err_from_is_err_and c.from_residual.result c.from_residual.ensures.1 in
    rw (p.1, p.2)
    (on_broken c.in_err-required-in-Some.field-0.0 (NotNamed (codes "requires") (ahead c.in-Some.at)) (NoHead (ahead c.args.terminals))
    (λ none. text.head_never (ahead c.args.terminals) (ahead c.in-Some.at) c.in-Some.ensures
    (text.line_first (ahead c.args.terminals) (ahead c.in-Some.at) c.in-Some.ensures none))
    c.in_err-required-in-Some.ensures)

pub returns-in_err-discrete-in-Some : goal.returns-in_err-discrete-in-Some
returns-in_err-discrete-in-Some c =
    let p = err_from_is_err_and c.from_residual-in_err-discrete-in-Some.result c.from_residual-in_err-discrete-in-Some.ensures.1 in
    rw (p.1, p.2)
    (on_broken c.in_err-discrete-in-Some.field-0.0 (NotNamed (codes "discrete") (ahead c.in_ok-required-in-Some.required)) (NoHead (ahead c.args.terminals))
    (λ none. text.head_never (ahead c.args.terminals) (ahead c.in-Some.at) c.in-Some.ensures
    (text.line_second (ahead c.args.terminals) (ahead c.in-Some.at)
    (ahead c.in_ok-required-in-Some.required) c.in-Some.ensures c.in_ok-required-in-Some.ensures none))
    c.in_err-discrete-in-Some.ensures)

pub returns-in_err-dashed-in-Some : goal.returns-in_err-dashed-in-Some
returns-in_err-dashed-in-Some c =
    let p = err_from_is_err_and c.from_residual-in_err-dashed-in-Some.result c.from_residual-in_err-dashed-in-Some.ensures.1 in
    rw (p.1, p.2)
    (on_broken c.in_err-dashed-in-Some.field-0.0 (NoMinus (ahead c.in_ok-discrete-in-Some.discrete)) (NoHead (ahead c.args.terminals))
    (λ none. text.head_never (ahead c.args.terminals) (ahead c.in-Some.at) c.in-Some.ensures
    (text.line_third (ahead c.args.terminals) (ahead c.in-Some.at) (ahead c.in_ok-required-in-Some.required)
    (ahead c.in_ok-discrete-in-Some.discrete) c.in-Some.ensures c.in_ok-required-in-Some.ensures c.in_ok-discrete-in-Some.ensures none))
    c.in_err-dashed-in-Some.ensures)

pub returns-in_err-line-in-Some : goal.returns-in_err-line-in-Some
returns-in_err-line-in-Some c =
    let p = err_from_is_err_and c.from_residual-in_err-line-in-Some.result c.from_residual-in_err-line-in-Some.ensures.1 in
    rw (p.1, p.2)
    (on_broken c.in_err-line-in-Some.field-0.0 (NotNamed (codes "time") (ahead c.in_ok-dashed-in-Some.dashed)) (NoHead (ahead c.args.terminals))
    (λ none. text.head_never (ahead c.args.terminals) (ahead c.in-Some.at) c.in-Some.ensures
    (text.line_fourth (ahead c.args.terminals) (ahead c.in-Some.at) (ahead c.in_ok-required-in-Some.required)
    (ahead c.in_ok-discrete-in-Some.discrete) (ahead c.in_ok-dashed-in-Some.dashed) c.in_ok-dashed-in-Some.ensures.0 c.in-Some.ensures
    c.in_ok-required-in-Some.ensures c.in_ok-discrete-in-Some.ensures c.in_ok-dashed-in-Some.ensures.1 none))
    c.in_err-line-in-Some.ensures)

pub returns-in-Some-after : goal.returns-in-Some-after
returns-in-Some-after c = text.head_closed (ahead c.args.terminals) (ahead c.in_ok-line-in-Some.line) (ahead c.in-Some-after.left)
    (text.line_read (ahead c.args.terminals) (ahead c.in-Some.at) (ahead c.in_ok-required-in-Some.required) (ahead c.in_ok-discrete-in-Some.discrete)
    (ahead c.in_ok-dashed-in-Some.dashed) (ahead c.in_ok-line-in-Some.line) c.in_ok-dashed-in-Some.ensures.0 c.in-Some.ensures
    c.in_ok-required-in-Some.ensures c.in_ok-discrete-in-Some.ensures c.in_ok-dashed-in-Some.ensures.1 c.in_ok-line-in-Some.ensures) c.in-Some-after.ensures
    (ahead c.in-Some.at) c.in-Some.ensures

pub returns-in-None-after : goal.returns-in-None-after
returns-in-None-after c = text.head_bare (ahead c.args.terminals) (ahead c.in_ok-line-in-Some.line)
    (text.line_read (ahead c.args.terminals) (ahead c.in-Some.at) (ahead c.in_ok-required-in-Some.required) (ahead c.in_ok-discrete-in-Some.discrete)
    (ahead c.in_ok-dashed-in-Some.dashed) (ahead c.in_ok-line-in-Some.line) c.in_ok-dashed-in-Some.ensures.0 c.in-Some.ensures
    c.in_ok-required-in-Some.ensures c.in_ok-discrete-in-Some.ensures c.in_ok-dashed-in-Some.ensures.1 c.in_ok-line-in-Some.ensures) c.in-None-after.ensures
    (ahead c.in-Some.at) c.in-Some.ensures
