use Rattle.std.proofs.lemmas.Result.{err_from_is_err_and}
use Rattle.oss_syntax.specs.declared.terminal.Mark.TheVariants as mark
use Rattle.oss_syntax.specs.Items.{IsTarget}
use Rattle.oss_reader.specs.Reads.{Nothing, NoMark, NoName}
use Rattle.oss_reader.specs.Ahead.{ahead}
use Rattle.oss_reader.proofs.Sequences.{on_broken, name_step, no_mark, no_name}
use Rattle.oss_reader.proofs.Rules as rule
use Rattle.oss_reader.proofs.refinement.target.Goals as goal

pub returns-in_err-first : goal.returns-in_err-first
returns-in_err-first c =
    let p = err_from_is_err_and c.from_residual.result c.from_residual.ensures.1 in
    rw (p.1, p.2)
    (on_broken c.in_err-first.field-0.0 (NoName (ahead c.args.terminals)) (Nothing IsTarget (ahead c.args.terminals))
    (rule.target_nameless (ahead c.args.terminals))
    c.in_err-first.ensures)

pub returns-in_err-port-in-Some : goal.returns-in_err-port-in-Some
returns-in_err-port-in-Some c =
    let p = err_from_is_err_and c.from_residual-in_err-port-in-Some.result c.from_residual-in_err-port-in-Some.ensures.1 in
    rw (p.1, p.2)
    (on_broken c.in_err-port-in-Some.field-0.0 (NoName (ahead c.in-Some.dotted)) (Nothing IsTarget (ahead c.args.terminals))
    (λ none. rule.target_dotted (ahead c.args.terminals) (ahead c.in_ok-first.more)
    (ahead c.in-Some.dotted) c.in_ok-first.first c.in_ok-first.ensures c.in-Some.ensures (λ port rest h. no_name none h))
    c.in_err-port-in-Some.ensures)

pub returns-in_err-left-in-Some : goal.returns-in_err-left-in-Some
returns-in_err-left-in-Some c =
    let p = err_from_is_err_and c.from_residual-in_err-left-in-Some.result c.from_residual-in_err-left-in-Some.ensures.1 in
    rw (p.1, p.2)
    (on_broken c.in_err-left-in-Some.field-0.0 (NoMark mark.Assign (ahead c.in_ok-port-in-Some.assigned)) (Nothing IsTarget (ahead c.args.terminals))
    (λ none. rule.target_dotted (ahead c.args.terminals) (ahead c.in_ok-first.more)
    (ahead c.in-Some.dotted) c.in_ok-first.first c.in_ok-first.ensures c.in-Some.ensures
    (λ port rest h. no_mark none (name_step c.in_ok-port-in-Some.ensures h).1))
    c.in_err-left-in-Some.ensures)

pub returns-in_ok-left-in-Some : goal.returns-in_ok-left-in-Some
returns-in_ok-left-in-Some c =
    rule.target_of_sub (ahead c.args.terminals) (ahead c.in_ok-first.more) (ahead c.in-Some.dotted) (ahead c.in_ok-port-in-Some.assigned)
    (ahead c.in_ok-left-in-Some.left) c.in_ok-first.first c.in_ok-port-in-Some.port
    c.in_ok-first.ensures c.in-Some.ensures c.in_ok-port-in-Some.ensures c.in_ok-left-in-Some.ensures

pub returns-in_err-own-in-None : goal.returns-in_err-own-in-None
returns-in_err-own-in-None c =
    let p = err_from_is_err_and c.from_residual-in_err-own-in-None.result c.from_residual-in_err-own-in-None.ensures.1 in
    rw (p.1, p.2)
    (on_broken c.in_err-own-in-None.field-0.0 (NoMark mark.Assign (ahead c.in_ok-first.more)) (Nothing IsTarget (ahead c.args.terminals))
    (λ none. rule.target_unassigned (ahead c.args.terminals) (ahead c.in_ok-first.more) c.in_ok-first.first c.in_ok-first.ensures c.in-None.ensures none)
    c.in_err-own-in-None.ensures)

pub returns-in_ok-own-in-None : goal.returns-in_ok-own-in-None
returns-in_ok-own-in-None c =
    rule.target_own (ahead c.args.terminals) (ahead c.in_ok-first.more)
    (ahead c.in_ok-own-in-None.own) c.in_ok-first.first c.in_ok-first.ensures c.in_ok-own-in-None.ensures
