use Rattle.std.proofs.Common.{◌∷◌}
use Rattle.oss_syntax.specs.declared.terminal.Mark.TheVariants as mark
use Rattle.oss_syntax.specs.Alphabet as terminal
use Rattle.oss_reader.specs.Reads.{NoName, NoMark}
use Rattle.oss_reader.specs.Ahead.{ahead}
use Rattle.oss_reader.proofs.Operands.{begins_of_port, never_of_port}
use Rattle.oss_reader.proofs.Begins.{begin_halted}
use Rattle.oss_reader.proofs.expressions.of_port.Goals as goal

pub returns-in-State : goal.returns-in-State
returns-in-State c = never_of_port c.args.role c.args.room c.args.max (ahead c.args.terminals) c.args.word c.args.span
    (ahead c.args.more) c.requires.begins (λ f o p q l e. let s = c.in-State.is in cc)

pub returns-in_err-opened-in-Formula : goal.returns-in_err-opened-in-Formula
returns-in_err-opened-in-Formula c =
    begin_halted c.args.role c.args.room c.args.max (ahead c.args.terminals) c.from_residual.result c.in_err-opened-in-Formula.field-0.0
    (NoMark mark.Open (ahead c.args.more))
    c.from_residual.ensures.1 c.in_err-opened-in-Formula.ensures
    (λ none. never_of_port c.args.role c.args.room c.args.max (ahead c.args.terminals) c.args.word c.args.span (ahead c.args.more) c.requires.begins
    (λ f o p q l e. none o (terminal.Name p ∷ terminal.Mark mark.Close q ∷ l) e))

pub returns-in_err-port-in-Formula : goal.returns-in_err-port-in-Formula
returns-in_err-port-in-Formula c =
    let opened = c.in_ok-opened-in-Formula.ensures.begins in
    begin_halted c.args.role c.args.room c.args.max
    (ahead c.args.terminals) c.from_residual-in_err-port-in-Formula.result c.in_err-port-in-Formula.field-0.0
    (NoName (ahead c.in_ok-opened-in-Formula.opened))
    c.from_residual-in_err-port-in-Formula.ensures.1 c.in_err-port-in-Formula.ensures
    (λ none. never_of_port c.args.role c.args.room c.args.max (ahead c.args.terminals) c.args.word c.args.span (ahead c.args.more) c.requires.begins
    (λ f o p q l e. none p (terminal.Mark mark.Close q ∷ l) cc))

pub returns-in_err-closed-in-Formula : goal.returns-in_err-closed-in-Formula
returns-in_err-closed-in-Formula c =
    let opened = c.in_ok-opened-in-Formula.ensures.begins in
    let port = c.in_ok-port-in-Formula.ensures in
    begin_halted c.args.role c.args.room c.args.max
    (ahead c.args.terminals) c.from_residual-in_err-closed-in-Formula.result c.in_err-closed-in-Formula.field-0.0
    (NoMark mark.Close (ahead c.in_ok-port-in-Formula.named))
    c.from_residual-in_err-closed-in-Formula.ensures.1 c.in_err-closed-in-Formula.ensures
    (λ none. never_of_port c.args.role c.args.room c.args.max (ahead c.args.terminals) c.args.word c.args.span (ahead c.args.more) c.requires.begins
    (λ f o p q l e. none q l cc))

pub returns-in_ok-closed-in-Formula : goal.returns-in_ok-closed-in-Formula
returns-in_ok-closed-in-Formula c =
    let begins = c.requires.begins in
    let opened = c.in_ok-opened-in-Formula.ensures.begins in
    let port = c.in_ok-port-in-Formula.ensures in
    let closed = c.in_ok-closed-in-Formula.ensures.begins in
    rw (c.in-Formula.is, c.of_port_expr.ensures)
    (begins_of_port c.args.room c.args.max (ahead c.args.terminals) c.args.word c.args.span c.in_ok-opened-in-Formula.ensures.span
    c.in_ok-port-in-Formula.port c.in_ok-closed-in-Formula.ensures.span (ahead c.in_ok-closed-in-Formula.closed) (cc) c.requires.max c.requires.room)
