use Rattle.oss_syntax.specs.declared.expression.Role.TheVariants as roles
use Rattle.oss_reader.specs.Reads.{NoName}
use Rattle.oss_reader.specs.Ahead.{ahead}
use Rattle.oss_reader.proofs.Operands.{begins_name, begins_dotted, never_dotted}
use Rattle.oss_reader.proofs.Begins.{begin_halted}
use Rattle.oss_reader.proofs.expressions.named.Goals as goal

pub returns-in_ok-copy_word-in-Formula : goal.returns-in_ok-copy_word-in-Formula
returns-in_ok-copy_word-in-Formula c =
    rw (c.name_expr.ensures, c.in_ok-copy_word-in-Formula.ensures)
    (begins_name c.args.role c.args.room c.args.max (ahead c.args.terminals) (record { text = c.args.text.now; span = c.args.span })
    (ahead c.args.more) c.requires.begins c.requires.max c.requires.room (λ s d m e. let f = c.in-Formula.is in cc))

pub returns-in_ok-copy_word-in-None : goal.returns-in_ok-copy_word-in-None
returns-in_ok-copy_word-in-None c =
    rw (c.name_expr-in-None.ensures, c.in_ok-copy_word-in-None.ensures)
    (begins_name c.args.role c.args.room c.args.max (ahead c.args.terminals) (record { text = c.args.text.now; span = c.args.span })
    (ahead c.args.more) c.requires.begins c.requires.max c.requires.room (λ s d m e. c.in-None.ensures d m e))

pub returns-in_ok-copy_word-in-Some : goal.returns-in_ok-copy_word-in-Some
returns-in_ok-copy_word-in-Some c =
    let begins = c.requires.begins in
    let dot = c.in-Some.ensures.begins in
    let port = c.in_ok-port-in-Some.ensures in
    rw (c.in-State.is, c.dotted_expr.ensures, c.in_ok-copy_word-in-Some.ensures)
    (begins_dotted c.args.room c.args.max (ahead c.args.terminals)
    (record { text = c.args.text.now; span = c.args.span }) c.in-Some.ensures.span c.in_ok-port-in-Some.port (ahead c.in_ok-port-in-Some.left)
    (cc) c.requires.max c.requires.room)

pub returns-in_err-port-in-Some : goal.returns-in_err-port-in-Some
returns-in_err-port-in-Some c =
    let begins = c.requires.begins in
    let dot = c.in-Some.ensures.begins in
    rw c.in-State.is
    (begin_halted roles.State c.args.room c.args.max
    (ahead c.args.terminals) c.from_residual-in_err-port-in-Some.result c.in_err-port-in-Some.field-0.0 (NoName (ahead c.in-Some.left))
    c.from_residual-in_err-port-in-Some.ensures.1 c.in_err-port-in-Some.ensures
    (λ none. never_dotted c.args.room c.args.max (ahead c.args.terminals)
    (record { text = c.args.text.now; span = c.args.span }) c.in-Some.ensures.span (ahead c.in-Some.left) (cc) none))
