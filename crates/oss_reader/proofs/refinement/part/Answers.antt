use Rattle.std.proofs.lemmas.Result.{err_from_is_err_and}
use Rattle.oss_syntax.specs.declared.terminal.Mark.TheVariants as mark
use Rattle.oss_syntax.specs.Items.{IsPart}
use Rattle.oss_reader.specs.Reads.{Nothing, NoMark, NoName}
use Rattle.oss_reader.specs.Ahead.{ahead}
use Rattle.oss_reader.proofs.Sequences.{on_broken, mark_step, name_step, no_mark, no_name}
use Rattle.oss_reader.proofs.Rules as rule
use Rattle.oss_reader.proofs.refinement.part.Goals as goal

pub returns-in_err-sub : goal.returns-in_err-sub
returns-in_err-sub c =
    let p = err_from_is_err_and c.from_residual.result c.from_residual.ensures.1 in
    rw (p.1, p.2)
    (on_broken c.in_err-sub.field-0.0 (NoName (ahead c.args.terminals)) (Nothing IsPart (ahead c.args.terminals))
    (λ none p rest h. no_name none h)
    c.in_err-sub.ensures)

pub returns-in_err-more : goal.returns-in_err-more
returns-in_err-more c =
    let p = err_from_is_err_and c.from_residual-in_err-more.result c.from_residual-in_err-more.ensures.1 in
    rw (p.1, p.2)
    (on_broken c.in_err-more.field-0.0 (NoMark mark.Dot (ahead c.in_ok-sub.dotted)) (Nothing IsPart (ahead c.args.terminals))
    (λ none p rest h. no_mark none (name_step c.in_ok-sub.ensures h).1)
    c.in_err-more.ensures)

pub returns-in_err-contract : goal.returns-in_err-contract
returns-in_err-contract c =
    let p = err_from_is_err_and c.from_residual-in_err-contract.result c.from_residual-in_err-contract.ensures.1 in
    rw (p.1, p.2)
    (on_broken c.in_err-contract.field-0.0 (NoName (ahead c.in_ok-more.more)) (Nothing IsPart (ahead c.args.terminals))
    (λ none p rest h. no_name none (mark_step c.in_ok-more.ensures (name_step c.in_ok-sub.ensures h).1))
    c.in_err-contract.ensures)

pub returns : goal.returns
returns c = rule.part_sole (ahead c.args.terminals) (ahead c.in_ok-sub.dotted) (ahead c.in_ok-more.more)
    (ahead c.in_ok-contract.left) c.in_ok-sub.sub c.in_ok-contract.contract c.in_ok-sub.ensures c.in_ok-more.ensures c.in_ok-contract.ensures
