use Rattle.std.proofs.lemmas.Result.{err_from_is_err_and}
use Rattle.oss_syntax.specs.declared.terminal.Mark.TheVariants as mark
use Rattle.oss_syntax.specs.Items.{IsPart, IsNextPart, IsParts}
use Rattle.oss_syntax.specs.Steps.{Many}
use Rattle.oss_reader.specs.Reads.{Nothing, NothingUntil, NoMark}
use Rattle.oss_reader.specs.Ahead.{ahead}
use Rattle.oss_reader.proofs.Sequences.{on_broken}
use Rattle.oss_reader.proofs.Rules as rule
use Rattle.oss_reader.proofs.refinement.parts.Goals as goal

pub returns-in_err-first : goal.returns-in_err-first
returns-in_err-first c =
    let p = err_from_is_err_and c.from_residual.result c.from_residual.ensures.1 in
    rw (p.1, p.2)
    (on_broken c.in_err-first.field-0.0 (Nothing IsPart (ahead c.args.terminals)) (Nothing IsParts (ahead c.args.terminals))
    (rule.parts_first (ahead c.args.terminals))
    c.in_err-first.ensures)

pub returns-in_err-parts : goal.returns-in_err-parts
returns-in_err-parts c =
    let p = err_from_is_err_and c.from_residual-in_err-parts.result c.from_residual-in_err-parts.ensures.1 in
    rw (p.1, p.2)
    (on_broken c.in_err-parts.field-0.0 (NothingUntil (Many IsNextPart) (NoMark mark.Comma) (ahead c.in_ok-first.more))
    (Nothing IsParts (ahead c.args.terminals))
    (rule.parts_broken (ahead c.args.terminals) (ahead c.in_ok-first.more) c.in_ok-first.first c.in_ok-first.ensures)
    c.in_err-parts.ensures)

pub returns-in_err-left : goal.returns-in_err-left
returns-in_err-left c =
    let p = err_from_is_err_and c.from_residual-in_err-left.result c.from_residual-in_err-left.ensures.1 in
    rw (p.1, p.2)
    (on_broken c.in_err-left.field-0.0 (NoMark mark.Semicolon (ahead c.in_ok-parts.rest)) (Nothing IsParts (ahead c.args.terminals))
    (rule.parts_open (ahead c.args.terminals) (ahead c.in_ok-first.more)
    (ahead c.in_ok-parts.rest) c.in_ok-first.first c.in_ok-parts.ensures.0 c.in_ok-first.ensures c.in_ok-parts.ensures.2)
    c.in_err-left.ensures)

pub returns : goal.returns
returns c =
    rw c.in_ok-parts.ensures.1
    (rule.parts_sole (ahead c.args.terminals) (ahead c.in_ok-first.more) (ahead c.in_ok-parts.rest)
    (ahead c.in_ok-left.left) c.in_ok-first.first c.in_ok-parts.ensures.0
    c.in_ok-first.ensures c.in_ok-parts.ensures.2 c.in_ok-left.ensures)
