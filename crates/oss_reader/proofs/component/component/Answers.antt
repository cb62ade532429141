use Rattle.std.proofs.lemmas.Result.{err_from_is_err_and}
use Rattle.oss_syntax.specs.declared.terminal.Mark.TheVariants as mark
use Rattle.oss_syntax.specs.Items.{IsItem}
use Rattle.oss_syntax.specs.Steps.{Many}
use Rattle.oss_syntax.specs.Texts.{IsRefinement}
use Rattle.oss_reader.specs.Reads.{Nothing, NothingUntil, NoMark, NoName}
use Rattle.oss_reader.specs.Rules.{NoItem, AtComponent, IsWhole}
use Rattle.oss_reader.specs.Ahead.{ahead}
use Rattle.oss_reader.proofs.Sequences.{on_broken}
use Rattle.oss_reader.proofs.Texts as text
use Rattle.oss_reader.proofs.component.component.Goals as goal

pub returns-in_err-called : goal.returns-in_err-called
returns-in_err-called c =
    let p = err_from_is_err_and c.from_residual.result c.from_residual.ensures.1 in
    rw (p.1, p.2)
    (on_broken c.in_err-called.field-0.0 (NoMark mark.Component (ahead c.args.terminals)) (Nothing IsWhole (ahead c.args.terminals))
    (text.component_unmarked (ahead c.args.terminals))
    c.in_err-called.ensures)

pub returns-in_err-name : goal.returns-in_err-name
returns-in_err-name c =
    let p = err_from_is_err_and c.from_residual-in_err-name.result c.from_residual-in_err-name.ensures.1 in
    rw (p.1, p.2)
    (on_broken c.in_err-name.field-0.0 (NoName (ahead c.in_ok-called.called)) (Nothing IsWhole (ahead c.args.terminals))
    (text.component_nameless (ahead c.args.terminals) (ahead c.in_ok-called.called) c.in_ok-called.ensures)
    c.in_err-name.ensures)

pub returns-in_err-more : goal.returns-in_err-more
returns-in_err-more c =
    let p = err_from_is_err_and c.from_residual-in_err-more.result c.from_residual-in_err-more.ensures.1 in
    rw (p.1, p.2)
    (on_broken c.in_err-more.field-0.0 (NoMark mark.Interface (ahead c.system-system.result.1)) (Nothing IsWhole (ahead c.args.terminals))
    (text.component_no_interface (ahead c.args.terminals) (ahead c.in_ok-called.called) (ahead c.in_ok-name.named)
    (ahead c.system-system.result.1) c.in_ok-name.name c.system-system.result.0 c.in_ok-called.ensures c.in_ok-name.ensures c.system-system.ensures)
    c.in_err-more.ensures)

pub returns-in_err-interface : goal.returns-in_err-interface
returns-in_err-interface c =
    let p = err_from_is_err_and c.from_residual-in_err-interface.result c.from_residual-in_err-interface.ensures.1 in
    rw (p.1, p.2)
    (on_broken c.in_err-interface.field-0.0 (NothingUntil (Many IsItem) NoItem (ahead c.in_ok-more.more)) (Nothing IsWhole (ahead c.args.terminals))
    (text.component_items (ahead c.args.terminals) (ahead c.in_ok-called.called) (ahead c.in_ok-name.named) (ahead c.system-system.result.1)
    (ahead c.in_ok-more.more) c.in_ok-name.name c.system-system.result.0 c.in_ok-called.ensures c.in_ok-name.ensures c.system-system.ensures
    c.in_ok-more.ensures)
    c.in_err-interface.ensures)

pub returns-in_err-refinement : goal.returns-in_err-refinement
returns-in_err-refinement c =
    let p = err_from_is_err_and c.from_residual-in_err-refinement.result c.from_residual-in_err-refinement.ensures.1 in
    rw (p.1, p.2)
    (on_broken c.in_err-refinement.field-0.0 (NothingUntil IsRefinement AtComponent (ahead c.in_ok-interface.refined))
    (Nothing IsWhole (ahead c.args.terminals))
    (text.component_refinement (ahead c.args.terminals) (ahead c.in_ok-called.called) (ahead c.in_ok-name.named) (ahead c.system-system.result.1)
    (ahead c.in_ok-more.more) (ahead c.in_ok-interface.refined) c.in_ok-name.name c.system-system.result.0 _ c.in_ok-called.ensures c.in_ok-name.ensures
    c.system-system.ensures c.in_ok-more.ensures c.in_ok-interface.ensures)
    c.in_err-refinement.ensures)

pub returns : goal.returns
returns c = text.component_whole (ahead c.args.terminals) (ahead c.in_ok-called.called) (ahead c.in_ok-name.named) (ahead c.system-system.result.1)
    (ahead c.in_ok-more.more) (ahead c.in_ok-interface.refined) (ahead c.in_ok-refinement.left) c.in_ok-name.name c.system-system.result.0 _ _
    c.in_ok-called.ensures c.in_ok-name.ensures c.system-system.ensures c.in_ok-more.ensures c.in_ok-interface.ensures c.in_ok-refinement.ensures
