use Rattle.std.proofs.lemmas.Result.{err_from_is_err_and}
use Rattle.oss_syntax.specs.Expressions.{tree}
use Rattle.oss_syntax.specs.Items.{IsRefinementItem}
use Rattle.oss_reader.specs.Reads.{Nothing}
use Rattle.oss_reader.specs.Rules.{IsSub, IsConnection, IsRefined}
use Rattle.oss_reader.specs.Ahead.{ahead}
use Rattle.oss_reader.proofs.Sequences.{on_broken}
use Rattle.oss_reader.proofs.Rules as rule
use Rattle.oss_reader.proofs.refinement.item.Goals as goal

pub returns-in_err-name-in-Some : goal.returns-in_err-name-in-Some
returns-in_err-name-in-Some c =
    let p = err_from_is_err_and c.from_residual.result c.from_residual.ensures.1 in
    rw (p.1, p.2)
    (on_broken c.in_err-name-in-Some.field-0.0 (Nothing IsSub (ahead c.in-Some.more)) (Nothing IsRefinementItem (ahead c.args.terminals))
    (rule.item_sub_never (ahead c.args.terminals) (ahead c.in-Some.more) c.in-Some.ensures)
    c.in_err-name-in-Some.ensures)

pub returns-in_err-target-in-Some-after : goal.returns-in_err-target-in-Some-after
returns-in_err-target-in-Some-after c =
    let p = err_from_is_err_and c.from_residual-in_err-target-in-Some-after.result c.from_residual-in_err-target-in-Some-after.ensures.1 in
    rw (p.1, p.2)
    (on_broken c.in_err-target-in-Some-after.field-0.0 (Nothing IsConnection (ahead c.in-Some-after.more))
    (Nothing IsRefinementItem (ahead c.args.terminals))
    (rule.item_connection_never (ahead c.args.terminals) (ahead c.in-Some-after.more) c.in-Some-after.ensures)
    c.in_err-target-in-Some-after.ensures)

pub returns-in_err-name-in-None-after : goal.returns-in_err-name-in-None-after
returns-in_err-name-in-None-after c =
    let p = err_from_is_err_and c.from_residual-in_err-name-in-None-after.result c.from_residual-in_err-name-in-None-after.ensures.1 in
    rw (p.1, p.2)
    (on_broken c.in_err-name-in-None-after.field-0.0 (Nothing IsRefined (ahead c.in_ok-more-in-None-after.more))
    (Nothing IsRefinementItem (ahead c.args.terminals))
    (rule.item_refined_never (ahead c.args.terminals) (ahead c.in_ok-more-in-None-after.more) c.in_ok-more-in-None-after.ensures)
    c.in_err-name-in-None-after.ensures)

pub returns-in_ok-target-in-Some-after : goal.returns-in_ok-target-in-Some-after
returns-in_ok-target-in-Some-after c =
    let k = c.in_ok-target-in-Some-after in
    rule.item_connection (ahead c.args.terminals) (ahead c.in-Some-after.more) (k.target, tree k.source) (ahead k.left) c.in-Some-after.ensures k.ensures

pub returns-in_ok-name-in-None-after : goal.returns-in_ok-name-in-None-after
returns-in_ok-name-in-None-after c =
    let k = c.in_ok-name-in-None-after in
    rule.item_refined (ahead c.args.terminals) (ahead c.in_ok-more-in-None-after.more) (k.name, k.parts)
    (ahead k.left) c.in_ok-more-in-None-after.ensures k.ensures
