use Rattle.std.proofs.Common.{true, false}
use Rattle.std.proofs.lemmas.Result.{err_from_is_err_and}
use Rattle.oss_syntax.specs.Expressions.{tree}
use Rattle.oss_syntax.specs.Items.{IsItem}
use Rattle.oss_reader.specs.Reads.{Nothing}
use Rattle.oss_reader.specs.Rules.{IsContract}
use Rattle.oss_reader.specs.Ahead.{ahead}
use Rattle.oss_reader.proofs.Sequences.{on_broken}
use Rattle.oss_reader.proofs.Rules as rule
use Rattle.oss_reader.proofs.Results as result
use Rattle.oss_reader.proofs.interface.item.Goals as goal

pub returns-in_err-name-in-None-after : goal.returns-in_err-name-in-None-after
returns-in_err-name-in-None-after c =
    let p = err_from_is_err_and c.from_residual-in_err-name-in-None-after.result c.from_residual-in_err-name-in-None-after.ensures.1 in
    rw (p.1, p.2)
    (on_broken c.in_err-name-in-None-after.field-0.0 (Nothing IsContract (ahead c.in_ok-more-in-None-after.more)) (Nothing IsItem (ahead c.args.terminals))
    (rule.item_contract_never (ahead c.args.terminals) (ahead c.in_ok-more-in-None-after.more) c.in_ok-more-in-None-after.ensures)
    c.in_err-name-in-None-after.ensures)

pub returns-in-Some : goal.returns-in-Some
returns-in-Some c = result.port_result true (ahead c.args.terminals) (ahead c.in-Some.ported) c.port_item.result c.in-Some.ensures c.port_item.ensures

pub returns-in-Some-after : goal.returns-in-Some-after
returns-in-Some-after c = result.port_result false (ahead c.args.terminals)
    (ahead c.in-Some-after.ported) c.port_item-in-Some-after.result c.in-Some-after.ensures c.port_item-in-Some-after.ensures

pub returns-in_ok-name-in-None-after : goal.returns-in_ok-name-in-None-after
returns-in_ok-name-in-None-after c =
    let k = c.in_ok-name-in-None-after in
    rule.item_contract (ahead c.args.terminals) (ahead c.in_ok-more-in-None-after.more) (k.name, tree k.assume, tree k.guarantee)
    (ahead k.left) c.in_ok-more-in-None-after.ensures k.ensures
