use Rattle.std.proofs.lemmas.Result.{err_from_is_err_and}
use Rattle.oss_syntax.specs.Items.{IsEnumerators, IsType}
use Rattle.oss_reader.specs.Reads.{Nothing}
use Rattle.oss_reader.specs.Ahead.{ahead}
use Rattle.oss_reader.proofs.Sequences.{on_broken}
use Rattle.oss_reader.proofs.Rules as rule
use Rattle.oss_reader.proofs.types.type_tree.Goals as goal

pub returns-in-Some : goal.returns-in-Some
returns-in-Some c = rule.type_boolean (ahead c.args.terminals) (ahead c.in-Some.left) c.in-Some.ensures

pub returns-in-Some-after : goal.returns-in-Some-after
returns-in-Some-after c = rule.type_event (ahead c.args.terminals) (ahead c.in-Some-after.left) c.in-Some-after.ensures

pub returns-in_err-names-in-Some-after-2 : goal.returns-in_err-names-in-Some-after-2
returns-in_err-names-in-Some-after-2 c =
    let p = err_from_is_err_and c.from_residual.result c.from_residual.ensures.1 in
    rw (p.1, p.2)
    (on_broken c.in_err-names-in-Some-after-2.field-0.0 (Nothing IsEnumerators (ahead c.in-Some-after-2.more)) (Nothing IsType (ahead c.args.terminals))
    (rule.type_enum_never (ahead c.args.terminals) (ahead c.in-Some-after-2.more) c.in-Some-after-2.ensures)
    c.in_err-names-in-Some-after-2.ensures)

pub returns-in_ok-names-in-Some-after-2 : goal.returns-in_ok-names-in-Some-after-2
returns-in_ok-names-in-Some-after-2 c =
    let k = c.in_ok-names-in-Some-after-2 in
    rule.type_enum (ahead c.args.terminals) (ahead c.in-Some-after-2.more) (ahead k.left) k.names c.in-Some-after-2.ensures k.ensures
