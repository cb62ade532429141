use Rattle.std.proofs.Common.{List, ◌∙◌, map, ap, sym, subst}
use Rattle.std.proofs.lemmas.Result.{err_from_is_err_and}
use Rattle.oss_syntax.specs.Items.{IsItem}
use Rattle.oss_syntax.specs.Steps.{Many}
use Rattle.oss_syntax.specs.Trees.{Item, item_tree}
use Rattle.oss_reader.specs.Ahead.{ahead}
use Rattle.oss_reader.proofs.Lengths.{item_less}
use Rattle.oss_reader.specs.Reads.{ListsGoOnFrom, Nothing, NothingUntil}
use Rattle.oss_reader.specs.Rules.{NoItem}
use Rattle.oss_reader.proofs.Sequences.{map_more, grows_last, grows_never, grows_more, on_broken}
use Rattle.oss_reader.proofs.Rules as rule
use Rattle.oss_reader.proofs.interface.items.Goals as goal

pub returns-in_err-next : goal.returns-in_err-next
returns-in_err-next c =
    let p = err_from_is_err_and c.from_residual.result c.from_residual.ensures.1 in
    rw (p.1, p.2)
    (on_broken c.in_err-next.field-0.0 (Nothing IsItem (ahead c.each.rest)) (NothingUntil (Many IsItem) NoItem (ahead c.args.terminals))
    (grows_never IsItem NoItem (ahead c.args.terminals) (map item_tree c.each.items) (ahead c.each.rest) c.each.invariant c.each-test.ensures)
    c.in_err-next.ensures)

pub each-smaller : goal.each-smaller
each-smaller c = item_less (ahead c.each.rest) (item_tree c.in_ok-next.next) (ahead c.in_ok-next.left) c.in_ok-next.ensures.holds

pub each-preserved : goal.each-preserved
each-preserved c =
    subst (λ (l : List Item). ListsGoOnFrom IsItem NoItem (ahead c.args.terminals) l (ahead c.in_ok-next.left))
    (sym (ap (map item_tree) c.in_ok-push.ensures.ok ∙ map_more item_tree c.each.items c.in_ok-next.next))
    (grows_more IsItem NoItem (ahead c.args.terminals) (map item_tree c.each.items) (ahead c.each.rest) (item_tree c.in_ok-next.next)
    (ahead c.in_ok-next.left) c.each.invariant c.each-test.ensures c.in_ok-next.ensures)

pub returns : goal.returns
returns c = grows_last IsItem NoItem (ahead c.args.terminals) (map item_tree c.each.items) (ahead c.each.rest) c.each.invariant c.each-test.ensures
    (rule.item_none (ahead c.each.rest) c.each-test.ensures.input c.each-test.ensures.output c.each-test.ensures.contract)
