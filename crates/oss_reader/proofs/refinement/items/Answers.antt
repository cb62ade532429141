use Rattle.std.proofs.Common.{List, ◌∙◌, map, ap, sym, subst}
use Rattle.std.proofs.lemmas.Result.{err_from_is_err_and}
use Rattle.oss_syntax.specs.Items.{IsRefinementItem}
use Rattle.oss_syntax.specs.Steps.{Many}
use Rattle.oss_syntax.specs.Trees.{RefinementItemTree, refinement_item_tree}
use Rattle.oss_reader.specs.Ahead.{ahead}
use Rattle.oss_reader.proofs.Lengths.{refinement_part_less}
use Rattle.oss_reader.specs.Reads.{ListsGoOnFrom, Nothing, NothingUntil}
use Rattle.oss_reader.specs.Rules.{NoRefinementItem}
use Rattle.oss_reader.proofs.Sequences.{map_more, grows_last, grows_never, grows_more, on_broken}
use Rattle.oss_reader.proofs.Rules as rule
use Rattle.oss_reader.proofs.refinement.items.Goals as goal

pub returns-in_err-next : goal.returns-in_err-next
returns-in_err-next c =
    let p = err_from_is_err_and c.from_residual.result c.from_residual.ensures.1 in
    rw (p.1, p.2)
    (on_broken c.in_err-next.field-0.0 (Nothing IsRefinementItem (ahead c.each.rest))
    (NothingUntil (Many IsRefinementItem) NoRefinementItem (ahead c.args.terminals))
    (grows_never IsRefinementItem NoRefinementItem (ahead c.args.terminals) (map refinement_item_tree c.each.items)
    (ahead c.each.rest) c.each.invariant c.each-test.ensures)
    c.in_err-next.ensures)

pub each-smaller : goal.each-smaller
each-smaller c = refinement_part_less (ahead c.each.rest) (refinement_item_tree c.in_ok-next.next) (ahead c.in_ok-next.left) c.in_ok-next.ensures.holds

pub each-preserved : goal.each-preserved
each-preserved c =
    subst (λ (l : List RefinementItemTree). ListsGoOnFrom IsRefinementItem NoRefinementItem (ahead c.args.terminals) l (ahead c.in_ok-next.left))
    (sym (ap (map refinement_item_tree) c.in_ok-push.ensures.ok ∙ map_more refinement_item_tree c.each.items c.in_ok-next.next))
    (grows_more IsRefinementItem NoRefinementItem (ahead c.args.terminals) (map refinement_item_tree c.each.items) (ahead c.each.rest)
    (refinement_item_tree c.in_ok-next.next) (ahead c.in_ok-next.left) c.each.invariant c.each-test.ensures c.in_ok-next.ensures)

pub returns : goal.returns
returns c = grows_last IsRefinementItem NoRefinementItem (ahead c.args.terminals) (map refinement_item_tree c.each.items)
    (ahead c.each.rest) c.each.invariant c.each-test.ensures
    (rule.refinement_part_none (ahead c.each.rest) c.each-test.ensures.sub c.each-test.ensures.connection c.each-test.ensures.contract)
