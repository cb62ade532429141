use Rattle.std.proofs.Common.{List, ◌∙◌, ap, sym, subst}
use Rattle.std.proofs.lemmas.Result.{err_from_is_err_and}
use Rattle.oss_syntax.specs.Steps.{Many}
use Rattle.oss_syntax.specs.Trees.{Component, component_tree, component_trees}
use Rattle.oss_reader.specs.Ahead.{ahead}
use Rattle.oss_reader.proofs.Lengths.{component_less}
use Rattle.oss_reader.specs.Reads.{ListsGoOnFrom, Nothing, SoleUntil, NothingUntil}
use Rattle.oss_reader.specs.Rules.{IsWhole, AtEnd}
use Rattle.oss_reader.proofs.Sequences.{map_more, grows_last, grows_never, grows_more, on_broken}
use Rattle.oss_reader.proofs.Texts as text
use Rattle.oss_reader.proofs.component.components.Goals as goal

pub returns-in_err-next : goal.returns-in_err-next
returns-in_err-next c =
    let p = err_from_is_err_and c.from_residual.result c.from_residual.ensures.1 in
    rw (p.1, p.2)
    (on_broken c.in_err-next.field-0.0 (Nothing IsWhole (ahead c.each.rest)) (NothingUntil (Many IsWhole) AtEnd (ahead c.args.terminals))
    (grows_never IsWhole AtEnd (ahead c.args.terminals) (component_trees c.each.components) (ahead c.each.rest) c.each.invariant c.each-test.ensures)
    c.in_err-next.ensures)

pub each-smaller : goal.each-smaller
each-smaller c = component_less (ahead c.each.rest) (component_tree c.in_ok-next.next) (ahead c.in_ok-next.left) c.in_ok-next.ensures.holds.0

pub each-preserved : goal.each-preserved
each-preserved c =
    subst (λ (l : List Component). ListsGoOnFrom IsWhole AtEnd (ahead c.args.terminals) l (ahead c.in_ok-next.left))
    (sym (ap (component_trees) c.in_ok-push.ensures.ok ∙ map_more component_tree c.each.components c.in_ok-next.next))
    (grows_more IsWhole AtEnd (ahead c.args.terminals) (component_trees c.each.components) (ahead c.each.rest) (component_tree c.in_ok-next.next)
    (ahead c.in_ok-next.left) c.each.invariant c.each-test.ensures c.in_ok-next.ensures)

pub returns : goal.returns
returns c =
    subst (SoleUntil (Many IsWhole) AtEnd (ahead c.args.terminals) (component_trees c.each.components)) c.each-test.ensures
    (grows_last IsWhole AtEnd (ahead c.args.terminals) (component_trees c.each.components) (ahead c.each.rest) c.each.invariant c.each-test.ensures
    (text.end_nothing (ahead c.each.rest) c.each-test.ensures))
