use Rattle.std.proofs.Common.{map}
use Rattle.std.proofs.lemmas.Result.{err_from_is_err_and}
use Rattle.oss_syntax.specs.Items.{IsRefinementItem}
use Rattle.oss_syntax.specs.Steps.{Many}
use Rattle.oss_syntax.specs.Texts.{IsRefinement}
use Rattle.oss_syntax.specs.Trees.{refinement_item_tree}
use Rattle.oss_reader.specs.Reads.{NothingUntil}
use Rattle.oss_reader.specs.Rules.{NoRefinementItem, AtComponent}
use Rattle.oss_reader.specs.Ahead.{ahead}
use Rattle.oss_reader.proofs.Sequences.{on_broken}
use Rattle.oss_reader.proofs.Texts as text
use Rattle.oss_reader.proofs.component.refinement.Goals as goal

pub returns-in_err-ended-in-None : goal.returns-in_err-ended-in-None
returns-in_err-ended-in-None c =
    let p = err_from_is_err_and c.from_residual.result c.from_residual.ensures.1 in
    rw (p.1, p.2)
    (on_broken c.in_err-ended-in-None.field-0.0 (AtComponent (ahead c.args.terminals) → ⊥) (NothingUntil IsRefinement AtComponent (ahead c.args.terminals))
    (text.refinement_none_never (ahead c.args.terminals) c.in-None.ensures)
    c.in_err-ended-in-None.ensures)

pub returns-in_ok-ended-in-None : goal.returns-in_ok-ended-in-None
returns-in_ok-ended-in-None c = text.refinement_none (ahead c.args.terminals) c.in-None.ensures c.in_ok-ended-in-None.ensures

pub returns-in_err-items-in-Some : goal.returns-in_err-items-in-Some
returns-in_err-items-in-Some c =
    let p = err_from_is_err_and c.from_residual-in_err-items-in-Some.result c.from_residual-in_err-items-in-Some.ensures.1 in
    rw (p.1, p.2)
    (on_broken c.in_err-items-in-Some.field-0.0 (NothingUntil (Many IsRefinementItem) NoRefinementItem (ahead c.in-Some.more))
    (NothingUntil IsRefinement AtComponent (ahead c.args.terminals))
    (text.refinement_broken (ahead c.args.terminals) (ahead c.in-Some.more) c.in-Some.ensures)
    c.in_err-items-in-Some.ensures)

pub returns-in_err-ended-in-Some : goal.returns-in_err-ended-in-Some
returns-in_err-ended-in-Some c =
    let p = err_from_is_err_and c.from_residual-in_err-ended-in-Some.result c.from_residual-in_err-ended-in-Some.ensures.1 in
    rw (p.1, p.2)
    (on_broken c.in_err-ended-in-Some.field-0.0 (AtComponent (ahead c.in_ok-items-in-Some.left) → ⊥)
    (NothingUntil IsRefinement AtComponent (ahead c.args.terminals))
    (text.refinement_open (ahead c.args.terminals) (ahead c.in-Some.more) (map refinement_item_tree c.in_ok-items-in-Some.items)
    (ahead c.in_ok-items-in-Some.left) c.in-Some.ensures c.in_ok-items-in-Some.ensures)
    c.in_err-ended-in-Some.ensures)

pub returns-in_ok-ended-in-Some : goal.returns-in_ok-ended-in-Some
returns-in_ok-ended-in-Some c = text.refinement_some (ahead c.args.terminals) (ahead c.in-Some.more)
    (map refinement_item_tree c.in_ok-items-in-Some.items)
    (ahead c.in_ok-items-in-Some.left) c.in-Some.ensures c.in_ok-items-in-Some.ensures c.in_ok-ended-in-Some.ensures
