use Rattle.std.proofs.Common.{sym, ap, ◌∙◌, ◌++◌, filter_map}
use Rattle.architecture.specs.Assembling.{item_by}
use Rattle.oss_syntax.specs.Trees.{refinement_item_tree}
use Rattle.spec_names.proofs.Lists.{filter_map-map}
use Rattle.architecture.proofs.items.put_refined.Goals as goal

pub returns-clause-items : goal.returns-clause-items
returns-clause-items c =
    let item = item_by c.args.bytes.now c.args.directory.now c.args.place in
    c.in_ok-cursor.ensures.items
    ∙ ap (λ list. c.args.items.now ++ list)
    (sym (filter_map-map item refinement_item_tree c.refinement_items-written.result.now) ∙ ap (filter_map item) c.refinement_items-written.ensures)
