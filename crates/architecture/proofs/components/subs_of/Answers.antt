use Rattle.std.proofs.Common.{sym, ap, ◌∙◌, filter_map}
use Rattle.architecture.specs.Assembling.{sub_by}
use Rattle.oss_syntax.specs.Trees.{refinement_item_tree}
use Rattle.spec_names.proofs.Lists.{filter_map-map}
use Rattle.architecture.proofs.components.subs_of.Goals as goal

pub returns : goal.returns
returns c =
    c.in_ok-subs.ensures
    ∙ (sym (filter_map-map (sub_by c.args.names.now) refinement_item_tree c.refinement_items.result.now)
    ∙ ap (filter_map (sub_by c.args.names.now)) c.refinement_items.ensures)
