-- The texts of lists in the code are those of the trees that they stand for.
use Rattle.std.proofs.Common.{◌≡◌, List, [], ◌∷◌, ◌++◌, map, refl, ap}
use Rattle.std.specs.List.{flat_map}
use Rattle.oss_syntax.specs.declared.interface.InterfaceItem.{InterfaceItem}
use Rattle.oss_syntax.specs.declared.refinement.RefinementItem.{RefinementItem}
use Rattle.oss_syntax.specs.declared.component.TreeComponent.{TreeComponent}
use Rattle.oss_syntax.specs.Trees.{item_tree, refinement_item_tree, component_tree, component_trees}
use Rattle.oss_printer.specs.Canonical.{item_text, refinement_item_text, next_component_text}
use Rattle.oss_printer.specs.Lines.{item_line, refinement_item_line, next_component_line}

pub item_lines : (items : List InterfaceItem) → flat_map item_line items ≡ flat_map item_text (map item_tree items)
unfolding item_line
item_lines [] = refl
item_lines (item ∷ items) = ap (λ t. item_text (item_tree item) ++ t) (item_lines items)

pub refinement_item_lines : (items : List RefinementItem)
    → flat_map refinement_item_line items ≡ flat_map refinement_item_text (map refinement_item_tree items)
unfolding refinement_item_line
refinement_item_lines [] = refl
refinement_item_lines (item ∷ items) = ap (λ t. refinement_item_text (refinement_item_tree item) ++ t) (refinement_item_lines items)

pub component_lines : (components : List TreeComponent)
    → flat_map next_component_line components ≡ flat_map next_component_text (component_trees components)
unfolding next_component_line
component_lines [] = refl
component_lines (c ∷ components) = ap (λ t. next_component_text (component_tree c) ++ t) (component_lines components)
