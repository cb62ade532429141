-- The texts of items and components as the code has them. This file serves proofs only: no public contract cites it.
use Rattle.std.specs.Prelude.{ℕ, List}
use Rattle.oss_syntax.specs.declared.interface.InterfaceItem.{InterfaceItem}
use Rattle.oss_syntax.specs.declared.refinement.RefinementItem.{RefinementItem}
use Rattle.oss_syntax.specs.declared.component.TreeComponent.{TreeComponent}
use Rattle.oss_syntax.specs.Trees.{item_tree, refinement_item_tree, component_tree}
use Rattle.oss_printer.specs.Canonical.{item_text, refinement_item_text, next_component_text}

unfoldable pub item_line : InterfaceItem → List ℕ
item_line item = item_text (item_tree item)

unfoldable pub refinement_item_line : RefinementItem → List ℕ
refinement_item_line item = refinement_item_text (refinement_item_tree item)

unfoldable pub next_component_line : TreeComponent → List ℕ
next_component_line c = next_component_text (component_tree c)
