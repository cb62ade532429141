-- What the items, components and texts of the code stand for.
use Rattle.std.specs.Prelude.{Bool, List, map, Option, option_map}
use Rattle.oss_base.specs.declared.place.Span.{Span}
use Rattle.oss_syntax.specs.declared.words.Word.{Word}
use Rattle.oss_syntax.specs.declared.words.PartWord.{PartWord}
use Rattle.oss_syntax.specs.declared.types.TypeTree.{TypeTree}
use Rattle.oss_syntax.specs.declared.interface.InterfaceItem.{InterfaceItem}
use Rattle.oss_syntax.specs.declared.interface.InterfaceItem.TheVariants as interface
use Rattle.oss_syntax.specs.declared.refinement.TargetTree.{TargetTree}
use Rattle.oss_syntax.specs.declared.refinement.RefinementItem.{RefinementItem}
use Rattle.oss_syntax.specs.declared.refinement.RefinementItem.TheVariants as refinement
use Rattle.oss_syntax.specs.declared.component.TreeComponent.{TreeComponent}
use Rattle.oss_syntax.specs.Expressions.{Tree, tree}

-- What the items, components and texts of the code stand for: the same with the trees of their
-- expressions.

-- an item of an interface: a port (whether it is an input, its name and type), or a contract with its
-- assumption and its guarantee
pub data Item : Type 0 where
  Port : Bool → Word → TypeTree → Item
  Contract : Word → Tree → Tree → Item

abbrev pub item_tree : InterfaceItem → Item
item_tree (interface.Port input name kind) = Port input name kind
item_tree (interface.Contract name assume guarantee) = Contract name (tree assume) (tree guarantee)

-- an item of a refinement: a subcomponent and its component, a connection, or a refined contract with
-- the contracts of subcomponents that refine it
pub data RefinementItemTree : Type 0 where
  Sub : Word → Word → RefinementItemTree
  Connection : TargetTree → Tree → RefinementItemTree
  Refined : Word → List PartWord → RefinementItemTree

abbrev pub refinement_item_tree : RefinementItem → RefinementItemTree
refinement_item_tree (refinement.Sub name component) = Sub name component
refinement_item_tree (refinement.Connection target source) = Connection target (tree source)
refinement_item_tree (refinement.Contract name parts) = Refined name parts

pub record Component : Type 0 where
  pub name : Word
  pub system : Option Span
  pub interface : List Item
  pub refinement : Option (List RefinementItemTree)

abbrev pub refinement_tree : Option (List RefinementItem) → Option (List RefinementItemTree)
refinement_tree refinement = option_map (map refinement_item_tree) refinement

abbrev pub component_tree : TreeComponent → Component
component_tree c = record {
  name = c.name;
  system = c.system;
  interface = map item_tree c.interface;
  refinement = refinement_tree c.refinement;
}

abbrev pub component_trees : List TreeComponent → List Component
component_trees components = map component_tree components
