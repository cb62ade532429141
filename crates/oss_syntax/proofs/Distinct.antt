use Rattle.std.proofs.Common.{◌≡◌, ◌∷◌, [], List, map, Option, Some, None, ap, sym, subst, refl, ◌∙◌}
use Rattle.oss_syntax.specs.declared.interface.InterfaceItem.{InterfaceItem}
use Rattle.oss_syntax.specs.declared.interface.InterfaceItem.TheVariants as interface
use Rattle.oss_syntax.specs.declared.refinement.RefinementItem.{RefinementItem}
use Rattle.oss_syntax.specs.declared.refinement.RefinementItem.TheVariants as refinement
use Rattle.oss_syntax.specs.declared.component.TreeComponent.{TreeComponent}
use Rattle.oss_syntax.specs.declared.expression.Expr.{Expr}
use Rattle.oss_syntax.specs.declared.expression.Expr.TheOpen.{Expr-F}
use Rattle.oss_syntax.specs.declared.expression.Expr.TheViews.{roll-Expr}
use Rattle.oss_syntax.specs.declared.expression.Expr.TheFolds.{fold-roll-Expr, map-Expr, ind-Expr}
use Rattle.oss_syntax.specs.Expressions.{Tree, Name, Dotted, Numeral, Truth, Brackets, OfPort, Prefix, Binary, tree, node_tree}
use Rattle.oss_syntax.specs.Trees as t
use Rattle.oss_syntax.specs.Trees.{Item, RefinementItemTree, Component, item_tree, refinement_item_tree, refinement_tree, component_tree, component_trees}

-- Each tree is made again from what it stands for.

abbrev expr_of : Tree → Expr
expr_of (Name word) = roll-Expr (Expr-F.Name word)
expr_of (Dotted sub port) = roll-Expr (Expr-F.Dotted sub port)
expr_of (Numeral value span) = roll-Expr (Expr-F.Numeral value span)
expr_of (Truth truth span) = roll-Expr (Expr-F.Truth truth span)
expr_of (Brackets inside span) = roll-Expr (Expr-F.Brackets (expr_of inside) span)
expr_of (OfPort word port span) = roll-Expr (Expr-F.OfPort word port span)
expr_of (Prefix word operand span) = roll-Expr (Expr-F.Prefix word (expr_of operand) span)
expr_of (Binary word left right span) = roll-Expr (Expr-F.Binary word (expr_of left) (expr_of right) span)

abbrev MadeAgain : Expr → Type 0
MadeAgain e = expr_of (tree e) ≡ e

-- at a node whose parts are made again
made_again_node : (y : Expr-F ((e : Expr) × MadeAgain e))
    → MadeAgain (roll-Expr (map-Expr ((e : Expr) × MadeAgain e) Expr (λ e. e.0) y))
made_again_node (Expr-F.Name word) = ap expr_of (fold-roll-Expr Tree node_tree (Expr-F.Name word))
made_again_node (Expr-F.Dotted sub port) = ap expr_of (fold-roll-Expr Tree node_tree (Expr-F.Dotted sub port))
made_again_node (Expr-F.Numeral value span) = ap expr_of (fold-roll-Expr Tree node_tree (Expr-F.Numeral value span))
made_again_node (Expr-F.Truth truth span) = ap expr_of (fold-roll-Expr Tree node_tree (Expr-F.Truth truth span))
made_again_node (Expr-F.OfPort word port span) = ap expr_of (fold-roll-Expr Tree node_tree (Expr-F.OfPort word port span))
made_again_node (Expr-F.Brackets e span) =
    ap expr_of (fold-roll-Expr Tree node_tree (Expr-F.Brackets e.0 span)) ∙ ap (λ a. roll-Expr (Expr-F.Brackets a span)) e.1
made_again_node (Expr-F.Prefix word e span) =
    ap expr_of (fold-roll-Expr Tree node_tree (Expr-F.Prefix word e.0 span)) ∙ ap (λ a. roll-Expr (Expr-F.Prefix word a span)) e.1
made_again_node (Expr-F.Binary word e f span) =
    ap expr_of (fold-roll-Expr Tree node_tree (Expr-F.Binary word e.0 f.0 span))
    ∙ ap (λ a. roll-Expr (Expr-F.Binary word a (expr_of (tree f.0)) span)) e.1
    ∙ ap (λ a. roll-Expr (Expr-F.Binary word e.0 a span)) f.1

made_again : (e : Expr) → MadeAgain e
made_again = ind-Expr MadeAgain (λ x y is. subst (λ z. MadeAgain (roll-Expr z)) is (made_again_node y))

abbrev interface_item_of : Item → InterfaceItem
interface_item_of (t.Port input name kind) = interface.Port input name kind
interface_item_of (t.Contract name assume guarantee) = interface.Contract name (expr_of assume) (expr_of guarantee)

item_again : (i : InterfaceItem) → interface_item_of (item_tree i) ≡ i
item_again (interface.Port input name kind) = refl
item_again (interface.Contract name assume guarantee) =
    ap (λ a. interface.Contract name a (expr_of (tree guarantee))) (made_again assume) ∙ ap (λ g. interface.Contract name assume g) (made_again guarantee)

abbrev refinement_item_of : RefinementItemTree → RefinementItem
refinement_item_of (t.Sub name component) = refinement.Sub name component
refinement_item_of (t.Connection target source) = refinement.Connection target (expr_of source)
refinement_item_of (t.Refined name parts) = refinement.Contract name parts

part_again : (i : RefinementItem) → refinement_item_of (refinement_item_tree i) ≡ i
part_again (refinement.Sub name component) = refl
part_again (refinement.Connection target source) = ap (λ e. refinement.Connection target e) (made_again source)
part_again (refinement.Contract name parts) = refl

map_again : {A B : Type 0} (f : A → B) (g : B → A) → ((x : A) → g (f x) ≡ x) → (xs : List A) → map g (map f xs) ≡ xs
map_again f g again [] = refl
map_again f g again (x ∷ xs) = ap (λ y. y ∷ map g (map f xs)) (again x) ∙ ap (λ ys. x ∷ ys) (map_again f g again xs)

abbrev refinement_from : Option (List RefinementItemTree) → Option (List RefinementItem)
refinement_from None = None
refinement_from (Some parts) = Some (map refinement_item_of parts)

refinement_again : (r : Option (List RefinementItem)) → refinement_from (refinement_tree r) ≡ r
refinement_again None = refl
refinement_again (Some items) = ap Some (map_again refinement_item_tree refinement_item_of part_again items)

abbrev component_from : Component → TreeComponent
component_from c = record {
  name = c.name;
  system = c.system;
  interface = map interface_item_of c.interface;
  refinement = refinement_from c.refinement;
}

component_again : (c : TreeComponent) → component_from (component_tree c) ≡ c
component_again c =
    ap (λ i. record { name = c.name; system = c.system; interface = i; refinement = refinement_from (refinement_tree c.refinement) })
    (map_again item_tree interface_item_of item_again c.interface)
    ∙ ap (λ r. record { name = c.name; system = c.system; interface = c.interface; refinement = r }) (refinement_again c.refinement)

pub distinct : (a b : List TreeComponent) → component_trees a ≡ component_trees b → a ≡ b
distinct a b same = sym (map_again component_tree component_from component_again a)
    ∙ ap (map component_from) same
    ∙ map_again component_tree component_from component_again b
