-- The canonical text of a specification, by cases: items in their order, the first spelling of each word, numerals
-- without leading zeros, brackets as they stand. The layout is one item a line, indented by its depth, with one empty
-- line between components. Words and layout are this tool's own; a text for each tree by cases on its forms is an
-- unparser, as in D. C. Oppen, Prettyprinting (1980).
use Rattle.std.specs.Prelude.{ℕ, Bool, true, false, List, [], ◌∷◌, ◌++◌, Option, Some, None, codes, decimal}
use Rattle.std.specs.Prelude.{if◌then◌else◌}
use Rattle.std.specs.List.{flat_map}
use Rattle.oss_base.specs.declared.place.Span.{Span}
use Rattle.oss_syntax.specs.declared.words.Word.{Word}
use Rattle.oss_syntax.specs.declared.words.PartWord.{PartWord}
use Rattle.oss_syntax.specs.declared.types.BoundTree.{BoundTree}
use Rattle.oss_syntax.specs.declared.types.TypeTree.{TypeTree}
use Rattle.oss_syntax.specs.declared.types.TypeTree.TheVariants as type
use Rattle.oss_syntax.specs.declared.refinement.TargetTree.{TargetTree}
use Rattle.oss_syntax.specs.declared.refinement.TargetTree.TheVariants as targets
use Rattle.oss_syntax.specs.declared.expression.PortWord.{PortWord}
use Rattle.oss_syntax.specs.declared.expression.PortWord.TheVariants as port
use Rattle.oss_syntax.specs.declared.expression.PrefixWord.{PrefixWord}
use Rattle.oss_syntax.specs.declared.expression.PrefixWord.TheVariants as prefix
use Rattle.oss_syntax.specs.declared.expression.BinaryWord.{BinaryWord}
use Rattle.oss_syntax.specs.declared.expression.BinaryWord.TheVariants as binary
use Rattle.oss_syntax.specs.Expressions.{Tree, Name, Dotted, Numeral, Truth, Brackets, OfPort, Prefix, Binary}
use Rattle.oss_syntax.specs.Trees.{Item, Port, Contract, RefinementItemTree, Sub, Connection, Refined, Component}

abbrev pub port_word_text : PortWord → List ℕ
port_word_text port.Next = codes "next"
port_word_text port.Change = codes "change"
port_word_text port.Rise = codes "rise"
port_word_text port.Fall = codes "fall"

abbrev pub prefix_text : PrefixWord → List ℕ
prefix_text prefix.Minus = codes "-"
prefix_text prefix.Not = codes "not"
prefix_text prefix.Always = codes "always"
prefix_text prefix.Never = codes "never"
prefix_text prefix.Future = codes "in the future"
prefix_text prefix.Then = codes "then"

abbrev pub binary_text : BinaryWord → List ℕ
binary_text binary.Plus = codes "+"
binary_text binary.Minus = codes "-"
binary_text binary.Equal = codes "="
binary_text binary.NotEqual = codes "!="
binary_text binary.Less = codes "<"
binary_text binary.AtMost = codes "<="
binary_text binary.Greater = codes ">"
binary_text binary.AtLeast = codes ">="
binary_text binary.Until = codes "until"
binary_text binary.Releases = codes "releases"
binary_text binary.And = codes "and"
binary_text binary.Or = codes "or"
binary_text binary.Implies = codes "implies"
binary_text binary.Iff = codes "iff"

abbrev pub truth_text : Bool → List ℕ
truth_text true = codes "true"
truth_text false = codes "false"

-- An operator between two operands has one blank on either side, and a word before an operand one blank after it.
unfoldable pub expr_text : Tree → List ℕ
expr_text (Name word) = word.text
expr_text (Dotted sub port) = sub.text ++ codes "." ++ port.text
expr_text (Numeral value _) = decimal value
expr_text (Truth truth _) = truth_text truth
expr_text (Brackets inside _) = codes "(" ++ expr_text inside ++ codes ")"
expr_text (OfPort word port _) = port_word_text word ++ codes "(" ++ port.text ++ codes ")"
expr_text (Prefix word operand _) = prefix_text word ++ codes " " ++ expr_text operand
expr_text (Binary word left right _) =
    expr_text left ++ codes " " ++ binary_text word ++ codes " " ++ expr_text right

-- The sign is kept also before 0.
abbrev pub bound_text : BoundTree → List ℕ
bound_text bound = (if bound.negative then codes "-" else []) ++ decimal bound.value

abbrev pub next_name_text : Word → List ℕ
next_name_text name = codes ", " ++ name.text

abbrev pub names_text : List Word → List ℕ
names_text [] = []
names_text (name ∷ names) = name.text ++ flat_map next_name_text names

abbrev pub type_text : TypeTree → List ℕ
type_text type.Boolean = codes "boolean"
type_text type.Event = codes "event"
type_text (type.Range lo hi) = bound_text lo ++ codes ".." ++ bound_text hi
type_text (type.Enum names) = codes "{" ++ names_text names ++ codes "}"

abbrev pub direction_text : Bool → List ℕ
direction_text true = codes "INPUT"
direction_text false = codes "OUTPUT"

abbrev pub item_text : Item → List ℕ
item_text (Port input name kind) =
    codes "    " ++ direction_text input ++ codes " PORT " ++ name.text ++ codes ": " ++ type_text kind ++ codes ";\n"
item_text (Contract name assume guarantee) =
    codes "    CONTRACT " ++ name.text ++ codes "\n      assume: " ++ expr_text assume
    ++ codes ";\n      guarantee: " ++ expr_text guarantee ++ codes ";\n"

abbrev pub target_text : TargetTree → List ℕ
target_text (targets.Own name) = name.text
target_text (targets.OfSub sub port) = sub.text ++ codes "." ++ port.text

abbrev pub part_text : PartWord → List ℕ
part_text part = part.sub.text ++ codes "." ++ part.contract.text

abbrev pub next_part_text : PartWord → List ℕ
next_part_text part = codes ", " ++ part_text part

abbrev pub parts_text : List PartWord → List ℕ
parts_text [] = []
parts_text (part ∷ parts) = part_text part ++ flat_map next_part_text parts

abbrev pub refinement_item_text : RefinementItemTree → List ℕ
refinement_item_text (Sub name component) = codes "    SUB " ++ name.text ++ codes ": " ++ component.text ++ codes ";\n"
refinement_item_text (Connection target source) =
    codes "    CONNECTION " ++ target_text target ++ codes " := " ++ expr_text source ++ codes ";\n"
refinement_item_text (Refined name parts) =
    codes "    CONTRACT " ++ name.text ++ codes " REFINEDBY " ++ parts_text parts ++ codes ";\n"

abbrev pub system_text : Option Span → List ℕ
system_text (Some _) = codes " system"
system_text None = []

-- A refinement without items is printed where it stood.
abbrev pub refinement_text : Option (List RefinementItemTree) → List ℕ
refinement_text (Some items) = codes "  REFINEMENT\n" ++ flat_map refinement_item_text items
refinement_text None = []

unfoldable pub component_text : Component → List ℕ
component_text c =
    codes "COMPONENT " ++ c.name.text ++ system_text c.system ++ codes "\n  INTERFACE\n"
    ++ flat_map item_text c.interface ++ refinement_text c.refinement

abbrev pub next_component_text : Component → List ℕ
next_component_text c = codes "\n" ++ component_text c

abbrev pub canonical_text : List Component → List ℕ
canonical_text [] = []
canonical_text (c ∷ components) = component_text c ++ flat_map next_component_text components
