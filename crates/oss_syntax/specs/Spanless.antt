-- Specifications without their spans.
use Rattle.std.specs.Prelude.{◌≡◌, List, Option, map, option_map}
use Rattle.oss_base.specs.declared.place.Span.{Span}
use Rattle.oss_syntax.specs.declared.words.Word.{Word}
use Rattle.oss_syntax.specs.declared.words.PartWord.{PartWord}
use Rattle.oss_syntax.specs.declared.types.BoundTree.{BoundTree}
use Rattle.oss_syntax.specs.declared.types.TypeTree.{TypeTree}
use Rattle.oss_syntax.specs.declared.types.TypeTree.TheVariants as type
use Rattle.oss_syntax.specs.declared.refinement.TargetTree.{TargetTree}
use Rattle.oss_syntax.specs.declared.refinement.TargetTree.TheVariants as targets
use Rattle.oss_syntax.specs.declared.refinement.RefinementItem.{RefinementItem}
use Rattle.oss_syntax.specs.declared.component.TreeComponent.{TreeComponent}
use Rattle.oss_syntax.specs.Expressions.{Tree, Name, Dotted, Numeral, Truth, Brackets, OfPort, Prefix, Binary}
use Rattle.oss_syntax.specs.Trees.{Item, Port, Contract, RefinementItemTree, Sub, Connection, Refined, Component}
use Rattle.oss_syntax.specs.Trees.{refinement_item_tree, refinement_tree, component_trees}

-- A specification without its spans: each of them is put to the same one. Two specifications are the
-- same without spans where these are equal. Their texts may differ in blanks, comments, spellings,
-- leading zeros and the line `@requires`; brackets are a part of the tree.
abbrev pub no_span : Span
no_span = record { start = 0; end = 0 }

abbrev pub bare_word : Word → Word
bare_word word = record { text = word.text; span = no_span }

abbrev pub bare_part : PartWord → PartWord
bare_part part = record { sub = bare_word part.sub; contract = bare_word part.contract }

abbrev pub bare_bound : BoundTree → BoundTree
bare_bound bound = record { negative = bound.negative; value = bound.value; span = no_span }

abbrev pub bare_type : TypeTree → TypeTree
bare_type type.Boolean = type.Boolean
bare_type type.Event = type.Event
bare_type (type.Range lo hi) = type.Range (bare_bound lo) (bare_bound hi)
bare_type (type.Enum names) = type.Enum (map bare_word names)

abbrev pub bare_target : TargetTree → TargetTree
bare_target (targets.Own name) = targets.Own (bare_word name)
bare_target (targets.OfSub sub port) = targets.OfSub (bare_word sub) (bare_word port)

abbrev pub bare_tree : Tree → Tree
bare_tree (Name word) = Name (bare_word word)
bare_tree (Dotted sub port) = Dotted (bare_word sub) (bare_word port)
bare_tree (Numeral value _) = Numeral value no_span
bare_tree (Truth truth _) = Truth truth no_span
bare_tree (Brackets inside _) = Brackets (bare_tree inside) no_span
bare_tree (OfPort word port _) = OfPort word (bare_word port) no_span
bare_tree (Prefix word operand _) = Prefix word (bare_tree operand) no_span
bare_tree (Binary word left right _) = Binary word (bare_tree left) (bare_tree right) no_span

abbrev pub bare_item : Item → Item
bare_item (Port input name kind) = Port input (bare_word name) (bare_type kind)
bare_item (Contract name assume guarantee) = Contract (bare_word name) (bare_tree assume) (bare_tree guarantee)

abbrev pub bare_refinement_item : RefinementItemTree → RefinementItemTree
bare_refinement_item (Sub name component) = Sub (bare_word name) (bare_word component)
bare_refinement_item (Connection target source) = Connection (bare_target target) (bare_tree source)
bare_refinement_item (Refined name parts) = Refined (bare_word name) (map bare_part parts)

-- whether a component is the system is kept, and where the word stands is not
abbrev pub bare_component : Component → Component
bare_component c = record {
  name = bare_word c.name;
  system = option_map (λ (_ : Span). no_span) c.system;
  interface = map bare_item c.interface;
  refinement = option_map (map bare_refinement_item) c.refinement;
}

abbrev pub bare_components : List Component → List Component
bare_components components = map bare_component components

-- Two specifications are the same but for where their parts stand in the text.
abbrev pub AreSameSpecs : List TreeComponent → List TreeComponent → Type 0
AreSameSpecs a b = bare_components (component_trees a) ≡ bare_components (component_trees b)

-- the same of the items of two refinements, of two refinements that may be missing, and of two words that may be
-- missing
abbrev pub AreSameRefinementItems : List RefinementItem → List RefinementItem → Type 0
AreSameRefinementItems a b =
    map bare_refinement_item (map refinement_item_tree a) ≡ map bare_refinement_item (map refinement_item_tree b)

abbrev pub AreSameRefinements : Option (List RefinementItem) → Option (List RefinementItem) → Type 0
AreSameRefinements a b =
    option_map (map bare_refinement_item) (refinement_tree a)
    ≡ option_map (map bare_refinement_item) (refinement_tree b)

abbrev pub AreSameMarks : Option Span → Option Span → Type 0
AreSameMarks a b = option_map (λ (_ : Span). no_span) a ≡ option_map (λ (_ : Span). no_span) b
