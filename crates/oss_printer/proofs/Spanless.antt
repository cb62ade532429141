-- Spans make no difference to the canonical text.
use Rattle.std.proofs.Common.{◌≡◌, ℕ, List, [], ◌∷◌, ◌++◌, map, Option, Some, None, option_map, codes, refl, sym, ap, ◌∙◌}
use Rattle.std.specs.List.{flat_map}
use Rattle.oss_base.specs.declared.place.Span.{Span}
use Rattle.oss_syntax.specs.Spanless.{no_span, bare_word, bare_part, bare_type, bare_target, bare_tree, bare_item, bare_refinement_item, bare_component}
use Rattle.oss_syntax.specs.Spanless.{bare_components}
use Rattle.oss_syntax.specs.declared.words.Word.{Word}
use Rattle.oss_syntax.specs.declared.words.PartWord.{PartWord}
use Rattle.oss_syntax.specs.declared.types.TypeTree.{TypeTree}
use Rattle.oss_syntax.specs.declared.types.TypeTree.TheVariants as type
use Rattle.oss_syntax.specs.declared.refinement.TargetTree.{TargetTree}
use Rattle.oss_syntax.specs.declared.refinement.TargetTree.TheVariants as targets
use Rattle.oss_syntax.specs.Expressions.{Tree, Name, Dotted, Numeral, Truth, Brackets, OfPort, Prefix, Binary}
use Rattle.oss_syntax.specs.Trees.{Item, Port, Contract, RefinementItemTree, Sub, Connection, Refined, Component}
use Rattle.oss_printer.specs.Canonical.{prefix_text, binary_text, expr_text, next_name_text, names_text, type_text, direction_text, item_text, target_text}
use Rattle.oss_printer.specs.Canonical.{next_part_text, part_text, parts_text, refinement_item_text, system_text, refinement_text, component_text}
use Rattle.oss_printer.specs.Canonical.{next_component_text, canonical_text}
use Rattle.oss_printer.specs.Laws.{SpansMakeNoDifference}

bare_expr_text : (t : Tree) → expr_text (bare_tree t) ≡ expr_text t
unfolding expr_text
bare_expr_text (Name _) = refl
bare_expr_text (Dotted _ _) = refl
bare_expr_text (Numeral _ _) = refl
bare_expr_text (Truth _ _) = refl
bare_expr_text (Brackets inside _) = ap (λ t. codes "(" ++ t ++ codes ")") (bare_expr_text inside)
bare_expr_text (OfPort _ _ _) = refl
bare_expr_text (Prefix op operand _) = ap (λ t. prefix_text op ++ codes " " ++ t) (bare_expr_text operand)
bare_expr_text (Binary op left right _) =
    λ i. bare_expr_text left i ++ codes " " ++ binary_text op ++ codes " " ++ bare_expr_text right i

bare_each : {A : Type 0} → (text : A → List ℕ) (bare : A → A) → ((x : A) → text (bare x) ≡ text x) → (xs : List A)
    → flat_map text (map bare xs) ≡ flat_map text xs
bare_each text bare one [] = refl
bare_each text bare one (x ∷ xs) = λ i. one x i ++ bare_each text bare one xs i

bare_names_text : (names : List Word) → names_text (map bare_word names) ≡ names_text names
bare_names_text [] = refl
bare_names_text (name ∷ names) = ap (λ t. name.text ++ t) (bare_each next_name_text bare_word (λ _. refl) names)

bare_type_text : (kind : TypeTree) → type_text (bare_type kind) ≡ type_text kind
bare_type_text type.Boolean = refl
bare_type_text type.Event = refl
bare_type_text (type.Range _ _) = refl
bare_type_text (type.Enum names) = ap (λ t. codes "{" ++ t ++ codes "}") (bare_names_text names)

bare_item_text : (item : Item) → item_text (bare_item item) ≡ item_text item
bare_item_text (Port input name kind) =
    ap (λ t. codes "    " ++ direction_text input ++ codes " PORT " ++ name.text ++ codes ": " ++ t ++ codes ";\n") (bare_type_text kind)
bare_item_text (Contract name assume guarantee) =
    λ i. codes "    CONTRACT " ++ name.text ++ codes "\n      assume: " ++ bare_expr_text assume i
    ++ codes ";\n      guarantee: " ++ bare_expr_text guarantee i ++ codes ";\n"

bare_target_text : (target : TargetTree) → target_text (bare_target target) ≡ target_text target
bare_target_text (targets.Own _) = refl
bare_target_text (targets.OfSub _ _) = refl

bare_parts_text : (parts : List PartWord) → parts_text (map bare_part parts) ≡ parts_text parts
bare_parts_text [] = refl
bare_parts_text (part ∷ parts) = ap (λ t. part_text part ++ t) (bare_each next_part_text bare_part (λ _. refl) parts)

bare_refinement_item_text : (item : RefinementItemTree)
    → refinement_item_text (bare_refinement_item item) ≡ refinement_item_text item
bare_refinement_item_text (Sub _ _) = refl
bare_refinement_item_text (Connection target source) =
    λ i. codes "    CONNECTION " ++ bare_target_text target i ++ codes " := " ++ bare_expr_text source i ++ codes ";\n"
bare_refinement_item_text (Refined name parts) =
    ap (λ t. codes "    CONTRACT " ++ name.text ++ codes " REFINEDBY " ++ t ++ codes ";\n") (bare_parts_text parts)

bare_system_text : (system : Option Span) → system_text (option_map (λ (_ : Span). no_span) system) ≡ system_text system
bare_system_text (Some _) = refl
bare_system_text None = refl

bare_refinement_text : (refinement : Option (List RefinementItemTree))
    → refinement_text (option_map (map bare_refinement_item) refinement) ≡ refinement_text refinement
bare_refinement_text (Some items) =
    ap (λ t. codes "  REFINEMENT\n" ++ t) (bare_each refinement_item_text bare_refinement_item bare_refinement_item_text items)
bare_refinement_text None = refl

bare_component_text : (c : Component) → component_text (bare_component c) ≡ component_text c
unfolding component_text
bare_component_text c =
    λ i. codes "COMPONENT " ++ c.name.text ++ bare_system_text c.system i ++ codes "\n  INTERFACE\n"
    ++ bare_each item_text bare_item bare_item_text c.interface i ++ bare_refinement_text c.refinement i

bare_canonical_text : (components : List Component)
    → canonical_text (bare_components components) ≡ canonical_text components
bare_canonical_text [] = refl
bare_canonical_text (c ∷ components) =
    λ i. bare_component_text c i
    ++ bare_each next_component_text bare_component (λ d. ap (λ t. codes "\n" ++ t) (bare_component_text d)) components i

pub same_text : SpansMakeNoDifference
same_text a b e = sym (bare_canonical_text a) ∙ ap canonical_text e ∙ bare_canonical_text b
