-- Components and whole texts of the grammar, each under its rule.
use Rattle.std.specs.Prelude.{◌≡◌, ◌⊎◌, List, [], ◌∷◌, Option, Some, None, codes}
use Rattle.oss_base.specs.declared.place.Span.{Span}
use Rattle.oss_syntax.specs.declared.expression.BinaryWord.TheVariants as binary
use Rattle.oss_syntax.specs.declared.terminal.Mark.TheVariants as mark
use Rattle.oss_syntax.specs.Alphabet.{Terminal}
use Rattle.oss_syntax.specs.Alphabet as terminal
use Rattle.oss_syntax.specs.Steps.{Mark_then, Name_then, Phrase_then, RestIs, Many}
use Rattle.oss_syntax.specs.Items.{IsItem, IsRefinementItem}
use Rattle.oss_syntax.specs.Trees.{Component, RefinementItemTree, component_trees}
use Rattle.oss_syntax.specs.declared.component.TreeComponent.{TreeComponent}

-- [ "system" ]
abbrev pub IsSystem : List Terminal → Option Span → List Terminal → Type 0
IsSystem ts (Some span) rest = ts ≡ terminal.Mark mark.System span ∷ rest
IsSystem ts None rest = ts ≡ rest

-- [ "REFINEMENT" RItem* ]
abbrev pub IsRefinement : List Terminal → Option (List RefinementItemTree) → List Terminal → Type 0
IsRefinement ts (Some items) rest =
    Mark_then mark.Refinement (Phrase_then (Many IsRefinementItem) items (RestIs rest)) ts
IsRefinement ts None rest = ts ≡ rest

-- Component = "COMPONENT" Name [ "system" ] "INTERFACE" IItem* [ "REFINEMENT" RItem* ]
abbrev pub IsComponent : List Terminal → Component → List Terminal → Type 0
IsComponent ts c rest =
    Mark_then mark.Component (Name_then c.name (Phrase_then IsSystem c.system
    (Mark_then mark.Interface (Phrase_then (Many IsItem) c.interface
    (Phrase_then IsRefinement c.refinement (RestIs rest)))))) ts

-- "@" "requires" "discrete" "-" "time"
abbrev pub IsRequiresLine : List Terminal → List Terminal → Type 0
IsRequiresLine ts rest =
    (at requires discrete dash time : Span)
    × (ts ≡ terminal.Mark mark.At at ∷ terminal.Name (record { text = codes "requires"; span = requires })
    ∷ terminal.Name (record { text = codes "discrete"; span = discrete }) ∷ terminal.Binary binary.Minus dash
    ∷ terminal.Name (record { text = codes "time"; span = time }) ∷ rest)

-- [ "@" "requires" "discrete" "-" "time" [ ";" ] ]
abbrev pub IsHead : List Terminal → List Terminal → Type 0
IsHead ts rest =
    (ts ≡ rest)
    ⊎ (IsRequiresLine ts rest
    ⊎ ((semicolon : Span) × IsRequiresLine ts (terminal.Mark mark.Semicolon semicolon ∷ rest)))

-- Spec = [ "@" "requires" "discrete" "-" "time" [ ";" ] ] Component*
--
-- These terminals, and no others, are those of the specification, and each of its expressions is within
-- the limit on height.
abbrev pub IsText : List Terminal → List Component → Type 0
IsText ts components = (left : List Terminal) × IsHead ts left × Many IsComponent left components []

-- the tree is the only one with these terminals
abbrev pub IsOnlyTextOf : List Terminal → List TreeComponent → Type 0
IsOnlyTextOf ts components = (other : List Component) → IsText ts other → other ≡ component_trees components

-- no tree has them
abbrev pub IsNoText : List Terminal → Type 0
IsNoText ts = (other : List Component) → IsText ts other → ⊥
