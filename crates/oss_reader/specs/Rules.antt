-- The rules of items, components and texts as the reader goes through them. This file serves proofs only: no public
-- contract cites it.
use Rattle.std.specs.Prelude.{◌≡◌, ◌⊎◌, List, [], ◌∷◌, Bool, Option, Result, Ok, Err, map, MatchBool}
use Rattle.oss_base.specs.declared.place.Span.{Span}
use Rattle.oss_syntax.specs.declared.words.Word.{Word}
use Rattle.oss_syntax.specs.declared.words.PartWord.{PartWord}
use Rattle.oss_syntax.specs.declared.types.TypeTree.{TypeTree}
use Rattle.oss_syntax.specs.declared.expression.Role.TheVariants as roles
use Rattle.oss_syntax.specs.declared.refinement.TargetTree.{TargetTree}
use Rattle.oss_syntax.specs.declared.terminal.Mark.TheVariants as mark
use Rattle.oss_syntax.specs.Alphabet.{Terminal}
use Rattle.oss_syntax.specs.Alphabet as terminal
use Rattle.oss_syntax.specs.Expressions.{Tree, tree}
use Rattle.oss_syntax.specs.declared.expression.Expr.{Expr}
use Rattle.oss_syntax.specs.declared.interface.InterfaceItem.{InterfaceItem}
use Rattle.oss_syntax.specs.declared.refinement.RefinementItem.{RefinementItem}
use Rattle.oss_syntax.specs.Formulas.{Closed}
use Rattle.oss_syntax.specs.Items.{IsNextName, IsType, IsTarget, IsNextPart, IsParts}
use Rattle.oss_syntax.specs.Steps.{Mark_then, Name_then, Phrase_then, RestIs, Many}
use Rattle.oss_syntax.specs.Texts.{IsSystem, IsComponent, IsHead, IsText, IsNoText}
use Rattle.oss_syntax.specs.Trees.{Component, Item, Port, RefinementItemTree, item_tree, refinement_item_tree}
use Rattle.oss_syntax.specs.Trees.{component_trees}
use Rattle.oss_base.specs.declared.fault.Stop.{Stop}
use Rattle.oss_base.specs.declared.fault.Stop.TheVariants as stops
use Rattle.oss_syntax.specs.declared.component.TreeComponent.{TreeComponent}
use Rattle.oss_reader.specs.declared.halt.Halt.{Halt}
use Rattle.oss_reader.specs.declared.halt.Halt.TheVariants as halts
use Rattle.oss_reader.specs.declared.rest.Rest.{Rest}
use Rattle.oss_reader.specs.Ahead.{ahead}
use Rattle.oss_reader.specs.Reads.{OnBroken, Nothing, NothingUntil, Sole, SoleUntil, NoMark}

-- The rules of the items, after the words by which they begin.

abbrev pub IsPort : List Terminal → Word × TypeTree → List Terminal → Type 0
IsPort ts p rest =
    Mark_then mark.Port (Name_then p.0 (Mark_then mark.Colon
    (Phrase_then IsType p.1 (Mark_then mark.Semicolon (RestIs rest))))) ts

abbrev pub IsContract : List Terminal → Word × Tree × Tree → List Terminal → Type 0
IsContract ts p rest =
    Name_then p.0 (Mark_then mark.Assume (Mark_then mark.Colon (Phrase_then (Closed roles.Formula) p.1
    (Mark_then mark.Guarantee (Mark_then mark.Colon (Phrase_then (Closed roles.Formula) p.2 (RestIs rest))))))) ts

abbrev pub IsSub : List Terminal → Word × Word → List Terminal → Type 0
IsSub ts p rest = Name_then p.0 (Mark_then mark.Colon (Name_then p.1 (Mark_then mark.Semicolon (RestIs rest)))) ts

abbrev pub IsConnection : List Terminal → TargetTree × Tree → List Terminal → Type 0
IsConnection ts p rest = Phrase_then IsTarget p.0 (Phrase_then (Closed roles.State) p.1 (RestIs rest)) ts

abbrev pub IsRefined : List Terminal → Word × List PartWord → List Terminal → Type 0
IsRefined ts p rest = Name_then p.0 (Mark_then mark.RefinedBy (Phrase_then IsParts p.1 (RestIs rest))) ts

-- no item of an interface begins there
pub record NoItem (ts : List Terminal) : Type 0 where
  pub input : NoMark mark.Input ts
  pub output : NoMark mark.Output ts
  pub contract : NoMark mark.Contract ts

-- no item of a refinement begins there
pub record NoRefinementItem (ts : List Terminal) : Type 0 where
  pub sub : NoMark mark.Sub ts
  pub connection : NoMark mark.Connection ts
  pub contract : NoMark mark.Contract ts

-- nothing is left, or a component begins there
abbrev pub AtComponent : List Terminal → Type 0
AtComponent ts = (ts ≡ []) ⊎ ((span : Span) × (left : List Terminal) × (ts ≡ terminal.Mark mark.Component span ∷ left))

-- a component, and what may follow it
abbrev pub IsWhole : List Terminal → Component → List Terminal → Type 0
IsWhole ts component rest = IsComponent ts component rest × AtComponent rest

-- the names of a list: the first, and those that follow after commas
abbrev pub FurtherNames : Word → List Terminal → List Word → List Terminal → Type 0
FurtherNames first ts names rest =
    (more : List Word) × (names ≡ first ∷ more) × SoleUntil (Many IsNextName) (NoMark mark.Comma) ts more rest

-- the same of contracts of subcomponents
abbrev pub FurtherParts : PartWord → List Terminal → List PartWord → List Terminal → Type 0
FurtherParts first ts parts rest =
    (more : List PartWord) × (parts ≡ first ∷ more) × SoleUntil (Many IsNextPart) (NoMark mark.Comma) ts more rest

-- a port, after its direction, as an item
abbrev pub PortItem : Bool → List Terminal → Item → List Terminal → Type 0
PortItem input ts item rest = (p : Word × TypeTree) × (item ≡ Port input p.0 p.1) × Sole IsPort ts p rest

-- how the word `system` is read: it stands there, or not
pub record SystemRead (ts : List Terminal) (system : Option Span) (left : List Terminal) : Type 0 where
  pub holds : IsSystem ts system left
  pub only : (other : Option Span) (rest : List Terminal) → IsSystem ts other rest → NoMark mark.System rest
      → (other ≡ system) × (rest ≡ left)

-- what stands before the components, where these follow
pub record HeadRead (ts left : List Terminal) : Type 0 where
  pub holds : IsHead ts left
  pub only : (rest : List Terminal) → IsHead ts rest → AtComponent rest → rest ≡ left

abbrev pub NoHead : List Terminal → Type 0
NoHead ts = (rest : List Terminal) → IsHead ts rest → AtComponent rest → ⊥

-- nothing is left
abbrev pub AtEnd : List Terminal → Type 0
AtEnd ts = ts ≡ []

-- the only text
pub record SoleText (ts : List Terminal) (components : List Component) : Type 0 where
  pub holds : IsText ts components
  pub only : (other : List Component) → IsText ts other → other ≡ components

-- what a halt is answered as
abbrev pub AnswersHalt : {A : Type 0} → Halt → Result A Stop → Type 0
AnswersHalt (halts.Broken _) (Err (stops.Fault _)) = Unit {0}
AnswersHalt (halts.Broken _) (Err stops.NoMemory) = ⊥
AnswersHalt halts.NoMemory (Err (stops.Fault _)) = ⊥
AnswersHalt halts.NoMemory (Err stops.NoMemory) = Unit {0}
AnswersHalt _ (Ok _) = ⊥

-- What the reading functions answer of items, components and texts.

abbrev pub BeginsItem : List Terminal → Bool → Type 0
BeginsItem ts begins = MatchBool begins (NoItem ts → ⊥) (NoItem ts)

abbrev pub BeginsRefinementItem : List Terminal → Bool → Type 0
BeginsRefinementItem ts begins = MatchBool begins (NoRefinementItem ts → ⊥) (NoRefinementItem ts)

abbrev pub contract_tree : Word × Expr × Expr → Word × Tree × Tree
contract_tree contract = (contract.0, tree contract.1, tree contract.2)

abbrev pub connection_tree : TargetTree × Expr → TargetTree × Tree
connection_tree connection = (connection.0, tree connection.1)

abbrev pub refinement_trees : List RefinementItem → List RefinementItemTree
refinement_trees items = map refinement_item_tree items

abbrev pub ReadsPort : Bool → List Terminal → Result (InterfaceItem × Rest) Halt → Type 0
ReadsPort input ts (Ok found) = PortItem input ts (item_tree found.0) (ahead found.1)
ReadsPort input ts (Err halt) = OnBroken halt (Nothing IsPort ts)

abbrev pub ReadsFurtherNames : Word → List Terminal → Result (List Word × Rest) Halt → Type 0
ReadsFurtherNames first ts (Ok found) = FurtherNames first ts found.0 (ahead found.1)
ReadsFurtherNames first ts (Err halt) = OnBroken halt (NothingUntil (Many IsNextName) (NoMark mark.Comma) ts)

abbrev pub ReadsFurtherParts : PartWord → List Terminal → Result (List PartWord × Rest) Halt → Type 0
ReadsFurtherParts first ts (Ok found) = FurtherParts first ts found.0 (ahead found.1)
ReadsFurtherParts first ts (Err halt) = OnBroken halt (NothingUntil (Many IsNextPart) (NoMark mark.Comma) ts)

abbrev pub ReadsEnd : List Terminal → Result (Unit {0}) Halt → Type 0
ReadsEnd ts (Ok _) = AtComponent ts
ReadsEnd ts (Err halt) = OnBroken halt (AtComponent ts → ⊥)

abbrev pub ReadsComponents : List Terminal → Result (List TreeComponent) Halt → Type 0
ReadsComponents ts (Ok components) = SoleUntil (Many IsWhole) AtEnd ts (component_trees components) []
ReadsComponents ts (Err halt) = OnBroken halt (NothingUntil (Many IsWhole) AtEnd ts)

abbrev pub ReadsHead : List Terminal → Result Rest Halt → Type 0
ReadsHead ts (Ok left) = HeadRead ts (ahead left)
ReadsHead ts (Err halt) = OnBroken halt (NoHead ts)

abbrev pub ReadsSpec : List Terminal → Result (List TreeComponent) Halt → Type 0
ReadsSpec ts (Ok components) = SoleText ts (component_trees components)
ReadsSpec ts (Err halt) = OnBroken halt (IsNoText ts)

-- the only text, or none
abbrev pub ReadsText : List Terminal → Result (List TreeComponent) Stop → Type 0
ReadsText ts (Ok components) = SoleText ts (component_trees components)
ReadsText ts (Err (stops.Fault _)) = IsNoText ts
ReadsText ts (Err stops.NoMemory) = Unit {0}
