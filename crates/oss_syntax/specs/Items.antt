-- The items of the grammar, each under its rule, in the order of the rule's right side. (Wirth, What can we do about
-- the unnecessary diversity of notation for syntactic definitions?, 1977, has the notation of the rules.)
use Rattle.std.specs.Prelude.{◌≡◌, Bool, true, false, List, [], ◌∷◌}
use Rattle.oss_base.specs.declared.place.Span.{Span}
use Rattle.oss_syntax.specs.declared.words.Word.{Word}
use Rattle.oss_syntax.specs.declared.words.PartWord.{PartWord}
use Rattle.oss_syntax.specs.declared.types.BoundTree.{BoundTree}
use Rattle.oss_syntax.specs.declared.types.TypeTree.{TypeTree}
use Rattle.oss_syntax.specs.declared.types.TypeTree.TheVariants as type
use Rattle.oss_syntax.specs.declared.expression.BinaryWord.TheVariants as binary
use Rattle.oss_syntax.specs.declared.expression.Role.TheVariants as roles
use Rattle.oss_syntax.specs.declared.refinement.TargetTree.{TargetTree}
use Rattle.oss_syntax.specs.declared.refinement.TargetTree.TheVariants as targets
use Rattle.oss_syntax.specs.declared.terminal.Mark.{Mark}
use Rattle.oss_syntax.specs.declared.terminal.Mark.TheVariants as mark
use Rattle.oss_syntax.specs.Alphabet.{Terminal}
use Rattle.oss_syntax.specs.Alphabet as terminal
use Rattle.oss_syntax.specs.Steps.{Mark_then, Name_then, Phrase_then, RestIs, Many}
use Rattle.oss_syntax.specs.Formulas.{Closed}
use Rattle.oss_syntax.specs.Trees.{Item, Port, Contract, RefinementItemTree, Sub, Connection, Refined}

-- Bound = [ "-" ] Numeral
abbrev pub IsBound : List Terminal → BoundTree → List Terminal → Type 0
IsBound ts bound rest =
    elim bound.negative [
      | true ↦
          (numeral : Span)
          × (ts ≡ terminal.Binary binary.Minus bound.span ∷ terminal.Numeral bound.value numeral ∷ rest)
      | false ↦ ts ≡ terminal.Numeral bound.value bound.span ∷ rest
    ]

-- "," Name
abbrev pub IsNextName : List Terminal → Word → List Terminal → Type 0
IsNextName ts name rest = Mark_then mark.Comma (Name_then name (RestIs rest)) ts

-- Name ("," Name)* "}"
abbrev pub IsEnumerators : List Terminal → List Word → List Terminal → Type 0
IsEnumerators ts [] rest = ⊥
IsEnumerators ts (name ∷ names) rest =
    Name_then name (Phrase_then (Many IsNextName) names (Mark_then mark.CloseBrace (RestIs rest))) ts

-- Type = "boolean" | "event" | Bound ".." Bound | "{" Name ("," Name)* "}"
abbrev pub IsType : List Terminal → TypeTree → List Terminal → Type 0
IsType ts type.Boolean rest = Mark_then mark.Boolean (RestIs rest) ts
IsType ts type.Event rest = Mark_then mark.Event (RestIs rest) ts
IsType ts (type.Range lo hi) rest =
    Phrase_then IsBound lo (Mark_then mark.Range (Phrase_then IsBound hi (RestIs rest))) ts
IsType ts (type.Enum names) rest = Mark_then mark.OpenBrace (Phrase_then IsEnumerators names (RestIs rest)) ts

-- "INPUT" or "OUTPUT"
abbrev pub direction : Bool → Mark
direction true = mark.Input
direction false = mark.Output

-- IItem = ("INPUT" | "OUTPUT") "PORT" Name ":" Type ";"
--       | "CONTRACT" Name "assume" ":" Formula ";" "guarantee" ":" Formula ";"
abbrev pub IsItem : List Terminal → Item → List Terminal → Type 0
IsItem ts (Port input name kind) rest =
    Mark_then (direction input) (Mark_then mark.Port (Name_then name
    (Mark_then mark.Colon (Phrase_then IsType kind (Mark_then mark.Semicolon (RestIs rest)))))) ts
IsItem ts (Contract name assume guarantee) rest =
    Mark_then mark.Contract (Name_then name
    (Mark_then mark.Assume (Mark_then mark.Colon (Phrase_then (Closed roles.Formula) assume
    (Mark_then mark.Guarantee (Mark_then mark.Colon
    (Phrase_then (Closed roles.Formula) guarantee (RestIs rest)))))))) ts

-- Target = Name | Name "." Name, and the sign ":=" after it
abbrev pub IsTarget : List Terminal → TargetTree → List Terminal → Type 0
IsTarget ts (targets.Own name) rest = Name_then name (Mark_then mark.Assign (RestIs rest)) ts
IsTarget ts (targets.OfSub sub port) rest =
    Name_then sub (Mark_then mark.Dot (Name_then port (Mark_then mark.Assign (RestIs rest)))) ts

-- Part = Name "." Name
abbrev pub IsPart : List Terminal → PartWord → List Terminal → Type 0
IsPart ts part rest = Name_then part.sub (Mark_then mark.Dot (Name_then part.contract (RestIs rest))) ts

-- "," Part
abbrev pub IsNextPart : List Terminal → PartWord → List Terminal → Type 0
IsNextPart ts part rest = Mark_then mark.Comma (Phrase_then IsPart part (RestIs rest)) ts

-- Part ("," Part)* ";"
abbrev pub IsParts : List Terminal → List PartWord → List Terminal → Type 0
IsParts ts [] rest = ⊥
IsParts ts (part ∷ parts) rest =
    Phrase_then IsPart part (Phrase_then (Many IsNextPart) parts (Mark_then mark.Semicolon (RestIs rest))) ts

-- RItem = "SUB" Name ":" Name ";"
--       | "CONNECTION" Target ":=" State ";"
--       | "CONTRACT" Name "REFINEDBY" Part ("," Part)* ";"
abbrev pub IsRefinementItem : List Terminal → RefinementItemTree → List Terminal → Type 0
IsRefinementItem ts (Sub name component) rest =
    Mark_then mark.Sub (Name_then name (Mark_then mark.Colon
    (Name_then component (Mark_then mark.Semicolon (RestIs rest))))) ts
IsRefinementItem ts (Connection target source) rest =
    Mark_then mark.Connection (Phrase_then IsTarget target (Phrase_then (Closed roles.State) source (RestIs rest))) ts
IsRefinementItem ts (Refined name parts) rest =
    Mark_then mark.Contract (Name_then name (Mark_then mark.RefinedBy (Phrase_then IsParts parts (RestIs rest)))) ts
