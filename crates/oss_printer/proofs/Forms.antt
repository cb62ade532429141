-- The pieces of the canonical text, form by form, and that their bytes are the canonical text.
use Rattle.std.proofs.Common.{◌≡◌, ℕ, Bool, true, false, List, [], ◌∷◌, ◌++◌, Option, Some, None, codes, decimal, refl, sym, ap, ◌∙◌, append_assoc}
use Rattle.std.specs.List.{flat_map}
use Rattle.std.specs.Prelude.{if◌then◌else◌}
use Rattle.std.proofs.lemmas.List.{append-nil}
use Rattle.oss_base.specs.declared.place.Span.{Span}
use Rattle.oss_syntax.specs.Tokens.{Piece, joined_bytes}
use Rattle.oss_syntax.specs.declared.token.TokenKind.{TokenKind}
use Rattle.oss_syntax.specs.declared.token.TokenKind.TheVariants as kinds
use Rattle.oss_syntax.specs.declared.words.Word.{Word}
use Rattle.oss_syntax.specs.declared.words.PartWord.{PartWord}
use Rattle.oss_syntax.specs.declared.types.BoundTree.{BoundTree}
use Rattle.oss_syntax.specs.declared.types.TypeTree.{TypeTree}
use Rattle.oss_syntax.specs.declared.types.TypeTree.TheVariants as type
use Rattle.oss_syntax.specs.declared.refinement.TargetTree.{TargetTree}
use Rattle.oss_syntax.specs.declared.refinement.TargetTree.TheVariants as targets
use Rattle.oss_syntax.specs.declared.expression.PrefixWord.{PrefixWord}
use Rattle.oss_syntax.specs.declared.expression.PrefixWord.TheVariants as prefix
use Rattle.oss_syntax.specs.declared.expression.BinaryWord.{BinaryWord}
use Rattle.oss_syntax.specs.declared.expression.BinaryWord.TheVariants as binary
use Rattle.oss_syntax.specs.Expressions.{Tree, Name, Dotted, Numeral, Truth, Brackets, OfPort, Prefix, Binary}
use Rattle.oss_syntax.specs.Trees.{Item, Port, Contract, RefinementItemTree, Sub, Connection, Refined, Component}
use Rattle.oss_printer.specs.Canonical.{port_word_text, prefix_text, binary_text, truth_text, expr_text, bound_text, next_name_text, names_text, type_text}
use Rattle.oss_printer.specs.Canonical.{direction_text, item_text, target_text, part_text, next_part_text, parts_text, refinement_item_text, system_text}
use Rattle.oss_printer.specs.Canonical.{refinement_text, component_text, next_component_text, canonical_text}
use Rattle.oss_printer.proofs.Chunks.{word, numeral, symbol, blank, joined-append}

-- Expressions.

abbrev pub prefix_pieces : PrefixWord → List Piece
prefix_pieces prefix.Minus = symbol (codes "-") ∷ []
prefix_pieces prefix.Not = word (codes "not") ∷ []
prefix_pieces prefix.Always = word (codes "always") ∷ []
prefix_pieces prefix.Never = word (codes "never") ∷ []
prefix_pieces prefix.Future = word (codes "in") ∷ blank 32 ∷ word (codes "the") ∷ blank 32 ∷ word (codes "future") ∷ []
prefix_pieces prefix.Then = word (codes "then") ∷ []

abbrev pub binary_kind : BinaryWord → TokenKind
binary_kind binary.Plus = kinds.Symbol
binary_kind binary.Minus = kinds.Symbol
binary_kind binary.Equal = kinds.Symbol
binary_kind binary.NotEqual = kinds.Symbol
binary_kind binary.Less = kinds.Symbol
binary_kind binary.AtMost = kinds.Symbol
binary_kind binary.Greater = kinds.Symbol
binary_kind binary.AtLeast = kinds.Symbol
binary_kind binary.Until = kinds.Word
binary_kind binary.Releases = kinds.Word
binary_kind binary.And = kinds.Word
binary_kind binary.Or = kinds.Word
binary_kind binary.Implies = kinds.Word
binary_kind binary.Iff = kinds.Word

abbrev pub operator : BinaryWord → Piece
operator op = record { kind = Some (binary_kind op); text = binary_text op }

abbrev pub dotted_pieces : Word → Word → List Piece
dotted_pieces sub port = word sub.text ∷ symbol (codes ".") ∷ word port.text ∷ []

abbrev pub expr_pieces : Tree → List Piece
expr_pieces (Name name) = word name.text ∷ []
expr_pieces (Dotted sub port) = dotted_pieces sub port
expr_pieces (Numeral value _) = numeral (decimal value) ∷ []
expr_pieces (Truth truth _) = word (truth_text truth) ∷ []
expr_pieces (Brackets inside _) = symbol (codes "(") ∷ (expr_pieces inside ++ symbol (codes ")") ∷ [])
expr_pieces (OfPort op port _) = word (port_word_text op) ∷ symbol (codes "(") ∷ word port.text ∷ symbol (codes ")") ∷ []
expr_pieces (Prefix op operand _) = prefix_pieces op ++ blank 32 ∷ expr_pieces operand
expr_pieces (Binary op left right _) = expr_pieces left ++ blank 32 ∷ operator op ∷ blank 32 ∷ expr_pieces right

-- a row of texts, grouped to the right and to the left
flat3 : (a b c : List ℕ) → a ++ (b ++ c) ≡ a ++ b ++ c
flat3 a b c = sym (append_assoc a b c)

flat4 : (a b c d : List ℕ) → a ++ (b ++ (c ++ d)) ≡ a ++ b ++ c ++ d
flat4 a b c d = flat3 a b (c ++ d) ∙ flat3 (a ++ b) c d

flat5 : (a b c d e : List ℕ) → a ++ (b ++ (c ++ (d ++ e))) ≡ a ++ b ++ c ++ d ++ e
flat5 a b c d e = flat3 a b (c ++ (d ++ e)) ∙ flat4 (a ++ b) c d e

flat6 : (a b c d e f : List ℕ) → a ++ (b ++ (c ++ (d ++ (e ++ f)))) ≡ a ++ b ++ c ++ d ++ e ++ f
flat6 a b c d e f = flat3 a b (c ++ (d ++ (e ++ f))) ∙ flat5 (a ++ b) c d e f

flat7 : (a b c d e f g : List ℕ) → a ++ (b ++ (c ++ (d ++ (e ++ (f ++ g))))) ≡ a ++ b ++ c ++ d ++ e ++ f ++ g
flat7 a b c d e f g = flat3 a b (c ++ (d ++ (e ++ (f ++ g)))) ∙ flat6 (a ++ b) c d e f g

pub dotted_joined : (sub port : Word) → joined_bytes (dotted_pieces sub port) ≡ sub.text ++ codes "." ++ port.text
dotted_joined sub port = ap (λ t. sub.text ++ (46 ∷ t)) (append-nil port.text) ∙ flat3 sub.text (codes ".") port.text

prefix_joined : (op : PrefixWord) → joined_bytes (prefix_pieces op) ≡ prefix_text op
prefix_joined prefix.Minus = refl
prefix_joined prefix.Not = refl
prefix_joined prefix.Always = refl
prefix_joined prefix.Never = refl
prefix_joined prefix.Future = refl
prefix_joined prefix.Then = refl

pub expr_joined : (t : Tree) → joined_bytes (expr_pieces t) ≡ expr_text t
unfolding expr_text
expr_joined (Name name) = append-nil name.text
expr_joined (Dotted sub port) = dotted_joined sub port
expr_joined (Numeral value _) = append-nil (decimal value)
expr_joined (Truth truth _) = append-nil (truth_text truth)
expr_joined (Brackets inside _) =
    ap (λ t. 40 ∷ t) (joined-append (expr_pieces inside) (symbol (codes ")") ∷ []) ∙ ap (λ t. t ++ codes ")") (expr_joined inside))
expr_joined (OfPort op port _) = flat4 (port_word_text op) (codes "(") port.text (codes ")")
expr_joined (Prefix op operand _) =
    joined-append (prefix_pieces op) (blank 32 ∷ expr_pieces operand)
    ∙ (λ i. prefix_joined op i ++ (32 ∷ expr_joined operand i))
    ∙ flat3 (prefix_text op) (codes " ") (expr_text operand)
expr_joined (Binary op left right _) =
    joined-append (expr_pieces left) (blank 32 ∷ operator op ∷ blank 32 ∷ expr_pieces right)
    ∙ (λ i. expr_joined left i ++ (32 ∷ (binary_text op ++ (32 ∷ expr_joined right i))))
    ∙ flat5 (expr_text left) (codes " ") (binary_text op) (codes " ") (expr_text right)

-- Lists of forms.

pub joined_each : {A : Type 0} → (pieces : A → List Piece) (text : A → List ℕ)
    → ((x : A) → joined_bytes (pieces x) ≡ text x)
    → (xs : List A) → joined_bytes (flat_map pieces xs) ≡ flat_map text xs
joined_each pieces text same [] = refl
joined_each pieces text same (x ∷ xs) =
    joined-append (pieces x) (flat_map pieces xs) ∙ (λ i. same x i ++ joined_each pieces text same xs i)

-- Types.

abbrev pub sign_pieces : Bool → List Piece
sign_pieces true = symbol (codes "-") ∷ []
sign_pieces false = []

abbrev pub bound_pieces : BoundTree → List Piece
bound_pieces bound = sign_pieces bound.negative ++ numeral (decimal bound.value) ∷ []

sign_joined : (negative : Bool) → joined_bytes (sign_pieces negative) ≡ (if negative then codes "-" else [])
sign_joined true = refl
sign_joined false = refl

bound_joined : (bound : BoundTree) → joined_bytes (bound_pieces bound) ≡ bound_text bound
bound_joined bound =
    joined-append (sign_pieces bound.negative) (numeral (decimal bound.value) ∷ [])
    ∙ (λ i. sign_joined bound.negative i ++ append-nil (decimal bound.value) i)

abbrev pub next_name_pieces : Word → List Piece
next_name_pieces name = symbol (codes ",") ∷ blank 32 ∷ word name.text ∷ []

next_name_joined : (name : Word) → joined_bytes (next_name_pieces name) ≡ next_name_text name
next_name_joined name = ap (λ t. 44 ∷ 32 ∷ t) (append-nil name.text)

abbrev pub names_pieces : List Word → List Piece
names_pieces [] = []
names_pieces (name ∷ names) = word name.text ∷ flat_map next_name_pieces names

names_joined : (names : List Word) → joined_bytes (names_pieces names) ≡ names_text names
names_joined [] = refl
names_joined (name ∷ names) = ap (λ t. name.text ++ t) (joined_each next_name_pieces next_name_text next_name_joined names)

abbrev pub type_pieces : TypeTree → List Piece
type_pieces type.Boolean = word (codes "boolean") ∷ []
type_pieces type.Event = word (codes "event") ∷ []
type_pieces (type.Range lo hi) = bound_pieces lo ++ symbol (codes "..") ∷ bound_pieces hi
type_pieces (type.Enum names) = symbol (codes "{") ∷ (names_pieces names ++ symbol (codes "}") ∷ [])

type_joined : (kind : TypeTree) → joined_bytes (type_pieces kind) ≡ type_text kind
type_joined type.Boolean = refl
type_joined type.Event = refl
type_joined (type.Range lo hi) =
    joined-append (bound_pieces lo) (symbol (codes "..") ∷ bound_pieces hi)
    ∙ (λ i. bound_joined lo i ++ (46 ∷ 46 ∷ bound_joined hi i))
    ∙ flat3 (bound_text lo) (codes "..") (bound_text hi)
type_joined (type.Enum names) =
    ap (λ t. 123 ∷ t) (joined-append (names_pieces names) (symbol (codes "}") ∷ []) ∙ ap (λ t. t ++ codes "}") (names_joined names))

-- Items.

abbrev pub indent : List Piece → List Piece
indent ps = blank 32 ∷ blank 32 ∷ blank 32 ∷ blank 32 ∷ ps

-- a semicolon and the end of the line
abbrev pub closing : List Piece
closing = symbol (codes ";") ∷ blank 10 ∷ []

abbrev pub port_item_pieces : Bool → Word → TypeTree → List Piece
port_item_pieces input name kind =
    indent (word (direction_text input) ∷ blank 32 ∷ word (codes "PORT") ∷ blank 32 ∷ word name.text ∷ symbol (codes ":") ∷ blank 32
    ∷ (type_pieces kind ++ closing))

abbrev pub contract_pieces : Word → Tree → Tree → List Piece
contract_pieces name assume guarantee =
    indent (word (codes "CONTRACT") ∷ blank 32 ∷ word name.text
    ∷ blank 10 ∷ indent (blank 32 ∷ blank 32 ∷ word (codes "assume") ∷ symbol (codes ":") ∷ blank 32
    ∷ (expr_pieces assume ++ symbol (codes ";")
    ∷ blank 10 ∷ indent (blank 32 ∷ blank 32 ∷ word (codes "guarantee") ∷ symbol (codes ":") ∷ blank 32
    ∷ (expr_pieces guarantee ++ closing)))))

abbrev pub item_pieces : Item → List Piece
item_pieces (Port input name kind) = port_item_pieces input name kind
item_pieces (Contract name assume guarantee) = contract_pieces name assume guarantee

item_joined : (item : Item) → joined_bytes (item_pieces item) ≡ item_text item
item_joined (Port input name kind) =
    ap (λ t. codes "    " ++ (direction_text input ++ (codes " PORT " ++ (name.text ++ (codes ": " ++ t)))))
    (joined-append (type_pieces kind) closing ∙ ap (λ t. t ++ codes ";\n") (type_joined kind))
    ∙ flat7 (codes "    ") (direction_text input) (codes " PORT ") name.text (codes ": ") (type_text kind) (codes ";\n")
item_joined (Contract name assume guarantee) =
    ap (λ t. codes "    CONTRACT " ++ (name.text ++ (codes "\n      assume: " ++ t)))
    (joined-append (expr_pieces assume) (symbol (codes ";") ∷ blank 10 ∷ indent
    (blank 32 ∷ blank 32 ∷ word (codes "guarantee") ∷ symbol (codes ":") ∷ blank 32
    ∷ (expr_pieces guarantee ++ closing)))
    ∙ (λ i. expr_joined assume i ++ (codes ";\n      guarantee: "
    ++ (joined-append (expr_pieces guarantee) closing ∙ ap (λ t. t ++ codes ";\n") (expr_joined guarantee)) i)))
    ∙ flat7 (codes "    CONTRACT ") name.text (codes "\n      assume: ") (expr_text assume) (codes ";\n      guarantee: ") (expr_text guarantee)
    (codes ";\n")

abbrev pub target_pieces : TargetTree → List Piece
target_pieces (targets.Own name) = word name.text ∷ []
target_pieces (targets.OfSub sub port) = dotted_pieces sub port

target_joined : (target : TargetTree) → joined_bytes (target_pieces target) ≡ target_text target
target_joined (targets.Own name) = append-nil name.text
target_joined (targets.OfSub sub port) = dotted_joined sub port

abbrev pub part_pieces : PartWord → List Piece
part_pieces part = dotted_pieces part.sub part.contract

part_joined : (part : PartWord) → joined_bytes (part_pieces part) ≡ part_text part
part_joined part = dotted_joined part.sub part.contract

abbrev pub next_part_pieces : PartWord → List Piece
next_part_pieces part = symbol (codes ",") ∷ blank 32 ∷ part_pieces part

next_part_joined : (part : PartWord) → joined_bytes (next_part_pieces part) ≡ next_part_text part
next_part_joined part = ap (λ t. 44 ∷ 32 ∷ t) (part_joined part)

abbrev pub parts_pieces : List PartWord → List Piece
parts_pieces [] = []
parts_pieces (part ∷ parts) = part_pieces part ++ flat_map next_part_pieces parts

parts_joined : (parts : List PartWord) → joined_bytes (parts_pieces parts) ≡ parts_text parts
parts_joined [] = refl
parts_joined (part ∷ parts) =
    joined-append (part_pieces part) (flat_map next_part_pieces parts)
    ∙ (λ i. part_joined part i ++ joined_each next_part_pieces next_part_text next_part_joined parts i)

abbrev pub refinement_item_pieces : RefinementItemTree → List Piece
refinement_item_pieces (Sub name component) =
    indent (word (codes "SUB") ∷ blank 32 ∷ word name.text ∷ symbol (codes ":") ∷ blank 32 ∷ word component.text ∷ closing)
refinement_item_pieces (Connection target source) =
    indent (word (codes "CONNECTION") ∷ blank 32
    ∷ (target_pieces target ++ blank 32 ∷ symbol (codes ":=") ∷ blank 32 ∷ (expr_pieces source ++ closing)))
refinement_item_pieces (Refined name parts) =
    indent (word (codes "CONTRACT") ∷ blank 32 ∷ word name.text ∷ blank 32 ∷ word (codes "REFINEDBY") ∷ blank 32 ∷ (parts_pieces parts ++ closing))

refinement_item_joined : (item : RefinementItemTree)
    → joined_bytes (refinement_item_pieces item) ≡ refinement_item_text item
refinement_item_joined (Sub name component) = flat5 (codes "    SUB ") name.text (codes ": ") component.text (codes ";\n")
refinement_item_joined (Connection target source) =
    ap (λ t. codes "    CONNECTION " ++ t)
    (joined-append (target_pieces target) (blank 32 ∷ symbol (codes ":=") ∷ blank 32 ∷ (expr_pieces source ++ closing))
    ∙ (λ i. target_joined target i ++ (codes " := "
    ++ (joined-append (expr_pieces source) closing ∙ ap (λ t. t ++ codes ";\n") (expr_joined source)) i)))
    ∙ flat5 (codes "    CONNECTION ") (target_text target) (codes " := ") (expr_text source) (codes ";\n")
refinement_item_joined (Refined name parts) =
    ap (λ t. codes "    CONTRACT " ++ (name.text ++ (codes " REFINEDBY " ++ t)))
    (joined-append (parts_pieces parts) closing ∙ ap (λ t. t ++ codes ";\n") (parts_joined parts))
    ∙ flat5 (codes "    CONTRACT ") name.text (codes " REFINEDBY ") (parts_text parts) (codes ";\n")

-- Components.

abbrev pub system_pieces : Option Span → List Piece
system_pieces (Some _) = blank 32 ∷ word (codes "system") ∷ []
system_pieces None = []

system_joined : (system : Option Span) → joined_bytes (system_pieces system) ≡ system_text system
system_joined (Some _) = refl
system_joined None = refl

abbrev pub refinement_pieces : Option (List RefinementItemTree) → List Piece
refinement_pieces (Some items) = blank 32 ∷ blank 32 ∷ word (codes "REFINEMENT") ∷ blank 10 ∷ flat_map refinement_item_pieces items
refinement_pieces None = []

refinement_joined : (refinement : Option (List RefinementItemTree))
    → joined_bytes (refinement_pieces refinement) ≡ refinement_text refinement
refinement_joined (Some items) = ap (λ t. codes "  REFINEMENT\n" ++ t)
    (joined_each refinement_item_pieces refinement_item_text refinement_item_joined items)
refinement_joined None = refl

-- the word INTERFACE and what follows it
abbrev pub body_pieces : Component → List Piece
body_pieces c =
    blank 10 ∷ blank 32 ∷ blank 32 ∷ word (codes "INTERFACE") ∷ blank 10 ∷ (flat_map item_pieces c.interface ++ refinement_pieces c.refinement)

abbrev pub component_pieces : Component → List Piece
component_pieces c = word (codes "COMPONENT") ∷ blank 32 ∷ word c.name.text ∷ (system_pieces c.system ++ body_pieces c)

body_joined : (c : Component)
    → joined_bytes (body_pieces c) ≡ codes "\n  INTERFACE\n" ++
    (flat_map item_text c.interface ++ refinement_text c.refinement)
body_joined c =
    ap (λ t. codes "\n  INTERFACE\n" ++ t)
    (joined-append (flat_map item_pieces c.interface) (refinement_pieces c.refinement)
    ∙ (λ i. joined_each item_pieces item_text item_joined c.interface i ++ refinement_joined c.refinement i))

component_joined : (c : Component) → joined_bytes (component_pieces c) ≡ component_text c
unfolding component_text
component_joined c =
    ap (λ t. codes "COMPONENT " ++ (c.name.text ++ t))
    (joined-append (system_pieces c.system) (body_pieces c) ∙ (λ i. system_joined c.system i ++ body_joined c i))
    ∙ flat6 (codes "COMPONENT ") c.name.text (system_text c.system) (codes "\n  INTERFACE\n") (flat_map item_text c.interface)
    (refinement_text c.refinement)

abbrev pub next_component_pieces : Component → List Piece
next_component_pieces c = blank 10 ∷ component_pieces c

next_component_joined : (c : Component) → joined_bytes (next_component_pieces c) ≡ next_component_text c
next_component_joined c = ap (λ t. 10 ∷ t) (component_joined c)

abbrev pub canonical_pieces : List Component → List Piece
canonical_pieces [] = []
canonical_pieces (c ∷ components) = component_pieces c ++ flat_map next_component_pieces components

pub canonical_joined : (components : List Component)
    → joined_bytes (canonical_pieces components) ≡ canonical_text components
canonical_joined [] = refl
canonical_joined (c ∷ components) =
    joined-append (component_pieces c) (flat_map next_component_pieces components)
    ∙ (λ i. component_joined c i ++ joined_each next_component_pieces next_component_text next_component_joined components i)
