use Rattle.std.proofs.Common.{ℕ, ◌<◌, ◌≤◌, Bool, true, false, List, [], ◌∷◌, length, Option, Some, None, ap, inl, inr, arith}
use Rattle.oss_base.specs.declared.place.Span.{Span}
use Rattle.oss_syntax.specs.declared.words.Word.{Word}
use Rattle.oss_syntax.specs.declared.words.PartWord.{PartWord}
use Rattle.oss_syntax.specs.declared.types.TypeTree.{TypeTree}
use Rattle.oss_syntax.specs.declared.types.TypeTree.TheVariants as type
use Rattle.oss_syntax.specs.declared.expression.PrefixWord.{PrefixWord}
use Rattle.oss_syntax.specs.declared.expression.PrefixWord.TheVariants as prefix
use Rattle.oss_syntax.specs.declared.expression.Role.{Role}
use Rattle.oss_syntax.specs.declared.expression.Role.TheVariants as roles
use Rattle.oss_syntax.specs.declared.refinement.TargetTree.{TargetTree}
use Rattle.oss_syntax.specs.declared.refinement.TargetTree.TheVariants as targets
use Rattle.oss_syntax.specs.declared.terminal.Mark.{Mark}
use Rattle.oss_syntax.specs.Alphabet.{Terminal}
use Rattle.oss_syntax.specs.Expressions.{Tree, Name, Dotted, Numeral, Truth, Brackets, OfPort, Prefix, Binary}
use Rattle.oss_syntax.specs.Formulas.{Spells, SpellsPrefix, SecondSpelling, Closed}
use Rattle.oss_syntax.specs.Steps.{Mark_then, Name_then, Phrase_then, RestIs, Many}
use Rattle.oss_syntax.specs.Items.{IsBound, IsNextName, IsEnumerators, IsType, IsItem, IsTarget, IsPart, IsNextPart, IsParts, IsRefinementItem}
use Rattle.oss_syntax.specs.Trees.{Item, Port, Contract, RefinementItemTree, Sub, Connection, Refined, Component}
use Rattle.oss_syntax.specs.Texts.{IsSystem, IsRefinement, IsComponent}

-- Each phrase takes terminals, so what is left after it is shorter.

second_less : (ts : List Terminal) (word : PrefixWord) (span : Span) (mid : List Terminal)
    → SecondSpelling ts word span mid → length mid < length ts
second_less ts prefix.Minus span mid h = let e = ap length h in omega arith
second_less ts prefix.Not span mid h = absurd h
second_less ts prefix.Always span mid h = absurd h
second_less ts prefix.Never span mid h = absurd h
second_less ts prefix.Future span mid h = let e = ap length h.2 in omega arith
second_less ts prefix.Then span mid h = absurd h

prefix_less : (ts : List Terminal) (word : PrefixWord) (span : Span) (mid : List Terminal)
    → SpellsPrefix ts word span mid → length mid < length ts
prefix_less ts word span mid h = elim h [ inl i ↦ let e = ap length i in omega arith | inr s ↦ second_less ts word span mid s ]

pub spells_less : (role : Role) (ts : List Terminal) (t : Tree) (r : List Terminal) → Spells role ts t r
    → length r < length ts
spells_less role ts (Name word) r s = let e = ap length s in omega arith
spells_less role ts (Dotted sub port) r s = let e = ap length s.2 in omega arith
spells_less role ts (Numeral value span) r s = let e = ap length s in omega arith
spells_less role ts (Truth truth span) r s = let e = ap length s in omega arith
spells_less role ts (Brackets inside span) r s = let e = ap length s.2 in let ih = spells_less role s.1 inside _ s.3 in omega arith
spells_less role ts (OfPort word port span) r s = let e = ap length s.3 in omega arith
spells_less role ts (Prefix word operand span) r s = let e = prefix_less ts word span s.2 s.3 in let ih = spells_less role s.2 operand r s.4 in omega arith
spells_less role ts (Binary word left right span) r s = let a = spells_less role ts left _ s.4 in let b = spells_less role s.3 right r s.5 in omega arith

closed_less : (role : Role) (ts : List Terminal) (t : Tree) (r : List Terminal) → Closed role ts t r
    → length r < length ts
closed_less role ts t r h = let e = spells_less role ts t _ h.1 in omega arith

mark_less : {m : Mark} {Next : List Terminal → Type 0} {ts : List Terminal} (n : ℕ)
    → ((left : List Terminal) → Next left → n ≤ length left) → Mark_then m Next ts → n < length ts
mark_less n f h = let e = ap length h.begins in let l = f h.left h.next in omega arith

name_less : {word : Word} {Next : List Terminal → Type 0} {ts : List Terminal} (n : ℕ)
    → ((left : List Terminal) → Next left → n ≤ length left) → Name_then word Next ts → n < length ts
name_less n f h = let e = ap length h.begins in let l = f h.left h.next in omega arith

phrase_less : {A : Type 0} {R : List Terminal → A → List Terminal → Type 0} {phrase : A} {Next : List Terminal
    → Type 0} {ts : List Terminal} (n : ℕ)
    → ((x : List Terminal) (y : A) (z : List Terminal) → R x y z → length z ≤ length x)
    → ((left : List Terminal) → Next left → n ≤ length left) → Phrase_then R phrase Next ts → n ≤ length ts
phrase_less {phrase} {ts} n g f h = let a = g ts phrase h.left h.holds in let l = f h.left h.next in omega arith

leaves_less : (rest left : List Terminal) → RestIs rest left → length rest ≤ length left
leaves_less rest left e = let l = ap length e in omega arith

weak : (m n : ℕ) → m < n → m ≤ n
weak m n h = omega arith

bound_less : (ts : List Terminal) (n : Bool) (v : ℕ) (s : Span) (rest : List Terminal)
    → IsBound ts (record { negative = n; value = v; span = s }) rest → length rest < length ts
bound_less ts true v s rest h = let e = ap length h.1 in omega arith
bound_less ts false v s rest h = let e = ap length h in omega arith

pub next_name_less : (ts : List Terminal) (name : Word) (rest : List Terminal) → IsNextName ts name rest
    → length rest < length ts
next_name_less ts name rest h = mark_less (length rest) (λ l k. weak _ _ (name_less (length rest) (leaves_less rest) k)) h

many_less : {A : Type 0} (R : List Terminal → A → List Terminal → Type 0)
    → ((x : List Terminal) (y : A) (z : List Terminal) → R x y z → length z < length x)
    → (ts : List Terminal) (phrases : List A) (rest : List Terminal) → Many R ts phrases rest → length rest ≤ length ts
many_less R g ts [] rest h = let e = ap length h in omega arith
many_less R g ts (p ∷ ps) rest h = let a = g ts p h.0 h.1 in let b = many_less R g h.0 ps rest h.2 in omega arith

enumerators_less : (ts : List Terminal) (names : List Word) (rest : List Terminal) → IsEnumerators ts names rest
    → length rest ≤ length ts
enumerators_less ts [] rest h = absurd h
enumerators_less ts (name ∷ names) rest h =
    weak _ _ (name_less (length rest) (λ l k. phrase_less (length rest) (many_less IsNextName next_name_less)
    (λ m j. weak _ _ (mark_less (length rest) (leaves_less rest) j)) k) h)

type_less : (ts : List Terminal) (kind : TypeTree) (rest : List Terminal) → IsType ts kind rest
    → length rest ≤ length ts
type_less ts type.Boolean rest h = weak _ _ (mark_less (length rest) (leaves_less rest) h)
type_less ts type.Event rest h = weak _ _ (mark_less (length rest) (leaves_less rest) h)
type_less ts (type.Range lo hi) rest h =
    phrase_less (length rest) (λ x b z k. weak _ _ (bound_less x b.negative b.value b.span z k))
    (λ l k. weak _ _ (mark_less (length rest) (λ m j. phrase_less (length rest) (λ x b z i. weak _ _ (bound_less x b.negative b.value b.span z i))
    (leaves_less rest) j) k)) h
type_less ts (type.Enum names) rest h = weak _ _ (mark_less (length rest) (λ l k. phrase_less (length rest) enumerators_less (leaves_less rest) k) h)

pub item_less : (ts : List Terminal) (item : Item) (rest : List Terminal) → IsItem ts item rest
    → length rest < length ts
item_less ts (Port input name kind) rest h =
    mark_less (length rest) (λ a p. weak _ _ (mark_less (length rest) (λ b q. weak _ _ (name_less (length rest) (λ c r. weak _ _ (mark_less (length rest)
    (λ d s. phrase_less (length rest) type_less (λ e t. weak _ _ (mark_less (length rest) (leaves_less rest) t)) s) r)) q)) p)) h
item_less ts (Contract name assume guarantee) rest h =
    mark_less (length rest) (λ a p. weak _ _ (name_less (length rest) (λ b q. weak _ _ (mark_less (length rest) (λ c r. weak _ _ (mark_less (length rest)
    (λ d s. phrase_less (length rest) (λ x y z k. weak _ _ (closed_less roles.Formula x y z k))
    (λ e t. weak _ _ (mark_less (length rest) (λ f u. weak _ _ (mark_less (length rest)
    (λ g v. phrase_less (length rest) (λ x y z k. weak _ _ (closed_less roles.Formula x y z k)) (leaves_less rest) v) u)) t)) s) r)) q)) p)) h

target_less : (ts : List Terminal) (target : TargetTree) (rest : List Terminal) → IsTarget ts target rest
    → length rest ≤ length ts
target_less ts (targets.Own name) rest h = weak _ _ (name_less (length rest) (λ a p. weak _ _ (mark_less (length rest) (leaves_less rest) p)) h)
target_less ts (targets.OfSub sub port) rest h =
    weak _ _ (name_less (length rest) (λ a p. weak _ _
    (mark_less (length rest) (λ b q. weak _ _ (name_less (length rest) (λ c r. weak _ _ (mark_less (length rest) (leaves_less rest) r)) q)) p)) h)

part_less : (ts : List Terminal) (part : PartWord) (rest : List Terminal) → IsPart ts part rest
    → length rest ≤ length ts
part_less ts part rest h = weak _ _ (name_less (length rest)
    (λ a p. weak _ _ (mark_less (length rest) (λ b q. weak _ _ (name_less (length rest) (leaves_less rest) q)) p)) h)

pub next_part_less : (ts : List Terminal) (part : PartWord) (rest : List Terminal) → IsNextPart ts part rest
    → length rest < length ts
next_part_less ts part rest h = mark_less (length rest) (λ a p. phrase_less (length rest) part_less (leaves_less rest) p) h

parts_less : (ts : List Terminal) (parts : List PartWord) (rest : List Terminal) → IsParts ts parts rest
    → length rest ≤ length ts
parts_less ts [] rest h = absurd h
parts_less ts (part ∷ parts) rest h =
    phrase_less (length rest) part_less (λ a p. phrase_less (length rest) (many_less IsNextPart next_part_less)
    (λ b q. weak _ _ (mark_less (length rest) (leaves_less rest) q)) p) h

pub refinement_part_less : (ts : List Terminal) (part : RefinementItemTree) (rest : List Terminal)
    → IsRefinementItem ts part rest → length rest < length ts
refinement_part_less ts (Sub name component) rest h =
    mark_less (length rest) (λ a p. weak _ _ (name_less (length rest) (λ b q. weak _ _ (mark_less (length rest) (λ c r. weak _ _ (name_less (length rest)
    (λ d s. weak _ _ (mark_less (length rest) (leaves_less rest) s)) r)) q)) p)) h
refinement_part_less ts (Connection target source) rest h =
    mark_less (length rest) (λ a p. phrase_less (length rest) target_less
    (λ b q. phrase_less (length rest) (λ x y z k. weak _ _ (closed_less roles.State x y z k)) (leaves_less rest) q) p) h
refinement_part_less ts (Refined name parts) rest h =
    mark_less (length rest) (λ a p. weak _ _ (name_less (length rest)
    (λ b q. weak _ _ (mark_less (length rest) (λ c r. phrase_less (length rest) parts_less (leaves_less rest) r) q)) p)) h

system_less : (ts : List Terminal) (system : Option Span) (rest : List Terminal) → IsSystem ts system rest
    → length rest ≤ length ts
system_less ts (Some span) rest h = let e = ap length h in omega arith
system_less ts None rest h = let e = ap length h in omega arith

refinement_less : (ts : List Terminal) (refinement : Option (List RefinementItemTree)) (rest : List Terminal)
    → IsRefinement ts refinement rest → length rest ≤ length ts
refinement_less ts (Some parts) rest h = weak _ _ (mark_less (length rest)
    (λ a p. phrase_less (length rest) (many_less IsRefinementItem refinement_part_less) (leaves_less rest) p) h)
refinement_less ts None rest h = let e = ap length h in omega arith

pub component_less : (ts : List Terminal) (component : Component) (rest : List Terminal)
    → IsComponent ts component rest → length rest < length ts
component_less ts component rest h =
    mark_less (length rest) (λ a p. weak _ _ (name_less (length rest)
    (λ b q. phrase_less (length rest) system_less (λ c r. weak _ _ (mark_less (length rest)
    (λ d s. phrase_less (length rest) (many_less IsItem item_less) (λ e t. phrase_less (length rest) refinement_less (leaves_less rest) t) s) r)) q) p)) h
