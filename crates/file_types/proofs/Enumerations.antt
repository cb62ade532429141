-- Each enumeration of a text has a name, and no more names than the text has terminals.
use Rattle.std.proofs.Common.{ℕ, ◌+◌, ◌<◌, ◌≤◌, inl, inr, List, [], ◌∷◌, length, Option, Some, None, ap, arith}
use Rattle.oss_base.specs.declared.place.Span.{Span}
use Rattle.oss_syntax.specs.Alphabet.{Terminal}
use Rattle.oss_syntax.specs.Items.{IsNextName, IsEnumerators, IsType, IsItem}
use Rattle.oss_syntax.specs.Steps.{Mark_then, Name_then, Many}
use Rattle.oss_syntax.specs.Texts.{IsSystem, IsRequiresLine, IsHead, IsComponent, IsText}
use Rattle.oss_syntax.specs.Trees.{Item, Port, Contract, Component}
use Rattle.oss_syntax.specs.declared.terminal.Mark.{Mark}
use Rattle.oss_syntax.specs.declared.types.TypeTree.{TypeTree}
use Rattle.oss_syntax.specs.declared.types.TypeTree.TheVariants as type
use Rattle.oss_syntax.specs.declared.words.Word.{Word}
use Rattle.oss_reader.proofs.Lengths.{next_name_less, item_less, component_less}
use Rattle.architecture.proofs.Listing.{Each}

-- an enumeration has at least one name, and at most n
abbrev pub HasFewNames : ℕ → TypeTree → Type 0
HasFewNames n type.Boolean = Unit {0}
HasFewNames n type.Event = Unit {0}
HasFewNames n (type.Range lo hi) = Unit {0}
HasFewNames n (type.Enum names) = (0 < length names) × (length names ≤ n)

abbrev pub DeclaresFewNames : ℕ → Item → Type 0
DeclaresFewNames n (Port input name kind) = HasFewNames n kind
DeclaresFewNames n (Contract name assume guarantee) = Unit {0}

abbrev pub HasFewEnumerators : ℕ → Component → Type 0
HasFewEnumerators n c = Each (DeclaresFewNames n) c.interface

-- steps of a rule

mark_step : {m : Mark} {Next : List Terminal → Type 0} {ts : List Terminal} (h : Mark_then m Next ts)
    → length h.left < length ts
mark_step h = let e = ap length h.begins in omega (arith, e)

name_step : {word : Word} {Next : List Terminal → Type 0} {ts : List Terminal} (h : Name_then word Next ts)
    → length h.left < length ts
name_step h = let e = ap length h.begins in omega (arith, e)

-- so many phrases take as many terminals
many_counted : {A : Type 0} (R : List Terminal → A → List Terminal → Type 0)
    → ((x : List Terminal) (y : A) (z : List Terminal) → R x y z → length z < length x)
    → (ts : List Terminal) (phrases : List A) (rest : List Terminal) → Many R ts phrases rest
    → length phrases + length rest ≤ length ts
many_counted R less ts [] rest h = let e = ap length h in omega (arith, e)
many_counted R less ts (p ∷ ps) rest h = omega (arith, less ts p h.0 h.1, many_counted R less h.0 ps rest h.2)

-- each phrase begins with at most as many terminals as there are
each_of_many : {A : Type 0} (n : ℕ) (R : List Terminal → A → List Terminal → Type 0) (P : A → Type 0)
    → ((x : List Terminal) (y : A) (z : List Terminal) → R x y z → length z < length x)
    → ((x : List Terminal) (y : A) (z : List Terminal) → length x ≤ n → R x y z → P y)
    → (ts : List Terminal) (phrases : List A) (rest : List Terminal) → length ts ≤ n → Many R ts phrases rest
    → Each P phrases
each_of_many n R P less one ts [] rest l h = tt
each_of_many n R P less one ts (p ∷ ps) rest l h =
    (one ts p h.0 l h.1, each_of_many n R P less one h.0 ps rest (omega (arith, l, less ts p h.0 h.1)) h.2)

system_step : (ts : List Terminal) (system : Option Span) (rest : List Terminal) → IsSystem ts system rest
    → length rest ≤ length ts
system_step ts (Some span) rest h = let e = ap length h in omega (arith, e)
system_step ts None rest h = let e = ap length h in omega (arith, e)

line_step : (ts rest : List Terminal) → IsRequiresLine ts rest → length rest ≤ length ts
line_step ts rest h = let e = ap length h.5 in omega (arith, e)

head_step : (ts rest : List Terminal) → IsHead ts rest → length rest ≤ length ts
head_step ts rest h = elim h [
  | inl none ↦ (let e = ap length none in omega (arith, e))
  | inr some ↦ elim some [ inl line ↦ line_step ts rest line | inr closed ↦ (let l = line_step ts _ closed.1 in omega (arith, l)) ]
]

-- rules

module _ (n : ℕ) where
  names_few : (ts : List Terminal) (names : List Word) (rest : List Terminal) → length ts ≤ n
      → IsEnumerators ts names rest → (0 < length names) × (length names ≤ n)
  names_few ts [] rest l h = absurd h
  names_few ts (name ∷ names) rest l h =
      let first = name_step h in
      let more = many_counted IsNextName next_name_less h.left names h.next.left h.next.holds in
      (omega arith, omega (arith, l, first, more))

  type_few : (ts : List Terminal) (kind : TypeTree) (rest : List Terminal) → length ts ≤ n → IsType ts kind rest
      → HasFewNames n kind
  type_few ts type.Boolean rest l h = tt
  type_few ts type.Event rest l h = tt
  type_few ts (type.Range lo hi) rest l h = tt
  type_few ts (type.Enum names) rest l h =
      let first = mark_step h in names_few h.left names h.next.left (omega (arith, l, first)) h.next.holds

  item_few : (ts : List Terminal) (item : Item) (rest : List Terminal) → length ts ≤ n → IsItem ts item rest
      → DeclaresFewNames n item
  item_few ts (Port input name kind) rest l h =
      let colon = h.next.next.next in
      let a = mark_step h in
      let b = mark_step h.next in
      let c = name_step h.next.next in
      let d = mark_step colon in
      type_few colon.left kind colon.next.left (omega (arith, l, a, b, c, d)) colon.next.holds
  item_few ts (Contract name assume guarantee) rest l h = tt

  component_few : (ts : List Terminal) (c : Component) (rest : List Terminal) → length ts ≤ n → IsComponent ts c rest
      → HasFewEnumerators n c
  component_few ts c rest l h =
      let system = h.next.next in
      let items = system.next in
      let a = mark_step h in
      let b = name_step h.next in
      let s = system_step h.next.left c.system system.left system.holds in
      let d = mark_step items in
      each_of_many n IsItem (DeclaresFewNames n) item_less item_few items.left c.interface items.next.left
      (omega (arith, l, a, b, s, d)) items.next.holds

  pub text_few_names : (ts : List Terminal) (all : List Component) → length ts ≤ n → IsText ts all
      → Each (HasFewEnumerators n) all
  text_few_names ts all l h =
      let head = head_step ts h.0 h.1 in
      each_of_many n IsComponent (HasFewEnumerators n) component_less component_few h.0 all [] (omega (arith, l, head)) h.2
