-- How much a text can say: each numeral of its trees is one of its terminals, and no expression has more leaves than the
-- text has terminals.
use Rattle.std.proofs.Common.{ℕ, ◌+◌, ◌<◌, ◌≤◌, inl, inr, Bool, true, false, List, [], ◌∷◌, length, Option, Some, None, ap, subst, arith}
use Rattle.std.specs.Prelude.{All}
use Rattle.std.specs.Option.{option_map_or}
use Rattle.oss_base.specs.Limits.{largest_numeral}
use Rattle.oss_base.specs.declared.place.Span.{Span}
use Rattle.oss_syntax.specs.Alphabet.{Terminal}
use Rattle.oss_syntax.specs.Alphabet as terminal
use Rattle.oss_syntax.specs.Expressions.{Tree, Name, Dotted, Numeral, Truth, Brackets, OfPort, Prefix, Binary}
use Rattle.oss_syntax.specs.Formulas.{Spells, SpellsPrefix, SecondSpelling, Closed}
use Rattle.oss_syntax.specs.Items.{IsBound, IsNextName, IsEnumerators, IsType, IsItem, IsTarget, IsPart, IsNextPart, IsParts, IsRefinementItem}
use Rattle.oss_syntax.specs.Steps.{Mark_then, Name_then, Many}
use Rattle.oss_syntax.specs.Terminals.{choose, structure_words, truth_words, port_words, prefix_words, binary_words, unsupported_words, binary_symbols}
use Rattle.oss_syntax.specs.Terminals.{prefix_symbols, mark_symbols, unsupported_symbols, as_terminal, word_terminal, symbol_terminal, read_as, terminals_of}
use Rattle.oss_syntax.specs.Texts.{IsSystem, IsRefinement, IsRequiresLine, IsHead, IsComponent, IsText}
use Rattle.oss_syntax.specs.Tokens.{IsTextOf, StandsIn, AreInOrder, text_at}
use Rattle.oss_syntax.specs.Trees.{Item, Port, Contract, RefinementItemTree, Sub, Connection, Refined, Component}
use Rattle.oss_syntax.specs.declared.expression.PrefixWord.{PrefixWord}
use Rattle.oss_syntax.specs.declared.expression.PrefixWord.TheVariants as prefix
use Rattle.oss_syntax.specs.declared.expression.Role.{Role}
use Rattle.oss_syntax.specs.declared.expression.Role.TheVariants as roles
use Rattle.oss_syntax.specs.declared.refinement.TargetTree.{TargetTree}
use Rattle.oss_syntax.specs.declared.refinement.TargetTree.TheVariants as targets
use Rattle.oss_syntax.specs.declared.terminal.Mark.{Mark}
use Rattle.oss_syntax.specs.declared.token.Token.{Token}
use Rattle.oss_syntax.specs.declared.token.TokenKind.{TokenKind}
use Rattle.oss_syntax.specs.declared.token.TokenKind.TheVariants as kinds
use Rattle.oss_syntax.specs.declared.types.TypeTree.{TypeTree}
use Rattle.oss_syntax.specs.declared.types.TypeTree.TheVariants as type
use Rattle.oss_syntax.specs.declared.words.PartWord.{PartWord}
use Rattle.oss_syntax.specs.declared.words.Word.{Word}
use Rattle.spec_names.specs.Scopes.{refinement_parts}
use Rattle.architecture.proofs.Listing.{Each, each_of_all}

-- terminals

-- a numeral is within its limit
abbrev pub IsFileTerminal : Terminal → Type 0
IsFileTerminal (terminal.Name word) = Unit {0}
IsFileTerminal (terminal.Numeral value span) = value ≤ largest_numeral
IsFileTerminal (terminal.Truth truth span) = Unit {0}
IsFileTerminal (terminal.OfPort word span) = Unit {0}
IsFileTerminal (terminal.Prefix word span) = Unit {0}
IsFileTerminal (terminal.Binary word span) = Unit {0}
IsFileTerminal (terminal.Mark mark span) = Unit {0}

record IsWithin (t : Terminal) : Type 0 where
  pub is : IsFileTerminal t

found_file : {A : Type 0} (make : A → Span → Terminal) (o : Option A) (span : Span) (other : Terminal)
    → ((a : A) → IsFileTerminal (make a span)) → IsWithin other → IsWithin (as_terminal make o span other)
found_file make None span other so here = here
found_file make (Some a) span other so here = record { is = so a }

read_file : (kind : TokenKind) (text : List ℕ) (span : Span) → IsTextOf kind text → IsFileTerminal
    (read_as kind text span)
read_file kinds.Word text span h =
    let word : IsWithin (word_terminal text span) =
    found_file terminal.Mark (choose structure_words text) span _ (λ a. tt)
    (found_file terminal.Truth (choose truth_words text) span _ (λ a. tt)
    (found_file terminal.OfPort (choose port_words text) span _ (λ a. tt)
    (found_file terminal.Prefix (choose prefix_words text) span _ (λ a. tt)
    (found_file terminal.Binary (choose binary_words text) span _ (λ a. tt)
    (found_file terminal.Mark (choose unsupported_words text) span _ (λ a. tt) (record { is = tt })))))) in
    word.is
read_file kinds.Numeral text span h = h.1
read_file kinds.Symbol text span h =
    let symbol : IsWithin (symbol_terminal text span) =
    found_file terminal.Binary (choose binary_symbols text) span _ (λ a. tt)
    (found_file terminal.Prefix (choose prefix_symbols text) span _ (λ a. tt)
    (found_file terminal.Mark (choose mark_symbols text) span _ (λ a. tt)
    (found_file terminal.Mark (choose unsupported_symbols text) span _ (λ a. tt) (record { is = tt })))) in
    symbol.is

all_file : (bytes : List ℕ) (tokens : List Token) → Each (StandsIn bytes) tokens → Each IsFileTerminal
    (terminals_of bytes tokens)
all_file bytes [] each = tt
all_file bytes (token ∷ tokens) each =
    (read_file token.kind (text_at bytes token.span) token.span each.0.text, all_file bytes tokens each.1)

-- no more terminals than bytes
count_terminals : (bytes : List ℕ) (from : ℕ) (tokens : List Token) → from ≤ length bytes → AreInOrder from tokens
    → Each (StandsIn bytes) tokens → from + length (terminals_of bytes tokens) ≤ length bytes
count_terminals bytes from [] l order each = omega (arith, l)
count_terminals bytes from (token ∷ tokens) l order each =
    omega (arith, order.0, each.0.some, count_terminals bytes token.span.end tokens each.0.within order.1 each.1)

-- such terminals, at most n
pub record AreFew (n : ℕ) (ts : List Terminal) : Type 0 where
  pub each : Each IsFileTerminal ts
  pub count : length ts ≤ n

pub text_few : (bytes : List ℕ) (tokens : List Token) → All (StandsIn bytes) tokens × AreInOrder 0 tokens
    → AreFew (length bytes) (terminals_of bytes tokens)
text_few bytes tokens stand =
    let each = each_of_all (StandsIn bytes) tokens stand.0 in
    let count = count_terminals bytes 0 tokens (omega arith) stand.1 each in
    record { each = all_file bytes tokens each; count = omega (arith, count) }

-- expressions

-- the ports, numerals, names and truth words of an expression
abbrev pub leaf_count : Tree → ℕ
leaf_count (Name word) = 1
leaf_count (Dotted sub port) = 1
leaf_count (Numeral value span) = 1
leaf_count (Truth truth span) = 1
leaf_count (Brackets inside span) = leaf_count inside
leaf_count (OfPort word port span) = 1
leaf_count (Prefix word operand span) = leaf_count operand
leaf_count (Binary word left right span) = leaf_count left + leaf_count right

abbrev pub HasFileNumerals : Tree → Type 0
HasFileNumerals (Name word) = Unit {0}
HasFileNumerals (Dotted sub port) = Unit {0}
HasFileNumerals (Numeral value span) = value ≤ largest_numeral
HasFileNumerals (Truth truth span) = Unit {0}
HasFileNumerals (Brackets inside span) = HasFileNumerals inside
HasFileNumerals (OfPort word port span) = Unit {0}
HasFileNumerals (Prefix word operand span) = HasFileNumerals operand
HasFileNumerals (Binary word left right span) = HasFileNumerals left × HasFileNumerals right

abbrev pub IsFewTree : ℕ → Tree → Type 0
IsFewTree n e = HasFileNumerals e × (leaf_count e ≤ n)

-- an expression was read from n terminals, and these are left
record WasRead (n : ℕ) (e : Tree) (rest : List Terminal) : Type 0 where
  pub numerals : HasFileNumerals e
  pub counted : leaf_count e + length rest ≤ n
  pub left : Each IsFileTerminal rest

second_left : (ts : List Terminal) (word : PrefixWord) (span : Span) (mid : List Terminal) → Each IsFileTerminal ts
    → SecondSpelling ts word span mid → Each IsFileTerminal mid × (length mid < length ts)
second_left ts prefix.Minus span mid all h = ((subst (Each IsFileTerminal) h all).1, (let e = ap length h in omega arith))
second_left ts prefix.Not span mid all h = absurd h
second_left ts prefix.Always span mid all h = absurd h
second_left ts prefix.Never span mid all h = absurd h
second_left ts prefix.Future span mid all h =
    ((subst (Each IsFileTerminal) h.2 all).1.1.1, (let e = ap length h.2 in omega arith))
second_left ts prefix.Then span mid all h = absurd h

prefix_left : (ts : List Terminal) (word : PrefixWord) (span : Span) (mid : List Terminal) → Each IsFileTerminal ts
    → SpellsPrefix ts word span mid → Each IsFileTerminal mid × (length mid < length ts)
prefix_left ts word span mid all h = elim h [
  | inl i ↦ ((subst (Each IsFileTerminal) i all).1, (let e = ap length i in omega arith))
  | inr s ↦ second_left ts word span mid all s
]

tree_read : (role : Role) (ts : List Terminal) (e : Tree) (rest : List Terminal) → Each IsFileTerminal ts
    → Spells role ts e rest → WasRead (length ts) e rest
tree_read role ts (Name word) rest all s =
    let k = ap length s in record { numerals = tt; counted = omega (arith, k); left = (subst (Each IsFileTerminal) s all).1 }
tree_read role ts (Dotted sub port) rest all s =
    let k = ap length s.2 in record { numerals = tt; counted = omega (arith, k); left = (subst (Each IsFileTerminal) s.2 all).1.1.1 }
tree_read role ts (Numeral value span) rest all s =
    let k = ap length s in
    let a = subst (Each IsFileTerminal) s all in
    record { numerals = a.0; counted = omega (arith, k); left = a.1 }
tree_read role ts (Truth truth span) rest all s =
    let k = ap length s in record { numerals = tt; counted = omega (arith, k); left = (subst (Each IsFileTerminal) s all).1 }
tree_read role ts (Brackets inside span) rest all s =
    let k = ap length s.2 in
    let r = tree_read role s.1 inside _ (subst (Each IsFileTerminal) s.2 all).1 s.3 in
    record { numerals = r.numerals; counted = omega (arith, k, r.counted); left = r.left.1 }
tree_read role ts (OfPort word port span) rest all s =
    let k = ap length s.3 in record { numerals = tt; counted = omega (arith, k); left = (subst (Each IsFileTerminal) s.3 all).1.1.1.1 }
tree_read role ts (Prefix word operand span) rest all s =
    let mid = prefix_left ts word span s.2 all s.3 in
    let r = tree_read role s.2 operand rest mid.0 s.4 in
    record { numerals = r.numerals; counted = omega (arith, mid.1, r.counted); left = r.left }
tree_read role ts (Binary word left right span) rest all s =
    let a = tree_read role ts left _ all s.4 in
    let b = tree_read role s.3 right rest a.left.1 s.5 in
    record { numerals = (a.numerals, b.numerals); counted = omega (arith, a.counted, b.counted); left = b.left }

-- items and components

-- the bounds of a range are within the limit
abbrev pub HasFileBounds : TypeTree → Type 0
HasFileBounds type.Boolean = Unit {0}
HasFileBounds type.Event = Unit {0}
HasFileBounds (type.Range lo hi) = (lo.value ≤ largest_numeral) × (hi.value ≤ largest_numeral)
HasFileBounds (type.Enum names) = Unit {0}

abbrev pub IsFewItem : ℕ → Item → Type 0
IsFewItem n (Port input name kind) = HasFileBounds kind
IsFewItem n (Contract name assume guarantee) = IsFewTree n assume × IsFewTree n guarantee

abbrev pub IsFewPart : ℕ → RefinementItemTree → Type 0
IsFewPart n (Sub name component) = Unit {0}
IsFewPart n (Connection target source) = IsFewTree n source
IsFewPart n (Refined name listed) = Unit {0}

abbrev pub IsFewComponent : ℕ → Component → Type 0
IsFewComponent n c = Each (IsFewItem n) c.interface × Each (IsFewPart n) (refinement_parts c)

module _ (n : ℕ) where
  tail_few : {t : Terminal} {ts : List Terminal} → AreFew n (t ∷ ts) → AreFew n ts
  tail_few few = record { each = few.each.1; count = omega (arith, few.count) }

  mark_left : {m : Mark} {Next : List Terminal → Type 0} {ts : List Terminal} → AreFew n ts → (h : Mark_then m Next ts)
      → AreFew n h.left
  mark_left few h = tail_few (subst (AreFew n) h.begins few)

  name_left : {word : Word} {Next : List Terminal → Type 0} {ts : List Terminal} → AreFew n ts
      → (h : Name_then word Next ts) → AreFew n h.left
  name_left few h = tail_few (subst (AreFew n) h.begins few)

  many_left : {A : Type 0} (R : List Terminal → A → List Terminal → Type 0) (P : A → Type 0)
      → ((x : List Terminal) (y : A) (z : List Terminal) → AreFew n x → R x y z → P y × AreFew n z)
      → (ts : List Terminal) (phrases : List A) (rest : List Terminal) → AreFew n ts → Many R ts phrases rest
      → Each P phrases × AreFew n rest
  many_left R P so ts [] rest few h = (tt, subst (AreFew n) h few)
  many_left R P so ts (p ∷ ps) rest few h =
      let first = so ts p h.0 few h.1 in
      let more = many_left R P so h.0 ps rest first.1 h.2 in
      ((first.0, more.0), more.1)

  closed_left : (role : Role) (ts : List Terminal) (e : Tree) (rest : List Terminal) → AreFew n ts
      → Closed role ts e rest → IsFewTree n e × AreFew n rest
  closed_left role ts e rest few h =
      let r = tree_read role ts e _ few.each h.1 in
      ((r.numerals, omega (arith, r.counted, few.count)), record { each = r.left.1; count = omega (arith, r.counted, few.count) })

  bound_left : (ts : List Terminal) (negative : Bool) (value : ℕ) (span : Span) (rest : List Terminal) → AreFew n ts
      → IsBound ts (record { negative = negative; value = value; span = span }) rest
      → (value ≤ largest_numeral) × AreFew n rest
  bound_left ts true value span rest few h =
      let left = subst (AreFew n) h.1 few in
      (left.each.1.0, tail_few (tail_few left))
  bound_left ts false value span rest few h =
      let left = subst (AreFew n) h few in
      (left.each.0, tail_few left)

  next_name_left : (ts : List Terminal) (name : Word) (rest : List Terminal) → AreFew n ts → IsNextName ts name rest
      → Unit {0} × AreFew n rest
  next_name_left ts name rest few h = (tt, subst (AreFew n) h.next.next (name_left (mark_left few h) h.next))

  enumerators_left : (ts : List Terminal) (names : List Word) (rest : List Terminal) → AreFew n ts
      → IsEnumerators ts names rest → AreFew n rest
  enumerators_left ts [] rest few h = absurd h
  enumerators_left ts (name ∷ names) rest few h =
      let more = many_left IsNextName (λ _. Unit {0}) next_name_left h.left names h.next.left (name_left few h) h.next.holds in
      subst (AreFew n) h.next.next.next (mark_left more.1 h.next.next)

  type_left : (ts : List Terminal) (kind : TypeTree) (rest : List Terminal) → AreFew n ts → IsType ts kind rest
      → HasFileBounds kind × AreFew n rest
  type_left ts type.Boolean rest few h = (tt, subst (AreFew n) h.next (mark_left few h))
  type_left ts type.Event rest few h = (tt, subst (AreFew n) h.next (mark_left few h))
  type_left ts (type.Range lo hi) rest few h =
      let first = bound_left ts lo.negative lo.value lo.span h.left few h.holds in
      let last = bound_left h.next.left hi.negative hi.value hi.span h.next.next.left (mark_left first.1 h.next) h.next.next.holds in
      ((first.0, last.0), subst (AreFew n) h.next.next.next last.1)
  type_left ts (type.Enum names) rest few h =
      (tt, subst (AreFew n) h.next.next (enumerators_left h.left names h.next.left (mark_left few h) h.next.holds))

  item_left : (ts : List Terminal) (item : Item) (rest : List Terminal) → AreFew n ts → IsItem ts item rest
      → IsFewItem n item × AreFew n rest
  item_left ts (Port input name kind) rest few h =
      let colon = h.next.next.next in
      let seen = mark_left (name_left (mark_left (mark_left few h) h.next) h.next.next) colon in
      let kinds = type_left colon.left kind colon.next.left seen colon.next.holds in
      (kinds.0, subst (AreFew n) colon.next.next.next (mark_left kinds.1 colon.next.next))
  item_left ts (Contract name assume guarantee) rest few h =
      let colon = h.next.next.next in
      let seen = mark_left (mark_left (name_left (mark_left few h) h.next) h.next.next) colon in
      let first = closed_left roles.Formula colon.left assume colon.next.left seen colon.next.holds in
      let second = colon.next.next.next in
      let more = mark_left (mark_left first.1 colon.next.next) second in
      let last = closed_left roles.Formula second.left guarantee second.next.left more second.next.holds in
      ((first.0, last.0), subst (AreFew n) second.next.next last.1)

  target_left : (ts : List Terminal) (target : TargetTree) (rest : List Terminal) → AreFew n ts
      → IsTarget ts target rest → AreFew n rest
  target_left ts (targets.Own name) rest few h = subst (AreFew n) h.next.next (mark_left (name_left few h) h.next)
  target_left ts (targets.OfSub sub port) rest few h = subst (AreFew n) h.next.next.next.next
      (mark_left (name_left (mark_left (name_left few h) h.next) h.next.next) h.next.next.next)

  listed_left : (ts : List Terminal) (part : PartWord) (rest : List Terminal) → AreFew n ts → IsPart ts part rest
      → AreFew n rest
  listed_left ts part rest few h = subst (AreFew n) h.next.next.next (name_left (mark_left (name_left few h) h.next) h.next.next)

  next_listed_left : (ts : List Terminal) (part : PartWord) (rest : List Terminal) → AreFew n ts
      → IsNextPart ts part rest → Unit {0} × AreFew n rest
  next_listed_left ts part rest few h =
      (tt, subst (AreFew n) h.next.next (listed_left h.left part h.next.left (mark_left few h) h.next.holds))

  list_left : (ts : List Terminal) (parts : List PartWord) (rest : List Terminal) → AreFew n ts
      → IsParts ts parts rest → AreFew n rest
  list_left ts [] rest few h = absurd h
  list_left ts (part ∷ parts) rest few h =
      let first = listed_left ts part h.left few h.holds in
      let more = many_left IsNextPart (λ _. Unit {0}) next_listed_left h.left parts h.next.left first h.next.holds in
      subst (AreFew n) h.next.next.next (mark_left more.1 h.next.next)

  part_left : (ts : List Terminal) (part : RefinementItemTree) (rest : List Terminal) → AreFew n ts
      → IsRefinementItem ts part rest → IsFewPart n part × AreFew n rest
  part_left ts (Sub name component) rest few h =
      let colon = h.next.next in
      let seen = mark_left (name_left (mark_left few h) h.next) colon in
      (tt, subst (AreFew n) colon.next.next.next (mark_left (name_left seen colon.next) colon.next.next))
  part_left ts (Connection target source) rest few h =
      let seen = target_left h.left target h.next.left (mark_left few h) h.next.holds in
      let read = closed_left roles.State h.next.left source h.next.next.left seen h.next.next.holds in
      (read.0, subst (AreFew n) h.next.next.next read.1)
  part_left ts (Refined name listed) rest few h =
      let by = h.next.next in
      let seen = mark_left (name_left (mark_left few h) h.next) by in
      (tt, subst (AreFew n) by.next.next (list_left by.left listed by.next.left seen by.next.holds))

  system_left : (ts : List Terminal) (system : Option Span) (rest : List Terminal) → AreFew n ts
      → IsSystem ts system rest → AreFew n rest
  system_left ts (Some span) rest few h = tail_few (subst (AreFew n) h few)
  system_left ts None rest few h = subst (AreFew n) h few

  refinement_left : (ts : List Terminal) (o : Option (List RefinementItemTree)) (rest : List Terminal) → AreFew n ts
      → IsRefinement ts o rest
      → Each (IsFewPart n) (option_map_or (λ (parts : List RefinementItemTree). parts) o []) × AreFew n rest
  refinement_left ts None rest few h = (tt, subst (AreFew n) h few)
  refinement_left ts (Some parts) rest few h =
      let read = many_left IsRefinementItem (IsFewPart n) part_left h.left parts h.next.left (mark_left few h) h.next.holds in
      (read.0, subst (AreFew n) h.next.next read.1)

  component_left : (ts : List Terminal) (c : Component) (rest : List Terminal) → AreFew n ts → IsComponent ts c rest
      → IsFewComponent n c × AreFew n rest
  component_left ts c rest few h =
      let system = h.next.next in
      let head = system_left h.next.left c.system system.left (name_left (mark_left few h) h.next) system.holds in
      let items = system.next in
      let own = many_left IsItem (IsFewItem n) item_left items.left c.interface items.next.left (mark_left head items) items.next.holds in
      let refinement = items.next.next in
      let parts = refinement_left items.next.left c.refinement refinement.left own.1 refinement.holds in
      ((own.0, parts.0), subst (AreFew n) refinement.next parts.1)

  line_left : (ts rest : List Terminal) → AreFew n ts → IsRequiresLine ts rest → AreFew n rest
  line_left ts rest few h =
      let left = subst (AreFew n) h.5 few in
      tail_few (tail_few (tail_few (tail_few (tail_few left))))

  head_left : (ts rest : List Terminal) → AreFew n ts → IsHead ts rest → AreFew n rest
  head_left ts rest few h = elim h [
    | inl none ↦ subst (AreFew n) none few
    | inr some ↦ elim some [
      | inl line ↦ line_left ts rest few line
      | inr closed ↦ tail_few (line_left ts _ few closed.1)
    ]
  ]

  pub few_components : (ts : List Terminal) (all : List Component) → AreFew n ts → IsText ts all
      → Each (IsFewComponent n) all
  few_components ts all few h = (many_left IsComponent (IsFewComponent n) component_left h.0 all [] (head_left ts h.0 few h.1) h.2).0
