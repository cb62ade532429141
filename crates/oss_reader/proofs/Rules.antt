use Rattle.std.proofs.Common.{◌≡◌, ℕ, Bool, true, false, List, [], ◌∷◌, refl, sym, ap, subst, ◌∙◌}
use Rattle.oss_base.specs.declared.place.Span.{Span}
use Rattle.oss_syntax.specs.declared.words.Word.{Word}
use Rattle.oss_syntax.specs.declared.words.PartWord.{PartWord}
use Rattle.oss_syntax.specs.declared.types.BoundTree.{BoundTree}
use Rattle.oss_syntax.specs.declared.types.TypeTree.{TypeTree}
use Rattle.oss_syntax.specs.declared.types.TypeTree.TheVariants as type
use Rattle.oss_syntax.specs.declared.expression.Role.{Role}
use Rattle.oss_syntax.specs.declared.refinement.TargetTree.{TargetTree}
use Rattle.oss_syntax.specs.declared.refinement.TargetTree.TheVariants as targets
use Rattle.oss_syntax.specs.declared.terminal.Mark.{Mark}
use Rattle.oss_syntax.specs.declared.terminal.Mark.TheVariants as mark
use Rattle.oss_syntax.specs.Alphabet.{Terminal}
use Rattle.oss_syntax.specs.Alphabet as terminal
use Rattle.oss_syntax.specs.Expressions.{Tree}
use Rattle.oss_syntax.specs.Formulas.{Spells, Closed}
use Rattle.oss_syntax.specs.Steps.{Mark_then, Name_then, Phrase_then, RestIs, Many}
use Rattle.oss_syntax.specs.Items.{IsBound, IsNextName, IsEnumerators, IsType, direction, IsItem, IsTarget, IsPart, IsNextPart, IsParts, IsRefinementItem}
use Rattle.oss_syntax.specs.Trees.{Item, Port, Contract, RefinementItemTree, Sub, Connection, Refined}
use Rattle.oss_reader.specs.Phrases.{Phrase, OnlyPhrase, NoPhrase}
use Rattle.oss_reader.specs.Reads.{Sole, Nothing, SoleUntil, NothingUntil, IsMark, NoMark, NoName, NoNumeral, NoMinus, IsMinus}
use Rattle.oss_reader.specs.Rules.{IsPort, IsContract, IsSub, IsConnection, IsRefined}
use Rattle.oss_reader.proofs.Grouping.{level-ten}
use Rattle.oss_reader.proofs.Operands.{stops_semicolon}
use Rattle.oss_reader.proofs.Sequences.{mark_step, name_step, phrase_step, no_mark, no_name, no_phrase, other_mark, mark_made, name_made, phrase_made}
use Rattle.oss_reader.proofs.Sequences.{until_step, no_until, until_made, mark_apart}

-- a whole expression and the semicolon after it
closed_phrase : (role : Role) (ts : List Terminal) (whole : Tree) (rest : List Terminal) (h : Closed role ts whole rest)
    → Phrase role 128 10 ts whole (terminal.Mark mark.Semicolon h.0 ∷ rest)
closed_phrase role ts whole rest h = record { spells = h.1; level = level-ten whole; height = h.2; stops = stops_semicolon 10 h.0 rest }

pub closed_sole : (role : Role) (ts : List Terminal) (whole : Tree) (mid left : List Terminal)
    → OnlyPhrase role 128 10 ts whole mid → IsMark mark.Semicolon mid left → Sole (Closed role) ts whole left
closed_sole role ts whole mid left o i =
    let e = i.begins in
    record {
      holds = (i.span, subst (λ (x : List Terminal). Spells role ts whole x) e o.phrase.spells, o.phrase.height);
      only = λ other rest h.
          let same = o.only other (terminal.Mark mark.Semicolon h.0 ∷ rest) (closed_phrase role ts other rest h) in
          let after = same.1 in
          (same.0, cc);
    }

pub closed_never : (role : Role) (ts : List Terminal) → NoPhrase role 128 10 ts → Nothing (Closed role) ts
closed_never role ts none whole rest h = none whole (terminal.Mark mark.Semicolon h.0 ∷ rest) (closed_phrase role ts whole rest h)

pub closed_open : (role : Role) (ts : List Terminal) (whole : Tree) (mid : List Terminal)
    → OnlyPhrase role 128 10 ts whole mid → NoMark mark.Semicolon mid → Nothing (Closed role) ts
closed_open role ts whole mid o none other rest h =
    let same = o.only other (terminal.Mark mark.Semicolon h.0 ∷ rest) (closed_phrase role ts other rest h) in
    none h.0 rest (sym same.1)

-- ends of ranges
bound_minus_only : (ts mid : List Terminal) (span numeral : Span) (value : ℕ) (left : List Terminal)
    → IsMinus span ts mid → mid ≡ terminal.Numeral value numeral ∷ left
    → (n : Bool) (v : ℕ) (s : Span) (rest : List Terminal)
    → IsBound ts (record { negative = n; value = v; span = s }) rest
    → (n ≡ true) × (v ≡ value) × (s ≡ span) × (rest ≡ left)
bound_minus_only ts mid span numeral value left e f true v s rest h = let g = h.1 in (refl, cc, cc, cc)
bound_minus_only ts mid span numeral value left e f false v s rest h = absurd (cc)

bound_same : (b : BoundTree) (n : Bool) (v : ℕ) (s : Span) → b.negative ≡ n → b.value ≡ v → b.span ≡ s
    → b ≡ record { negative = n; value = v; span = s }
bound_same b n v s e f g =
    ap (λ (x : Bool). record { negative = x; value = b.value; span = b.span }) e
    ∙ (ap (λ (x : ℕ). record { negative = n; value = x; span = b.span }) f
    ∙ ap (λ (x : Span). record { negative = n; value = v; span = x }) g)

pub bound_minus : (ts mid : List Terminal) (span numeral : Span) (value : ℕ) (left : List Terminal)
    → IsMinus span ts mid → mid ≡ terminal.Numeral value numeral ∷ left
    → Sole IsBound ts (record { negative = true; value = value; span = span }) left
bound_minus ts mid span numeral value left e f = record {
  holds = (numeral, cc);
  only = λ b rest h.
      let s = bound_minus_only ts mid span numeral value left e f b.negative b.value b.span rest h in
      (bound_same b true value span s.0 s.1 s.2, s.3);
}

bound_minus_none : (ts mid : List Terminal) (span : Span) → IsMinus span ts mid → NoNumeral mid
    → (n : Bool) (v : ℕ) (s : Span) (rest : List Terminal)
    → IsBound ts (record { negative = n; value = v; span = s }) rest → ⊥
bound_minus_none ts mid span e none true v s rest h = let g = h.1 in none v h.0 rest cc
bound_minus_none ts mid span e none false v s rest h = cc

pub bound_minus_never : (ts mid : List Terminal) (span : Span) → IsMinus span ts mid → NoNumeral mid
    → Nothing IsBound ts
bound_minus_never ts mid span e none b rest h = bound_minus_none ts mid span e none b.negative b.value b.span rest h

bound_plain_only : (ts : List Terminal) (span : Span) (value : ℕ) (left : List Terminal)
    → ts ≡ terminal.Numeral value span ∷ left
    → (n : Bool) (v : ℕ) (s : Span) (rest : List Terminal)
    → IsBound ts (record { negative = n; value = v; span = s }) rest
    → (n ≡ false) × (v ≡ value) × (s ≡ span) × (rest ≡ left)
bound_plain_only ts span value left e true v s rest h = let g = h.1 in absurd (cc)
bound_plain_only ts span value left e false v s rest h = (refl, cc, cc, cc)

pub bound_plain : (ts : List Terminal) (span : Span) (value : ℕ) (left : List Terminal)
    → ts ≡ terminal.Numeral value span ∷ left
    → Sole IsBound ts (record { negative = false; value = value; span = span }) left
bound_plain ts span value left e = record {
  holds = e;
  only = λ b rest h.
      let s = bound_plain_only ts span value left e b.negative b.value b.span rest h in
      (bound_same b false value span s.0 s.1 s.2, s.3);
}

bound_plain_none : (ts : List Terminal) → NoMinus ts → NoNumeral ts
    → (n : Bool) (v : ℕ) (s : Span) (rest : List Terminal)
    → IsBound ts (record { negative = n; value = v; span = s }) rest → ⊥
bound_plain_none ts unsigned none true v s rest h = unsigned s (terminal.Numeral v h.0 ∷ rest) h.1
bound_plain_none ts unsigned none false v s rest h = none v s rest h

pub bound_plain_never : (ts : List Terminal) → NoMinus ts → NoNumeral ts → Nothing IsBound ts
bound_plain_never ts unsigned none b rest h = bound_plain_none ts unsigned none b.negative b.value b.span rest h

-- no end of a range begins with a mark
bound_unmarked : (m : Mark) (ts : List Terminal) (n : Bool) (v : ℕ) (s : Span) (rest : List Terminal)
    → IsBound ts (record { negative = n; value = v; span = s }) rest → NoMark m ts
bound_unmarked m ts true v s rest h span left e = let g = h.1 in cc
bound_unmarked m ts false v s rest h span left e = cc

pub bound_no_mark : (m : Mark) (ts mid : List Terminal) (b : BoundTree) (rest : List Terminal) → IsMark m ts mid
    → IsBound ts b rest → ⊥
bound_no_mark m ts mid b rest i h = bound_unmarked m ts b.negative b.value b.span rest h i.span mid i.begins

-- names of enumerations
pub next_name : (ts mid left : List Terminal) (name : Word) → IsMark mark.Comma ts mid
    → mid ≡ terminal.Name name ∷ left → Sole IsNextName ts name left
next_name ts mid left name i e = record {
  holds = mark_made i (name_made e refl);
  only = λ other rest h. let n = name_step e (mark_step i h) in (n.0, sym n.1);
}

pub next_name_never : (ts mid : List Terminal) → IsMark mark.Comma ts mid → NoName mid → Nothing IsNextName ts
next_name_never ts mid i none other rest h = no_name none (mark_step i h)

pub next_name_none : (ts : List Terminal) → NoMark mark.Comma ts → Nothing IsNextName ts
next_name_none ts none other rest h = no_mark none h

brace_no_comma : (rest left : List Terminal) → Mark_then mark.CloseBrace (RestIs rest) left → NoMark mark.Comma left
brace_no_comma rest left h = mark_apart (λ e. cc) h

enumerators_only : (ts mid last left : List Terminal) (name : Word) (names : List Word)
    → ts ≡ terminal.Name name ∷ mid → SoleUntil (Many IsNextName) (NoMark mark.Comma) mid names last
    → IsMark mark.CloseBrace last left
    → (other : List Word) (rest : List Terminal) → IsEnumerators ts other rest → (other ≡ name ∷ names) × (rest ≡ left)
enumerators_only ts mid last left name names e s i [] rest h = absurd h
enumerators_only ts mid last left name names e s i (n ∷ ns) rest h =
    let one = name_step e h in
    let two = until_step s (brace_no_comma rest) one.1 in
    let end = mark_step i two.1 in
    let first = one.0 in
    let others = two.0 in
    (cc, sym end)

pub enumerators_sole : (ts mid last left : List Terminal) (name : Word) (names : List Word)
    → ts ≡ terminal.Name name ∷ mid → SoleUntil (Many IsNextName) (NoMark mark.Comma) mid names last
    → IsMark mark.CloseBrace last left
    → Sole IsEnumerators ts (name ∷ names) left
enumerators_sole ts mid last left name names e s i = record {
  holds = name_made e (until_made s (mark_made i refl));
  only = enumerators_only ts mid last left name names e s i;
}

pub enumerators_nameless : (ts : List Terminal) → NoName ts → Nothing IsEnumerators ts
enumerators_nameless ts none [] rest h = h
enumerators_nameless ts none (n ∷ ns) rest h = no_name none h

pub enumerators_broken : (ts mid : List Terminal) (name : Word) → ts ≡ terminal.Name name ∷ mid
    → NothingUntil (Many IsNextName) (NoMark mark.Comma) mid → Nothing IsEnumerators ts
enumerators_broken ts mid name e none [] rest h = h
enumerators_broken ts mid name e none (n ∷ ns) rest h = no_until (NoMark mark.Comma) none (brace_no_comma rest) (name_step e h).1

pub enumerators_open : (ts mid last : List Terminal) (name : Word) (names : List Word)
    → ts ≡ terminal.Name name ∷ mid → SoleUntil (Many IsNextName) (NoMark mark.Comma) mid names last
    → NoMark mark.CloseBrace last → Nothing IsEnumerators ts
enumerators_open ts mid last name names e s none [] rest h = h
enumerators_open ts mid last name names e s none (n ∷ ns) rest h = no_mark none (until_step s (brace_no_comma rest) (name_step e h).1).1

-- types

type_boolean_only : (ts left : List Terminal) → IsMark mark.Boolean ts left
    → (other : TypeTree) (rest : List Terminal) → IsType ts other rest → (other ≡ type.Boolean) × (rest ≡ left)
type_boolean_only ts left i type.Boolean rest h = (refl, sym (mark_step i h))
type_boolean_only ts left i type.Event rest h = absurd (other_mark (λ e. cc) i h)
type_boolean_only ts left i (type.Range lo hi) rest h = absurd (bound_no_mark mark.Boolean ts left lo h.left i h.holds)
type_boolean_only ts left i (type.Enum names) rest h = absurd (other_mark (λ e. cc) i h)

pub type_boolean : (ts left : List Terminal) → IsMark mark.Boolean ts left → Sole IsType ts type.Boolean left
type_boolean ts left i = record { holds = mark_made i refl; only = type_boolean_only ts left i }

type_event_only : (ts left : List Terminal) → IsMark mark.Event ts left → (other : TypeTree) (rest : List Terminal)
    → IsType ts other rest → (other ≡ type.Event) × (rest ≡ left)
type_event_only ts left i type.Boolean rest h = absurd (other_mark (λ e. cc) i h)
type_event_only ts left i type.Event rest h = (refl, sym (mark_step i h))
type_event_only ts left i (type.Range lo hi) rest h = absurd (bound_no_mark mark.Event ts left lo h.left i h.holds)
type_event_only ts left i (type.Enum names) rest h = absurd (other_mark (λ e. cc) i h)

pub type_event : (ts left : List Terminal) → IsMark mark.Event ts left → Sole IsType ts type.Event left
type_event ts left i = record { holds = mark_made i refl; only = type_event_only ts left i }

type_enum_only : (ts mid left : List Terminal) (names : List Word) → IsMark mark.OpenBrace ts mid
    → Sole IsEnumerators mid names left
    → (other : TypeTree) (rest : List Terminal) → IsType ts other rest → (other ≡ type.Enum names) × (rest ≡ left)
type_enum_only ts mid left names i s type.Boolean rest h = absurd (other_mark (λ e. cc) i h)
type_enum_only ts mid left names i s type.Event rest h = absurd (other_mark (λ e. cc) i h)
type_enum_only ts mid left names i s (type.Range lo hi) rest h = absurd (bound_no_mark mark.OpenBrace ts mid lo h.left i h.holds)
type_enum_only ts mid left names i s (type.Enum others) rest h =
    let one = phrase_step s (mark_step i h) in
    (ap (λ (x : List Word). type.Enum x) one.0, sym one.1)

pub type_enum : (ts mid left : List Terminal) (names : List Word) → IsMark mark.OpenBrace ts mid
    → Sole IsEnumerators mid names left → Sole IsType ts (type.Enum names) left
type_enum ts mid left names i s = record { holds = mark_made i (phrase_made s refl); only = type_enum_only ts mid left names i s }

pub type_enum_never : (ts mid : List Terminal) → IsMark mark.OpenBrace ts mid → Nothing IsEnumerators mid
    → Nothing IsType ts
type_enum_never ts mid i none type.Boolean rest h = other_mark (λ e. cc) i h
type_enum_never ts mid i none type.Event rest h = other_mark (λ e. cc) i h
type_enum_never ts mid i none (type.Range lo hi) rest h = bound_no_mark mark.OpenBrace ts mid lo h.left i h.holds
type_enum_never ts mid i none (type.Enum others) rest h = no_phrase none (mark_step i h)

-- no mark begins the type, so it is a range
pub record Unmarked (ts : List Terminal) : Type 0 where
  pub boolean : NoMark mark.Boolean ts
  pub event : NoMark mark.Event ts
  pub brace : NoMark mark.OpenBrace ts

type_range_only : (ts a b left : List Terminal) (lo hi : BoundTree) → Unmarked ts → Sole IsBound ts lo a
    → IsMark mark.Range a b → Sole IsBound b hi left
    → (other : TypeTree) (rest : List Terminal) → IsType ts other rest → (other ≡ type.Range lo hi) × (rest ≡ left)
type_range_only ts a b left lo hi u s i t type.Boolean rest h = absurd (no_mark u.boolean h)
type_range_only ts a b left lo hi u s i t type.Event rest h = absurd (no_mark u.event h)
type_range_only ts a b left lo hi u s i t (type.Range l g) rest h =
    let one = phrase_step s h in
    let two = phrase_step t (mark_step i one.1) in
    let low = one.0 in
    let high = two.0 in
    (cc, sym two.1)
type_range_only ts a b left lo hi u s i t (type.Enum others) rest h = absurd (no_mark u.brace h)

pub type_range : (ts a b left : List Terminal) (lo hi : BoundTree) → Unmarked ts → Sole IsBound ts lo a
    → IsMark mark.Range a b → Sole IsBound b hi left → Sole IsType ts (type.Range lo hi) left
type_range ts a b left lo hi u s i t = record { holds = phrase_made s (mark_made i (phrase_made t refl)); only = type_range_only ts a b left lo hi u s i t }

pub type_range_never : (ts : List Terminal) → Unmarked ts
    → ((lo hi : BoundTree) (rest : List Terminal) → Phrase_then IsBound lo
    (Mark_then mark.Range (Phrase_then IsBound hi (RestIs rest))) ts → ⊥)
    → Nothing IsType ts
type_range_never ts u none type.Boolean rest h = no_mark u.boolean h
type_range_never ts u none type.Event rest h = no_mark u.event h
type_range_never ts u none (type.Range lo hi) rest h = none lo hi rest h
type_range_never ts u none (type.Enum others) rest h = no_mark u.brace h

-- items of interfaces
direction_same : (a b : Bool) → direction a ≡ direction b → a ≡ b
direction_same true true e = refl
direction_same true false e = absurd (cc)
direction_same false true e = absurd (cc)
direction_same false false e = refl

pub direction_apart : (a : Bool) → direction a ≡ mark.Contract → ⊥
direction_apart true e = cc
direction_apart false e = cc

same_mark : {m n : Mark} {Next : List Terminal → Type 0} {ts mid : List Terminal} → IsMark m ts mid
    → Mark_then n Next ts → n ≡ m
same_mark {m} {n} i h =
    let e = i.begins in
    let f = h.begins in
    cc

item_port_only : (input : Bool) (ts mid : List Terminal) (p : Word × TypeTree) (left : List Terminal)
    → IsMark (direction input) ts mid → Sole IsPort mid p left
    → (other : Item) (rest : List Terminal) → IsItem ts other rest → (other ≡ Port input p.0 p.1) × (rest ≡ left)
item_port_only input ts mid p left i s (Port o name kind) rest h =
    let way : o ≡ input = direction_same o input (same_mark i h) in
    let h' = subst (λ (x : Bool). Mark_then (direction x) (λ (l : List Terminal). IsPort l (name, kind) rest) ts) way h in
    let one = s.only (name, kind) rest (mark_step i h') in
    (ap (λ (x : Bool). Port x name kind) way ∙ ap (λ (x : Word × TypeTree). Port input x.0 x.1) one.0, one.1)
item_port_only input ts mid p left i s (Contract name assume guarantee) rest h = absurd (other_mark (direction_apart input) i h)

pub item_port : (input : Bool) (ts mid : List Terminal) (p : Word × TypeTree) (left : List Terminal)
    → IsMark (direction input) ts mid → Sole IsPort mid p left
    → Sole IsItem ts (Port input p.0 p.1) left
item_port input ts mid p left i s = record { holds = mark_made i s.holds; only = item_port_only input ts mid p left i s }

pub item_port_never : (input : Bool) (ts mid : List Terminal) → IsMark (direction input) ts mid → Nothing IsPort mid
    → Nothing IsItem ts
item_port_never input ts mid i none (Port o name kind) rest h =
    let way : o ≡ input = direction_same o input (same_mark i h) in
    let h' = subst (λ (x : Bool). Mark_then (direction x) (λ (l : List Terminal). IsPort l (name, kind) rest) ts) way h in
    none (name, kind) rest (mark_step i h')
item_port_never input ts mid i none (Contract name assume guarantee) rest h = other_mark (direction_apart input) i h

item_contract_only : (ts mid : List Terminal) (p : Word × Tree × Tree) (left : List Terminal)
    → IsMark mark.Contract ts mid → Sole IsContract mid p left
    → (other : Item) (rest : List Terminal) → IsItem ts other rest → (other ≡ Contract p.0 p.1 p.2) × (rest ≡ left)
item_contract_only ts mid p left i s (Port o name kind) rest h = absurd (other_mark (λ e. direction_apart o (sym e)) i h)
item_contract_only ts mid p left i s (Contract name assume guarantee) rest h =
    let one = s.only (name, assume, guarantee) rest (mark_step i h) in
    (ap (λ (x : Word × Tree × Tree). Contract x.0 x.1 x.2) one.0, one.1)

pub item_contract : (ts mid : List Terminal) (p : Word × Tree × Tree) (left : List Terminal)
    → IsMark mark.Contract ts mid → Sole IsContract mid p left
    → Sole IsItem ts (Contract p.0 p.1 p.2) left
item_contract ts mid p left i s = record { holds = mark_made i s.holds; only = item_contract_only ts mid p left i s }

pub item_contract_never : (ts mid : List Terminal) → IsMark mark.Contract ts mid → Nothing IsContract mid
    → Nothing IsItem ts
item_contract_never ts mid i none (Port o name kind) rest h = other_mark (λ e. direction_apart o (sym e)) i h
item_contract_never ts mid i none (Contract name assume guarantee) rest h = none (name, assume, guarantee) rest (mark_step i h)

pub item_none : (ts : List Terminal) → NoMark mark.Input ts → NoMark mark.Output ts → NoMark mark.Contract ts
    → Nothing IsItem ts
item_none ts input output contract (Port true name kind) rest h = no_mark input h
item_none ts input output contract (Port false name kind) rest h = no_mark output h
item_none ts input output contract (Contract name assume guarantee) rest h = no_mark contract h

-- targets

target_own_only : (ts mid left : List Terminal) (name : Word) → ts ≡ terminal.Name name ∷ mid
    → IsMark mark.Assign mid left
    → (other : TargetTree) (rest : List Terminal) → IsTarget ts other rest → (other ≡ targets.Own name) × (rest ≡ left)
target_own_only ts mid left name e i (targets.Own n) rest h =
    let one = name_step e h in
    (ap (λ (x : Word). targets.Own x) one.0, sym (mark_step i one.1))
target_own_only ts mid left name e i (targets.OfSub sub port) rest h = absurd (other_mark (λ q. cc) i (name_step e h).1)

pub target_own : (ts mid left : List Terminal) (name : Word) → ts ≡ terminal.Name name ∷ mid
    → IsMark mark.Assign mid left → Sole IsTarget ts (targets.Own name) left
target_own ts mid left name e i = record { holds = name_made e (mark_made i refl); only = target_own_only ts mid left name e i }

target_of_sub_only : (ts a b c left : List Terminal) (sub port : Word) → ts ≡ terminal.Name sub ∷ a
    → IsMark mark.Dot a b → b ≡ terminal.Name port ∷ c → IsMark mark.Assign c left
    → (other : TargetTree) (rest : List Terminal) → IsTarget ts other rest
    → (other ≡ targets.OfSub sub port) × (rest ≡ left)
target_of_sub_only ts a b c left sub port e i f j (targets.Own n) rest h = absurd (other_mark (λ q. cc) i (name_step e h).1)
target_of_sub_only ts a b c left sub port e i f j (targets.OfSub s p) rest h =
    let one = name_step e h in
    let two = name_step f (mark_step i one.1) in
    let first = one.0 in
    let second = two.0 in
    (cc, sym (mark_step j two.1))

pub target_of_sub : (ts a b c left : List Terminal) (sub port : Word) → ts ≡ terminal.Name sub ∷ a
    → IsMark mark.Dot a b → b ≡ terminal.Name port ∷ c → IsMark mark.Assign c left
    → Sole IsTarget ts (targets.OfSub sub port) left
target_of_sub ts a b c left sub port e i f j = record {
  holds = name_made e (mark_made i (name_made f (mark_made j refl)));
  only =
      target_of_sub_only ts a b c left sub port e i f j;
}

pub target_nameless : (ts : List Terminal) → NoName ts → Nothing IsTarget ts
target_nameless ts none (targets.Own n) rest h = no_name none h
target_nameless ts none (targets.OfSub s p) rest h = no_name none h

pub target_unassigned : (ts mid : List Terminal) (name : Word) → ts ≡ terminal.Name name ∷ mid → NoMark mark.Dot mid
    → NoMark mark.Assign mid → Nothing IsTarget ts
target_unassigned ts mid name e undotted unassigned (targets.Own n) rest h = no_mark unassigned (name_step e h).1
target_unassigned ts mid name e undotted unassigned (targets.OfSub s p) rest h = no_mark undotted (name_step e h).1

pub target_dotted : (ts a b : List Terminal) (sub : Word) → ts ≡ terminal.Name sub ∷ a → IsMark mark.Dot a b
    → ((port : Word) (rest : List Terminal) → Name_then port (Mark_then mark.Assign (RestIs rest)) b → ⊥)
    → Nothing IsTarget ts
target_dotted ts a b sub e i none (targets.Own n) rest h = other_mark (λ q. cc) i (name_step e h).1
target_dotted ts a b sub e i none (targets.OfSub s p) rest h = none p rest (mark_step i (name_step e h).1)

-- contracts of subcomponents

part_same : (p : PartWord) (sub contract : Word) → p.sub ≡ sub → p.contract ≡ contract
    → p ≡ record { sub = sub; contract = contract }
part_same p sub contract e f =
    ap (λ (x : Word). record { sub = x; contract = p.contract }) e ∙ ap (λ (x : Word). record { sub = sub; contract = x }) f

pub part_sole : (ts a b left : List Terminal) (sub contract : Word) → ts ≡ terminal.Name sub ∷ a → IsMark mark.Dot a b
    → b ≡ terminal.Name contract ∷ left
    → Sole IsPart ts (record { sub = sub; contract = contract }) left
part_sole ts a b left sub contract e i f = record {
  holds = name_made e (mark_made i (name_made f refl));
  only = λ p rest h.
      let one = name_step e h in
      let two = name_step f (mark_step i one.1) in
      (part_same p sub contract one.0 two.0, sym two.1);
}

pub next_part : (ts mid left : List Terminal) (part : PartWord) → IsMark mark.Comma ts mid → Sole IsPart mid part left
    → Sole IsNextPart ts part left
next_part ts mid left part i s = record {
  holds = mark_made i (phrase_made s refl);
  only = λ other rest h. let n = phrase_step s (mark_step i h) in (n.0, sym n.1);
}

pub next_part_never : (ts mid : List Terminal) → IsMark mark.Comma ts mid → Nothing IsPart mid → Nothing IsNextPart ts
next_part_never ts mid i none other rest h = no_phrase none (mark_step i h)

pub next_part_none : (ts : List Terminal) → NoMark mark.Comma ts → Nothing IsNextPart ts
next_part_none ts none other rest h = no_mark none h

semicolon_no_comma : (rest left : List Terminal) → Mark_then mark.Semicolon (RestIs rest) left → NoMark mark.Comma left
semicolon_no_comma rest left h = mark_apart (λ e. cc) h

parts_only : (ts mid last left : List Terminal) (part : PartWord) (parts : List PartWord)
    → Sole IsPart ts part mid → SoleUntil (Many IsNextPart) (NoMark mark.Comma) mid parts last
    → IsMark mark.Semicolon last left
    → (other : List PartWord) (rest : List Terminal) → IsParts ts other rest → (other ≡ part ∷ parts) × (rest ≡ left)
parts_only ts mid last left part parts e s i [] rest h = absurd h
parts_only ts mid last left part parts e s i (n ∷ ns) rest h =
    let one = phrase_step e h in
    let two = until_step s (semicolon_no_comma rest) one.1 in
    let end = mark_step i two.1 in
    let first = one.0 in
    let others = two.0 in
    (cc, sym end)

pub parts_sole : (ts mid last left : List Terminal) (part : PartWord) (parts : List PartWord)
    → Sole IsPart ts part mid → SoleUntil (Many IsNextPart) (NoMark mark.Comma) mid parts last
    → IsMark mark.Semicolon last left
    → Sole IsParts ts (part ∷ parts) left
parts_sole ts mid last left part parts e s i = record {
  holds = phrase_made e (until_made s (mark_made i refl));
  only = parts_only ts mid last left part parts e s i;
}

pub parts_first : (ts : List Terminal) → Nothing IsPart ts → Nothing IsParts ts
parts_first ts none [] rest h = h
parts_first ts none (n ∷ ns) rest h = no_phrase none h

pub parts_broken : (ts mid : List Terminal) (part : PartWord) → Sole IsPart ts part mid
    → NothingUntil (Many IsNextPart) (NoMark mark.Comma) mid → Nothing IsParts ts
parts_broken ts mid part e none [] rest h = h
parts_broken ts mid part e none (n ∷ ns) rest h = no_until (NoMark mark.Comma) none (semicolon_no_comma rest) (phrase_step e h).1

pub parts_open : (ts mid last : List Terminal) (part : PartWord) (parts : List PartWord)
    → Sole IsPart ts part mid → SoleUntil (Many IsNextPart) (NoMark mark.Comma) mid parts last
    → NoMark mark.Semicolon last → Nothing IsParts ts
parts_open ts mid last part parts e s none [] rest h = h
parts_open ts mid last part parts e s none (n ∷ ns) rest h = no_mark none (until_step s (semicolon_no_comma rest) (phrase_step e h).1).1

-- items of refinements

item_sub_only : (ts mid : List Terminal) (p : Word × Word) (left : List Terminal) → IsMark mark.Sub ts mid
    → Sole IsSub mid p left
    → (other : RefinementItemTree) (rest : List Terminal) → IsRefinementItem ts other rest
    → (other ≡ Sub p.0 p.1) × (rest ≡ left)
item_sub_only ts mid p left i s (Sub name component) rest h =
    let one = s.only (name, component) rest (mark_step i h) in
    (ap (λ (x : Word × Word). Sub x.0 x.1) one.0, one.1)
item_sub_only ts mid p left i s (Connection target source) rest h = absurd (other_mark (λ e. cc) i h)
item_sub_only ts mid p left i s (Refined name parts) rest h = absurd (other_mark (λ e. cc) i h)

pub item_sub : (ts mid : List Terminal) (p : Word × Word) (left : List Terminal) → IsMark mark.Sub ts mid
    → Sole IsSub mid p left → Sole IsRefinementItem ts (Sub p.0 p.1) left
item_sub ts mid p left i s = record { holds = mark_made i s.holds; only = item_sub_only ts mid p left i s }

pub item_sub_never : (ts mid : List Terminal) → IsMark mark.Sub ts mid → Nothing IsSub mid → Nothing IsRefinementItem ts
item_sub_never ts mid i none (Sub name component) rest h = none (name, component) rest (mark_step i h)
item_sub_never ts mid i none (Connection target source) rest h = other_mark (λ e. cc) i h
item_sub_never ts mid i none (Refined name parts) rest h = other_mark (λ e. cc) i h

item_connection_only : (ts mid : List Terminal) (p : TargetTree × Tree) (left : List Terminal)
    → IsMark mark.Connection ts mid → Sole IsConnection mid p left
    → (other : RefinementItemTree) (rest : List Terminal) → IsRefinementItem ts other rest
    → (other ≡ Connection p.0 p.1) × (rest ≡ left)
item_connection_only ts mid p left i s (Sub name component) rest h = absurd (other_mark (λ e. cc) i h)
item_connection_only ts mid p left i s (Connection target source) rest h =
    let one = s.only (target, source) rest (mark_step i h) in
    (ap (λ (x : TargetTree × Tree). Connection x.0 x.1) one.0, one.1)
item_connection_only ts mid p left i s (Refined name parts) rest h = absurd (other_mark (λ e. cc) i h)

pub item_connection : (ts mid : List Terminal) (p : TargetTree × Tree) (left : List Terminal)
    → IsMark mark.Connection ts mid → Sole IsConnection mid p left
    → Sole IsRefinementItem ts (Connection p.0 p.1) left
item_connection ts mid p left i s = record { holds = mark_made i s.holds; only = item_connection_only ts mid p left i s }

pub item_connection_never : (ts mid : List Terminal) → IsMark mark.Connection ts mid → Nothing IsConnection mid
    → Nothing IsRefinementItem ts
item_connection_never ts mid i none (Sub name component) rest h = other_mark (λ e. cc) i h
item_connection_never ts mid i none (Connection target source) rest h = none (target, source) rest (mark_step i h)
item_connection_never ts mid i none (Refined name parts) rest h = other_mark (λ e. cc) i h

item_refined_only : (ts mid : List Terminal) (p : Word × List PartWord) (left : List Terminal)
    → IsMark mark.Contract ts mid → Sole IsRefined mid p left
    → (other : RefinementItemTree) (rest : List Terminal) → IsRefinementItem ts other rest
    → (other ≡ Refined p.0 p.1) × (rest ≡ left)
item_refined_only ts mid p left i s (Sub name component) rest h = absurd (other_mark (λ e. cc) i h)
item_refined_only ts mid p left i s (Connection target source) rest h = absurd (other_mark (λ e. cc) i h)
item_refined_only ts mid p left i s (Refined name parts) rest h =
    let one = s.only (name, parts) rest (mark_step i h) in
    (ap (λ (x : Word × List PartWord). Refined x.0 x.1) one.0, one.1)

pub item_refined : (ts mid : List Terminal) (p : Word × List PartWord) (left : List Terminal)
    → IsMark mark.Contract ts mid → Sole IsRefined mid p left → Sole IsRefinementItem ts (Refined p.0 p.1) left
item_refined ts mid p left i s = record { holds = mark_made i s.holds; only = item_refined_only ts mid p left i s }

pub item_refined_never : (ts mid : List Terminal) → IsMark mark.Contract ts mid → Nothing IsRefined mid
    → Nothing IsRefinementItem ts
item_refined_never ts mid i none (Sub name component) rest h = other_mark (λ e. cc) i h
item_refined_never ts mid i none (Connection target source) rest h = other_mark (λ e. cc) i h
item_refined_never ts mid i none (Refined name parts) rest h = none (name, parts) rest (mark_step i h)

pub refinement_part_none : (ts : List Terminal) → NoMark mark.Sub ts → NoMark mark.Connection ts
    → NoMark mark.Contract ts → Nothing IsRefinementItem ts
refinement_part_none ts sub connection contract (Sub name component) rest h = no_mark sub h
refinement_part_none ts sub connection contract (Connection target source) rest h = no_mark connection h
refinement_part_none ts sub connection contract (Refined name parts) rest h = no_mark contract h

pub triple_same : {A B C : Type 0} (p : A × B × C) (a : A) (b : B) (c : C) → p.0 ≡ a → p.1 ≡ b → p.2 ≡ c → p ≡ (a, b, c)
triple_same {A} {B} {C} p a b c e f g =
    ap (λ (x : A). (x, p.1, p.2)) e ∙ (ap (λ (y : B). (a, y, p.2)) f ∙ ap (λ (z : C). (a, b, z)) g)
