use Rattle.std.proofs.Common.{◌≡◌, List, [], ◌∷◌, Option, Some, None, refl, sym, ap, subst, inl, inr, ◌∙◌, codes}
use Rattle.oss_base.specs.declared.place.Span.{Span}
use Rattle.oss_syntax.specs.declared.words.Word.{Word}
use Rattle.oss_syntax.specs.declared.expression.BinaryWord.TheVariants as binary
use Rattle.oss_syntax.specs.declared.terminal.Mark.{Mark}
use Rattle.oss_syntax.specs.declared.terminal.Mark.TheVariants as mark
use Rattle.oss_syntax.specs.Alphabet.{Terminal}
use Rattle.oss_syntax.specs.Alphabet as terminal
use Rattle.oss_syntax.specs.Steps.{Mark_then, Phrase_then, RestIs, Many}
use Rattle.oss_syntax.specs.Items.{IsItem, IsRefinementItem}
use Rattle.oss_syntax.specs.Trees.{Item, RefinementItemTree, Component}
use Rattle.oss_syntax.specs.Texts.{IsSystem, IsRefinement, IsComponent, IsRequiresLine, IsText}
use Rattle.oss_reader.specs.Reads.{Sole, Nothing, SoleUntil, NothingUntil, IsMark, NoMark, NoName, IsNamed, NotNamed, NoMinus, IsMinus}
use Rattle.oss_reader.specs.Rules.{NoItem, NoRefinementItem, AtComponent, IsWhole, SystemRead, HeadRead, NoHead, AtEnd, SoleText}
use Rattle.oss_reader.proofs.Sequences.{mark_step, name_step, no_mark, no_name, mark_made, name_made, until_step, no_until, until_made, mark_apart}

-- where a component begins, or nothing is left, no other mark stands
pub at_no_mark : (ts : List Terminal) (m : Mark) → (m ≡ mark.Component → ⊥) → AtComponent ts → NoMark m ts
at_no_mark ts m apart at span left e =
    elim at [
      | inl none ↦ cc
      | inr here ↦ let f = here.2 in let same : m ≡ mark.Component = cc in apart same
    ]

pub at_no_item : (ts : List Terminal) → AtComponent ts → NoItem ts
at_no_item ts at = record {
  input = at_no_mark ts mark.Input (λ e. cc) at;
  output = at_no_mark ts mark.Output (λ e. cc) at;
  contract = at_no_mark ts mark.Contract (λ e. cc) at;
}

pub at_no_part : (ts : List Terminal) → AtComponent ts → NoRefinementItem ts
at_no_part ts at = record {
  sub = at_no_mark ts mark.Sub (λ e. cc) at;
  connection = at_no_mark ts mark.Connection (λ e. cc) at;
  contract = at_no_mark ts mark.Contract (λ e. cc) at;
}

-- the refinement

refinement_none_only : (ts : List Terminal) → NoMark mark.Refinement ts
    → (other : Option (List RefinementItemTree)) (left : List Terminal) → IsRefinement ts other left
    → (other ≡ None) × (left ≡ ts)
refinement_none_only ts none None left h = (refl, sym h)
refinement_none_only ts none (Some parts) left h = absurd (no_mark none h)

pub refinement_none : (ts : List Terminal) → NoMark mark.Refinement ts → AtComponent ts
    → SoleUntil IsRefinement AtComponent ts None ts
refinement_none ts none at = record { holds = refl; stops = at; only = λ other left h s. refinement_none_only ts none other left h }

pub refinement_none_never : (ts : List Terminal) → NoMark mark.Refinement ts → (AtComponent ts → ⊥)
    → NothingUntil IsRefinement AtComponent ts
refinement_none_never ts none away other left h s =
    let same = refinement_none_only ts none other left h in
    away (subst AtComponent same.1 s)

leaves_no_part : (rest : List Terminal) → AtComponent rest → (left : List Terminal) → RestIs rest left
    → NoRefinementItem left
leaves_no_part rest at left e = subst NoRefinementItem (sym e) (at_no_part rest at)

refinement_some_only : (ts mid : List Terminal) (parts : List RefinementItemTree) (left : List Terminal)
    → IsMark mark.Refinement ts mid
    → SoleUntil (Many IsRefinementItem) NoRefinementItem mid parts left
    → (other : Option (List RefinementItemTree)) (rest : List Terminal) → IsRefinement ts other rest
    → AtComponent rest → (other ≡ Some parts) × (rest ≡ left)
refinement_some_only ts mid parts left i s None rest h at =
    let none = at_no_mark ts mark.Refinement (λ e. cc) (subst AtComponent (sym h) at) in
    absurd (none i.span mid i.begins)
refinement_some_only ts mid parts left i s (Some others) rest h at =
    let one = until_step s (leaves_no_part rest at) (mark_step i h) in
    (ap (λ (x : List RefinementItemTree). Some x) one.0, sym one.1)

pub refinement_some : (ts mid : List Terminal) (parts : List RefinementItemTree) (left : List Terminal)
    → IsMark mark.Refinement ts mid
    → SoleUntil (Many IsRefinementItem) NoRefinementItem mid parts left → AtComponent left
    → SoleUntil IsRefinement AtComponent ts (Some parts) left
refinement_some ts mid parts left i s at = record {
  holds = mark_made i (until_made s refl);
  stops = at;
  only = refinement_some_only ts mid parts left i s;
}

pub refinement_broken : (ts mid : List Terminal) → IsMark mark.Refinement ts mid
    → NothingUntil (Many IsRefinementItem) NoRefinementItem mid → NothingUntil IsRefinement AtComponent ts
refinement_broken ts mid i none None rest h at =
    let unmarked = at_no_mark ts mark.Refinement (λ e. cc) (subst AtComponent (sym h) at) in
    unmarked i.span mid i.begins
refinement_broken ts mid i none (Some others) rest h at = no_until NoRefinementItem none (leaves_no_part rest at) (mark_step i h)

pub refinement_open : (ts mid : List Terminal) (parts : List RefinementItemTree) (left : List Terminal)
    → IsMark mark.Refinement ts mid
    → SoleUntil (Many IsRefinementItem) NoRefinementItem mid parts left → (AtComponent left → ⊥)
    → NothingUntil IsRefinement AtComponent ts
refinement_open ts mid parts left i s away other rest h at =
    let same = refinement_some_only ts mid parts left i s other rest h at in
    away (subst AtComponent same.1 at)

-- a refinement or a component ends the items of an interface
pub refinement_no_item : (rest : List Terminal) → AtComponent rest
    → (refinement : Option (List RefinementItemTree)) (ts : List Terminal) → IsRefinement ts refinement rest
    → NoItem ts
refinement_no_item rest at None ts h = subst NoItem (sym h) (at_no_item rest at)
refinement_no_item rest at (Some parts) ts h = record {
  input = mark_apart (λ e. cc) h;
  output = mark_apart (λ e. cc) h;
  contract = mark_apart (λ e. cc) h;
}

pub items_end : (rest : List Terminal) → AtComponent rest
    → (refinement : Option (List RefinementItemTree)) (left : List Terminal)
    → Phrase_then IsRefinement refinement (RestIs rest) left → NoItem left
items_end rest at refinement left h = refinement_no_item rest at refinement left
    (subst (λ (x : List Terminal). IsRefinement left refinement x) h.next h.holds)

-- the word `system`
pub system_end : {Next : List Terminal → Type 0} (left : List Terminal) → Mark_then mark.Interface Next left
    → NoMark mark.System left
system_end left h = mark_apart (λ e. cc) h

system_some_only : (ts left : List Terminal) (span : Span) → ts ≡ terminal.Mark mark.System span ∷ left
    → (other : Option Span) (rest : List Terminal) → IsSystem ts other rest → NoMark mark.System rest
    → (other ≡ Some span) × (rest ≡ left)
system_some_only ts left span e (Some s) rest h none = let same : s ≡ span = cc in (ap (λ (x : Span). Some x) same, cc)
system_some_only ts left span e None rest h none = absurd (none span left cc)

system_none_only : (ts : List Terminal) → NoMark mark.System ts → (other : Option Span) (rest : List Terminal)
    → IsSystem ts other rest → (other ≡ None) × (rest ≡ ts)
system_none_only ts none (Some s) rest h = absurd (none s rest h)
system_none_only ts none None rest h = (refl, sym h)

-- a component
component_same : (c : Component) (name : Word) (system : Option Span) (interface : List Item)
    (refinement : Option (List RefinementItemTree))
    → c.name ≡ name → c.system ≡ system → c.interface ≡ interface → c.refinement ≡ refinement
    → c ≡ record { name = name; system = system; interface = interface; refinement = refinement }
component_same c name system interface refinement e f g h =
    ap (λ (x : Word). record { name = x; system = c.system; interface = c.interface; refinement = c.refinement }) e
    ∙ (ap (λ (x : Option Span). record { name = name; system = x; interface = c.interface; refinement = c.refinement }) f
    ∙ (ap (λ (x : List Item). record { name = name; system = system; interface = x; refinement = c.refinement }) g
    ∙ ap (λ (x : Option (List RefinementItemTree)). record { name = name; system = system; interface = interface; refinement = x }) h))

pub system_step : {Next : List Terminal → Type 0} {ts left : List Terminal} {system other : Option Span}
    → SystemRead ts system left
    → Phrase_then IsSystem other (Mark_then mark.Interface Next) ts
    → (other ≡ system) × Mark_then mark.Interface Next left
system_step {Next} {ts} {left} {system} {other} s h =
    let same = s.only other h.left h.holds (system_end h.left h.next) in
    (same.0, subst (Mark_then mark.Interface Next) same.1 h.next)

pub system_read_some : (ts left : List Terminal) (span : Span) → ts ≡ terminal.Mark mark.System span ∷ left
    → SystemRead ts (Some span) left
system_read_some ts left span e = record { holds = e; only = system_some_only ts left span e }

pub system_read_none : (ts : List Terminal) → NoMark mark.System ts → SystemRead ts None ts
system_read_none ts none = record { holds = refl; only = λ other rest h s. system_none_only ts none other rest h }

pub component_whole : (ts a b c d e left : List Terminal) (name : Word) (system : Option Span) (interface : List Item)
    (refinement : Option (List RefinementItemTree))
    → IsMark mark.Component ts a → a ≡ terminal.Name name ∷ b → SystemRead b system c → IsMark mark.Interface c d
    → SoleUntil (Many IsItem) NoItem d interface e → SoleUntil IsRefinement AtComponent e refinement left
    → Sole IsWhole ts (record { name = name; system = system; interface = interface; refinement = refinement }) left
component_whole ts a b c d e left name system interface refinement i n s j items r = record {
  holds = (mark_made i (name_made n (record { left = c; holds = s.holds; next = mark_made j (until_made items (until_made r refl)) })), r.stops);
  only = λ other rest h.
      let one = name_step n (mark_step i h.0) in
      let two = system_step s one.1 in
      let three = until_step items (items_end rest h.1 other.refinement) (mark_step j two.1) in
      let four = until_step r (λ l x. subst AtComponent (sym x) h.1) three.1 in
      (component_same other name system interface refinement one.0 two.0 three.0 four.0, sym four.1);
}

pub component_unmarked : (ts : List Terminal) → NoMark mark.Component ts → Nothing IsWhole ts
component_unmarked ts none other rest h = no_mark none h.0

pub component_nameless : (ts a : List Terminal) → IsMark mark.Component ts a → NoName a → Nothing IsWhole ts
component_nameless ts a i none other rest h = no_name none (mark_step i h.0)

pub component_no_interface : (ts a b c : List Terminal) (name : Word) (system : Option Span)
    → IsMark mark.Component ts a → a ≡ terminal.Name name ∷ b → SystemRead b system c → NoMark mark.Interface c
    → Nothing IsWhole ts
component_no_interface ts a b c name system i n s none other rest h =
    no_mark none (system_step s (name_step n (mark_step i h.0)).1).1

pub component_items : (ts a b c d : List Terminal) (name : Word) (system : Option Span)
    → IsMark mark.Component ts a → a ≡ terminal.Name name ∷ b → SystemRead b system c → IsMark mark.Interface c d
    → NothingUntil (Many IsItem) NoItem d → Nothing IsWhole ts
component_items ts a b c d name system i n s j none other rest h =
    no_until NoItem none (items_end rest h.1 other.refinement) (mark_step j (system_step s (name_step n (mark_step i h.0)).1).1)

pub component_refinement : (ts a b c d e : List Terminal) (name : Word) (system : Option Span) (interface : List Item)
    → IsMark mark.Component ts a → a ≡ terminal.Name name ∷ b → SystemRead b system c → IsMark mark.Interface c d
    → SoleUntil (Many IsItem) NoItem d interface e → NothingUntil IsRefinement AtComponent e → Nothing IsWhole ts
component_refinement ts a b c d e name system interface i n s j items none other rest h =
    let three = until_step items (items_end rest h.1 other.refinement) (mark_step j (system_step s (name_step n (mark_step i h.0)).1).1) in
    no_until AtComponent none (λ l x. subst AtComponent (sym x) h.1) three.1

-- where nothing is left, no component begins
pub end_nothing : (ts : List Terminal) → AtEnd ts → Nothing IsWhole ts
end_nothing ts ended = component_unmarked ts (λ span left e. cc)

-- all components
pub many_at : (ts : List Terminal) (components : List Component) → Many IsComponent ts components [] → AtComponent ts
many_at ts [] h = inl h
many_at ts (c ∷ cs) h = inr (h.1.span, h.1.left, h.1.begins)

pub many_whole : (ts : List Terminal) (components : List Component) → Many IsComponent ts components []
    → Many IsWhole ts components []
many_whole ts [] h = h
many_whole ts (c ∷ cs) h = (h.0, (h.1, many_at h.0 cs h.2), many_whole h.0 cs h.2)

pub whole_many : (ts : List Terminal) (components : List Component) → Many IsWhole ts components []
    → Many IsComponent ts components []
whole_many ts [] h = h
whole_many ts (c ∷ cs) h = (h.0, h.1.0, whole_many h.0 cs h.2)

-- the line begins with a mark
pub head_none : (ts : List Terminal) → NoMark mark.At ts → HeadRead ts ts
head_none ts none = record {
  holds = inl refl;
  only = λ rest h at.
      elim h [
        | inl e ↦ sym e
        | inr line ↦ elim line [
          | inl bare ↦ absurd (none bare.0 _ bare.5)
          | inr closed ↦ absurd (none closed.1.0 _ closed.1.5)
        ]
      ];
}

-- the line, as far as it is read
pub record LineRead (ts left : List Terminal) : Type 0 where
  pub holds : IsRequiresLine ts left
  pub only : (rest : List Terminal) → IsRequiresLine ts rest → rest ≡ left

pub line_read : (ts a b c d left : List Terminal) (dash : Span)
    → IsMark mark.At ts a → IsNamed (codes "requires") a b → IsNamed (codes "discrete") b c → IsMinus dash c d
    → IsNamed (codes "time") d left → LineRead ts left
line_read ts a b c d left dash i r s m t =
    let e = i.begins in
    let f = r.1 in
    let g = s.1 in
    let k = t.1 in
    record {
      holds = (i.span, r.0, s.0, dash, t.0, cc);
      only = λ rest h. let l = h.5 in cc;
    }

at_not_at : (ts a : List Terminal) → IsMark mark.At ts a → AtComponent ts → ⊥
at_not_at ts a i at = at_no_mark ts mark.At (λ e. cc) at i.span a i.begins

pub head_closed : (ts mid left : List Terminal) → LineRead ts mid → IsMark mark.Semicolon mid left
    → (a : List Terminal) → IsMark mark.At ts a → HeadRead ts left
head_closed ts mid left l i a at = record {
  holds = inr (inr (i.span, subst (IsRequiresLine ts) i.begins l.holds));
  only = λ rest h here.
      let e = i.begins in
      elim h [
        | inl same ↦ absurd (at_not_at ts a at (subst AtComponent (sym same) here))
        | inr line ↦ elim line [
          | inl bare ↦ let same = l.only rest bare in absurd (at_no_mark mid mark.Semicolon (λ q. cc) (subst AtComponent same here) i.span left e)
          | inr closed ↦ let same = l.only (terminal.Mark mark.Semicolon closed.0 ∷ rest) closed.1 in cc
        ]
      ];
}

pub head_bare : (ts left : List Terminal) → LineRead ts left → NoMark mark.Semicolon left → (a : List Terminal)
    → IsMark mark.At ts a → HeadRead ts left
head_bare ts left l none a at = record {
  holds = inr (inl l.holds);
  only = λ rest h here.
      elim h [
        | inl same ↦ absurd (at_not_at ts a at (subst AtComponent (sym same) here))
        | inr line ↦ elim line [
          | inl bare ↦ l.only rest bare
          | inr closed ↦ let same = l.only (terminal.Mark mark.Semicolon closed.0 ∷ rest) closed.1 in absurd (none closed.0 rest (sym same))
        ]
      ];
}

-- there is no such line
pub head_never : (ts a : List Terminal) → IsMark mark.At ts a → ((rest : List Terminal) → IsRequiresLine ts rest → ⊥)
    → NoHead ts
head_never ts a at none rest h here =
    elim h [
      | inl same ↦ at_not_at ts a at (subst AtComponent (sym same) here)
      | inr line ↦ elim line [ inl bare ↦ none rest bare | inr closed ↦ none _ closed.1 ]
    ]

pub line_first : (ts a : List Terminal) → IsMark mark.At ts a → NotNamed (codes "requires") a → (rest : List Terminal)
    → IsRequiresLine ts rest → ⊥
line_first ts a i none rest h = let e = i.begins in let l = h.5 in none h.1
    (terminal.Name (record { text = codes "discrete"; span = h.2 }) ∷ terminal.Binary binary.Minus h.3 ∷ terminal.Name
    (record { text = codes "time"; span = h.4 }) ∷ rest) cc

pub line_second : (ts a b : List Terminal) → IsMark mark.At ts a → IsNamed (codes "requires") a b
    → NotNamed (codes "discrete") b → (rest : List Terminal) → IsRequiresLine ts rest → ⊥
line_second ts a b i r none rest h = let e = i.begins in let f = r.1 in let l = h.5 in none h.2
    (terminal.Binary binary.Minus h.3 ∷ terminal.Name (record { text = codes "time"; span = h.4 }) ∷ rest) cc

pub line_third : (ts a b c : List Terminal) → IsMark mark.At ts a → IsNamed (codes "requires") a b
    → IsNamed (codes "discrete") b c → NoMinus c → (rest : List Terminal) → IsRequiresLine ts rest → ⊥
line_third ts a b c i r s none rest h = let e = i.begins in let f = r.1 in let g = s.1 in let l = h.5 in none h.3
    (terminal.Name (record { text = codes "time"; span = h.4 }) ∷ rest) cc

pub line_fourth : (ts a b c d : List Terminal) (dash : Span) → IsMark mark.At ts a → IsNamed (codes "requires") a b
    → IsNamed (codes "discrete") b c → IsMinus dash c d → NotNamed (codes "time") d
    → (rest : List Terminal) → IsRequiresLine ts rest → ⊥
line_fourth ts a b c d dash i r s m none rest h = let e = i.begins in let f = r.1 in let g = s.1 in let l = h.5 in none h.4 rest cc

-- the whole text
pub text_sole : (ts left : List Terminal) (components : List Component) → HeadRead ts left
    → SoleUntil (Many IsWhole) AtEnd left components [] → SoleText ts components
text_sole ts left components h s = record {
  holds = (left, h.holds, whole_many left components s.holds);
  only = λ other t.
      let same = h.only t.0 t.1 (many_at t.0 other t.2) in
      let there = subst (λ (x : List Terminal). Many IsWhole x other []) same (many_whole t.0 other t.2) in
      (s.only other [] there refl).0;
}

pub text_headless : (ts : List Terminal) → NoHead ts → (components : List Component) → IsText ts components → ⊥
text_headless ts none components t = none t.0 t.1 (many_at t.0 components t.2)

pub text_never : (ts left : List Terminal) → HeadRead ts left → NothingUntil (Many IsWhole) AtEnd left
    → (components : List Component) → IsText ts components → ⊥
text_never ts left h none components t =
    let same = h.only t.0 t.1 (many_at t.0 components t.2) in
    none components [] (subst (λ (x : List Terminal). Many IsWhole x components []) same (many_whole t.0 components t.2)) refl
