-- What terminals that can be written are read as fits.
use Rattle.std.proofs.Common.{◌≡◌, ℕ, Bool, true, false, inl, inr, List, [], ◌∷◌, Option, Some, None, subst}
use Rattle.oss_base.specs.declared.place.Span.{Span}
use Rattle.oss_syntax.specs.Alphabet.{Terminal}
use Rattle.oss_syntax.specs.Alphabet as terminal
use Rattle.oss_syntax.specs.declared.words.Word.{Word}
use Rattle.oss_syntax.specs.declared.words.PartWord.{PartWord}
use Rattle.oss_syntax.specs.declared.types.BoundTree.{BoundTree}
use Rattle.oss_syntax.specs.declared.types.TypeTree.{TypeTree}
use Rattle.oss_syntax.specs.declared.types.TypeTree.TheVariants as type
use Rattle.oss_syntax.specs.declared.refinement.TargetTree.{TargetTree}
use Rattle.oss_syntax.specs.declared.refinement.TargetTree.TheVariants as targets
use Rattle.oss_syntax.specs.declared.expression.PrefixWord.{PrefixWord}
use Rattle.oss_syntax.specs.declared.expression.PrefixWord.TheVariants as prefix
use Rattle.oss_syntax.specs.declared.expression.Role.{Role}
use Rattle.oss_syntax.specs.Expressions.{Tree, Name, Dotted, Numeral, Truth, Brackets, OfPort, Prefix, Binary}
use Rattle.oss_syntax.specs.Formulas.{SpellsPrefix, Spells, Closed}
use Rattle.oss_syntax.specs.Items.{IsBound, IsNextName, IsEnumerators, IsType, IsItem, IsTarget, IsPart, IsNextPart, IsParts, IsRefinementItem}
use Rattle.oss_syntax.specs.Steps.{Many}
use Rattle.oss_syntax.specs.Texts.{IsSystem, IsRefinement, IsComponent, IsRequiresLine, IsHead, IsText}
use Rattle.oss_syntax.specs.Trees.{Item, Port, Contract, RefinementItemTree, Sub, Connection, Refined, Component}
use Rattle.oss_printer.proofs.Fits.{AreWritable, Each, FitsWord, FitsExpr, FitsClosed, FitsBound, FitsNames, FitsType, FitsItem, FitsTarget, FitsPart}
use Rattle.oss_printer.proofs.Fits.{FitsParts, FitsRefinementItem, FitsRefinement, FitsComponent}

along : (ts us : List Terminal) → ts ≡ us → AreWritable ts → AreWritable us
along ts us e w = subst AreWritable e w

prefix_left : (op : PrefixWord) (ts : List Terminal) (span : Span) (rest : List Terminal)
    → SpellsPrefix ts op span rest → AreWritable ts → AreWritable rest
prefix_left op ts span rest (inl e) w = (along ts (terminal.Prefix op span ∷ rest) e w).1
prefix_left prefix.Minus ts span rest (inr e) w = (along ts _ e w).1
prefix_left prefix.Not ts span rest (inr e) w = absurd e
prefix_left prefix.Always ts span rest (inr e) w = absurd e
prefix_left prefix.Never ts span rest (inr e) w = absurd e
prefix_left prefix.Future ts span rest (inr e) w = (along ts _ e.2 w).1.1.1
prefix_left prefix.Then ts span rest (inr e) w = absurd e

fits_expr : (role : Role) (t : Tree) (ts rest : List Terminal) → Spells role ts t rest → AreWritable ts
    → FitsExpr role t × AreWritable rest
fits_expr role (Name name) ts rest e w = let v = along ts (terminal.Name name ∷ rest) e w in (v.0, v.1)
fits_expr role (Dotted sub port) ts rest e w =
    let v = along ts (terminal.Name sub ∷ _) e.2 w in ((e.0, v.0, v.1.1.0), v.1.1.1)
fits_expr role (Numeral value span) ts rest e w = let v = along ts (terminal.Numeral value span ∷ rest) e w in (v.0, v.1)
fits_expr role (Truth truth span) ts rest e w = let v = along ts (terminal.Truth truth span ∷ rest) e w in (tt, v.1)
fits_expr role (Brackets inside span) ts rest e w =
    let v = along ts (_ ∷ e.1) e.2 w in
    let inner = fits_expr role inside e.1 (_ ∷ rest) e.3 v.1 in
    (inner.0, inner.1.1)
fits_expr role (OfPort op port span) ts rest e w =
    let v = along ts (terminal.OfPort op span ∷ _) e.3 w in ((e.0, v.1.1.0), v.1.1.1.1)
fits_expr role (Prefix op operand span) ts rest e w =
    let inner = fits_expr role operand e.2 rest e.4 (prefix_left op ts span e.2 e.3 w) in
    ((e.0, e.1, inner.0), inner.1)
fits_expr role (Binary op left right span) ts rest e w =
    let first = fits_expr role left ts (terminal.Binary op span ∷ e.3) e.4 w in
    let second = fits_expr role right e.3 rest e.5 first.1.1 in
    ((e.0, e.1, e.2, first.0, second.0), second.1)

fits_closed : (role : Role) (t : Tree) (ts rest : List Terminal) → Closed role ts t rest → AreWritable ts
    → FitsClosed role t × AreWritable rest
fits_closed role t ts rest e w =
    let inner = fits_expr role t ts (_ ∷ rest) e.1 w in
    ((inner.0, e.2), inner.1.1)

fits_many : {A : Type 0} → (R : List Terminal → A → List Terminal → Type 0) (F : A → Type 0)
    → ((x : A) (ts rest : List Terminal) → R ts x rest → AreWritable ts → F x × AreWritable rest)
    → (xs : List A) (ts rest : List Terminal) → Many R ts xs rest → AreWritable ts → Each F xs × AreWritable rest
fits_many R F one [] ts rest e w = (tt, along ts rest e w)
fits_many R F one (x ∷ xs) ts rest e w =
    let first = one x ts e.0 e.1 w in
    let more = fits_many R F one xs e.0 rest e.2 first.1 in
    ((first.0, more.0), more.1)

signed_bound : (negative : Bool) (value : ℕ) (span : Span) (ts rest : List Terminal)
    → IsBound ts (record { negative = negative; value = value; span = span }) rest → AreWritable ts
    → FitsBound (record { negative = negative; value = value; span = span }) × AreWritable rest
signed_bound true value span ts rest e w = let v = along ts _ e.1 w in (v.1.0, v.1.1)
signed_bound false value span ts rest e w = let v = along ts _ e w in (v.0, v.1)

fits_bound : (bound : BoundTree) (ts rest : List Terminal) → IsBound ts bound rest → AreWritable ts
    → FitsBound bound × AreWritable rest
fits_bound bound ts rest e w = signed_bound bound.negative bound.value bound.span ts rest e w

fits_next_name : (name : Word) (ts rest : List Terminal) → IsNextName ts name rest → AreWritable ts
    → FitsWord name × AreWritable rest
fits_next_name name ts rest e w =
    let a = along ts _ e.begins w in
    let b = along e.left _ e.next.begins a.1 in
    (b.0, along e.next.left rest e.next.next b.1)

fits_names : (names : List Word) (ts rest : List Terminal) → IsEnumerators ts names rest → AreWritable ts
    → FitsNames names × AreWritable rest
fits_names [] ts rest e w = absurd e
fits_names (name ∷ names) ts rest e w =
    let a = along ts _ e.begins w in
    let more = fits_many IsNextName FitsWord fits_next_name names e.left e.next.left e.next.holds a.1 in
    let b = along e.next.left _ e.next.next.begins more.1 in
    ((a.0, more.0), along e.next.next.left rest e.next.next.next b.1)

fits_type : (kind : TypeTree) (ts rest : List Terminal) → IsType ts kind rest → AreWritable ts
    → FitsType kind × AreWritable rest
fits_type type.Boolean ts rest e w = let a = along ts _ e.begins w in (tt, along e.left rest e.next a.1)
fits_type type.Event ts rest e w = let a = along ts _ e.begins w in (tt, along e.left rest e.next a.1)
fits_type (type.Range lo hi) ts rest e w =
    let first = fits_bound lo ts e.left e.holds w in
    let a = along e.left _ e.next.begins first.1 in
    let second = fits_bound hi e.next.left e.next.next.left e.next.next.holds a.1 in
    ((first.0, second.0), along e.next.next.left rest e.next.next.next second.1)
fits_type (type.Enum names) ts rest e w =
    let a = along ts _ e.begins w in
    let more = fits_names names e.left e.next.left e.next.holds a.1 in
    (more.0, along e.next.left rest e.next.next more.1)

fits_item : (item : Item) (ts rest : List Terminal) → IsItem ts item rest → AreWritable ts
    → FitsItem item × AreWritable rest
fits_item (Port input name kind) ts rest e w =
    let a = along ts _ e.begins w in
    let b = along e.left _ e.next.begins a.1 in
    let c = along e.next.left _ e.next.next.begins b.1 in
    let d = along e.next.next.left _ e.next.next.next.begins c.1 in
    let k = e.next.next.next.next in
    let typed = fits_type kind e.next.next.next.left k.left k.holds d.1 in
    let f = along k.left _ k.next.begins typed.1 in
    ((c.0, typed.0), along k.next.left rest k.next.next f.1)
fits_item (Contract name assume guarantee) ts rest e w =
    let a = along ts _ e.begins w in
    let b = along e.left _ e.next.begins a.1 in
    let c = along e.next.left _ e.next.next.begins b.1 in
    let d = along e.next.next.left _ e.next.next.next.begins c.1 in
    let k = e.next.next.next.next in
    let first = fits_closed _ assume e.next.next.next.left k.left k.holds d.1 in
    let f = along k.left _ k.next.begins first.1 in
    let g = along k.next.left _ k.next.next.begins f.1 in
    let m = k.next.next.next in
    let second = fits_closed _ guarantee k.next.next.left m.left m.holds g.1 in
    ((b.0, first.0, second.0), along m.left rest m.next second.1)

fits_target : (target : TargetTree) (ts rest : List Terminal) → IsTarget ts target rest → AreWritable ts
    → FitsTarget target × AreWritable rest
fits_target (targets.Own name) ts rest e w =
    let a = along ts _ e.begins w in
    let b = along e.left _ e.next.begins a.1 in
    (a.0, along e.next.left rest e.next.next b.1)
fits_target (targets.OfSub sub port) ts rest e w =
    let a = along ts _ e.begins w in
    let b = along e.left _ e.next.begins a.1 in
    let c = along e.next.left _ e.next.next.begins b.1 in
    let d = along e.next.next.left _ e.next.next.next.begins c.1 in
    ((a.0, c.0), along e.next.next.next.left rest e.next.next.next.next d.1)

fits_part : (part : PartWord) (ts rest : List Terminal) → IsPart ts part rest → AreWritable ts
    → FitsPart part × AreWritable rest
fits_part part ts rest e w =
    let a = along ts _ e.begins w in
    let b = along e.left _ e.next.begins a.1 in
    let c = along e.next.left _ e.next.next.begins b.1 in
    ((a.0, c.0), along e.next.next.left rest e.next.next.next c.1)

fits_next_part : (part : PartWord) (ts rest : List Terminal) → IsNextPart ts part rest → AreWritable ts
    → FitsPart part × AreWritable rest
fits_next_part part ts rest e w =
    let a = along ts _ e.begins w in
    let one = fits_part part e.left e.next.left e.next.holds a.1 in
    (one.0, along e.next.left rest e.next.next one.1)

fits_parts : (parts : List PartWord) (ts rest : List Terminal) → IsParts ts parts rest → AreWritable ts
    → FitsParts parts × AreWritable rest
fits_parts [] ts rest e w = absurd e
fits_parts (part ∷ parts) ts rest e w =
    let first = fits_part part ts e.left e.holds w in
    let more = fits_many IsNextPart FitsPart fits_next_part parts e.left e.next.left e.next.holds first.1 in
    let b = along e.next.left _ e.next.next.begins more.1 in
    ((first.0, more.0), along e.next.next.left rest e.next.next.next b.1)

fits_refinement_item : (item : RefinementItemTree) (ts rest : List Terminal) → IsRefinementItem ts item rest
    → AreWritable ts
    → FitsRefinementItem item × AreWritable rest
fits_refinement_item (Sub name component) ts rest e w =
    let a = along ts _ e.begins w in
    let b = along e.left _ e.next.begins a.1 in
    let c = along e.next.left _ e.next.next.begins b.1 in
    let d = along e.next.next.left _ e.next.next.next.begins c.1 in
    let k = e.next.next.next.next in
    let f = along e.next.next.next.left _ k.begins d.1 in
    ((b.0, d.0), along k.left rest k.next f.1)
fits_refinement_item (Connection target source) ts rest e w =
    let a = along ts _ e.begins w in
    let aimed = fits_target target e.left e.next.left e.next.holds a.1 in
    let k = e.next.next in
    let from = fits_closed _ source e.next.left k.left k.holds aimed.1 in
    ((aimed.0, from.0), along k.left rest k.next from.1)
fits_refinement_item (Refined name parts) ts rest e w =
    let a = along ts _ e.begins w in
    let b = along e.left _ e.next.begins a.1 in
    let c = along e.next.left _ e.next.next.begins b.1 in
    let k = e.next.next.next in
    let more = fits_parts parts e.next.next.left k.left k.holds c.1 in
    ((b.0, more.0), along k.left rest k.next more.1)

system_left : (system : Option Span) (ts rest : List Terminal) → IsSystem ts system rest → AreWritable ts
    → AreWritable rest
system_left (Some span) ts rest e w = (along ts _ e w).1
system_left None ts rest e w = along ts rest e w

fits_refinement : (refinement : Option (List RefinementItemTree)) (ts rest : List Terminal)
    → IsRefinement ts refinement rest → AreWritable ts
    → FitsRefinement refinement × AreWritable rest
fits_refinement (Some items) ts rest e w =
    let a = along ts _ e.begins w in
    let more = fits_many IsRefinementItem FitsRefinementItem fits_refinement_item items e.left e.next.left e.next.holds a.1 in
    (more.0, along e.next.left rest e.next.next more.1)
fits_refinement None ts rest e w = (tt, along ts rest e w)

fits_component : (c : Component) (ts rest : List Terminal) → IsComponent ts c rest → AreWritable ts
    → FitsComponent c × AreWritable rest
fits_component c ts rest e w =
    let a = along ts _ e.begins w in
    let b = along e.left _ e.next.begins a.1 in
    let s = e.next.next in
    let d = system_left c.system e.next.left s.left s.holds b.1 in
    let f = along s.left _ s.next.begins d in
    let i = s.next.next in
    let items = fits_many IsItem FitsItem fits_item c.interface s.next.left i.left i.holds f.1 in
    let r = i.next in
    let refined = fits_refinement c.refinement i.left r.left r.holds items.1 in
    (record { name = b.0; interface = items.0; refinement = refined.0 }, along r.left rest r.next refined.1)

line_left : (ts rest : List Terminal) → IsRequiresLine ts rest → AreWritable ts → AreWritable rest
line_left ts rest e w = (along ts _ e.5 w).1.1.1.1.1

head_left : (ts left : List Terminal) → IsHead ts left → AreWritable ts → AreWritable left
head_left ts left (inl e) w = along ts left e w
head_left ts left (inr (inl e)) w = line_left ts left e w
head_left ts left (inr (inr e)) w = (line_left ts _ e.1 w).1

-- what is read as a whole text fits
pub fits_text : (components : List Component) (ts : List Terminal) → IsText ts components → AreWritable ts
    → Each FitsComponent components
fits_text components ts e w =
    (fits_many IsComponent FitsComponent fits_component components e.0 [] e.2 (head_left ts e.0 e.1 w)).0
