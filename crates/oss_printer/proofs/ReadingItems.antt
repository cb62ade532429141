-- The terminals of the canonical text are those of the same items, components and specification.
use Rattle.std.proofs.Common.{◌≡◌, ℕ, ◌+◌, ◌≤◌, Bool, true, false, inl, List, [], ◌∷◌, ◌++◌, length, map, Option, Some, None, option_map, codes, decimal}
use Rattle.std.proofs.Common.{refl, sym, ap, subst, ◌∙◌}
use Rattle.std.specs.List.{flat_map}
use Rattle.std.proofs.lemmas.List.{append-nil}
use Rattle.oss_base.specs.Limits.{largest_numeral}
use Rattle.oss_base.specs.declared.place.Span.{Span}
use Rattle.oss_syntax.specs.Alphabet.{Terminal}
use Rattle.oss_syntax.specs.Alphabet as terminal
use Rattle.oss_syntax.specs.Terminals.{word_terminal, terminals_of}
use Rattle.oss_syntax.specs.Tokens.{Piece, tokens_from, AreTokens}
use Rattle.oss_syntax.specs.Spanless.{no_span, bare_word, bare_part, bare_bound, bare_type, bare_target, bare_item, bare_refinement_item, bare_component}
use Rattle.oss_syntax.specs.declared.token.Token.{Token}
use Rattle.oss_syntax.specs.declared.terminal.Mark.TheVariants as mark
use Rattle.oss_syntax.specs.declared.words.Word.{Word}
use Rattle.oss_syntax.specs.declared.words.PartWord.{PartWord}
use Rattle.oss_syntax.specs.declared.types.BoundTree.{BoundTree}
use Rattle.oss_syntax.specs.declared.types.TypeTree.{TypeTree}
use Rattle.oss_syntax.specs.declared.types.TypeTree.TheVariants as type
use Rattle.oss_syntax.specs.declared.refinement.TargetTree.{TargetTree}
use Rattle.oss_syntax.specs.declared.refinement.TargetTree.TheVariants as targets
use Rattle.oss_syntax.specs.declared.expression.BinaryWord.TheVariants as binary
use Rattle.oss_syntax.specs.declared.expression.Role.TheVariants as roles
use Rattle.oss_syntax.specs.Items.{IsBound, IsNextName, IsType, direction, IsItem, IsTarget, IsPart, IsNextPart, IsParts, IsRefinementItem}
use Rattle.oss_syntax.specs.Steps.{Many}
use Rattle.oss_syntax.specs.Texts.{IsSystem, IsRefinement, IsComponent, IsText}
use Rattle.oss_syntax.specs.Trees.{Item, Port, Contract, RefinementItemTree, Sub, Connection, Refined, Component}
use Rattle.oss_printer.specs.Canonical.{direction_text, canonical_text}
use Rattle.oss_printer.specs.Laws.{ReadsBack}
use Rattle.oss_printer.proofs.Chunks.{word, numeral, symbol, blank, after, terminals_from, terminals_read}
use Rattle.oss_printer.proofs.Cutting.{decimal_value}
use Rattle.oss_printer.proofs.CutForms.{canonical_cut}
use Rattle.oss_printer.proofs.Fits.{AreWritable, Each, FitsWord, FitsBound, FitsType, FitsItem, FitsTarget, FitsPart, FitsParts, FitsRefinementItem}
use Rattle.oss_printer.proofs.Fits.{FitsRefinement, FitsComponent, pieces_writable}
use Rattle.oss_printer.proofs.Fitting.{fits_text}
use Rattle.oss_printer.proofs.Forms.{expr_pieces, sign_pieces, bound_pieces, next_name_pieces, type_pieces, indent, closing, item_pieces, target_pieces}
use Rattle.oss_printer.proofs.Forms.{part_pieces, next_part_pieces, parts_pieces, refinement_item_pieces, system_pieces, refinement_pieces, body_pieces}
use Rattle.oss_printer.proofs.Forms.{component_pieces, next_component_pieces, canonical_pieces, canonical_joined}
use Rattle.oss_printer.proofs.ReadingBack.{Back, follow, named, word_then, mark_then, name_then, phrase_then, expr_back, closed_follow, many_back}

-- Types.

signed_back : (negative : Bool) (value : ℕ) (span : Span) → value ≤ largest_numeral → (at : ℕ)
    → Back IsBound bare_bound (sign_pieces negative ++ numeral (decimal value) ∷ [])
    (record { negative = negative; value = value; span = span }) at
signed_back true value span small at =
    let sign : Span = record { start = at; end = at + 1 } in
    let digits : Span = record { start = at + 1; end = at + 1 + length (decimal value) } in
    record {
      again = record { negative = true; value = value; span = sign };
      same = refl;
      holds = λ rest. (digits, ap (λ n. terminal.Binary binary.Minus sign ∷ terminal.Numeral n digits ∷ rest) (decimal_value value small));
    }
signed_back false value span small at =
    let digits : Span = record { start = at; end = at + length (decimal value) } in
    record {
      again = record { negative = false; value = value; span = digits };
      same = refl;
      holds = λ rest. ap (λ n. terminal.Numeral n digits ∷ rest) (decimal_value value small);
    }

bound_back : (bound : BoundTree) → FitsBound bound → (at : ℕ) → Back IsBound bare_bound (bound_pieces bound) bound at
bound_back bound fits at = signed_back bound.negative bound.value bound.span fits at

next_name_back : (name : Word) → FitsWord name → (at : ℕ) → Back IsNextName bare_word (next_name_pieces name) name at
next_name_back name fits at = record {
  again = named name (at + 1 + 1);
  same = refl;
  holds = λ rest. mark_then mark.Comma _ _ _ (name_then name (at + 1 + 1) _ _ fits refl);
}

type_back : (kind : TypeTree) → FitsType kind → (at : ℕ) → Back IsType bare_type (type_pieces kind) kind at
type_back type.Boolean fits at = record { again = type.Boolean; same = refl; holds = λ rest. mark_then mark.Boolean _ _ _ refl }
type_back type.Event fits at = record { again = type.Event; same = refl; holds = λ rest. mark_then mark.Event _ _ _ refl }
type_back (type.Range lo hi) fits at =
    let first = bound_back lo fits.0 at in
    let second = bound_back hi fits.1 (after at (bound_pieces lo) + 2) in
    record {
      again = type.Range first.again second.again;
      same = λ i. type.Range (first.same i) (second.same i);
      holds = λ rest.
          phrase_then IsBound first.again _ _ _ (follow IsBound first.again at (bound_pieces lo) (symbol (codes "..") ∷ bound_pieces hi) rest first.holds)
          (mark_then mark.Range _ _ _ (phrase_then IsBound second.again _ _ _ (second.holds rest) refl));
    }
type_back (type.Enum []) fits at = absurd fits
type_back (type.Enum (name ∷ names)) fits at =
    let more = many_back IsNextName bare_word next_name_pieces FitsWord next_name_back names fits.1 (at + 1 + length name.text) in
    record {
      again = type.Enum (named name (at + 1) ∷ more.again);
      same = λ i. type.Enum (bare_word name ∷ more.same i);
      holds = λ rest.
          mark_then mark.OpenBrace _ _ _ (record {
            left = rest;
            holds = name_then name (at + 1) _ _ fits.0
                (phrase_then (Many IsNextName) more.again _ _ _
                (follow (Many IsNextName) more.again (at + 1 + length name.text) (flat_map next_name_pieces names)
                (symbol (codes "}") ∷ []) rest more.holds)
                (mark_then mark.CloseBrace _ _ _ refl));
            next = refl;
          });
    }

-- Items.

direction_read : (input : Bool) (s : Span) → word_terminal (direction_text input) s ≡ terminal.Mark (direction input) s
direction_read true s = refl
direction_read false s = refl

item_back : (item : Item) → FitsItem item → (at : ℕ) → Back IsItem bare_item (item_pieces item) item at
item_back (Port input name kind) fits at =
    let in_line = at + 1 + 1 + 1 + 1 in
    let name_at = in_line + length (direction_text input) + 1 + 4 + 1 in
    let kind_at = name_at + length name.text + 1 + 1 in
    let typed = type_back kind fits.1 kind_at in
    record {
      again = Port input (named name name_at) typed.again;
      same = λ i. Port input (bare_word name) (typed.same i);
      holds = λ rest.
          word_then (direction input) (direction_text input) in_line _ _ (direction_read input)
          (mark_then mark.Port _ _ _ (name_then name name_at _ _ fits.0 (mark_then mark.Colon _ _ _
          (phrase_then IsType typed.again _ _ _ (follow IsType typed.again kind_at (type_pieces kind) closing rest typed.holds)
          (mark_then mark.Semicolon _ _ _ refl)))));
    }
item_back (Contract name assume guarantee) fits at =
    let name_at = at + 1 + 1 + 1 + 1 + 8 + 1 in
    let assume_at = name_at + length name.text + 1 + 1 + 1 + 1 + 1 + 1 + 1 + 6 + 1 + 1 in
    let guarantee_at = after assume_at (expr_pieces assume) + 1 + 1 + 1 + 1 + 1 + 1 + 1 + 1 + 9 + 1 + 1 in
    let first = expr_back roles.Formula assume fits.1.0 assume_at in
    let second = expr_back roles.Formula guarantee fits.2.0 guarantee_at in
    let tail : List Piece = blank 10 ∷ indent (blank 32 ∷ blank 32 ∷ word (codes "guarantee") ∷ symbol (codes ":") ∷ blank 32 ∷
    (expr_pieces guarantee ++ closing)) in
    record {
      again = Contract (named name name_at) first.again second.again;
      same = λ i. Contract (bare_word name) (first.same i) (second.same i);
      holds = λ rest.
          mark_then mark.Contract _ _ _ (name_then name name_at _ _ fits.0 (mark_then mark.Assume _ _ _ (mark_then mark.Colon _ _ _
          (phrase_then _ first.again _ _ _ (closed_follow roles.Formula assume fits.1 assume_at tail rest)
          (mark_then mark.Guarantee _ _ _ (mark_then mark.Colon _ _ _
          (phrase_then _ second.again _ _ _ (closed_follow roles.Formula guarantee fits.2 guarantee_at (blank 10 ∷ []) rest) refl)))))));
    }

abbrev again_target : TargetTree → ℕ → TargetTree
again_target (targets.Own name) at = targets.Own (named name at)
again_target (targets.OfSub sub port) at = targets.OfSub (named sub at) (named port (at + length sub.text + 1))

same_target : (target : TargetTree) (at : ℕ) → bare_target (again_target target at) ≡ bare_target target
same_target (targets.Own name) at = refl
same_target (targets.OfSub sub port) at = refl

target_follow : (target : TargetTree) → FitsTarget target → (at : ℕ) (tail : List Piece) (rest : List Terminal)
    → IsTarget (terminals_from at (target_pieces target ++ blank 32 ∷ symbol (codes ":=") ∷ blank 32 ∷ tail) ++ rest)
    (again_target target at)
    (terminals_from (after at (target_pieces target) + 1 + 2 + 1) tail ++ rest)
target_follow (targets.Own name) fits at tail rest = name_then name at _ _ fits (mark_then mark.Assign _ _ _ refl)
target_follow (targets.OfSub sub port) fits at tail rest =
    name_then sub at _ _ fits.0 (mark_then mark.Dot _ _ _ (name_then port (at + length sub.text + 1) _ _ fits.1 (mark_then mark.Assign _ _ _ refl)))

part_back : (part : PartWord) → FitsPart part → (at : ℕ) → Back IsPart bare_part (part_pieces part) part at
part_back part fits at = record {
  again = record { sub = named part.sub at; contract = named part.contract (at + length part.sub.text + 1) };
  same = refl;
  holds = λ rest.
      name_then part.sub at _ _ fits.0 (mark_then mark.Dot _ _ _ (name_then part.contract (at + length part.sub.text + 1) _ _ fits.1 refl));
}

next_part_back : (part : PartWord) → FitsPart part → (at : ℕ)
    → Back IsNextPart bare_part (next_part_pieces part) part at
next_part_back part fits at =
    let one = part_back part fits (at + 1 + 1) in
    record {
      again = one.again;
      same = one.same;
      holds = λ rest. mark_then mark.Comma _ _ _ (phrase_then IsPart one.again _ _ _ (one.holds rest) refl);
    }

-- parts and their semicolon, before further pieces
record PartsBack (parts : List PartWord) (at : ℕ) : Type 0 where
  again : List PartWord
  same : map bare_part again ≡ map bare_part parts
  holds : (tail : List Piece) (rest : List Terminal)
      → IsParts (terminals_from at (parts_pieces parts ++ symbol (codes ";") ∷ tail) ++ rest) again
      (terminals_from (after at (parts_pieces parts) + 1) tail ++ rest)

parts_back : (parts : List PartWord) → FitsParts parts → (at : ℕ) → PartsBack parts at
parts_back [] fits at = absurd fits
parts_back (part ∷ parts) fits at =
    let one = part_back part fits.0 at in
    let next_at = at + length part.sub.text + 1 + length part.contract.text in
    let more = many_back IsNextPart bare_part next_part_pieces FitsPart next_part_back parts fits.1 next_at in
    record {
      again = one.again ∷ more.again;
      same = λ i. one.same i ∷ more.same i;
      holds = λ tail rest.
          phrase_then IsPart one.again _ _ _ (one.holds (terminals_from next_at (flat_map next_part_pieces parts ++ symbol (codes ";") ∷ tail) ++ rest))
          (phrase_then (Many IsNextPart) more.again _ _ _
          (follow (Many IsNextPart) more.again next_at (flat_map next_part_pieces parts) (symbol (codes ";") ∷ tail) rest more.holds)
          (mark_then mark.Semicolon _ _ _ refl));
    }

refinement_item_back : (item : RefinementItemTree) → FitsRefinementItem item → (at : ℕ)
    → Back IsRefinementItem bare_refinement_item (refinement_item_pieces item) item at
refinement_item_back (Sub name component) fits at =
    let name_at = at + 1 + 1 + 1 + 1 + 3 + 1 in
    let component_at = name_at + length name.text + 1 + 1 in
    record {
      again = Sub (named name name_at) (named component component_at);
      same = refl;
      holds = λ rest.
          mark_then mark.Sub _ _ _ (name_then name name_at _ _ fits.0 (mark_then mark.Colon _ _ _
          (name_then component component_at _ _ fits.1 (mark_then mark.Semicolon _ _ _ refl))));
    }
refinement_item_back (Connection target source) fits at =
    let target_at = at + 1 + 1 + 1 + 1 + 10 + 1 in
    let source_at = after target_at (target_pieces target) + 1 + 2 + 1 in
    let from = expr_back roles.State source fits.1.0 source_at in
    record {
      again = Connection (again_target target target_at) from.again;
      same = λ i. Connection (same_target target target_at i) (from.same i);
      holds = λ rest.
          mark_then mark.Connection _ _ _
          (phrase_then IsTarget (again_target target target_at) _ _ _ (target_follow target fits.0 target_at (expr_pieces source ++ closing) rest)
          (phrase_then _ from.again _ _ _ (closed_follow roles.State source fits.1 source_at (blank 10 ∷ []) rest) refl));
    }
refinement_item_back (Refined name parts) fits at =
    let name_at = at + 1 + 1 + 1 + 1 + 8 + 1 in
    let parts_at = name_at + length name.text + 1 + 9 + 1 in
    let more = parts_back parts fits.1 parts_at in
    record {
      again = Refined (named name name_at) more.again;
      same = λ i. Refined (bare_word name) (more.same i);
      holds = λ rest.
          mark_then mark.Contract _ _ _ (name_then name name_at _ _ fits.0 (mark_then mark.RefinedBy _ _ _
          (phrase_then IsParts more.again _ _ _ (more.holds (blank 10 ∷ []) rest) refl)));
    }

-- Components.

abbrev again_system : Option Span → ℕ → Option Span
again_system (Some _) at = Some (record { start = at + 1; end = at + 1 + 6 })
again_system None at = None

same_system : (system : Option Span) (at : ℕ)
    → option_map (λ (_ : Span). no_span) (again_system system at) ≡ option_map (λ (_ : Span). no_span) system
same_system (Some _) at = refl
same_system None at = refl

system_follow : (system : Option Span) (at : ℕ) (ps : List Piece) (rest : List Terminal)
    → IsSystem (terminals_from at (system_pieces system ++ ps) ++ rest) (again_system system at)
    (terminals_from (after at (system_pieces system)) ps ++ rest)
system_follow (Some _) at ps rest = refl
system_follow None at ps rest = refl

refinement_back : (refinement : Option (List RefinementItemTree)) → FitsRefinement refinement → (at : ℕ)
    → Back IsRefinement (option_map (map bare_refinement_item)) (refinement_pieces refinement) refinement at
refinement_back (Some items) fits at =
    let more = many_back IsRefinementItem bare_refinement_item refinement_item_pieces FitsRefinementItem refinement_item_back items fits
    (at + 1 + 1 + 10 + 1) in
    record {
      again = Some more.again;
      same = ap Some more.same;
      holds = λ rest. mark_then mark.Refinement _ _ _ (phrase_then (Many IsRefinementItem) more.again _ _ _ (more.holds rest) refl);
    }
refinement_back None fits at = record { again = None; same = refl; holds = λ rest. refl }

component_back : (c : Component) → FitsComponent c → (at : ℕ)
    → Back IsComponent bare_component (component_pieces c) c at
component_back c fits at =
    let name_at = at + 9 + 1 in
    let system_at = name_at + length c.name.text in
    let items_at = after system_at (system_pieces c.system) + 1 + 1 + 1 + 9 + 1 in
    let items = many_back IsItem bare_item item_pieces FitsItem item_back c.interface fits.interface items_at in
    let refined = refinement_back c.refinement fits.refinement (after items_at (flat_map item_pieces c.interface)) in
    record {
      again = record { name = named c.name name_at; system = again_system c.system system_at; interface = items.again; refinement = refined.again };
      same = λ i. record { name = bare_word c.name; system = same_system c.system system_at i; interface = items.same i; refinement = refined.same i };
      holds = λ rest.
          mark_then mark.Component _ _ _ (name_then c.name name_at _ _ fits.name
          (phrase_then IsSystem (again_system c.system system_at) _ _ _ (system_follow c.system system_at (body_pieces c) rest)
          (mark_then mark.Interface _ _ _
          (phrase_then (Many IsItem) items.again _ _ _
          (follow (Many IsItem) items.again items_at (flat_map item_pieces c.interface) (refinement_pieces c.refinement) rest items.holds)
          (phrase_then IsRefinement refined.again _ _ _ (refined.holds rest) refl)))));
    }

next_component_back : (c : Component) → FitsComponent c → (at : ℕ)
    → Back IsComponent bare_component (next_component_pieces c) c at
next_component_back c fits at =
    let one = component_back c fits (at + 1) in
    record { again = one.again; same = one.same; holds = one.holds }

canonical_back : (components : List Component) → Each FitsComponent components → (at : ℕ)
    → Back (Many IsComponent) (map bare_component) (canonical_pieces components) components at
canonical_back [] fits at = record { again = []; same = refl; holds = λ rest. refl }
canonical_back (c ∷ components) fits at =
    let first = component_back c fits.0 at in
    let next_at = after at (component_pieces c) in
    let more = many_back IsComponent bare_component next_component_pieces FitsComponent next_component_back components fits.1 next_at in
    record {
      again = first.again ∷ more.again;
      same = λ i. first.same i ∷ more.same i;
      holds = λ rest. (
        terminals_from next_at (flat_map next_component_pieces components) ++ rest,
        follow IsComponent first.again at (component_pieces c) (flat_map next_component_pieces components) rest first.holds,
        more.holds rest,
      );
    }

-- The law.

tokens_writable : (bytes : List ℕ) (tokens : List Token) → AreTokens bytes tokens
    → AreWritable (terminals_of bytes tokens)
tokens_writable bytes tokens are =
    let e : terminals_of bytes tokens ≡ terminals_from 0 are.pieces =
    (λ i. terminals_of (are.whole i) (are.tokens_are i)) ∙ terminals_read are.pieces in
    subst AreWritable (sym e) (pieces_writable are.pieces [] 0 are.each)

canonical_terminals : (components : List Component)
    → terminals_of (canonical_text components) (tokens_from 0 (canonical_pieces components)) ≡ terminals_from 0
    (canonical_pieces components)
canonical_terminals components =
    ap (λ t. terminals_of t (tokens_from 0 (canonical_pieces components))) (sym (canonical_joined components))
    ∙ terminals_read (canonical_pieces components)

pub reads_back : (bytes : List ℕ) (tokens : List Token) (components : List Component) → AreTokens bytes tokens
    → IsText (terminals_of bytes tokens) components → ReadsBack components
reads_back bytes tokens components are text =
    let fits : Each FitsComponent components = fits_text components (terminals_of bytes tokens) text (tokens_writable bytes tokens are) in
    let ps = canonical_pieces components in
    let back = canonical_back components fits 0 in
    record {
      tokens = tokens_from 0 ps;
      again = back.again;
      cut = record { pieces = ps; whole = sym (canonical_joined components); each = canonical_cut components fits; tokens_are = refl };
      text = (
        terminals_from 0 ps,
        inl (canonical_terminals components),
        subst (λ (ts : List Terminal). Many IsComponent ts back.again []) (append-nil (terminals_from 0 ps)) (back.holds []),
      );
      same = back.same;
    }
