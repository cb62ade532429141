-- The terminals of the canonical text are those of the same tree, form by form.
use Rattle.std.proofs.Common.{◌≡◌, ℕ, ◌+◌, ◌≤◌, Bool, true, false, inl, inr, List, [], ◌∷◌, ◌++◌, length, map, max, codes, decimal, refl, sym, ap, subst}
use Rattle.std.proofs.Common.{◌∙◌, append_assoc}
use Rattle.std.specs.List.{flat_map}
use Rattle.oss_base.specs.Limits.{most_height}
use Rattle.oss_base.specs.declared.place.Span.{Span}
use Rattle.oss_syntax.specs.Alphabet.{Terminal}
use Rattle.oss_syntax.specs.Alphabet as terminal
use Rattle.oss_syntax.specs.Terminals.{word_terminal, read_as}
use Rattle.oss_syntax.specs.Tokens.{Piece}
use Rattle.oss_syntax.specs.Spanless.{no_span, bare_tree}
use Rattle.oss_syntax.specs.declared.terminal.Mark.{Mark}
use Rattle.oss_syntax.specs.declared.terminal.Mark.TheVariants as mark
use Rattle.oss_syntax.specs.declared.words.Word.{Word}
use Rattle.oss_syntax.specs.declared.expression.PortWord.{PortWord}
use Rattle.oss_syntax.specs.declared.expression.PortWord.TheVariants as port
use Rattle.oss_syntax.specs.declared.expression.PrefixWord.{PrefixWord}
use Rattle.oss_syntax.specs.declared.expression.PrefixWord.TheVariants as prefix
use Rattle.oss_syntax.specs.declared.expression.BinaryWord.{BinaryWord}
use Rattle.oss_syntax.specs.declared.expression.BinaryWord.TheVariants as binary
use Rattle.oss_syntax.specs.declared.expression.Role.{Role}
use Rattle.oss_syntax.specs.Expressions.{Tree, Name, Dotted, Numeral, Truth, Brackets, OfPort, Prefix, Binary, height, level, prefix_level, left_level}
use Rattle.oss_syntax.specs.Expressions.{right_level}
use Rattle.oss_syntax.specs.Formulas.{SpellsPrefix, Spells, Closed}
use Rattle.oss_syntax.specs.Steps.{Mark_then, Name_then, Phrase_then, Many}
use Rattle.oss_printer.specs.Canonical.{port_word_text, binary_text}
use Rattle.oss_printer.proofs.Chunks.{symbol, blank, after, terminals_from, terminals-append}
use Rattle.oss_printer.proofs.Cutting.{decimal_value}
use Rattle.oss_printer.proofs.Fits.{IsName, Each, FitsExpr, FitsClosed}
use Rattle.oss_printer.proofs.Forms.{prefix_pieces, binary_kind, operator, expr_pieces}

-- The terminals of these pieces, where the first begins at `at`, are those of a phrase that is the same but for its spans.
pub record Back {A : Type 0} (R : List Terminal → A → List Terminal → Type 0) (bare : A → A) (pieces : List Piece)
    (x : A)
    (at : ℕ) : Type 0 where
  pub again : A
  pub same : bare again ≡ bare x
  pub holds : (rest : List Terminal) → R (terminals_from at pieces ++ rest) again rest

-- before further pieces
pub follow : {A : Type 0}
    → (R : List Terminal → A → List Terminal → Type 0) (x : A) (at : ℕ) (ps tail : List Piece) (rest : List Terminal)
    → ((more : List Terminal) → R (terminals_from at ps ++ more) x more)
    → R (terminals_from at (ps ++ tail) ++ rest) x (terminals_from (after at ps) tail ++ rest)
follow R x at ps tail rest h =
    let left = terminals_from (after at ps) tail ++ rest in
    let e : terminals_from at (ps ++ tail) ++ rest ≡ terminals_from at ps ++ left =
    ap (λ ts. ts ++ rest) (terminals-append at ps tail) ∙ append_assoc (terminals_from at ps) (terminals_from (after at ps) tail) rest in
    subst (λ (ts : List Terminal). R ts x left) (sym e) (h left)

-- Words and symbols of the grammar, and names.

abbrev pub named : Word → ℕ → Word
named name at = record { text = name.text; span = record { start = at; end = at + length name.text } }

pub word_then : (m : Mark) (text : List ℕ) (at : ℕ) (Next : List Terminal → Type 0) (left : List Terminal)
    → ((s : Span) → word_terminal text s ≡ terminal.Mark m s) → Next left
    → Mark_then m Next (word_terminal text (record { start = at; end = at + length text }) ∷ left)
word_then m text at Next left e next = record {
  span = record { start = at; end = at + length text };
  left = left;
  begins = ap (λ t. t ∷ left) (e (record { start = at; end = at + length text }));
  next = next;
}

pub mark_then : (m : Mark) (span : Span) (Next : List Terminal → Type 0) (left : List Terminal) → Next left
    → Mark_then m Next (terminal.Mark m span ∷ left)
mark_then m span Next left next = record { span = span; left = left; begins = refl; next = next }

pub name_then : (name : Word) (at : ℕ) (Next : List Terminal → Type 0) (left : List Terminal) → IsName name.text
    → Next left
    → Name_then (named name at) Next (word_terminal name.text
    (record { start = at; end = at + length name.text }) ∷ left)
name_then name at Next left is next = record {
  left = left;
  begins = ap (λ t. t ∷ left) (is.free (record { start = at; end = at + length name.text }));
  next = next;
}

pub phrase_then : {A : Type 0}
    → (R : List Terminal → A → List Terminal → Type 0) (x : A) (Next : List Terminal → Type 0) (ts left : List Terminal)
    → R ts x left → Next left → Phrase_then R x Next ts
phrase_then R x Next ts left holds next = record { left = left; holds = holds; next = next }

-- Expressions.

level_bare : (t : Tree) → level (bare_tree t) ≡ level t
level_bare (Name _) = refl
level_bare (Dotted _ _) = refl
level_bare (Numeral _ _) = refl
level_bare (Truth _ _) = refl
level_bare (Brackets _ _) = refl
level_bare (OfPort _ _ _) = refl
level_bare (Prefix _ _ _) = refl
level_bare (Binary _ _ _ _) = refl

same_level : (a b : Tree) → bare_tree a ≡ bare_tree b → level a ≡ level b
same_level a b e = sym (level_bare a) ∙ ap level e ∙ level_bare b

height_bare : (t : Tree) → height (bare_tree t) ≡ height t
height_bare (Name _) = refl
height_bare (Dotted _ _) = refl
height_bare (Numeral _ _) = refl
height_bare (Truth _ _) = refl
height_bare (Brackets inside _) = ap (λ n. n + 1) (height_bare inside)
height_bare (OfPort _ _ _) = refl
height_bare (Prefix _ operand _) = ap (λ n. n + 1) (height_bare operand)
height_bare (Binary _ left right _) = λ i. max (height_bare left i) (height_bare right i) + 1

same_height : (a b : Tree) → bare_tree a ≡ bare_tree b → height a ≡ height b
same_height a b e = sym (height_bare a) ∙ ap height e ∙ height_bare b

port_read : (op : PortWord) (s : Span) → word_terminal (port_word_text op) s ≡ terminal.OfPort op s
port_read port.Next s = refl
port_read port.Change s = refl
port_read port.Rise s = refl
port_read port.Fall s = refl

operator_read : (op : BinaryWord) (s : Span) → read_as (binary_kind op) (binary_text op) s ≡ terminal.Binary op s
operator_read binary.Plus s = refl
operator_read binary.Minus s = refl
operator_read binary.Equal s = refl
operator_read binary.NotEqual s = refl
operator_read binary.Less s = refl
operator_read binary.AtMost s = refl
operator_read binary.Greater s = refl
operator_read binary.AtLeast s = refl
operator_read binary.Until s = refl
operator_read binary.Releases s = refl
operator_read binary.And s = refl
operator_read binary.Or s = refl
operator_read binary.Implies s = refl
operator_read binary.Iff s = refl

-- a word before an operand, with its span
abbrev PrefixBack : PrefixWord → ℕ → Type 0
PrefixBack op at = (span : Span) × ((more : List Terminal) → SpellsPrefix (terminals_from at (prefix_pieces op) ++ more) op span more)

prefix_back : (op : PrefixWord) (at : ℕ) → PrefixBack op at
prefix_back prefix.Minus at = (record { start = at; end = at + 1 }, λ more. inr refl)
prefix_back prefix.Not at = (record { start = at; end = at + 3 }, λ more. inl refl)
prefix_back prefix.Always at = (record { start = at; end = at + 6 }, λ more. inl refl)
prefix_back prefix.Never at = (record { start = at; end = at + 5 }, λ more. inl refl)
prefix_back prefix.Future at = (
  record { start = at; end = at + 2 },
  λ more. inr
      (record { start = at + 2 + 1; end = at + 2 + 1 + 3 }, record { start = at + 2 + 1 + 3 + 1; end = at + 2 + 1 + 3 + 1 + 6 }, refl),
)
prefix_back prefix.Then at = (record { start = at; end = at + 4 }, λ more. inl refl)

truth_back : (role : Role) (truth : Bool) (span : Span) (at : ℕ)
    → Back (Spells role) bare_tree (expr_pieces (Truth truth span)) (Truth truth span) at
truth_back role true span at = record { again = Truth true (record { start = at; end = at + 4 }); same = refl; holds = λ rest. refl }
truth_back role false span at = record { again = Truth false (record { start = at; end = at + 5 }); same = refl; holds = λ rest. refl }

pub expr_back : (role : Role) (t : Tree) → FitsExpr role t → (at : ℕ)
    → Back (Spells role) bare_tree (expr_pieces t) t at
expr_back role (Name name) fits at = record {
  again = Name (named name at);
  same = refl;
  holds = λ rest. ap (λ t. t ∷ rest) (fits.free (record { start = at; end = at + length name.text }));
}
expr_back role (Dotted sub port) fits at =
    let dot : Span = record { start = at + length sub.text; end = at + length sub.text + 1 } in
    let mid = at + length sub.text + 1 in
    record {
      again = Dotted (named sub at) (named port mid);
      same = refl;
      holds = λ rest. (
        fits.0,
        dot,
        λ i.
            fits.1.free (record { start = at; end = at + length sub.text }) i ∷ terminal.Mark mark.Dot dot
            ∷ fits.2.free (record { start = mid; end = mid + length port.text }) i ∷ rest,
      );
    }
expr_back role (Numeral value _) fits at =
    let span : Span = record { start = at; end = at + length (decimal value) } in
    record {
      again = Numeral value span;
      same = refl;
      holds = λ rest. ap (λ n. terminal.Numeral n span ∷ rest) (decimal_value value fits);
    }
expr_back role (Truth truth span) fits at = truth_back role truth span at
expr_back role (Brackets inside _) fits at =
    let opening : Span = record { start = at; end = at + 1 } in
    let inner = expr_back role inside fits (at + 1) in
    let end = after (at + 1) (expr_pieces inside) in
    let close : Span = record { start = end; end = end + 1 } in
    record {
      again = Brackets inner.again opening;
      same = ap (λ t. Brackets t no_span) inner.same;
      holds = λ rest. (
        close,
        terminals_from (at + 1) (expr_pieces inside ++ symbol (codes ")") ∷ []) ++ rest,
        refl,
        follow (Spells role) inner.again (at + 1) (expr_pieces inside) (symbol (codes ")") ∷ []) rest inner.holds,
      );
    }
expr_back role (OfPort op port _) fits at =
    let span : Span = record { start = at; end = at + length (port_word_text op) } in
    let mid = at + length (port_word_text op) in
    let name_at = mid + 1 in
    let end = name_at + length port.text in
    let opening : Span = record { start = mid; end = mid + 1 } in
    let close : Span = record { start = end; end = end + 1 } in
    record {
      again = OfPort op (named port name_at) span;
      same = refl;
      holds = λ rest. (
        fits.0,
        opening,
        close,
        λ i.
            port_read op span i ∷ terminal.Mark mark.Open opening
            ∷ fits.1.free (record { start = name_at; end = name_at + length port.text }) i ∷ terminal.Mark mark.Close close ∷ rest,
      );
    }
expr_back role (Prefix op operand _) fits at =
    let front = prefix_back op at in
    let mid = after at (prefix_pieces op) + 1 in
    let inner = expr_back role operand fits.2 mid in
    record {
      again = Prefix op inner.again front.0;
      same = ap (λ t. Prefix op t no_span) inner.same;
      holds = λ rest. (
        fits.0,
        subst (λ n. n ≤ prefix_level op) (sym (same_level inner.again operand inner.same)) fits.1,
        terminals_from mid (expr_pieces operand) ++ rest,
        follow (λ ts x left. SpellsPrefix ts op x left) front.0 at (prefix_pieces op) (blank 32 ∷ expr_pieces operand) rest front.1,
        inner.holds rest,
      );
    }
expr_back role (Binary op left right _) fits at =
    let first = expr_back role left fits.3 at in
    let op_at = after at (expr_pieces left) + 1 in
    let span : Span = record { start = op_at; end = op_at + length (binary_text op) } in
    let mid = op_at + length (binary_text op) + 1 in
    let second = expr_back role right fits.4 mid in
    record {
      again = Binary op first.again second.again span;
      same = λ i. Binary op (first.same i) (second.same i) no_span;
      holds = λ rest.
          let left_part : Spells role (terminals_from at (expr_pieces left ++ blank 32 ∷ operator op ∷ blank 32 ∷ expr_pieces right) ++ rest) first.again
          (read_as (binary_kind op) (binary_text op) span ∷ (terminals_from mid (expr_pieces right) ++ rest)) =
          follow (Spells role) first.again at (expr_pieces left) (blank 32 ∷ operator op ∷ blank 32 ∷ expr_pieces right) rest first.holds in (
            fits.0,
            subst (λ n. n ≤ left_level op) (sym (same_level first.again left first.same)) fits.1,
            subst (λ n. n ≤ right_level op) (sym (same_level second.again right second.same)) fits.2,
            terminals_from mid (expr_pieces right) ++ rest,
            subst (λ (t : Terminal). Spells role (terminals_from at
                (expr_pieces left ++ blank 32 ∷ operator op ∷ blank 32 ∷ expr_pieces right) ++ rest) first.again
                (t ∷ (terminals_from mid (expr_pieces right) ++ rest))) (operator_read op span) left_part,
            second.holds rest,
          );
    }

-- an expression and its semicolon, before further pieces
pub closed_follow : (role : Role) (t : Tree) (fits : FitsClosed role t) (at : ℕ) (tail : List Piece)
    (rest : List Terminal)
    → Closed role (terminals_from at (expr_pieces t ++ symbol (codes ";") ∷ tail) ++ rest)
    (expr_back role t fits.0 at).again
    (terminals_from (after at (expr_pieces t) + 1) tail ++ rest)
closed_follow role t fits at tail rest =
    let inner = expr_back role t fits.0 at in
    let end = after at (expr_pieces t) in (
      record { start = end; end = end + 1 },
      follow (Spells role) inner.again at (expr_pieces t) (symbol (codes ";") ∷ tail) rest inner.holds,
      subst (λ n. n ≤ most_height) (sym (same_height inner.again t inner.same)) fits.1,
    )

-- Lists.

pub many_back : {A : Type 0}
    → (R : List Terminal → A → List Terminal → Type 0) (bare : A → A) (pieces : A → List Piece) (F : A → Type 0)
    → ((x : A) → F x → (at : ℕ) → Back R bare (pieces x) x at) → (xs : List A) → Each F xs → (at : ℕ)
    → Back (Many R) (map bare) (flat_map pieces xs) xs at
many_back R bare pieces F one [] fits at = record { again = []; same = refl; holds = λ rest. refl }
many_back R bare pieces F one (x ∷ xs) fits at =
    let first = one x fits.0 at in
    let more = many_back R bare pieces F one xs fits.1 (after at (pieces x)) in
    record {
      again = first.again ∷ more.again;
      same = λ i. first.same i ∷ more.same i;
      holds = λ rest. (
        terminals_from (after at (pieces x)) (flat_map pieces xs) ++ rest,
        follow R first.again at (pieces x) (flat_map pieces xs) rest first.holds,
        more.holds rest,
      );
    }
