-- The tokens of a text stand in it, in order.
use Rattle.std.proofs.Common.{◌≡◌, ℕ, ◌+◌, ◌-◌, ◌<◌, ◌≤◌, List, [], ◌∷◌, ◌++◌, length, take, drop, Option, Some, None, refl, sym, ap, subst, ◌∙◌, arith}
use Rattle.std.proofs.Common.{append_assoc}
use Rattle.std.specs.Prelude.{All, slice_range}
use Rattle.std.proofs.lemmas.List.{append-nil, length-append, take_at, drop_at}
use Rattle.std.proofs.lemmas.List.Elements.{All-nil, All-cons}
use Rattle.oss_syntax.specs.Tokens.{Piece, IsPieceOf, IsWithinLimit, joined_bytes, ArePieces, token_of, tokens_from, IsTextOf, StandsIn, AreInOrder}
use Rattle.oss_syntax.specs.declared.token.Token.{Token}
use Rattle.oss_syntax.specs.declared.token.TokenKind.{TokenKind}
use Rattle.oss_syntax.specs.declared.token.TokenKind.TheVariants.{Word, Numeral, Symbol}
use Rattle.oss_lexer.specs.Laws.{TokensStand}
use Rattle.oss_lexer.proofs.Fronts.{piece_not_empty}

text_is : (bytes before text after : List ℕ) → bytes ≡ before ++ (text ++ after)
    → slice_range bytes (length before) (length before + length text) ≡ text
text_is bytes before text after e =
    let len : length before + length text - length before ≡ length text = omega arith in
    ap (λ n. take n (drop (length before) bytes)) len
    ∙ ap (take (length text)) (ap (drop (length before)) e ∙ drop_at before (text ++ after) (length before) refl)
    ∙ take_at text after (length text) refl

not_empty : (kind : Option TokenKind) (text after : List ℕ) → IsPieceOf kind text after → 0 < length text
not_empty kind [] after piece = absurd (piece_not_empty kind after piece)
not_empty kind (b ∷ text) after piece = omega arith

text_of_kind : (kind : TokenKind) (text after : List ℕ) → IsPieceOf (Some kind) text after
    → IsWithinLimit (Some kind) text → IsTextOf kind text
text_of_kind Word text after word limit = (word.begins, word.bytes)
text_of_kind Numeral text after numeral limit = (numeral.bytes, limit)
text_of_kind Symbol text after symbol limit = symbol.listed

one_stands : (bytes before text after : List ℕ) (kind : Option TokenKind) (more : List Token)
    → bytes ≡ before ++ (text ++ after) → IsPieceOf kind text after → IsWithinLimit kind text
    → All (StandsIn bytes) more → All (StandsIn bytes) (token_of (length before) kind (length text) ++ more)
one_stands bytes before text after None more e piece limit others = others
one_stands bytes before text after (Some kind) more e piece limit others =
    let own : Token = record { kind = kind; span = record { start = length before; end = length before + length text } } in
    let stands : StandsIn bytes own = record {
      some = omega (arith, not_empty (Some kind) text after piece);
      within = omega (arith, ap length e, length-append before (text ++ after), length-append text after);
      text = rw (text_is bytes before text after e) (text_of_kind kind text after piece limit);
    } in
    All-cons (StandsIn bytes) own more stands others

all_stand : (bytes before : List ℕ) (pieces : List Piece) (rest : List ℕ)
    → bytes ≡ before ++ (joined_bytes pieces ++ rest) → ArePieces pieces rest
    → All (StandsIn bytes) (tokens_from (length before) pieces)
all_stand bytes before [] rest e each = All-nil (StandsIn bytes)
all_stand bytes before (piece ∷ pieces) rest e each =
    let after = joined_bytes pieces ++ rest in
    let whole : bytes ≡ before ++ (piece.text ++ after) = e ∙ ap (λ t. before ++ t) (append_assoc piece.text (joined_bytes pieces) rest) in
    let P : ℕ → Type 0 = λ n. All (StandsIn bytes) (tokens_from n pieces) in
    let others : All (StandsIn bytes) (tokens_from (length before + length piece.text) pieces) =
    subst P (length-append before piece.text) (all_stand bytes (before ++ piece.text) pieces rest
    (whole ∙ sym (append_assoc before piece.text after)) each.2) in
    one_stands bytes before piece.text after piece.kind (tokens_from (length before + length piece.text) pieces) whole each.0 each.1 others

in_order_later : (from start : ℕ) (tokens : List Token) → from ≤ start → AreInOrder start tokens
    → AreInOrder from tokens
in_order_later from start [] h order = tt
in_order_later from start (token ∷ tokens) h order = (omega (arith, order.0), order.1)

one_in_order : (kind : Option TokenKind) (len start : ℕ) (more : List Token) → AreInOrder (start + len) more
    → AreInOrder start (token_of start kind len ++ more)
one_in_order None len start more next = in_order_later start (start + len) more (omega arith) next
one_in_order (Some kind) len start more next = (omega arith, next)

all_in_order : (start : ℕ) (pieces : List Piece) → AreInOrder start (tokens_from start pieces)
all_in_order start [] = tt
all_in_order start (piece ∷ pieces) =
    one_in_order piece.kind (length piece.text) start (tokens_from (start + length piece.text) pieces) (all_in_order (start + length piece.text) pieces)

pub tokens_stand : TokensStand
tokens_stand bytes tokens are =
    let P : List Token → Type 0 = λ ts. All (StandsIn bytes) ts × AreInOrder 0 ts in
    subst P (sym are.tokens_are) (
      all_stand bytes [] are.pieces []
          (are.whole ∙ sym (append-nil (joined_bytes are.pieces))) are.each,
      all_in_order 0 are.pieces,
    )
