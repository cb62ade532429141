-- Texts as rows of pieces, and the terminals that their tokens are read as.
use Rattle.std.proofs.Common.{◌≡◌, ℕ, ◌+◌, ◌-◌, List, [], ◌∷◌, ◌++◌, length, map, take, drop, Option, Some, None, refl, sym, ap, subst, ◌∙◌, arith}
use Rattle.std.proofs.Common.{append_assoc}
use Rattle.std.specs.Prelude.{slice_range}
use Rattle.std.proofs.lemmas.List.{append-nil, length-append, take_at, drop_at, map-append}
use Rattle.std.proofs.lemmas.List.Concat.{flat_map-append}
use Rattle.oss_syntax.specs.Alphabet.{Terminal}
use Rattle.oss_syntax.specs.Terminals.{read_as, terminal_of, terminals_of}
use Rattle.oss_syntax.specs.Tokens.{Piece, IsPieceOf, joined_bytes, ArePieces, token_of, tokens_from}
use Rattle.oss_syntax.specs.declared.token.TokenKind.{TokenKind}
use Rattle.oss_syntax.specs.declared.token.TokenKind.TheVariants as kinds

-- pieces of each kind; a gap of several blanks is a piece for each
abbrev pub word : List ℕ → Piece
word text = record { kind = Some kinds.Word; text = text }

abbrev pub numeral : List ℕ → Piece
numeral text = record { kind = Some kinds.Numeral; text = text }

abbrev pub symbol : List ℕ → Piece
symbol text = record { kind = Some kinds.Symbol; text = text }

abbrev pub blank : ℕ → Piece
blank byte = record { kind = None; text = byte ∷ [] }

pub joined-append : (ps qs : List Piece) → joined_bytes (ps ++ qs) ≡ joined_bytes ps ++ joined_bytes qs
joined-append ps qs = flat_map-append _ ps qs

pub pieces_append : (ps qs : List Piece) (rest : List ℕ) → ArePieces ps (joined_bytes qs ++ rest) → ArePieces qs rest
    → ArePieces (ps ++ qs) rest
pieces_append [] qs rest front back = back
pieces_append (p ∷ ps) qs rest front back =
    let after : joined_bytes ps ++ (joined_bytes qs ++ rest) ≡ joined_bytes (ps ++ qs) ++ rest =
    sym (append_assoc (joined_bytes ps) (joined_bytes qs) rest) ∙ ap (λ t. t ++ rest) (sym (joined-append ps qs)) in
    let P : List ℕ → Type 0 = λ t. IsPieceOf p.kind p.text t in
    (subst P after front.0, front.1, pieces_append ps qs rest front.2 back)

-- what the token of a piece at this offset is read as, if it has one
abbrev pub read_piece : Option TokenKind → List ℕ → ℕ → List Terminal
read_piece None text at = []
read_piece (Some kind) text at = read_as kind text (record { start = at; end = at + length text }) ∷ []

-- what the tokens of pieces are read as, where the first piece begins at this offset
abbrev pub terminals_from : ℕ → List Piece → List Terminal
terminals_from at [] = []
terminals_from at (p ∷ ps) = read_piece p.kind p.text at ++ terminals_from (at + length p.text) ps

-- the offset after these pieces
abbrev pub after : ℕ → List Piece → ℕ
after at [] = at
after at (p ∷ ps) = after (at + length p.text) ps

pub terminals-append : (at : ℕ) (ps qs : List Piece)
    → terminals_from at (ps ++ qs) ≡ terminals_from at ps ++ terminals_from (after at ps) qs
terminals-append at [] qs = refl
terminals-append at (p ∷ ps) qs =
    ap (λ ts. read_piece p.kind p.text at ++ ts) (terminals-append (at + length p.text) ps qs)
    ∙ sym (append_assoc (read_piece p.kind p.text at) (terminals_from (at + length p.text) ps)
    (terminals_from (after (at + length p.text) ps) qs))

text_is : (bytes before text after : List ℕ) → bytes ≡ before ++ (text ++ after)
    → slice_range bytes (length before) (length before + length text) ≡ text
text_is bytes before text after e =
    let len : length before + length text - length before ≡ length text = omega arith in
    ap (λ n. take n (drop (length before) bytes)) len
    ∙ ap (take (length text)) (ap (drop (length before)) e ∙ drop_at before (text ++ after) (length before) refl)
    ∙ take_at text after (length text) refl

terminal_at : (bytes before text after : List ℕ) (kind : Option TokenKind) → bytes ≡ before ++ (text ++ after)
    → map (terminal_of bytes) (token_of (length before) kind (length text)) ≡ read_piece kind text (length before)
terminal_at bytes before text after None e = refl
terminal_at bytes before text after (Some kind) e =
    ap (λ t. read_as kind t (record { start = length before; end = length before + length text }) ∷ []) (text_is bytes before text after e)

terminals_later : (bytes before : List ℕ) (ps : List Piece) (rest : List ℕ)
    → bytes ≡ before ++ (joined_bytes ps ++ rest)
    → terminals_of bytes (tokens_from (length before) ps) ≡ terminals_from (length before) ps
terminals_later bytes before [] rest e = refl
terminals_later bytes before (p ∷ ps) rest e =
    let after = joined_bytes ps ++ rest in
    let whole : bytes ≡ before ++ (p.text ++ after) = e ∙ ap (λ t. before ++ t) (append_assoc p.text (joined_bytes ps) rest) in
    let P : ℕ → Type 0 = λ n. terminals_of bytes (tokens_from n ps) ≡ terminals_from n ps in
    let more : terminals_of bytes (tokens_from (length before + length p.text) ps) ≡ terminals_from (length before + length p.text) ps =
    subst P (length-append before p.text) (terminals_later bytes (before ++ p.text) ps rest
    (whole ∙ sym (append_assoc before p.text after))) in
    map-append (terminal_of bytes) (token_of (length before) p.kind (length p.text)) (tokens_from (length before + length p.text) ps)
    ∙ (λ i. terminal_at bytes before p.text after p.kind whole i ++ more i)

-- what the tokens of a whole text are read as
pub terminals_read : (ps : List Piece) → terminals_of (joined_bytes ps) (tokens_from 0 ps) ≡ terminals_from 0 ps
terminals_read ps = terminals_later (joined_bytes ps) [] ps [] (sym (append-nil (joined_bytes ps)))
