-- Texts that are cut into pieces: one more piece, the end, and that there is one way.
use Rattle.std.proofs.Common.{◌≡◌, ℕ, ◌+◌, ◌≤◌, zero, suc, ◌⊎◌, inl, inr, List, [], ◌∷◌, ◌++◌, length, take, drop, Option, Some, refl, sym, ap, subst, ◌∙◌}
use Rattle.std.proofs.Common.{arith, append_assoc}
use Rattle.std.specs.Str.Parse.{digits_value}
use Rattle.std.proofs.lemmas.Bool.{cases_lt}
use Rattle.std.proofs.lemmas.List.{append-nil, append_cancel_left, length-append, length-drop, length-take-le, take-append-drop, take_at, drop-drop, drop_all}
use Rattle.std.proofs.lemmas.List.Concat.{flat_map-append}
use Rattle.oss_base.specs.Places.{place_after}
use Rattle.oss_base.specs.declared.fault.Fault.{Fault}
use Rattle.oss_base.specs.declared.fault.FaultKind.{FaultKind}
use Rattle.oss_base.specs.declared.place.Place.{Place}
use Rattle.oss_base.specs.Limits.{largest_numeral}
use Rattle.oss_syntax.specs.Tokens.{Piece, IsPieceOf, IsWithinLimit, joined_bytes, ArePieces, token_of, tokens_from, AreTokens, IsFaultAt, IsFirstFault}
use Rattle.oss_syntax.specs.declared.token.Token.{Token}
use Rattle.oss_syntax.specs.declared.token.TokenKind.{TokenKind}
use Rattle.oss_syntax.specs.declared.token.TokenKind.TheVariants.{Numeral}
use Rattle.oss_lexer.specs.declared.front.Front.{Front}
use Rattle.oss_lexer.specs.Fronts.{IsFrontWithinLimit}
use Rattle.oss_lexer.specs.Laws.{OneTokenList, OneFirstFault, TokensWithoutFault, TokensOrFault}
use Rattle.oss_lexer.proofs.Fronts.{one_piece, piece_not_empty, step}

joined_push : (pieces : List Piece) (piece : Piece)
    → joined_bytes (pieces ++ piece ∷ []) ≡ joined_bytes pieces ++ piece.text
joined_push pieces piece = flat_map-append _ pieces (piece ∷ []) ∙ ap (λ t. joined_bytes pieces ++ t) (append-nil piece.text)

pieces_push : (pieces : List Piece) (piece : Piece) (rest : List ℕ) → ArePieces pieces (piece.text ++ rest)
    → IsPieceOf piece.kind piece.text rest → IsWithinLimit piece.kind piece.text
    → ArePieces (pieces ++ piece ∷ []) rest
pieces_push [] piece rest each is limit = (is, limit, tt)
pieces_push (first ∷ pieces) piece rest each is limit =
    let follows : joined_bytes pieces ++ (piece.text ++ rest) ≡ joined_bytes (pieces ++ piece ∷ []) ++ rest =
    sym (append_assoc (joined_bytes pieces) piece.text rest) ∙ ap (λ t. t ++ rest) (sym (joined_push pieces piece)) in
    let P : List ℕ → Type 0 = λ t. IsPieceOf first.kind first.text t in
    (subst P follows each.0, each.1, pieces_push pieces piece rest each.2 is limit)

tokens_push : (start : ℕ) (pieces : List Piece) (piece : Piece)
    → tokens_from start (pieces ++ piece ∷ []) ≡ tokens_from start pieces ++ token_of
    (start + length (joined_bytes pieces)) piece.kind (length piece.text)
tokens_push start [] piece = append-nil _ ∙ ap (λ n. token_of n piece.kind (length piece.text)) (omega arith)
tokens_push start (first ∷ pieces) piece =
    let own = token_of start first.kind (length first.text) in
    let at : start + length first.text + length (joined_bytes pieces) ≡ start + length (joined_bytes (first ∷ pieces)) = omega
    (arith, length-append first.text (joined_bytes pieces)) in
    ap (λ ts. own ++ ts) (tokens_push (start + length first.text) pieces piece)
    ∙ sym (append_assoc own (tokens_from (start + length first.text) pieces) _)
    ∙ ap (λ n. (own ++ tokens_from (start + length first.text) pieces) ++ token_of n piece.kind (length piece.text)) at

-- the bytes before an offset are cut into pieces that have these tokens
pub record LexedTo (bytes : List ℕ) (at : ℕ) (tokens : List Token) : Type 0 where
  pub pieces : List Piece
  pub whole : bytes ≡ joined_bytes pieces ++ drop at bytes
  pub each : ArePieces pieces (drop at bytes)
  pub count : length (joined_bytes pieces) ≡ at
  pub tokens_are : tokens ≡ tokens_from 0 pieces

pub lexed_start : (bytes : List ℕ) → LexedTo bytes 0 []
lexed_start bytes = record { pieces = []; whole = refl; each = tt; count = refl; tokens_are = refl }

pub lexed_more : (bytes : List ℕ) (at : ℕ) (tokens more : List Token) (front : Front) → LexedTo bytes at tokens
    → IsFrontWithinLimit (drop at bytes) front
    → more ≡ tokens ++ token_of at front.kind front.len → LexedTo bytes (at + front.len) more
lexed_more bytes at tokens more front lexed stands e =
    let piece : Piece = record { kind = front.kind; text = take front.len (drop at bytes) } in
    let split : piece.text ++ drop front.len (drop at bytes) ≡ drop at bytes = take-append-drop front.len (drop at bytes) in
    let rest : drop front.len (drop at bytes) ≡ drop (at + front.len) bytes = drop-drop front.len at bytes in
    let len : length piece.text ≡ front.len = length-take-le front.len (drop at bytes) stands.is_front.within in
    let P : List ℕ → Type 0 = λ t. ArePieces lexed.pieces t in
    let Q : List ℕ → Type 0 = λ t. ArePieces (lexed.pieces ++ piece ∷ []) t in
    record {
      pieces = lexed.pieces ++ piece ∷ [];
      whole = lexed.whole ∙ ap (λ t. joined_bytes lexed.pieces ++ t) (sym split ∙ ap (λ t. piece.text ++ t) rest) ∙ sym
          (append_assoc (joined_bytes lexed.pieces) piece.text (drop (at + front.len) bytes))
          ∙ ap (λ t. t ++ drop (at + front.len) bytes) (sym (joined_push lexed.pieces piece));
      each = subst Q rest (pieces_push lexed.pieces piece _ (subst P (sym split) lexed.each) stands.is_front.piece stands.limit);
      count = ap length (joined_push lexed.pieces piece) ∙ length-append (joined_bytes lexed.pieces) piece.text ∙ (omega (arith, lexed.count, len));
      tokens_are = e ∙ ap (λ ts. ts ++ token_of at front.kind front.len) lexed.tokens_are
          ∙ ap (λ n. tokens_from 0 lexed.pieces ++ token_of n front.kind front.len) (omega (arith, lexed.count))
          ∙ ap (λ n. tokens_from 0 lexed.pieces ++ token_of (0 + length (joined_bytes lexed.pieces)) front.kind n) (sym len)
          ∙ sym (tokens_push 0 lexed.pieces piece);
    }

pub lexed_end : (bytes : List ℕ) (at : ℕ) (tokens : List Token) → LexedTo bytes at tokens → length bytes ≤ at
    → AreTokens bytes tokens
lexed_end bytes at tokens lexed h =
    let rest : drop at bytes ≡ [] = drop_all at bytes h in
    let P : List ℕ → Type 0 = λ t. ArePieces lexed.pieces t in
    record {
      pieces = lexed.pieces;
      whole = lexed.whole ∙ ap (λ t. joined_bytes lexed.pieces ++ t) rest ∙ append-nil (joined_bytes lexed.pieces);
      each = subst P rest lexed.each;
      tokens_are = lexed.tokens_are;
    }

pub lexed_fault : (bytes : List ℕ) (at : ℕ) (tokens : List Token) (kind : FaultKind) (place : Place)
    → LexedTo bytes at tokens → IsFaultAt kind (drop at bytes)
    → place ≡ place_after (take at bytes) → IsFirstFault bytes (record { kind = kind; place = place })
lexed_fault bytes at tokens kind place lexed stands e =
    record {
      pieces = lexed.pieces;
      rest = drop at bytes;
      whole = lexed.whole;
      each = lexed.each;
      stands = stands;
      place = e ∙ ap place_after (ap (take at) lexed.whole ∙ take_at (joined_bytes lexed.pieces) (drop at bytes) at lexed.count);
    }

-- There is one way to cut a text.

-- no piece within the limit begins here
abbrev pub Stuck : List ℕ → Type 0
Stuck rest = (kind : Option TokenKind) (text after : List ℕ) → rest ≡ text ++ after → IsPieceOf kind text after → IsWithinLimit kind text → ⊥

none_at_end : (kind : Option TokenKind) (text after : List ℕ) → [] ≡ text ++ after → IsPieceOf kind text after → ⊥
none_at_end kind [] after e piece = piece_not_empty kind after piece
none_at_end kind (b ∷ text) after e piece = let f : [] ≡ b ∷ (text ++ after) = e in cc

stuck_end : Stuck []
stuck_end kind text after e piece limit = none_at_end kind text after e piece

stuck_fault : (fault : FaultKind) (rest : List ℕ) → IsFaultAt fault rest → Stuck rest
stuck_fault fault rest (inl bad) kind text after e piece limit = bad.1.none_begins kind text after e piece
stuck_fault fault rest (inr large) kind text after e piece limit =
    let same = one_piece kind (Some Numeral) text large.1.text after large.1.after piece large.1.numeral (sym e ∙ large.1.whole) in
    let P : Option TokenKind → Type 0 = λ k. IsWithinLimit k text in
    let small : digits_value 10 text ≤ largest_numeral = subst P same.0 limit in
    absurd (omega (arith, small, large.1.large, ap (digits_value 10) same.1))

same_piece : (piece other : Piece) → piece.kind ≡ other.kind → piece.text ≡ other.text → piece ≡ other
same_piece piece other kind text = λ i. record { kind = kind i; text = text i }

same_cut : (pieces others : List Piece) (rest more : List ℕ) → ArePieces pieces rest → ArePieces others more
    → Stuck rest → Stuck more
    → joined_bytes pieces ++ rest ≡ joined_bytes others ++ more → (pieces ≡ others) × (rest ≡ more)
same_cut [] [] rest more each all stuck halts e = (refl, e)
same_cut [] (other ∷ others) rest more each all stuck halts e =
    absurd (stuck other.kind other.text (joined_bytes others ++ more) (e ∙ append_assoc other.text (joined_bytes others) more) all.0 all.1)
same_cut (piece ∷ pieces) [] rest more each all stuck halts e =
    absurd (halts piece.kind piece.text (joined_bytes pieces ++ rest) (sym e ∙ append_assoc piece.text (joined_bytes pieces) rest) each.0 each.1)
same_cut (piece ∷ pieces) (other ∷ others) rest more each all stuck halts e =
    let whole : piece.text ++ (joined_bytes pieces ++ rest) ≡ other.text ++ (joined_bytes others ++ more) =
    sym (append_assoc piece.text (joined_bytes pieces) rest) ∙ e ∙ append_assoc other.text (joined_bytes others) more in
    let same = one_piece piece.kind other.kind piece.text other.text (joined_bytes pieces ++ rest) (joined_bytes others ++ more) each.0 all.0 whole in
    let left : joined_bytes pieces ++ rest ≡ joined_bytes others ++ more =
    append_cancel_left piece.text (joined_bytes pieces ++ rest) (joined_bytes others ++ more)
    (whole ∙ ap (λ t. t ++ (joined_bytes others ++ more)) (sym same.1)) in
    let others_same = same_cut pieces others rest more each.2 all.2 stuck halts left in
    ((λ i. same_piece piece other same.0 same.1 i ∷ others_same.0 i), others_same.1)

pub one_token_list : OneTokenList
one_token_list bytes tokens others are all =
    let e : joined_bytes are.pieces ++ [] ≡ joined_bytes all.pieces ++ [] = append-nil _ ∙ sym are.whole ∙ all.whole ∙ sym (append-nil _) in
    let same = same_cut are.pieces all.pieces [] [] are.each all.each stuck_end stuck_end e in
    are.tokens_are ∙ ap (tokens_from 0) same.0 ∙ sym all.tokens_are

no_fault_at_end : (kind : FaultKind) (rest : List ℕ) → IsFaultAt kind rest → rest ≡ [] → ⊥
no_fault_at_end kind rest (inl bad) e = bad.1.some e
no_fault_at_end kind rest (inr large) e = none_at_end (Some Numeral) large.1.text large.1.after (sym e ∙ large.1.whole) large.1.numeral

pub tokens_without_fault : TokensWithoutFault
tokens_without_fault bytes tokens fault are first =
    let e : joined_bytes are.pieces ++ [] ≡ joined_bytes first.pieces ++ first.rest = append-nil _ ∙ sym are.whole ∙ first.whole in
    let same = same_cut are.pieces first.pieces [] first.rest are.each first.each stuck_end (stuck_fault fault.kind first.rest first.stands) e in
    no_fault_at_end fault.kind first.rest first.stands (sym same.1)

one_kind : (kind other : FaultKind) (rest : List ℕ) → IsFaultAt kind rest → IsFaultAt other rest → kind ≡ other
one_kind kind other rest (inl bad) (inl worse) = bad.0 ∙ sym worse.0
one_kind kind other rest (inl bad) (inr large) = absurd (bad.1.none_begins (Some Numeral) large.1.text large.1.after large.1.whole large.1.numeral)
one_kind kind other rest (inr large) (inl bad) = absurd (bad.1.none_begins (Some Numeral) large.1.text large.1.after large.1.whole large.1.numeral)
one_kind kind other rest (inr large) (inr larger) = large.0 ∙ sym larger.0

pub one_first_fault : OneFirstFault
one_first_fault bytes fault other is stands =
    let same = same_cut is.pieces stands.pieces is.rest stands.rest is.each stands.each (stuck_fault fault.kind is.rest is.stands)
    (stuck_fault other.kind stands.rest stands.stands)
    (sym is.whole ∙ stands.whole) in
    let P : List ℕ → Type 0 = IsFaultAt fault.kind in
    let kind : fault.kind ≡ other.kind = one_kind fault.kind other.kind stands.rest (subst P same.1 is.stands) stands.stands in
    let place : fault.place ≡ other.place = is.place ∙ ap (λ ps. place_after (joined_bytes ps)) same.0 ∙ sym stands.place in
    λ i. record { kind = kind i; place = place i }

abbrev Answered : List ℕ → Type 0
Answered bytes = ((tokens : List Token) × AreTokens bytes tokens) ⊎ ((fault : Fault) × IsFirstFault bytes fault)

answer_from : (turns : ℕ) (bytes : List ℕ) (at : ℕ) (tokens : List Token) → LexedTo bytes at tokens
    → length bytes ≤ at + turns → Answered bytes
answer_from zero bytes at tokens lexed h = inl (tokens, lexed_end bytes at tokens lexed (omega arith))
answer_from (suc turns) bytes at tokens lexed h = elim (cases_lt at (length bytes)) [
  | inr done ↦ inl (tokens, lexed_end bytes at tokens lexed done)
  | inl more ↦ elim (step (drop at bytes) (omega (arith, length-drop at bytes))) [
    | inl next ↦ answer_from turns bytes (at + next.0.len) _ (lexed_more bytes at tokens _ next.0 lexed next.1 refl) (omega (arith, next.1.is_front.some))
    | inr fault ↦ inr (_, lexed_fault bytes at tokens fault.0 (place_after (take at bytes)) lexed fault.1 refl)
  ]
]

pub tokens_or_fault : TokensOrFault
tokens_or_fault bytes = answer_from (length bytes) bytes 0 [] (lexed_start bytes) (omega arith)
