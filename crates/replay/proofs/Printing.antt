-- A printed lasso is read as itself.
use Rattle.std.proofs.Common.{◌≡◌, ◌≢◌, ℕ, suc, ◌+◌, ◌<◌, ◌≤◌, ◌^◌, Bool, true, false, cond, nat_eq, List, [], ◌∷◌, ◌++◌, length, map}
use Rattle.std.proofs.Common.{All, AllPairs, refl, sym, ap, subst, ◌∙◌, arith, codes, decimal, ℤ, pos, negsuc, ◌≤ℤ◌}
use Rattle.std.specs.List.{flat_map, zip, AllZip, starts_with}
use Rattle.std.specs.Str.Lines.{lines}
use Rattle.std.proofs.Math.Dec.{eqb-suc-zero}
use Rattle.std.proofs.lemmas.Fmt.{decimal_nonempty}
use Rattle.std.proofs.lemmas.Int.{ints}
use Rattle.std.proofs.lemmas.List.{append_assoc, append-nil, length-map}
use Rattle.port_types.specs.declared.types.PortType.{PortType}
use Rattle.port_types.specs.declared.types.PortType.TheVariants as kind
use Rattle.port_types.specs.declared.types.Value.{Value}
use Rattle.port_types.specs.declared.types.Value.TheVariants as value
use Rattle.port_types.specs.Types.{IsOfType, IsSignedNumeral}
use Rattle.typed_ltl.specs.declared.lasso.Lasso.{Lasso}
use Rattle.spec_model.specs.Architecture.{free_targets}
use Rattle.replay.specs.FreePortNames.{free_names, port_text}
use Rattle.spec_model.specs.FreeTypes.{free_types, type_of_target}
use Rattle.replay.specs.LassoBlocks.{value_text, assignment_text, port_value_text, state_line, lasso_block}
use Rattle.replay.specs.TextLines.{words_of_line, line_counts, counting_lines}
use Rattle.replay.specs.LassoFiles.{IsStateLine, AreStateLines, IsHeaderLine, IsBlock}
use Rattle.replay.specs.Laws.{IsFileName, HasFileValues, BlocksReadBack}
use Rattle.replay.proofs.Spelling.{Each, IsPlain, IsInWord, IsInLine, each_append, each_weaker, each_from_all}
use Rattle.replay.proofs.Spelling.{plain_name, plain_digit, plain_letter, plain_decimal}
use Rattle.replay.proofs.Spelling.{words-word, words-last, lines-line, in_line}
use Rattle.replay.proofs.Assigning.{assignments_of, words_assign}

-- values are plain texts

small_numeral : (lo hi z : ℤ) → IsSignedNumeral lo → IsSignedNumeral hi → lo ≤ℤ z → z ≤ℤ hi → IsSignedNumeral z
small_numeral lo hi z l h a b = let l0 = l.0 in let h1 = h.1 in (omega (arith, ints), omega (arith, ints))

plain_number : (z : ℤ) → IsSignedNumeral z → Each IsPlain (value_text (value.Int z))
plain_number (pos n) h = let m = h.1 in plain_decimal n (omega (arith, ints))
plain_number (negsuc n) h = let m = h.0 in (plain_digit 45 (omega arith) (omega arith), plain_decimal (suc n) (omega (arith, ints)))

plain_truth : (b : Bool) → Each IsPlain (value_text (value.Bool b))
plain_truth true = (
  plain_letter 116 (omega arith) (omega arith),
  (
    plain_letter 114 (omega arith) (omega arith),
    (
      plain_letter 117 (omega arith) (omega arith),
      (plain_letter 101 (omega arith) (omega arith), tt),
    ),
  ),
)
plain_truth false = (
  plain_letter 102 (omega arith) (omega arith),
  (
    plain_letter 97 (omega arith) (omega arith),
    (
      plain_letter 108 (omega arith) (omega arith),
      (plain_letter 115 (omega arith) (omega arith), (plain_letter 101 (omega arith) (omega arith), tt)),
    ),
  ),
)

plain_value : (k : PortType) (v : Value) → HasFileValues k → IsOfType k v → Each IsPlain (value_text v)
plain_value kind.Bool (value.Bool b) h t = plain_truth b
plain_value kind.Bool (value.Int z) h t = absurd t
plain_value kind.Bool (value.Name n) h t = absurd t
plain_value (kind.Range lo hi) (value.Bool b) h t = absurd t
plain_value (kind.Range lo hi) (value.Int z) h t = plain_number z (small_numeral lo hi z h.0 h.1 t.0 t.1)
plain_value (kind.Range lo hi) (value.Name n) h t = absurd t
plain_value (kind.Enum names) (value.Bool b) h t = absurd t
plain_value (kind.Enum names) (value.Int z) h t = absurd t
plain_value (kind.Enum names) (value.Name n) h (k, l, at) = plain_name n (subst IsFileName at (h k n l))

-- a port and its value, both of plain bytes
pub record IsPlainEntry (e : List ℕ × Value) : Type 0 where
  pub port : Each IsPlain e.0
  pub given : Each IsPlain (value_text e.1)

plain_entries : (names : List (List ℕ)) (kinds : List PortType) (values : List Value) → Each IsFileName names → Each HasFileValues kinds
    → AllZip IsOfType kinds values → Each IsPlainEntry (zip names values)
plain_entries [] kinds values n h t = tt
plain_entries (name ∷ names) kinds [] n h t = tt
plain_entries (name ∷ names) [] (v ∷ values) n h t = absurd t
plain_entries (name ∷ names) (k ∷ kinds) (v ∷ values) (n, ns) (h, hs) (t, ts) =
    (record { port = plain_name name n; given = plain_value k v h t }, plain_entries names kinds values ns hs ts)

some_assignment : (name text : List ℕ) → name ++ 61 ∷ [] ++ text ≡ [] → ⊥
some_assignment [] text e = cc e
some_assignment (b ∷ name) text e = cc e

in_word : (byte : ℕ) → IsPlain byte → IsInWord byte
in_word byte h = h.no_gap

assignment_in_word : (e : List ℕ × Value) → IsPlainEntry e → Each IsInWord (assignment_text e.0 e.1)
assignment_in_word e h =
    each_append IsInWord (e.0 ++ 61 ∷ []) (value_text e.1)
    (each_append IsInWord e.0 (61 ∷ []) (each_weaker IsPlain IsInWord in_word e.0 h.port) (refl, tt))
    (each_weaker IsPlain IsInWord in_word (value_text e.1) h.given)

here_in_line : (byte : ℕ) → nat_eq byte 10 ≡ false → nat_eq byte 13 ≡ false → IsInLine byte
here_in_line byte a b = record { no_feed = a; no_return = b }

assignment_in_line : (e : List ℕ × Value) → IsPlainEntry e → Each IsInLine (assignment_text e.0 e.1)
assignment_in_line e h =
    each_append IsInLine (e.0 ++ 61 ∷ []) (value_text e.1)
    (each_append IsInLine e.0 (61 ∷ []) (each_weaker IsPlain IsInLine in_line e.0 h.port) (here_in_line 61 refl refl, tt))
    (each_weaker IsPlain IsInLine in_line (value_text e.1) h.given)

-- the words of a state line

tail_words : (w : List ℕ) (es : List (List ℕ × Value)) → w ≢ [] → Each IsInWord w → Each IsPlainEntry es
    → words_of_line (w ++ flat_map port_value_text es) ≡ w ∷ map (λ (e : List ℕ × Value). assignment_text e.0 e.1) es
tail_words w [] some h g = ap words_of_line (append-nil w) ∙ words-last w some h
tail_words w (e ∷ es) some h (g, gs) =
    words-word w (assignment_text e.0 e.1 ++ flat_map port_value_text es) some h
    ∙ ap (λ ws. w ∷ ws) (tail_words (assignment_text e.0 e.1) es (some_assignment e.0 (value_text e.1)) (assignment_in_word e g) gs)

plain_state : Each IsPlain (codes "state")
plain_state = (
  plain_letter 115 (omega arith) (omega arith),
  (
    plain_letter 116 (omega arith) (omega arith),
    (
      plain_letter 97 (omega arith) (omega arith),
      (plain_letter 116 (omega arith) (omega arith), (plain_letter 101 (omega arith) (omega arith), tt)),
    ),
  ),
)

plain_lasso : Each IsPlain (codes "lasso")
plain_lasso = (
  plain_letter 108 (omega arith) (omega arith),
  (
    plain_letter 97 (omega arith) (omega arith),
    (
      plain_letter 115 (omega arith) (omega arith),
      (plain_letter 115 (omega arith) (omega arith), (plain_letter 111 (omega arith) (omega arith), tt)),
    ),
  ),
)

abbrev state_body : List (List ℕ) → List Value → List ℕ
state_body names values = codes "state" ++ flat_map port_value_text (zip names values)

state_some : codes "state" ≢ []
state_some e = cc e

lasso_some : codes "lasso" ≢ []
lasso_some e = cc e

state_words : (names : List (List ℕ)) (values : List Value) → Each IsPlainEntry (zip names values)
    → words_of_line (state_body names values) ≡ codes "state" ∷ assignments_of names values
state_words names values h = tail_words (codes "state") (zip names values) state_some (each_weaker IsPlain IsInWord in_word (codes "state") plain_state) h

entries_in_line : (es : List (List ℕ × Value)) → Each IsPlainEntry es → Each IsInLine (flat_map port_value_text es)
entries_in_line [] h = tt
entries_in_line (e ∷ es) (h, hs) =
    (here_in_line 32 refl refl, each_append IsInLine (assignment_text e.0 e.1) (flat_map port_value_text es) (assignment_in_line e h) (entries_in_line es hs))

state_in_line : (names : List (List ℕ)) (values : List Value) → Each IsPlainEntry (zip names values) → Each IsInLine (state_body names values)
state_in_line names values h =
    each_append IsInLine (codes "state") (flat_map port_value_text (zip names values)) (each_weaker IsPlain IsInLine in_line (codes "state") plain_state)
    (entries_in_line (zip names values) h)

-- the first line

abbrev header_body : List ℕ → ℕ → ℕ → List ℕ
header_body name n l = codes "lasso" ++ 32 ∷ (name ++ 32 ∷ (decimal n ++ 32 ∷ decimal l))

decimal_some : (n : ℕ) → n < 2 ^ 64 → decimal n ≢ []
decimal_some n h e = let some : 0 < length (decimal n) = decimal_nonempty n h in let none : length (decimal n) ≡ 0 = ap length e in absurd (omega arith)

header_words : (name : List ℕ) (n l : ℕ) → IsFileName name → n < 2 ^ 64 → l < 2 ^ 64
    → words_of_line (header_body name n l) ≡ codes "lasso" ∷ name ∷ decimal n ∷ decimal l ∷ []
header_words name n l h a b =
    words-word (codes "lasso") (name ++ 32 ∷ (decimal n ++ 32 ∷ decimal l)) lasso_some (each_weaker IsPlain IsInWord in_word (codes "lasso") plain_lasso)
    ∙ ap (λ ws. codes "lasso" ∷ ws)
    (words-word name (decimal n ++ 32 ∷ decimal l) h.0 (each_weaker IsPlain IsInWord in_word name (plain_name name h))
    ∙ ap (λ ws. name ∷ ws)
    (words-word (decimal n) (decimal l) (decimal_some n a) (each_weaker IsPlain IsInWord in_word (decimal n) (plain_decimal n a))
    ∙ ap (λ ws. decimal n ∷ ws) (words-last (decimal l) (decimal_some l b) (each_weaker IsPlain IsInWord in_word (decimal l) (plain_decimal l b)))))

header_in_line : (name : List ℕ) (n l : ℕ) → IsFileName name → n < 2 ^ 64 → l < 2 ^ 64 → Each IsInLine (header_body name n l)
header_in_line name n l h a b =
    each_append IsInLine (codes "lasso") (32 ∷ (name ++ 32 ∷ (decimal n ++ 32 ∷ decimal l)))
    (each_weaker IsPlain IsInLine in_line (codes "lasso") plain_lasso) (
      here_in_line 32 refl refl,
      each_append IsInLine name (32 ∷ (decimal n ++ 32 ∷ decimal l)) (each_weaker IsPlain IsInLine in_line name (plain_name name h)) (
        here_in_line 32 refl refl,
        each_append IsInLine (decimal n) (32 ∷ decimal l) (each_weaker IsPlain IsInLine in_line (decimal n) (plain_decimal n a))
            (here_in_line 32 refl refl, each_weaker IsPlain IsInLine in_line (decimal l) (plain_decimal l b)),
      ),
    )

-- the lines of a block

end_lines : lines (codes "end\n") ≡ codes "end" ∷ []
end_lines = refl

cut_state : (body rest last : List ℕ) → body ++ 10 ∷ [] ++ rest ++ last ≡ body ++ 10 ∷ (rest ++ last)
cut_state body rest last = append_assoc (body ++ 10 ∷ []) rest last ∙ append_assoc body (10 ∷ []) (rest ++ last)

states_lines : (names : List (List ℕ)) (states : List (List Value)) → Each (λ s. Each IsPlainEntry (zip names s)) states
    → lines (flat_map (state_line names) states ++ codes "end\n") ≡ map (state_body names) states ++ codes "end" ∷ []
states_lines names [] h = end_lines
states_lines names (s ∷ states) (h, hs) =
    ap lines (cut_state (state_body names s) (flat_map (state_line names) states) (codes "end\n"))
    ∙ (lines-line (state_body names s) (flat_map (state_line names) states ++ codes "end\n") (state_in_line names s h)
    ∙ ap (λ ls. state_body names s ∷ ls) (states_lines names states hs))

block_cut : (name : List ℕ) (names : List (List ℕ)) (lasso : Lasso)
    → lasso_block name names lasso ≡ header_body name (length lasso.states) lasso.loop_at ++ 10 ∷ (flat_map (state_line names) lasso.states ++ codes "end\n")
block_cut name names lasso = simp append_assoc

block_lines : (name : List ℕ) (names : List (List ℕ)) (lasso : Lasso) → IsFileName name → length lasso.states < 2 ^ 64 → lasso.loop_at < 2 ^ 64
    → Each (λ s. Each IsPlainEntry (zip names s)) lasso.states
    → lines (lasso_block name names lasso)
    ≡ header_body name (length lasso.states) lasso.loop_at ∷ (map (state_body names) lasso.states ++ codes "end" ∷ [])
block_lines name names lasso h a b s =
    ap lines (block_cut name names lasso)
    ∙ (lines-line (header_body name (length lasso.states) lasso.loop_at) (flat_map (state_line names) lasso.states ++ codes "end\n")
    (header_in_line name (length lasso.states) lasso.loop_at h a b)
    ∙ ap (λ ls. header_body name (length lasso.states) lasso.loop_at ∷ ls) (states_lines names lasso.states s))

-- each of them counts

counts_so : (line word : List ℕ) (words : List (List ℕ)) → starts_with nat_eq line (codes "--") ≡ false → words_of_line line ≡ word ∷ words
    → line_counts line ≡ true
counts_so line word words s w = rw (s, w) (rw eqb-suc-zero refl)

states_fit : (names : List (List ℕ)) (kinds : List PortType) (states : List (List Value)) (n : ℕ) → length kinds ≡ length names → All IsFileName names
    → AllPairs (λ a b. a ≢ b) names → Each (AllZip IsOfType kinds) states → Each (λ s. Each IsPlainEntry (zip names s)) states
    → AreStateLines names kinds states (counting_lines n (map (state_body names) states ++ codes "end" ∷ []))
states_fit names kinds [] n same plain apart t h = refl
states_fit names kinds (s ∷ states) n same plain apart (t, ts) (h, hs) =
    let rest : List (List ℕ) = map (state_body names) states ++ codes "end" ∷ [] in
    let words = state_words names s h in
    let counts : line_counts (state_body names s) ≡ true = counts_so (state_body names s) (codes "state") (assignments_of names s) refl words in
    let line : IsStateLine names kinds (words_of_line (state_body names s)) s =
    subst (λ (ws : List (List ℕ)). IsStateLine names kinds ws s) (sym words) (refl, words_assign names kinds s same plain apart t) in
    subst (λ (b : Bool). AreStateLines names kinds (s ∷ states)
    (cond b (record { number = n; words = words_of_line (state_body names s) } ∷ counting_lines (n + 1) rest) (counting_lines (n + 1) rest)))
    (sym counts) (line, states_fit names kinds states (n + 1) same plain apart ts hs)

each_entries : (names : List (List ℕ)) (kinds : List PortType) (states : List (List Value)) → Each IsFileName names → Each HasFileValues kinds
    → Each (AllZip IsOfType kinds) states → Each (λ s. Each IsPlainEntry (zip names s)) states
each_entries names kinds [] n h t = tt
each_entries names kinds (s ∷ states) n h (t, ts) = (plain_entries names kinds s n h t, each_entries names kinds states n h ts)

pub blocks_read_back : BlocksReadBack
blocks_read_back spec name named h fits most size = record {
  size = size;
  block =
      let names : List (List ℕ) = free_names spec named.component in
      let kinds : List PortType = free_types spec named.component in
      let states : List (List Value) = named.lasso.states in
      let at : ℕ = named.lasso.loop_at in
      let range : at < length states = named.lasso.in_range in
      let small : length states ≤ 256 = most in
      let header : List ℕ = header_body name (length states) at in
      let rest : List (List ℕ) = map (state_body names) states ++ codes "end" ∷ [] in
      let typed = each_from_all (AllZip IsOfType kinds) states fits in
      let plain = each_entries names kinds states (each_from_all IsFileName names h.port_names) (each_from_all HasFileValues kinds h.port_values) typed in
      let same : length kinds ≡ length names =
      length-map (free_targets spec named.component) (type_of_target spec named.component)
      ∙ sym (length-map (free_targets spec named.component) (port_text spec named.component)) in
      let words = header_words name (length states) at h.component_name (omega arith) (omega arith) in
      let counts : line_counts header ≡ true = counts_so header (codes "lasso") (name ∷ decimal (length states) ∷ decimal at ∷ []) refl words in
      let first : IsHeaderLine spec (words_of_line header) named.component (length states) at =
      record { name = name; parts = words; component = h.component; most = most; in_range = range } in
      subst (λ (ls : List (List ℕ)). IsBlock spec (counting_lines 1 ls) named)
      (sym (block_lines name names named.lasso h.component_name (omega arith) (omega arith) plain))
      (subst (λ (b : Bool). IsBlock spec
      (cond b (record { number = 1; words = words_of_line header } ∷ counting_lines (1 + 1) rest) (counting_lines (1 + 1) rest)) named)
      (sym counts) (first, states_fit names kinds states (1 + 1) same h.port_names h.distinct typed plain));
}
