-- A text means at most one lasso.
use Rattle.std.proofs.Common.{◌≡◌, ℕ, zero, suc, ◌+◌, ◌<◌, ◌≤◌, ◌^◌, Bool, true, false, cond, nat_eq, List, [], ◌∷◌, ◌++◌, length}
use Rattle.std.proofs.Common.{get_or, codes, refl, sym, ap, subst, ◌∙◌, arith, ℤ, ◌≤ℤ◌, unsigned_abs}
use Rattle.std.proofs.lemmas.Bool.{eqb-true}
use Rattle.std.proofs.lemmas.Fmt.{signed_decimal_injective}
use Rattle.std.proofs.lemmas.Int.{ints}
use Rattle.std.proofs.lemmas.List.{append_cancel_left, ext_get_or}
use Rattle.port_types.specs.declared.types.PortType.{PortType}
use Rattle.port_types.specs.declared.types.PortType.TheVariants as kind
use Rattle.port_types.specs.declared.types.Value.{Value}
use Rattle.port_types.specs.declared.types.Value.TheVariants as value
use Rattle.port_types.specs.Types.{IsOfType, IsSignedNumeral}
use Rattle.oss_base.specs.declared.ids.ComponentId.{ComponentId}
use Rattle.spec_model.specs.Architecture.{free_targets}
use Rattle.spec_model.specs.declared.spec.Spec.{Spec}
use Rattle.spec_values.specs.SmallNumbers.{HasNumeralEnds, HasSmallNumbers}
use Rattle.typed_ltl.specs.declared.lasso.Lasso.{Lasso}
use Rattle.first_lasso.proofs.FirstLassos.{same_lasso}
use Rattle.replay.specs.declared.named.NamedLasso.{NamedLasso}
use Rattle.replay.specs.FreePortNames.{free_names}
use Rattle.spec_model.specs.FreeTypes.{type_of_target, free_types}
use Rattle.replay.specs.LassoBlocks.{value_text, assignment_text}
use Rattle.replay.specs.LassoFiles.{Assigns, AreAssignments, IsStateLine, AreStateLines, IsBlock, assigned_place, value_at_place}
use Rattle.replay.specs.Laws.{TextsMeanOneLasso}
use Rattle.replay.specs.TextLines.{NumberedLine, lines_that_count}
use Rattle.replay.proofs.Assigning.{times_at, times_cons}
use Rattle.replay.proofs.Exclusion.{headers_agree}
use Rattle.replay.proofs.Moderate.{kept_ends, kind_ends}
use Rattle.replay.proofs.Numerals.{below_by}

-- values of a type that are printed the same

truth_once : (a b : Value) → IsOfType kind.Bool a → IsOfType kind.Bool b → value_text a ≡ value_text b → a ≡ b
truth_once (value.Bool true) (value.Bool true) h g e = refl
truth_once (value.Bool true) (value.Bool false) h g e = absurd (cc e)
truth_once (value.Bool false) (value.Bool true) h g e = absurd (cc e)
truth_once (value.Bool false) (value.Bool false) h g e = refl
truth_once (value.Bool p) (value.Int z) h g e = absurd g
truth_once (value.Bool p) (value.Name n) h g e = absurd g
truth_once (value.Int z) b h g e = absurd h
truth_once (value.Name n) b h g e = absurd h

between : (lo hi z : ℤ) → IsSignedNumeral lo → IsSignedNumeral hi → lo ≤ℤ z → z ≤ℤ hi → unsigned_abs z ≤ 2 ^ 31
between lo hi z l h a b = omega (arith, ints, l.0, h.1)

number_once : (lo hi : ℤ) (a b : Value) → IsSignedNumeral lo → IsSignedNumeral hi → IsOfType (kind.Range lo hi) a
    → IsOfType (kind.Range lo hi) b → value_text a ≡ value_text b → a ≡ b
number_once lo hi (value.Int y) (value.Int z) low high h g e =
    ap value.Int (signed_decimal_injective y z (below_by y (between lo hi y low high h.0 h.1)) (below_by z (between lo hi z low high g.0 g.1)) e)
number_once lo hi (value.Int y) (value.Bool p) low high h g e = absurd g
number_once lo hi (value.Int y) (value.Name n) low high h g e = absurd g
number_once lo hi (value.Bool p) b low high h g e = absurd h
number_once lo hi (value.Name n) b low high h g e = absurd h

name_once : (names : List (List ℕ)) (a b : Value) → IsOfType (kind.Enum names) a → IsOfType (kind.Enum names) b
    → value_text a ≡ value_text b → a ≡ b
name_once names (value.Name m) (value.Name n) h g e = ap value.Name e
name_once names (value.Name m) (value.Bool p) h g e = absurd g
name_once names (value.Name m) (value.Int z) h g e = absurd g
name_once names (value.Bool p) b h g e = absurd h
name_once names (value.Int z) b h g e = absurd h

value_once : (type : PortType) (a b : Value) → HasNumeralEnds type → IsOfType type a → IsOfType type b
    → value_text a ≡ value_text b → a ≡ b
value_once kind.Bool a b ends h g e = truth_once a b h g e
value_once (kind.Range lo hi) a b ends h g e = number_once lo hi a b ends.0 ends.1 h g e
value_once (kind.Enum names) a b ends h g e = name_once names a b h g e

-- what a word gives its port
given_once : (names : List (List ℕ)) (kinds : List PortType) (word : List ℕ) (p : ℕ) (a b : Value)
    → HasNumeralEnds (get_or kinds p kind.Bool) → Assigns names kinds word p a → Assigns names kinds word p b → a ≡ b
given_once names kinds word p a b ends h g =
    let name : List ℕ = get_or names p [] in
    let same : assignment_text name a ≡ assignment_text name b = sym h.text ∙ g.text in
    value_once (get_or kinds p kind.Bool) a b ends h.typed g.typed
    (append_cancel_left (name ++ codes "=") (value_text a) (value_text b) same)

-- lines

-- a word that speaks of a place that is spoken of once
word_of : (f : List ℕ → ℕ) (p : ℕ) (words : List (List ℕ)) → times_at f p words ≡ 1
    → (k : ℕ) × (k < length words) × (f (get_or words k []) ≡ p)
word_of f p [] e = let none : times_at f p [] ≡ 0 = refl in absurd (omega arith)
word_of f p (w ∷ words) e = by (nat_eq (f w) p) refl (word_of f p words) (sym (times_cons f p w words) ∙ e)
  where
    by : (b : Bool) → nat_eq (f w) p ≡ b
        → (times_at f p words ≡ 1 → (k : ℕ) × (k < length words) × (f (get_or words k []) ≡ p))
        → cond b 1 0 + times_at f p words ≡ 1
        → (k : ℕ) × (k < length (w ∷ words)) × (f (get_or (w ∷ words) k []) ≡ p)
    by true here later sum = (0, omega arith, eqb-true (f w) p here)
    by false there later sum =
        let once : times_at f p words ≡ 1 = omega arith in
        let found = later once in
        (suc found.0, omega (arith, found.1), found.2)

abbrev HaveNumeralEnds : List PortType → Type 0
HaveNumeralEnds kinds = (p : ℕ) → HasNumeralEnds (get_or kinds p kind.Bool)

state_once : (names : List (List ℕ)) (kinds : List PortType) (words : List (List ℕ)) (a b : List Value) → HaveNumeralEnds kinds
    → AreAssignments names kinds words a → AreAssignments names kinds words b → a ≡ b
state_once names kinds words a b ends h g =
    ext_get_or (value.Bool false) a b (h.one_each ∙ sym g.one_each) (λ p l. at p (rw (← h.one_each) l))
  where
    at : (p : ℕ) → p < length names → value_at_place a p ≡ value_at_place b p
    at p l =
        let found = word_of (assigned_place names) p words (h.each_port_once p l) in
        let word : List ℕ = get_or words found.0 [] in
        let place : ℕ = assigned_place names word in
        let same : value_at_place a place ≡ value_at_place b place =
        given_once names kinds word place (value_at_place a place) (value_at_place b place) (ends place)
        (h.each_assigns found.0 [] found.1) (g.each_assigns found.0 [] found.1) in
        subst (λ (q : ℕ). value_at_place a q ≡ value_at_place b q) found.2 same

line_once : (names : List (List ℕ)) (kinds : List PortType) (words : List (List ℕ)) (a b : List Value) → HaveNumeralEnds kinds
    → IsStateLine names kinds words a → IsStateLine names kinds words b → a ≡ b
line_once names kinds [] a b ends h g = absurd h
line_once names kinds (w ∷ words) a b ends h g = state_once names kinds words a b ends h.1 g.1

one_more : (a b : List Value) (xs ys : List (List Value)) → a ≡ b → xs ≡ ys → a ∷ xs ≡ b ∷ ys
one_more a b xs ys e f = cc (e, f)

states_once : (names : List (List ℕ)) (kinds : List PortType) (xs ys : List (List Value)) (lines : List NumberedLine) → HaveNumeralEnds kinds
    → AreStateLines names kinds xs lines → AreStateLines names kinds ys lines → xs ≡ ys
states_once names kinds [] [] lines ends h g = refl
states_once names kinds [] (b ∷ ys) [] ends h g = absurd h
states_once names kinds [] (b ∷ ys) (line ∷ []) ends h g = absurd g.1
states_once names kinds [] (b ∷ ys) (line ∷ more ∷ rest) ends h g = absurd h
states_once names kinds (a ∷ xs) [] [] ends h g = absurd h
states_once names kinds (a ∷ xs) [] (line ∷ []) ends h g = absurd h.1
states_once names kinds (a ∷ xs) [] (line ∷ more ∷ rest) ends h g = absurd g
states_once names kinds (a ∷ xs) (b ∷ ys) [] ends h g = absurd h
states_once names kinds (a ∷ xs) (b ∷ ys) (line ∷ rest) ends h g =
    one_more a b xs ys (line_once names kinds line.words a b ends h.0 g.0) (states_once names kinds xs ys rest ends h.1 g.1)

same_named : (a b : NamedLasso) → a.component ≡ b.component → a.lasso ≡ b.lasso → a ≡ b
same_named a b e f = λ j. record { component = e j; lasso = f j }

block_once : (spec : Spec) (lines : List NumberedLine) (a b : NamedLasso) → HasSmallNumbers spec → IsBlock spec lines a
    → IsBlock spec lines b → a ≡ b
block_once spec [] a b small h g = absurd h
block_once spec (line ∷ rest) a b small h g =
    let c : ComponentId = a.component in
    let same = headers_agree spec line.words c b.component (length a.lasso.states) a.lasso.loop_at (length b.lasso.states) b.lasso.loop_at h.0 g.0 in
    let there : AreStateLines (free_names spec c) (free_types spec c) b.lasso.states rest =
    subst (λ (d : ComponentId). AreStateLines (free_names spec d) (free_types spec d) b.lasso.states rest) (sym same.0) g.1 in
    let states : a.lasso.states ≡ b.lasso.states = states_once (free_names spec c) (free_types spec c) a.lasso.states b.lasso.states rest
    (kept_ends (type_of_target spec c) (kind_ends spec small c) (free_targets spec c)) h.1 there in
    same_named a b same.0 (same_lasso a.lasso b.lasso states same.2)

pub texts_mean_one_lasso : TextsMeanOneLasso
texts_mean_one_lasso spec bytes named other small h g = block_once spec (lines_that_count bytes) named other small h.block g.block
