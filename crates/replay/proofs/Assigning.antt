-- The assignments of a printed state line are those of its values.
use Rattle.std.proofs.Common.{◌≡◌, ◌≢◌, ℕ, zero, suc, ◌+◌, ◌<◌, ◌≤◌, Bool, true, false, not, cond, nat_eq, List, [], ◌∷◌, ◌++◌, length, take}
use Rattle.std.proofs.Common.{get_or, map, All, AllPairs, refl, sym, ap, subst, ◌∙◌, arith, bytes_eq}
use Rattle.std.specs.List.{zip, count_by, AllZip, before_first, position_or_len}
use Rattle.std.proofs.lemmas.Bool.{false_from_ne_true, eqb-true, eq-eqb}
use Rattle.std.proofs.lemmas.List.{append_assoc}
use Rattle.std.proofs.lemmas.List.Sums.{sum_by-append, position_or_len_is}
use Rattle.std.proofs.lemmas.Slice.Eq.{bytes_eq-Decides}
use Rattle.port_types.specs.declared.types.PortType.{PortType}
use Rattle.port_types.specs.declared.types.PortType.TheVariants as kind
use Rattle.port_types.specs.declared.types.Value.{Value}
use Rattle.port_types.specs.Types.{IsOfType}
use Rattle.replay.specs.LassoBlocks.{value_text, assignment_text}
use Rattle.replay.specs.LassoFiles.{is_equals_sign, Assigns, AreAssignments, assigned_place, value_at_place}
use Rattle.replay.specs.Laws.{IsFileName}
use Rattle.replay.proofs.Spelling.{Each, IsPlain, plain_name}

-- the first `=` of a word stands behind the name

equals_step : (t : Bool) (n m : ℕ) → t ≡ false → n ≡ m → cond (not t) (1 + n) 0 ≡ suc m
equals_step true n m e h = cc e
equals_step false n m e h = omega arith

equals_at : (name text : List ℕ) → Each IsPlain name → position_or_len is_equals_sign (name ++ 61 ∷ text) ≡ length name
equals_at [] text h = refl
equals_at (b ∷ name) text (h, more) =
    equals_step (is_equals_sign b) (position_or_len is_equals_sign (name ++ 61 ∷ text)) (length name) h.no_equals (equals_at name text more)

take_front : (a b : List ℕ) → take (length a) (a ++ b) ≡ a
take_front [] b = refl
take_front (x ∷ a) b = ap (λ l. x ∷ l) (take_front a b)

name_of : (name text : List ℕ) → Each IsPlain name → before_first is_equals_sign (name ++ 61 ∷ text) ≡ name
name_of name text h = ap (λ n. take n (name ++ 61 ∷ text)) (equals_at name text h) ∙ take_front name (61 ∷ text)

-- the word of the port at place k speaks of it
place_of : (names : List (List ℕ)) (k : ℕ) (given : Value) → All IsFileName names → AllPairs (λ a b. a ≢ b) names → k < length names
    → assigned_place names (assignment_text (get_or names k []) given) ≡ k
place_of names k given plain apart l =
    let name : List ℕ = get_or names k [] in
    let word : assignment_text name given ≡ name ++ 61 ∷ value_text given = append_assoc name (61 ∷ []) (value_text given) in
    let front : before_first is_equals_sign (assignment_text name given) ≡ name =
    ap (before_first is_equals_sign) word ∙ name_of name (value_text given) (plain_name name (plain k [] l)) in
    ap (λ n. position_or_len (bytes_eq n) names) front
    ∙ position_or_len_is (bytes_eq name) names k [] (omega arith)
    (λ j m. false_from_ne_true (bytes_eq name (get_or names j []))
    (λ e. apart j k [] m l (sym ((bytes_eq-Decides name (get_or names j [])).0 e))))
    (λ _. (bytes_eq-Decides name name).1 refl)

-- the words of a state line
abbrev pub assignments_of : List (List ℕ) → List Value → List (List ℕ)
assignments_of names values = map (λ (e : List ℕ × Value). assignment_text e.0 e.1) (zip names values)

word_at : (names : List (List ℕ)) (values : List Value) (k : ℕ) (d : List ℕ) → length values ≡ length names → k < length names
    → get_or (assignments_of names values) k d ≡ assignment_text (get_or names k []) (value_at_place values k)
word_at [] values k d e l = absurd (omega arith)
word_at (n ∷ names) [] k d e l = absurd (omega arith)
word_at (n ∷ names) (v ∷ values) zero d e l = refl
word_at (n ∷ names) (v ∷ values) (suc k) d e l = word_at names values k d (omega arith) (omega arith)

pub words_count : (names : List (List ℕ)) (values : List Value) → length values ≡ length names → length (assignments_of names values) ≡ length names
words_count [] values e = refl
words_count (n ∷ names) [] e = absurd (omega arith)
words_count (n ∷ names) (v ∷ values) e = let ih = words_count names values (omega arith) in omega arith

-- where the items have the places a, a + 1 and so on, each of these places is there once

abbrev pub times_at : (List ℕ → ℕ) → ℕ → List (List ℕ) → ℕ
times_at f p words = count_by (λ word. nat_eq (f word) p) words

pub times_cons : (f : List ℕ → ℕ) (p : ℕ) (w : List ℕ) (words : List (List ℕ))
    → times_at f p (w ∷ words) ≡ cond (nat_eq (f w) p) 1 0 + times_at f p words
times_cons f p w words =
    let zero_first : 0 + cond (nat_eq (f w) p) 1 0 ≡ cond (nat_eq (f w) p) 1 0 = omega arith in
    sum_by-append (λ word. cond (nat_eq (f word) p) 1 0) (w ∷ []) words ∙ ap (λ n. n + times_at f p words) zero_first

shifted : (f : List ℕ → ℕ) (a : ℕ) (w : List ℕ) (words : List (List ℕ)) → ((k : ℕ) → k < length (w ∷ words) → f (get_or (w ∷ words) k []) ≡ a + k)
    → (k : ℕ) → k < length words → f (get_or words k []) ≡ suc a + k
shifted f a w words h k l = let e : f (get_or words k []) ≡ a + suc k = h (suc k) (omega arith) in omega arith

times_none : (f : List ℕ → ℕ) (a p : ℕ) (words : List (List ℕ)) → ((k : ℕ) → k < length words → f (get_or words k []) ≡ a + k) → p < a
    → times_at f p words ≡ 0
times_none f a p [] h l = refl
times_none f a p (w ∷ words) h l =
    let here : f w ≡ a + 0 = h 0 (omega arith) in
    let not_here : nat_eq (f w) p ≡ false = false_from_ne_true (nat_eq (f w) p) (λ e. let s : f w ≡ p = eqb-true (f w) p e in absurd (omega arith)) in
    let rest : times_at f p words ≡ 0 = times_none f (suc a) p words (shifted f a w words h) (omega arith) in
    times_cons f p w words ∙ rw not_here (omega arith)

once_step : (b : Bool) (at a p rest : ℕ) → nat_eq at p ≡ b → at ≡ a → a ≤ p → (p < suc a → rest ≡ 0) → (suc a ≤ p → rest ≡ 1)
    → cond b 1 0 + rest ≡ 1
once_step true at a p rest e here l none once =
    let same : at ≡ p = eqb-true at p e in
    let zero_rest : rest ≡ 0 = none (omega arith) in
    omega arith
once_step false at a p rest e here l none once =
    let other : p ≡ a → ⊥ = λ s. false_true (sym e ∙ eq-eqb at p (here ∙ sym s)) in
    let one_rest : rest ≡ 1 = once (further a p l other) in
    omega arith
  where
    false_true : false ≡ true → ⊥
    false_true q = cc q

    further : (a p : ℕ) → a ≤ p → (p ≡ a → ⊥) → suc a ≤ p
    further a p l other = omega arith

times_once : (f : List ℕ → ℕ) (a p : ℕ) (words : List (List ℕ)) → ((k : ℕ) → k < length words → f (get_or words k []) ≡ a + k) → a ≤ p
    → p < a + length words → times_at f p words ≡ 1
times_once f a p [] h l m = absurd (omega arith)
times_once f a p (w ∷ words) h l m =
    let here : f w ≡ a = let z : a + 0 ≡ a = omega arith in h 0 (omega arith) ∙ z in
    times_cons f p w words
    ∙ once_step (nat_eq (f w) p) (f w) a p (times_at f p words) refl here l
    (λ before. times_none f (suc a) p words (shifted f a w words h) before)
    (λ after. times_once f (suc a) p words (shifted f a w words h) after (omega arith))

fits_length : (kinds : List PortType) (values : List Value) → AllZip IsOfType kinds values → length values ≡ length kinds
fits_length [] [] h = refl
fits_length [] (v ∷ values) h = absurd h
fits_length (k ∷ kinds) [] h = absurd h
fits_length (k ∷ kinds) (v ∷ values) (h, more) = ap suc (fits_length kinds values more)

fits_at : (kinds : List PortType) (values : List Value) (k : ℕ) → AllZip IsOfType kinds values → k < length kinds
    → IsOfType (get_or kinds k kind.Bool) (value_at_place values k)
fits_at [] values k h l = absurd (omega arith)
fits_at (t ∷ kinds) [] k h l = absurd h
fits_at (t ∷ kinds) (v ∷ values) zero (h, more) l = h
fits_at (t ∷ kinds) (v ∷ values) (suc k) (h, more) l = fits_at kinds values k more (omega arith)

-- so the words of a state line assign its values
pub words_assign : (names : List (List ℕ)) (kinds : List PortType) (values : List Value) → length kinds ≡ length names → All IsFileName names
    → AllPairs (λ a b. a ≢ b) names → AllZip IsOfType kinds values → AreAssignments names kinds (assignments_of names values) values
words_assign names kinds values same plain apart fits =
    let sizes : length values ≡ length names = fits_length kinds values fits ∙ same in
    let count = words_count names values sizes in
    record {
      one_each = sizes;
      each_assigns = λ k d l. subst (λ (w : List ℕ). Assigns names kinds w (assigned_place names w) (value_at_place values (assigned_place names w)))
          (sym (word_at names values k d sizes (omega arith))) (one k (omega arith));
      each_port_once = λ p l. times_once (assigned_place names) 0 p (assignments_of names values)
          (λ k m. at k (omega arith) sizes) (omega arith) (omega arith);
    }
  where
    at : (k : ℕ) → k < length names → length values ≡ length names → assigned_place names (get_or (assignments_of names values) k []) ≡ 0 + k
    at k l sizes =
        let z : k ≡ 0 + k = omega arith in
        ap (assigned_place names) (word_at names values k [] sizes l) ∙ (place_of names k (value_at_place values k) plain apart l ∙ z)

    one : (k : ℕ) → k < length names
        → Assigns names kinds (assignment_text (get_or names k []) (value_at_place values k))
        (assigned_place names (assignment_text (get_or names k []) (value_at_place values k)))
        (value_at_place values (assigned_place names (assignment_text (get_or names k []) (value_at_place values k))))
    one k l =
        let word : List ℕ = assignment_text (get_or names k []) (value_at_place values k) in
        let place : assigned_place names word ≡ k = place_of names k (value_at_place values k) plain apart l in
        subst (λ (p : ℕ). Assigns names kinds word p (value_at_place values p)) (sym place) (record {
          port = place;
          within = l;
          text = refl;
          typed = fits_at kinds values k fits (omega arith);
        })
