-- What is known while the words of a state line are read.
use Rattle.std.proofs.Common.{◌≡◌, ◌≢◌, ℕ, zero, suc, ◌+◌, ◌<◌, Bool, true, false, not, cond, nat_eq, List, [], ◌∷◌, ◌++◌, length, take, drop, get_or}
use Rattle.std.proofs.Common.{All, Option, Some, None, map, position, bytes_eq, set, refl, sym, ap, subst, ◌∙◌, arith, drop-cons, add-one}
use Rattle.std.specs.List.{count_by, filter_map, position_or_len, before_first, cons_option}
use Rattle.std.proofs.lemmas.Bool.{eq-eqb, eqb-true, eqb-false}
use Rattle.std.proofs.lemmas.List.{append_assoc, append-nil, append_cancel_left, length-set, length-replicate, get_or-replicate}
use Rattle.std.proofs.lemmas.List.{get_or-set_same, get_or-set_other}
use Rattle.std.proofs.lemmas.List.{take-append-drop, length-map}
use Rattle.std.proofs.lemmas.List.Elements.{All-push, filter_map-append}
use Rattle.std.proofs.lemmas.List.Sums.{sum_by-append, passes_at_first}
use Rattle.std.proofs.lemmas.List.Quantifiers.{position-Some}
use Rattle.std.proofs.lemmas.Slice.Eq.{bytes_eq-Decides}
use Rattle.port_types.specs.declared.types.PortType.{PortType}
use Rattle.port_types.specs.declared.types.PortType.TheVariants as kind
use Rattle.port_types.specs.declared.types.Value.{Value}
use Rattle.port_types.specs.Types.{IsOfType}
use Rattle.replay.specs.LassoBlocks.{value_text}
use Rattle.replay.specs.TextLines.{words_of_line}
use Rattle.replay.specs.LassoFiles.{Assigns, AreAssignments, assigned_place, is_equals_sign, value_at_place}
use Rattle.replay.specs.Reading.{HaveGiven, AreNotedTo, IsNoted, GivesNew, GivesNothingNew, IsValueText, SpeaksOf, TellsPlaces, place_by_key, slot_at}
use Rattle.replay.specs.Reading.{times_given, no_slots}
use Rattle.replay.proofs.Positions.{position_is, position_told}

-- how often the words speak of a port
abbrev times_said : List (List ℕ) → ℕ → List (List ℕ) → ℕ
times_said names place words = count_by (λ word. nat_eq (assigned_place names word) place) words

said_append : (names : List (List ℕ)) (place : ℕ) (xs ys : List (List ℕ))
    → times_said names place (xs ++ ys) ≡ times_said names place xs + times_said names place ys
said_append names place xs ys = sum_by-append (λ word. cond (nat_eq (assigned_place names word) place) 1 0) xs ys

said_once : (names : List (List ℕ)) (place : ℕ) (word : List ℕ) → assigned_place names word ≡ place
    → times_said names place (word ∷ []) ≡ 1
said_once names place word e = rw (eq-eqb _ _ e) (omega arith)

said_never : (names : List (List ℕ)) (place : ℕ) (word : List ℕ) → nat_eq (assigned_place names word) place ≡ false
    → times_said names place (word ∷ []) ≡ 0
said_never names place word e = rw e (omega arith)

-- before the first word
pub start_noted : (names : List (List ℕ)) (kinds : List PortType) (slots : List (Option Value)) → slots ≡ no_slots (length names)
    → HaveGiven names kinds [] slots
start_noted names kinds slots e = record {
  size = ap length e ∙ length-replicate (length names) None;
  each = λ k d l. absurd (omega arith);
  counts = λ place h. sym (ap times_given (ap (λ s. slot_at s place) e ∙ get_or-replicate (length names) place None None h));
}

pub start_noted_to : (names : List (List ℕ)) (kinds : List PortType) (words : List ℕ) (slots : List (Option Value))
    → slots ≡ no_slots (length names) → AreNotedTo names kinds words words slots
start_noted_to names kinds words slots e = record { done = []; whole = refl; noted = start_noted names kinds slots e }

-- a port that has a value keeps it
kept : (names : List (List ℕ)) (kinds : List PortType) (slots : List (Option Value)) (place : ℕ) (given : Value) (word : List ℕ)
    → slot_at slots place ≡ None → IsNoted names kinds slots word → IsNoted names kinds (set slots place (Some given)) word
kept names kinds slots place given word vacant (g, at, assigns) =
    let apart : assigned_place names word ≢ place = λ e. some_none g (sym at ∙ (ap (slot_at slots) e ∙ vacant)) in
    (g, get_or-set_other slots place (assigned_place names word) (Some given) None apart ∙ at, assigns)
  where
    some_none : (g : Value) → Some g ≡ None → ⊥
    some_none g e = cc e

count_more : (names : List (List ℕ)) (slots : List (Option Value)) (done : List (List ℕ)) (word : List ℕ) (at place : ℕ) (given : Value)
    → assigned_place names word ≡ at → at < length slots → slot_at slots at ≡ None
    → times_said names place done ≡ times_given (slot_at slots place)
    → times_said names place (done ++ word ∷ []) ≡ times_given (slot_at (set slots at (Some given)) place)
count_more names slots done word at place given e l vacant h =
    said_append names place done (word ∷ []) ∙ by (nat_eq (assigned_place names word) place) refl
  where
    by : (b : Bool) → nat_eq (assigned_place names word) place ≡ b
        → times_said names place done + times_said names place (word ∷ []) ≡ times_given (slot_at (set slots at (Some given)) place)
    by true q =
        let same : at ≡ place = sym e ∙ eqb-true _ _ q in
        let none : times_said names place done ≡ 0 = h ∙ ap times_given (ap (slot_at slots) (sym same) ∙ vacant) in
        let one : times_said names place (word ∷ []) ≡ 1 = said_once names place word (e ∙ same) in
        let now : times_given (slot_at (set slots at (Some given)) place) ≡ 1 =
        ap times_given (ap (slot_at (set slots at (Some given))) (sym same) ∙ get_or-set_same slots at (Some given) None l) in
        omega arith
    by false q =
        let apart : place ≢ at = λ same. eqb-false _ _ q (e ∙ sym same) in
        let none : times_said names place (word ∷ []) ≡ 0 = said_never names place word q in
        let now : times_given (slot_at (set slots at (Some given)) place) ≡ times_given (slot_at slots place) =
        ap times_given (get_or-set_other slots at place (Some given) None apart) in
        omega arith

noted_more : (names : List (List ℕ)) (kinds : List PortType) (done : List (List ℕ)) (word : List ℕ) (slots after : List (Option Value))
    → HaveGiven names kinds done slots → GivesNew names kinds word slots after → HaveGiven names kinds (done ++ word ∷ []) after
noted_more names kinds done word slots after h p =
    let a = p.assigns in
    let size = h.size in
    let l : p.place < length slots = rw size a.within in
    let now : List (Option Value) = set slots p.place (Some p.given) in
    let at : assigned_place names word ≡ p.place = a.port in
    let self : IsNoted names kinds now word = (
      p.given,
      ap (slot_at now) at ∙ get_or-set_same slots p.place (Some p.given) None l,
      subst (λ (k : ℕ). Assigns names kinds word k p.given) (sym at) a,
    ) in
    let noted : HaveGiven names kinds (done ++ word ∷ []) now = record {
      size = length-set slots p.place (Some p.given) ∙ h.size;
      each = All-push (IsNoted names kinds now) done word (λ k d m. kept names kinds slots p.place p.given (get_or done k d) p.vacant (h.each k d m)) self;
      counts = λ place m. count_more names slots done word p.place place p.given at l p.vacant (h.counts place m);
    } in
    subst (HaveGiven names kinds (done ++ word ∷ [])) (sym p.put) noted

-- one more word is noted
pub noted_to_more : (names : List (List ℕ)) (kinds : List PortType) (words rest word after : List ℕ) (slots new : List (Option Value))
    → AreNotedTo names kinds words rest slots → words_of_line rest ≡ word ∷ words_of_line after → GivesNew names kinds word slots new
    → AreNotedTo names kinds words after new
noted_to_more names kinds words rest word after slots new h e p = record {
  done = h.done ++ word ∷ [];
  whole = h.whole ∙ (ap (λ ws. h.done ++ ws) e ∙ sym (append_assoc h.done (word ∷ []) (words_of_line after)));
  noted = noted_more names kinds h.done word slots new h.noted p;
}

-- all words are noted
pub noted_whole : (names : List (List ℕ)) (kinds : List PortType) (words rest : List ℕ) (slots : List (Option Value))
    → AreNotedTo names kinds words rest slots → words_of_line rest ≡ [] → HaveGiven names kinds (words_of_line words) slots
noted_whole names kinds words rest slots h e =
    subst (λ (ws : List (List ℕ)). HaveGiven names kinds ws slots) (sym (h.whole ∙ (ap (λ ws. h.done ++ ws) e ∙ append-nil h.done))) h.noted

-- what holds of all holds of the one behind a front
all_at : {X : Type 0} (P : X → Type 0) (front : List X) (x : X) (rest : List X) → All P (front ++ x ∷ rest) → P x
all_at P [] x rest h = h 0 x (omega arith)
all_at P (f ∷ front) x rest h = all_at P front x rest (λ k d l. h (suc k) d (omega arith))

given_case : (o : Option Value) → (o ≡ None → ⊥) → times_given o ≡ 1
given_case None h = absurd (h refl)
given_case (Some g) h = refl

-- a word that gives nothing new is in no state line
repeated : (names : List (List ℕ)) (kinds : List PortType) (done : List (List ℕ)) (word : List ℕ) (more : List (List ℕ))
    (values : List Value) (slots : List (Option Value))
    → HaveGiven names kinds done slots → GivesNothingNew names kinds word slots → AreAssignments names kinds (done ++ word ∷ more) values → ⊥
repeated names kinds done word more values slots h nothing a =
    let place : ℕ = assigned_place names word in
    let own = all_at (λ word. Assigns names kinds word (assigned_place names word) (value_at_place values (assigned_place names word)))
    done word more a.each_assigns in
    let l : place < length names = own.within in
    let first : times_said names place done ≡ 1 = h.counts place l ∙ given_case (slot_at slots place) (nothing place (value_at_place values place) own) in
    let second : times_said names place (word ∷ []) ≡ 1 = said_once names place word refl in
    let both = said_append names place done (word ∷ more) in
    let split = said_append names place (word ∷ []) more in
    let once = a.each_port_once place l in
    absurd (omega arith)

pub breaks_at_word : (names : List (List ℕ)) (kinds : List PortType) (words rest word after : List ℕ) (slots : List (Option Value))
    → AreNotedTo names kinds words rest slots → words_of_line rest ≡ word ∷ words_of_line after → GivesNothingNew names kinds word slots
    → (values : List Value) → AreAssignments names kinds (words_of_line words) values → ⊥
breaks_at_word names kinds words rest word after slots h e nothing values a =
    repeated names kinds h.done word (words_of_line after) values slots h.noted nothing
    (subst (λ (ws : List (List ℕ)). AreAssignments names kinds ws values) (h.whole ∙ ap (λ ws. h.done ++ ws) e) a)

-- a port that has no value in the end is missing
pub breaks_at_end : (names : List (List ℕ)) (kinds : List PortType) (words : List (List ℕ)) (slots : List (Option Value)) (place : ℕ)
    → HaveGiven names kinds words slots → place < length slots → slot_at slots place ≡ None
    → (values : List Value) → AreAssignments names kinds words values → ⊥
breaks_at_end names kinds words slots place h l none values a =
    let size = h.size in
    let m : place < length names = omega arith in
    let never : times_said names place words ≡ 0 = h.counts place m ∙ ap times_given none in
    let once = a.each_port_once place m in
    absurd (omega arith)

abbrev pub given_values : List (Option Value) → List Value
given_values slots = filter_map (λ slot. slot) slots

all_given : (slots : List (Option Value)) → ((place : ℕ) → place < length slots → slot_at slots place ≡ None → ⊥)
    → slots ≡ map Some (given_values slots)
all_given [] h = refl
all_given (None ∷ slots) h = absurd (h 0 (omega arith) refl)
all_given (Some g ∷ slots) h = ap (λ s. Some g ∷ s) (all_given slots (λ place l. h (suc place) (omega arith)))

value_there : (values : List Value) (place : ℕ) (g : Value) → get_or (map Some values) place None ≡ Some g → value_at_place values place ≡ g
value_there [] place g e = absurd (none_some g e)
  where
    none_some : (g : Value) → None ≡ Some g → ⊥
    none_some g e = cc e
value_there (v ∷ values) zero g e = cc e
value_there (v ∷ values) (suc place) g e = value_there values place g e

pub state_complete : (names : List (List ℕ)) (kinds : List PortType) (words : List (List ℕ)) (slots : List (Option Value))
    → HaveGiven names kinds words slots → ((place : ℕ) → place < length slots → slot_at slots place ≡ None → ⊥)
    → AreAssignments names kinds words (given_values slots)
state_complete names kinds words slots h full = record {
  one_each = sym (length-map (given_values slots) Some) ∙ (ap length (sym (all_given slots full)) ∙ h.size);
  each_assigns = λ k d l. by (get_or words k d) (h.each k d l);
  each_port_once = λ place l. let size = h.size in h.counts place l ∙ given_case (slot_at slots place) (full place (omega arith));
}
  where
    by : (word : List ℕ) → IsNoted names kinds slots word
        → Assigns names kinds word (assigned_place names word) (value_at_place (given_values slots) (assigned_place names word))
    by word (g, at, assigns) =
        subst (Assigns names kinds word (assigned_place names word))
        (sym (value_there (given_values slots) (assigned_place names word) g
        (ap (λ s. slot_at s (assigned_place names word)) (sym (all_given slots full)) ∙ at)))
        assigns

-- the first `=` of a word

equals_step : (t : Bool) (n m : ℕ) → n < m → cond (not t) (1 + n) 0 < suc m
equals_step true n m h = omega arith
equals_step false n m h = omega arith

has_equals : (a b : List ℕ) → position_or_len is_equals_sign (a ++ 61 ∷ b) < length (a ++ 61 ∷ b)
has_equals [] b = omega arith
has_equals (x ∷ a) b = equals_step (is_equals_sign x) (position_or_len is_equals_sign (a ++ 61 ∷ b)) (length (a ++ 61 ∷ b)) (has_equals a b)

pub says_nothing : (names : List (List ℕ)) (word : List ℕ) (end : ℕ) → end ≡ position_or_len is_equals_sign word → end ≡ length word
    → (place : ℕ) (text : List ℕ) → SpeaksOf names word place text → ⊥
says_nothing names word end e f place text says =
    let l : position_or_len is_equals_sign word < length word =
    subst (λ (w : List ℕ). position_or_len is_equals_sign w < length w) (sym says.parts) (has_equals (get_or names place []) text) in
    absurd (omega arith)

-- where the name before the first `=` is in the table
pub says_so : (names : List (List ℕ)) (table : List (List ℕ × ℕ)) (word : List ℕ) (end place : ℕ) → TellsPlaces names table
    → end ≡ position_or_len is_equals_sign word → end < length word → place_by_key table (take end word) ≡ Some place
    → SpeaksOf names word place (drop (end + 1) word)
says_so names table word end place tells e l found =
    let key : List ℕ = take end word in
    let front : before_first is_equals_sign word ≡ key = ap (λ n. take n word) (sym e) in
    let at : position (bytes_eq key) names ≡ Some place = sym (tells key) ∙ found in
    let first = position-Some (bytes_eq key) names place [] at in
    let name : key ≡ get_or names place [] = (bytes_eq-Decides key (get_or names place [])).0 first.1 in
    let stop : get_or word end 0 ≡ 61 = eqb-true _ _ (subst (λ (n : ℕ). is_equals_sign (get_or word n 0) ≡ true) (sym e)
    (passes_at_first is_equals_sign word 0 (rw e at l))) in
    record {
      port = ap (λ (k : List ℕ). position_or_len (bytes_eq k) names) front ∙ position_is (bytes_eq key) names place at;
      within = first.0;
      parts = sym (take-append-drop end word) ∙ (λ j. name j ++ (drop_here word end l ∙ ap (λ b. b ∷ drop (end + 1) word) stop) j);
    }
  where
    drop_here : (w : List ℕ) (n : ℕ) → n < length w → drop n w ≡ get_or w n 0 ∷ drop (n + 1) w
    drop_here w n m = rw (add-one, drop-cons w n 0) refl

pub says_unknown : (names : List (List ℕ)) (table : List (List ℕ × ℕ)) (word : List ℕ) (end : ℕ) → TellsPlaces names table
    → end ≡ position_or_len is_equals_sign word → place_by_key table (take end word) ≡ None
    → (place : ℕ) (text : List ℕ) → SpeaksOf names word place text → ⊥
says_unknown names table word end tells e missing place text says =
    let key : List ℕ = take end word in
    let front : before_first is_equals_sign word ≡ key = ap (λ n. take n word) (sym e) in
    let is : position_or_len (bytes_eq key) names ≡ place = ap (λ (k : List ℕ). position_or_len (bytes_eq k) names) (sym front) ∙ says.port in
    let told : position (bytes_eq key) names ≡ Some place = position_told (bytes_eq key) names place is says.within in
    none_some place (sym missing ∙ (tells key ∙ told))
  where
    none_some : (n : ℕ) → None ≡ Some n → ⊥
    none_some n h = cc h

-- an assignment is what a word says, read as a value
pub assigns_so : (names : List (List ℕ)) (kinds : List PortType) (word : List ℕ) (place : ℕ) (text : List ℕ) (k : PortType) (given : Value)
    → SpeaksOf names word place text → k ≡ get_or kinds place kind.Bool → IsValueText k text given → Assigns names kinds word place given
assigns_so names kinds word place text k given says e v = record {
  port = says.port;
  within = says.within;
  text = says.parts ∙ (ap (λ t. get_or names place [] ++ 61 ∷ t) v.spelled ∙ sym (append_assoc (get_or names place []) (61 ∷ []) (value_text given)));
  typed = subst (λ (k : PortType). IsOfType k given) e v.typed;
}

-- a word that assigns says so
pub says_of : (names : List (List ℕ)) (kinds : List PortType) (word : List ℕ) (place : ℕ) (given : Value) → Assigns names kinds word place given
    → SpeaksOf names word place (value_text given)
says_of names kinds word place given a = record {
  port = a.port;
  within = a.within;
  parts = a.text ∙ append_assoc (get_or names place []) (61 ∷ []) (value_text given);
}

pub assigns_nothing : (names : List (List ℕ)) (kinds : List PortType) (word : List ℕ) (at : ℕ) (text : List ℕ) (k : PortType)
    → SpeaksOf names word at text → k ≡ get_or kinds at kind.Bool → ((given : Value) → IsValueText k text given → ⊥)
    → (place : ℕ) (given : Value) → Assigns names kinds word place given → ⊥
assigns_nothing names kinds word at text k says e none place given a =
    let same : place ≡ at = sym a.port ∙ says.port in
    let here : Assigns names kinds word at given = subst (λ (p : ℕ). Assigns names kinds word p given) same a in
    let other = says_of names kinds word at given here in
    let tails : 61 ∷ text ≡ 61 ∷ value_text given =
    append_cancel_left (get_or names at []) (61 ∷ text) (61 ∷ value_text given) (sym says.parts ∙ other.parts) in
    none given (record { typed = subst (λ (k : PortType). IsOfType k given) (sym e) here.typed; spelled = cc tails })

-- the values that are there, with one more slot
pub given_push_some : (slots : List (Option Value)) (slot : Option Value) (given : Value) (old new : List Value) → new ≡ old ++ given ∷ []
    → old ≡ given_values slots → slot ≡ Some given → new ≡ given_values (slots ++ slot ∷ [])
given_push_some slots slot given old new e h at =
    e ∙ ((λ j. h j ++ given ∷ []) ∙ sym (filter_map-append (λ slot. slot) slots (slot ∷ []) ∙ ap (λ s. given_values slots ++ cons_option s []) at))

pub given_push_none : (slots : List (Option Value)) (slot : Option Value) (old : List Value) → old ≡ given_values slots → slot ≡ None
    → old ≡ given_values (slots ++ slot ∷ [])
given_push_none slots slot old h at =
    h ∙ sym (filter_map-append (λ slot. slot) slots (slot ∷ []) ∙ (ap (λ s. given_values slots ++ cons_option s []) at ∙ append-nil (given_values slots)))
