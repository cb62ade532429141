use Rattle.std.proofs.Common.{◌≡◌, List, [], ◌∷◌, ◌++◌, map, refl, sym, ap, subst, append_assoc, ◌∙◌}
use Rattle.std.proofs.lemmas.List.{append-nil}
use Rattle.oss_syntax.specs.declared.words.Word.{Word}
use Rattle.oss_syntax.specs.declared.terminal.Mark.{Mark}
use Rattle.oss_syntax.specs.Alphabet.{Terminal}
use Rattle.oss_syntax.specs.Alphabet as terminal
use Rattle.oss_syntax.specs.Steps.{Mark_then, Name_then, Phrase_then, Many}
use Rattle.oss_reader.specs.declared.halt.Halt.{Halt}
use Rattle.oss_reader.specs.declared.halt.Halt.TheVariants as halts
use Rattle.oss_reader.specs.Reads.{OnBroken, Sole, Nothing, SoleUntil, NothingUntil, IsMark, NoMark, NoName, ListsGoOnFrom}

-- what one halt says, said of another fact
pub on_broken : (halt : Halt) (P Q : Type 0) → (P → Q) → OnBroken halt P → OnBroken halt Q
on_broken (halts.Broken _) P Q f p = f p
on_broken halts.NoMemory P Q f p = tt

pub pair_same : {A B : Type 0} (p : A × B) (a : A) (b : B) → p.0 ≡ a → p.1 ≡ b → p ≡ (a, b)
pair_same {A} {B} p a b e f = ap (λ (x : A). (x, p.1)) e ∙ ap (λ (y : B). (a, y)) f

-- a step that the terminals take leads to the next
pub mark_step : {m : Mark} {Next : List Terminal → Type 0} {ts mid : List Terminal} → IsMark m ts mid
    → Mark_then m Next ts → Next mid
mark_step {Next} {mid} i h =
    let e = i.begins in
    let f = h.begins in
    let same : h.left ≡ mid = cc in
    subst Next same h.next

pub name_step : {word other : Word} {Next : List Terminal → Type 0} {ts mid : List Terminal}
    → ts ≡ terminal.Name word ∷ mid → Name_then other Next ts → (other ≡ word) × Next mid
name_step {word} {other} {Next} {ts} {mid} e h =
    let f = h.begins in
    let same : h.left ≡ mid = cc in
    let name : other ≡ word = cc in
    (name, subst Next same h.next)

pub phrase_step : {A : Type 0} {R : List Terminal → A → List Terminal
    → Type 0} {phrase other : A} {Next : List Terminal → Type 0} {ts mid : List Terminal}
    → Sole R ts phrase mid → Phrase_then R other Next ts → (other ≡ phrase) × Next mid
phrase_step {A} {R} {phrase} {other} {Next} {ts} {mid} s h =
    let same = s.only other h.left h.holds in
    (same.0, subst Next same.1 h.next)

-- a step that the terminals do not take
pub no_mark : {m : Mark} {Next : List Terminal → Type 0} {ts : List Terminal} → NoMark m ts → Mark_then m Next ts → ⊥
no_mark none h = none h.span h.left h.begins

pub no_name : {word : Word} {Next : List Terminal → Type 0} {ts : List Terminal} → NoName ts → Name_then word Next ts
    → ⊥
no_name {word} none h = none word h.left h.begins

pub no_phrase : {A : Type 0} {R : List Terminal → A → List Terminal → Type 0} {phrase : A} {Next : List Terminal
    → Type 0} {ts : List Terminal}
    → Nothing R ts → Phrase_then R phrase Next ts → ⊥
no_phrase {A} {R} {phrase} none h = none phrase h.left h.holds

-- two marks are not one
pub other_mark : {m n : Mark} {Next : List Terminal → Type 0} {ts mid : List Terminal} → (m ≡ n → ⊥) → IsMark m ts mid
    → Mark_then n Next ts → ⊥
other_mark {m} {n} apart i h =
    let e = i.begins in
    let f = h.begins in
    let same : m ≡ n = cc in
    apart same

-- steps that are taken
pub mark_made : {m : Mark} {Next : List Terminal → Type 0} {ts mid : List Terminal} → IsMark m ts mid → Next mid
    → Mark_then m Next ts
mark_made {m} {Next} {ts} {mid} i n = record { span = i.span; left = mid; begins = i.begins; next = n }

pub name_made : {word : Word} {Next : List Terminal → Type 0} {ts mid : List Terminal} → ts ≡ terminal.Name word ∷ mid
    → Next mid → Name_then word Next ts
name_made {word} {Next} {ts} {mid} e n = record { left = mid; begins = e; next = n }

pub phrase_made : {A : Type 0} {R : List Terminal → A → List Terminal → Type 0} {phrase : A} {Next : List Terminal
    → Type 0} {ts mid : List Terminal}
    → Sole R ts phrase mid → Next mid → Phrase_then R phrase Next ts
phrase_made {A} {R} {phrase} {Next} {ts} {mid} s n = record { left = mid; holds = s.holds; next = n }

pub map_more : {A B : Type 0} (f : A → B) (xs : List A) (x : A) → map f (xs ++ x ∷ []) ≡ map f xs ++ f x ∷ []
map_more {B} f [] x = refl
map_more {B} f (y ∷ ys) x = ap (λ (l : List B). f y ∷ l) (map_more f ys x)

-- Many, one phrase more at the end
pub many_more : {A : Type 0} (R : List Terminal → A → List Terminal → Type 0) (ts : List Terminal) (read : List A)
    (mid : List Terminal) (phrase : A) (rest : List Terminal)
    → Many R ts read mid → R mid phrase rest → Many R ts (read ++ phrase ∷ []) rest
many_more R ts [] mid phrase rest h r = (rest, subst (λ (x : List Terminal). R x phrase rest) (sym h) r, refl)
many_more R ts (first ∷ read) mid phrase rest h r = (h.0, h.1, many_more R h.0 read mid phrase rest h.2 r)

pub grows_first : {A : Type 0} (R : List Terminal → A → List Terminal → Type 0) (Stop : List Terminal → Type 0)
    (ts : List Terminal) → ListsGoOnFrom R Stop ts [] ts
grows_first R Stop ts = record { holds = refl; all = λ phrases rest h s. (phrases, refl, h) }

-- one phrase more is read

grows_left : {A : Type 0} (R : List Terminal → A → List Terminal → Type 0) (Stop : List Terminal → Type 0)
    (read more : List A) (mid : List Terminal) (phrase : A) (rest : List Terminal) (phrases : List A)
    (r : List Terminal)
    → (Stop mid → ⊥) → Sole R mid phrase rest → phrases ≡ read ++ more → Many R mid more r → Stop r
    → (left : List A) × (phrases ≡ (read ++ phrase ∷ []) ++ left) × Many R rest left r
grows_left R Stop read [] mid phrase rest phrases r going s e h stop = absurd (going (subst Stop (sym h) stop))
grows_left R Stop read (first ∷ more) mid phrase rest phrases r going s e h stop =
    let same = s.only first h.0 h.1 in
    let one : phrases ≡ read ++ phrase ∷ more = e ∙ ap (λ (x : _). read ++ x ∷ more) same.0 in
    let two : (read ++ phrase ∷ []) ++ more ≡ read ++ phrase ∷ more = append_assoc read (phrase ∷ []) more in
    (more, one ∙ sym two, subst (λ (x : List Terminal). Many R x more r) same.1 h.2)

pub grows_more : {A : Type 0} (R : List Terminal → A → List Terminal → Type 0) (Stop : List Terminal → Type 0)
    (ts : List Terminal) (read : List A) (mid : List Terminal) (phrase : A) (rest : List Terminal)
    → ListsGoOnFrom R Stop ts read mid → (Stop mid → ⊥) → Sole R mid phrase rest
    → ListsGoOnFrom R Stop ts (read ++ phrase ∷ []) rest
grows_more R Stop ts read mid phrase rest g going s = record {
  holds = many_more R ts read mid phrase rest g.holds s.holds;
  all = λ phrases r h stop.
      let found = g.all phrases r h stop in
      grows_left R Stop read found.0 mid phrase rest phrases r going s found.1 found.2 stop;
}

-- the list ends
grows_none : {A : Type 0} (R : List Terminal → A → List Terminal → Type 0) (read more : List A) (mid : List Terminal)
    (phrases : List A) (r : List Terminal)
    → Nothing R mid → phrases ≡ read ++ more → Many R mid more r → (phrases ≡ read) × (r ≡ mid)
grows_none R read [] mid phrases r ended e h = (e ∙ append-nil read, sym h)
grows_none R read (first ∷ more) mid phrases r ended e h = absurd (ended first h.0 h.1)

pub grows_last : {A : Type 0} (R : List Terminal → A → List Terminal → Type 0) (Stop : List Terminal → Type 0)
    (ts : List Terminal) (read : List A) (mid : List Terminal)
    → ListsGoOnFrom R Stop ts read mid → Stop mid → Nothing R mid → SoleUntil (Many R) Stop ts read mid
grows_last R Stop ts read mid g stop ended = record {
  holds = g.holds;
  stops = stop;
  only = λ phrases r h s.
      let found = g.all phrases r h s in
      grows_none R read found.0 mid phrases r ended found.1 found.2;
}

-- the list breaks off
grows_broken : {A : Type 0} (R : List Terminal → A → List Terminal → Type 0) (Stop : List Terminal → Type 0)
    (more : List A) (mid r : List Terminal)
    → (Stop mid → ⊥) → Nothing R mid → Many R mid more r → Stop r → ⊥
grows_broken R Stop [] mid r going none h stop = going (subst Stop (sym h) stop)
grows_broken R Stop (first ∷ more) mid r going none h stop = none first h.0 h.1

pub grows_never : {A : Type 0} (R : List Terminal → A → List Terminal → Type 0) (Stop : List Terminal → Type 0)
    (ts : List Terminal) (read : List A) (mid : List Terminal)
    → ListsGoOnFrom R Stop ts read mid → (Stop mid → ⊥) → Nothing R mid → NothingUntil (Many R) Stop ts
grows_never R Stop ts read mid g going none phrases r h s =
    let found = g.all phrases r h s in
    grows_broken R Stop found.0 mid r going none found.2 s

-- a phrase that reaches up to where `Stop` holds
pub until_step : {A : Type 0} {R : List Terminal → A → List Terminal → Type 0} {Stop : List Terminal
    → Type 0} {phrase other : A} {Next : List Terminal → Type 0} {ts mid : List Terminal}
    → SoleUntil R Stop ts phrase mid → ((left : List Terminal) → Next left → Stop left) → Phrase_then R other Next ts
    → (other ≡ phrase) × Next mid
until_step {A} {R} {Stop} {phrase} {other} {Next} {ts} {mid} s stop h =
    let same = s.only other h.left h.holds (stop h.left h.next) in
    (same.0, subst Next same.1 h.next)

pub no_until : {A : Type 0} {R : List Terminal → A → List Terminal → Type 0}
    (Stop : List Terminal → Type 0) {phrase : A} {Next : List Terminal → Type 0} {ts : List Terminal}
    → NothingUntil R Stop ts → ((left : List Terminal) → Next left → Stop left) → Phrase_then R phrase Next ts → ⊥
no_until {A} {R} Stop {phrase} none stop h = none phrase h.left h.holds (stop h.left h.next)

pub until_made : {A : Type 0} {R : List Terminal → A → List Terminal → Type 0} {Stop : List Terminal
    → Type 0} {phrase : A} {Next : List Terminal → Type 0} {ts mid : List Terminal}
    → SoleUntil R Stop ts phrase mid → Next mid → Phrase_then R phrase Next ts
until_made {A} {R} {Stop} {phrase} {Next} {ts} {mid} s n = record { left = mid; holds = s.holds; next = n }

-- after one mark no other stands
pub mark_apart : {m n : Mark} {Next : List Terminal → Type 0} {ts : List Terminal} → (m ≡ n → ⊥) → Mark_then m Next ts
    → NoMark n ts
mark_apart {m} {n} {Next} {ts} apart h span left e =
    let f = h.begins in
    let same : m ≡ n = cc in
    apart same

pub is_apart : {m n : Mark} {ts mid : List Terminal} → (m ≡ n → ⊥) → IsMark m ts mid → NoMark n ts
is_apart {m} {n} {ts} {mid} apart i span left e =
    let f = i.begins in
    let same : m ≡ n = cc in
    apart same
