-- The truth of a formula under changes of the trace: a way that each operator goes along, then the ports that a formula
-- reads, ports renamed, and state formulas.
use Rattle.std.proofs.Common.{◌≡◌, ℕ, ◌+◌, ◌<◌, ◌≤◌, ◌↔◌, Bool, true, false, List, [], ◌∷◌, ◌++◌, Contains, refl, sym, ap, ◌∙◌, arith}
use Rattle.std.proofs.lemmas.List.Elements.{Contains-append_left, Contains-append_right, All-contains}
use Rattle.typed_ltl.specs.Formulas.{Number, Choice, Proposition, Ltl}
use Rattle.typed_ltl.specs.Formulas as form
use Rattle.typed_ltl.specs.Traces.{Assignment, Trace}
use Rattle.typed_ltl.specs.Truth.{Either, Sometime, HoldsUntil, HoldsReleased, Holds, as_truth, as_number, as_name}
use Rattle.typed_ltl.specs.Truth.{number_value, choice_name, proposition_truth}
use Rattle.first_lasso.specs.FormulaPorts.{number_ports, choice_ports, proposition_ports, formula_ports}
use Rattle.first_lasso.specs.FormulaPorts.{renamed_number, renamed_choice, renamed_test, renamed, seen_through, IsStateFormula}
use Rattle.first_lasso.specs.Laws.{ReadPortsDecide, RenamingKeepsTruth, StateFormulasAreDecided}

-- ---- operators

pub not_alike : (A B : Type 0) → A ↔ B → (A → ⊥) ↔ (B → ⊥)
not_alike A B e = (λ n b. n (e.1 b), λ n a. n (e.0 a))

pub and_alike : (A B C D : Type 0) → A ↔ B → C ↔ D → (A × C) ↔ (B × D)
and_alike A B C D e f = (λ h. (e.0 h.0, f.0 h.1), λ h. (e.1 h.0, f.1 h.1))

or_alike : (A B C D : Type 0) → A ↔ B → C ↔ D → Either A C ↔ Either B D
or_alike A B C D e f = (
  λ h n m. h (λ a. n (e.0 a)) (λ c. m (f.0 c)),
  λ h n m. h (λ b. n (e.1 b)) (λ d. m (f.1 d)),
)

implies_alike : (A B C D : Type 0) → A ↔ B → C ↔ D → (A → C) ↔ (B → D)
implies_alike A B C D e f = (λ h b. f.0 (h (e.1 b)), λ h a. f.1 (h (e.0 a)))

iff_alike : (A B C D : Type 0) → A ↔ B → C ↔ D → ((A → C) × (C → A)) ↔ ((B → D) × (D → B))
iff_alike A B C D e f = (
  λ h. (λ b. f.0 (h.0 (e.1 b)), λ d. e.0 (h.1 (f.1 d))),
  λ h. (λ a. f.1 (h.0 (e.0 a)), λ c. e.1 (h.1 (f.0 c))),
)

-- P and Q agree at each position
abbrev pub Alike : (ℕ → Type 0) → (ℕ → Type 0) → Type 0
Alike P Q = (i : ℕ) → P i ↔ Q i

until_alike : (P Q R S : ℕ → Type 0) → Alike P Q → Alike R S → Alike (HoldsUntil P R) (HoldsUntil Q S)
until_alike P Q R S e f i = (
  λ h none. h (λ j le r t. none j le ((f j).0 r) (λ k lo hi. (e k).0 (t k lo hi))),
  λ h none. h (λ j le s t. none j le ((f j).1 s) (λ k lo hi. (e k).1 (t k lo hi))),
)

released_alike : (P Q R S : ℕ → Type 0) → Alike P Q → Alike R S → Alike (HoldsReleased P R) (HoldsReleased Q S)
released_alike P Q R S e f i = (
  λ h j le n t. h j le (λ r. n ((f j).0 r)) (λ k lo hi p. t k lo hi ((e k).0 p)),
  λ h j le n t. h j le (λ s. n ((f j).1 s)) (λ k lo hi q. t k lo hi ((e k).1 q)),
)

sometime_alike : (P Q : ℕ → Type 0) → Alike P Q → Alike (Sometime P) (Sometime Q)
sometime_alike P Q e i = (
  λ h none. h (λ j le p. none j le ((e j).0 p)),
  λ h none. h (λ j le q. none j le ((e j).1 q)),
)

always_alike : (P Q : ℕ → Type 0) → Alike P Q → (i : ℕ) → ((j : ℕ) → i ≤ j → P j) ↔ ((j : ℕ) → i ≤ j → Q j)
always_alike P Q e i = (λ h j le. (e j).0 (h j le), λ h j le. (e j).1 (h j le))

never_alike : (P Q : ℕ → Type 0) → Alike P Q → (i : ℕ) → ((j : ℕ) → i ≤ j → P j → ⊥) ↔ ((j : ℕ) → i ≤ j → Q j → ⊥)
never_alike P Q e i = (λ h j le q. h j le ((e j).1 q), λ h j le p. h j le ((e j).0 p))

-- an atom is as true as another
atom_alike : (a b : Bool) → a ≡ b → (a ≡ true) ↔ (b ≡ true)
atom_alike a b e = (λ h. sym e ∙ h, λ h. e ∙ h)

-- ---- the ports that are read

-- two valuations give these ports the same values
abbrev pub Agree : List ℕ → Assignment → Assignment → Type 0
Agree ports a b = (p : ℕ) → Contains ports p → a p ≡ b p

left : (xs ys : List ℕ) (a b : Assignment) → Agree (xs ++ ys) a b → Agree xs a b
left xs ys a b h p c = h p (Contains-append_left xs ys p c)

right : (xs ys : List ℕ) (a b : Assignment) → Agree (xs ++ ys) a b → Agree ys a b
right xs ys a b h p c = h p (Contains-append_right xs ys p c)

alone : (p : ℕ) → Contains (p ∷ []) p
alone p = (0, omega arith, refl)

number_same : (a b c d : Assignment) (n : Number) → Agree (number_ports n) a b → Agree (number_ports n) c d
    → number_value a c n ≡ number_value b d n
number_same a b c d (form.Literal z) h k = refl
number_same a b c d (form.NumberAt p false) h k = ap as_number (h p (alone p))
number_same a b c d (form.NumberAt p true) h k = ap as_number (k p (alone p))
number_same a b c d (form.Sum m n) h k =
    cc (
      number_same a b c d m (left (number_ports m) (number_ports n) a b h) (left (number_ports m) (number_ports n) c d k),
      number_same a b c d n (right (number_ports m) (number_ports n) a b h) (right (number_ports m) (number_ports n) c d k),
    )
number_same a b c d (form.Difference m n) h k =
    cc (
      number_same a b c d m (left (number_ports m) (number_ports n) a b h) (left (number_ports m) (number_ports n) c d k),
      number_same a b c d n (right (number_ports m) (number_ports n) a b h) (right (number_ports m) (number_ports n) c d k),
    )
number_same a b c d (form.Opposite m) h k = cc (number_same a b c d m h k)

choice_same : (a b c d : Assignment) (n : Choice) → Agree (choice_ports n) a b → Agree (choice_ports n) c d
    → choice_name a c n ≡ choice_name b d n
choice_same a b c d (form.Named n) h k = refl
choice_same a b c d (form.NameAt p false) h k = ap as_name (h p (alone p))
choice_same a b c d (form.NameAt p true) h k = ap as_name (k p (alone p))

test_same : (a b c d : Assignment) (t : Proposition) → Agree (proposition_ports t) a b → Agree (proposition_ports t) c d
    → proposition_truth a c t ≡ proposition_truth b d t
test_same a b c d (form.TruthAt p false) h k = ap as_truth (h p (alone p))
test_same a b c d (form.TruthAt p true) h k = ap as_truth (k p (alone p))
test_same a b c d (form.Equals m n) h k =
    cc (
      number_same a b c d m (left (number_ports m) (number_ports n) a b h) (left (number_ports m) (number_ports n) c d k),
      number_same a b c d n (right (number_ports m) (number_ports n) a b h) (right (number_ports m) (number_ports n) c d k),
    )
test_same a b c d (form.AtMost m n) h k =
    cc (
      number_same a b c d m (left (number_ports m) (number_ports n) a b h) (left (number_ports m) (number_ports n) c d k),
      number_same a b c d n (right (number_ports m) (number_ports n) a b h) (right (number_ports m) (number_ports n) c d k),
    )
test_same a b c d (form.SameName m n) h k =
    cc (
      choice_same a b c d m (left (choice_ports m) (choice_ports n) a b h) (left (choice_ports m) (choice_ports n) c d k),
      choice_same a b c d n (right (choice_ports m) (choice_ports n) a b h) (right (choice_ports m) (choice_ports n) c d k),
    )

-- two traces agree on these ports at each position
abbrev pub AgreeOn : List ℕ → Trace → Trace → Type 0
AgreeOn ports w v = (i p : ℕ) → Contains ports p → w i p ≡ v i p

lefts : (xs ys : List ℕ) (w v : Trace) → AgreeOn (xs ++ ys) w v → AgreeOn xs w v
lefts xs ys w v h i = left xs ys (w i) (v i) (h i)

rights : (xs ys : List ℕ) (w v : Trace) → AgreeOn (xs ++ ys) w v → AgreeOn ys w v
rights xs ys w v h i = right xs ys (w i) (v i) (h i)

pub read_alike : (w v : Trace) (f : Ltl) → AgreeOn (formula_ports f) w v → Alike (Holds w f) (Holds v f)
read_alike w v form.True h i = (λ t. t, λ t. t)
read_alike w v form.False h i = (λ t. t, λ t. t)
read_alike w v (form.Atomic a) h i = atom_alike _ _ (test_same (w i) (v i) (w (i + 1)) (v (i + 1)) a (h i) (h (i + 1)))
read_alike w v (form.Not f) h i = not_alike _ _ (read_alike w v f h i)
read_alike w v (form.And f g) h i =
    and_alike _ _ _ _ (read_alike w v f (lefts (formula_ports f) (formula_ports g) w v h) i)
    (read_alike w v g (rights (formula_ports f) (formula_ports g) w v h) i)
read_alike w v (form.Or f g) h i =
    or_alike _ _ _ _ (read_alike w v f (lefts (formula_ports f) (formula_ports g) w v h) i)
    (read_alike w v g (rights (formula_ports f) (formula_ports g) w v h) i)
read_alike w v (form.Implies f g) h i =
    implies_alike _ _ _ _ (read_alike w v f (lefts (formula_ports f) (formula_ports g) w v h) i)
    (read_alike w v g (rights (formula_ports f) (formula_ports g) w v h) i)
read_alike w v (form.Iff f g) h i =
    iff_alike _ _ _ _ (read_alike w v f (lefts (formula_ports f) (formula_ports g) w v h) i)
    (read_alike w v g (rights (formula_ports f) (formula_ports g) w v h) i)
read_alike w v (form.Then f) h i = read_alike w v f h (i + 1)
read_alike w v (form.Until f g) h i =
    until_alike (Holds w f) (Holds v f) (Holds w g) (Holds v g) (read_alike w v f (lefts (formula_ports f) (formula_ports g) w v h))
    (read_alike w v g (rights (formula_ports f) (formula_ports g) w v h)) i
read_alike w v (form.Releases f g) h i =
    released_alike (Holds w f) (Holds v f) (Holds w g) (Holds v g) (read_alike w v f (lefts (formula_ports f) (formula_ports g) w v h))
    (read_alike w v g (rights (formula_ports f) (formula_ports g) w v h)) i
read_alike w v (form.Future f) h i = sometime_alike (Holds w f) (Holds v f) (read_alike w v f h) i
read_alike w v (form.Always f) h i = always_alike (Holds w f) (Holds v f) (read_alike w v f h) i
read_alike w v (form.Never f) h i = never_alike (Holds w f) (Holds v f) (read_alike w v f h) i

pub read_ports_decide : ReadPortsDecide
read_ports_decide f w v h i t = (read_alike w v f h i).0 t

-- ---- ports renamed

number_renamed : (by : ℕ → ℕ) (a c : Assignment) (n : Number)
    → number_value a c (renamed_number by n) ≡ number_value (λ p. a (by p)) (λ p. c (by p)) n
number_renamed by a c (form.Literal z) = refl
number_renamed by a c (form.NumberAt p false) = refl
number_renamed by a c (form.NumberAt p true) = refl
number_renamed by a c (form.Sum m n) = cc (number_renamed by a c m, number_renamed by a c n)
number_renamed by a c (form.Difference m n) = cc (number_renamed by a c m, number_renamed by a c n)
number_renamed by a c (form.Opposite m) = cc (number_renamed by a c m)

choice_renamed : (by : ℕ → ℕ) (a c : Assignment) (n : Choice)
    → choice_name a c (renamed_choice by n) ≡ choice_name (λ p. a (by p)) (λ p. c (by p)) n
choice_renamed by a c (form.Named n) = refl
choice_renamed by a c (form.NameAt p false) = refl
choice_renamed by a c (form.NameAt p true) = refl

test_renamed : (by : ℕ → ℕ) (a c : Assignment) (t : Proposition)
    → proposition_truth a c (renamed_test by t) ≡ proposition_truth (λ p. a (by p)) (λ p. c (by p)) t
test_renamed by a c (form.TruthAt p false) = refl
test_renamed by a c (form.TruthAt p true) = refl
test_renamed by a c (form.Equals m n) = cc (number_renamed by a c m, number_renamed by a c n)
test_renamed by a c (form.AtMost m n) = cc (number_renamed by a c m, number_renamed by a c n)
test_renamed by a c (form.SameName m n) = cc (choice_renamed by a c m, choice_renamed by a c n)

pub renamed_alike : (by : ℕ → ℕ) (w : Trace) (f : Ltl) → Alike (Holds w (renamed by f)) (Holds (seen_through by w) f)
renamed_alike by w form.True i = (λ t. t, λ t. t)
renamed_alike by w form.False i = (λ t. t, λ t. t)
renamed_alike by w (form.Atomic a) i = atom_alike _ _ (test_renamed by (w i) (w (i + 1)) a)
renamed_alike by w (form.Not f) i = not_alike _ _ (renamed_alike by w f i)
renamed_alike by w (form.And f g) i = and_alike _ _ _ _ (renamed_alike by w f i) (renamed_alike by w g i)
renamed_alike by w (form.Or f g) i = or_alike _ _ _ _ (renamed_alike by w f i) (renamed_alike by w g i)
renamed_alike by w (form.Implies f g) i = implies_alike _ _ _ _ (renamed_alike by w f i) (renamed_alike by w g i)
renamed_alike by w (form.Iff f g) i = iff_alike _ _ _ _ (renamed_alike by w f i) (renamed_alike by w g i)
renamed_alike by w (form.Then f) i = renamed_alike by w f (i + 1)
renamed_alike by w (form.Until f g) i =
    until_alike _ (Holds (seen_through by w) f) _ (Holds (seen_through by w) g) (renamed_alike by w f) (renamed_alike by w g) i
renamed_alike by w (form.Releases f g) i =
    released_alike _ (Holds (seen_through by w) f) _ (Holds (seen_through by w) g) (renamed_alike by w f) (renamed_alike by w g) i
renamed_alike by w (form.Future f) i =
    sometime_alike (Holds w (renamed by f)) (Holds (seen_through by w) f) (renamed_alike by w f) i
renamed_alike by w (form.Always f) i =
    always_alike (Holds w (renamed by f)) (Holds (seen_through by w) f) (renamed_alike by w f) i
renamed_alike by w (form.Never f) i =
    never_alike (Holds w (renamed by f)) (Holds (seen_through by w) f) (renamed_alike by w f) i

pub renaming_keeps_truth : RenamingKeepsTruth
renaming_keeps_truth by w f i = renamed_alike by w f i

-- ---- state formulas

state_alike : (w v : Trace) (i j : ℕ) (f : Ltl) → IsStateFormula f → Agree (formula_ports f) (w i) (v j) → Holds w f i ↔ Holds v f j
state_alike w v i j form.True s h = (λ t. t, λ t. t)
state_alike w v i j form.False s h = (λ t. t, λ t. t)
state_alike w v i j (form.Atomic a) s h =
    atom_alike _ _ (s (w i) (w (i + 1)) (w i) ∙ (test_same (w i) (v j) (w i) (v j) a h h ∙ s (v j) (v j) (v (j + 1))))
state_alike w v i j (form.Not f) s h = not_alike _ _ (state_alike w v i j f s h)
state_alike w v i j (form.And f g) s h =
    and_alike _ _ _ _ (state_alike w v i j f s.0 (left (formula_ports f) (formula_ports g) (w i) (v j) h))
    (state_alike w v i j g s.1 (right (formula_ports f) (formula_ports g) (w i) (v j) h))
state_alike w v i j (form.Or f g) s h =
    or_alike _ _ _ _ (state_alike w v i j f s.0 (left (formula_ports f) (formula_ports g) (w i) (v j) h))
    (state_alike w v i j g s.1 (right (formula_ports f) (formula_ports g) (w i) (v j) h))
state_alike w v i j (form.Implies f g) s h =
    implies_alike _ _ _ _ (state_alike w v i j f s.0 (left (formula_ports f) (formula_ports g) (w i) (v j) h))
    (state_alike w v i j g s.1 (right (formula_ports f) (formula_ports g) (w i) (v j) h))
state_alike w v i j (form.Iff f g) s h =
    iff_alike _ _ _ _ (state_alike w v i j f s.0 (left (formula_ports f) (formula_ports g) (w i) (v j) h))
    (state_alike w v i j g s.1 (right (formula_ports f) (formula_ports g) (w i) (v j) h))
state_alike w v i j (form.Then f) s h = absurd s
state_alike w v i j (form.Until f g) s h = absurd s
state_alike w v i j (form.Releases f g) s h = absurd s
state_alike w v i j (form.Future f) s h = absurd s
state_alike w v i j (form.Always f) s h = absurd s
state_alike w v i j (form.Never f) s h = absurd s

pub state_formulas_are_decided : StateFormulasAreDecided
state_formulas_are_decided n f s below w v h t =
    (state_alike w v 0 0 f s (λ p c. h p (All-contains (λ q. q < n) (formula_ports f) p below c))).0 t
