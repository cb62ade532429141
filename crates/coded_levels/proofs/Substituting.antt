-- What reads ports of the kinds that it wants still does where ports are replaced by what stands for them.
use Rattle.std.proofs.Common.{◌≡◌, ℕ, ◌<◌, Bool, true, false, List, [], ◌++◌, length, get_or, All, sym, subst}
use Rattle.std.proofs.lemmas.List.Elements.{All-head, All-contains, Contains-get_or, Contains-append_left, Contains-append_right}
use Rattle.port_types.specs.declared.types.PortType.{PortType}
use Rattle.port_types.specs.declared.types.PortType.TheVariants as kind
use Rattle.typed_ltl.specs.Formulas.{Number, Choice, Proposition, Ltl}
use Rattle.typed_ltl.specs.Formulas as form
use Rattle.state_coding.specs.Reads.{IsBoolean, IsRange, IsEnumeration, HasKind, ReadsNumbers, ReadsEnumeration, ReadsPorts}
use Rattle.connections.specs.Substitution.{Reading, next_number, next_choice, next_test, next_formula, truth_for, number_for, choice_for}
use Rattle.connections.specs.Substitution.{substituted_number, substituted_choice, substituted_test, substituted}
use Rattle.connections.specs.Substitution as by
use Rattle.first_lasso.specs.FormulaPorts.{number_ports, choice_ports, proposition_ports, formula_ports}
use Rattle.coded_levels.specs.CodableTypes.{ReadsKinds}

-- what stands for a port of this type is of its kind, and reads ports of the kinds that it wants
abbrev pub ReadingReads : List PortType → PortType → Reading → Type 0
ReadingReads free kind.Bool (by.Free k) = HasKind IsBoolean free k
ReadingReads free kind.Bool (by.OfTruth f) = ReadsKinds free f
ReadingReads free (kind.Range lo hi) (by.Free k) = HasKind IsRange free k
ReadingReads free (kind.Range lo hi) (by.OfNumber m) = ReadsNumbers free m
ReadingReads free (kind.Enum names) (by.Free k) = HasKind IsEnumeration free k
ReadingReads free (kind.Enum names) (by.OfChoice m) = ReadsEnumeration free m
ReadingReads free _ _ = ⊥

-- a free port stands for one of its type
pub free_reads : (free : List PortType) (k : ℕ) (t : PortType) → k < length free → get_or free k kind.Bool ≡ t
    → ReadingReads free t (by.Free k)
free_reads free k kind.Bool lt e = (lt, subst (λ (t : PortType). IsBoolean t) (sym e) tt)
free_reads free k (kind.Range lo hi) lt e = (lt, subst (λ (t : PortType). IsRange t) (sym e) tt)
free_reads free k (kind.Enum names) lt e = (lt, subst (λ (t : PortType). IsEnumeration t) (sym e) tt)

-- ---- expressions read under next read the same ports

number_next : (free : List PortType) (m : Number) → ReadsNumbers free m → ReadsNumbers free (next_number m)
number_next free (form.Literal z) h = tt
number_next free (form.NumberAt p next) h = h
number_next free (form.Sum a b) h = (number_next free a h.0, number_next free b h.1)
number_next free (form.Difference a b) h = (number_next free a h.0, number_next free b h.1)
number_next free (form.Opposite a) h = number_next free a h

choice_next : (free : List PortType) (m : Choice) → ReadsEnumeration free m → ReadsEnumeration free (next_choice m)
choice_next free (form.Named name) h = tt
choice_next free (form.NameAt p next) h = h

test_next : (free : List PortType) (t : Proposition) → ReadsPorts free t → ReadsPorts free (next_test t)
test_next free (form.TruthAt p next) h = h
test_next free (form.Equals a b) h = (number_next free a h.0, number_next free b h.1)
test_next free (form.AtMost a b) h = (number_next free a h.0, number_next free b h.1)
test_next free (form.SameName a b) h = (choice_next free a h.0, choice_next free b h.1)

formula_next : (free : List PortType) (f : Ltl) → ReadsKinds free f → ReadsKinds free (next_formula f)
formula_next free form.True h = tt
formula_next free form.False h = tt
formula_next free (form.Atomic a) h = test_next free a h
formula_next free (form.Not f) h = formula_next free f h
formula_next free (form.And f g) h = (formula_next free f h.0, formula_next free g h.1)
formula_next free (form.Or f g) h = (formula_next free f h.0, formula_next free g h.1)
formula_next free (form.Implies f g) h = (formula_next free f h.0, formula_next free g h.1)
formula_next free (form.Iff f g) h = (formula_next free f h.0, formula_next free g h.1)
formula_next free (form.Then f) h = formula_next free f h
formula_next free (form.Until f g) h = (formula_next free f h.0, formula_next free g h.1)
formula_next free (form.Releases f g) h = (formula_next free f h.0, formula_next free g h.1)
formula_next free (form.Future f) h = formula_next free f h
formula_next free (form.Always f) h = formula_next free f h
formula_next free (form.Never f) h = formula_next free f h

-- ---- what stands for a port, where a port of this kind is read

truth_reads : (free : List PortType) (t : PortType) (r : Reading) (next : Bool) → IsBoolean t → ReadingReads free t r
    → ReadsKinds free (truth_for r next)
truth_reads free kind.Bool (by.Free k) next b h = h
truth_reads free kind.Bool (by.OfTruth f) false b h = h
truth_reads free kind.Bool (by.OfTruth f) true b h = formula_next free f h
truth_reads free kind.Bool (by.OfNumber m) next b h = absurd h
truth_reads free kind.Bool (by.OfChoice m) next b h = absurd h
truth_reads free (kind.Range lo hi) r next b h = absurd b
truth_reads free (kind.Enum names) r next b h = absurd b

number_reads : (free : List PortType) (t : PortType) (r : Reading) (next : Bool) → IsRange t → ReadingReads free t r
    → ReadsNumbers free (number_for r next)
number_reads free (kind.Range lo hi) (by.Free k) next b h = h
number_reads free (kind.Range lo hi) (by.OfTruth f) next b h = absurd h
number_reads free (kind.Range lo hi) (by.OfNumber m) false b h = h
number_reads free (kind.Range lo hi) (by.OfNumber m) true b h = number_next free m h
number_reads free (kind.Range lo hi) (by.OfChoice m) next b h = absurd h
number_reads free kind.Bool r next b h = absurd b
number_reads free (kind.Enum names) r next b h = absurd b

choice_reads : (free : List PortType) (t : PortType) (r : Reading) (next : Bool) → IsEnumeration t → ReadingReads free t r
    → ReadsEnumeration free (choice_for r next)
choice_reads free (kind.Enum names) (by.Free k) next b h = h
choice_reads free (kind.Enum names) (by.OfTruth f) next b h = absurd h
choice_reads free (kind.Enum names) (by.OfNumber m) next b h = absurd h
choice_reads free (kind.Enum names) (by.OfChoice m) false b h = h
choice_reads free (kind.Enum names) (by.OfChoice m) true b h = choice_next free m h
choice_reads free kind.Bool r next b h = absurd b
choice_reads free (kind.Range lo hi) r next b h = absurd b

-- ---- substitution

all_left : (P : ℕ → Type 0) (xs ys : List ℕ) → All P (xs ++ ys) → All P xs
all_left P xs ys h k d lt =
    All-contains P (xs ++ ys) (get_or xs k d) h (Contains-append_left xs ys (get_or xs k d) (Contains-get_or xs k d lt))

all_right : (P : ℕ → Type 0) (xs ys : List ℕ) → All P (xs ++ ys) → All P ys
all_right P xs ys h k d lt =
    All-contains P (xs ++ ys) (get_or ys k d) h (Contains-append_right xs ys (get_or ys k d) (Contains-get_or ys k d lt))

-- Each port with P that is there has something that stands for it, of its kind. An expression that reads such ports
-- alone, each of the kind that it wants, still does so when they are replaced.
module _ (P : ℕ → Type 0) (own free : List PortType) (told : ℕ → Reading)
    (stand : (p : ℕ) → P p → p < length own → ReadingReads free (get_or own p kind.Bool) (told p)) where
  number_kinds : (m : Number) → All P (number_ports m) → ReadsNumbers own m → ReadsNumbers free (substituted_number told m)
  number_kinds (form.Literal z) s h = tt
  number_kinds (form.NumberAt p next) s h =
      number_reads free (get_or own p kind.Bool) (told p) next h.1 (stand p (All-head P p [] s) h.0)
  number_kinds (form.Sum a b) s h =
      (number_kinds a (all_left P (number_ports a) (number_ports b) s) h.0, number_kinds b (all_right P (number_ports a) (number_ports b) s) h.1)
  number_kinds (form.Difference a b) s h =
      (number_kinds a (all_left P (number_ports a) (number_ports b) s) h.0, number_kinds b (all_right P (number_ports a) (number_ports b) s) h.1)
  number_kinds (form.Opposite a) s h = number_kinds a s h

  choice_kinds : (m : Choice) → All P (choice_ports m) → ReadsEnumeration own m → ReadsEnumeration free (substituted_choice told m)
  choice_kinds (form.Named name) s h = tt
  choice_kinds (form.NameAt p next) s h =
      choice_reads free (get_or own p kind.Bool) (told p) next h.1 (stand p (All-head P p [] s) h.0)

  test_kinds : (t : Proposition) → All P (proposition_ports t) → ReadsPorts own t → ReadsKinds free (substituted_test told t)
  test_kinds (form.TruthAt p next) s h =
      truth_reads free (get_or own p kind.Bool) (told p) next h.1 (stand p (All-head P p [] s) h.0)
  test_kinds (form.Equals a b) s h =
      (number_kinds a (all_left P (number_ports a) (number_ports b) s) h.0, number_kinds b (all_right P (number_ports a) (number_ports b) s) h.1)
  test_kinds (form.AtMost a b) s h =
      (number_kinds a (all_left P (number_ports a) (number_ports b) s) h.0, number_kinds b (all_right P (number_ports a) (number_ports b) s) h.1)
  test_kinds (form.SameName a b) s h =
      (choice_kinds a (all_left P (choice_ports a) (choice_ports b) s) h.0, choice_kinds b (all_right P (choice_ports a) (choice_ports b) s) h.1)

  left : (f g : Ltl) → All P (formula_ports f ++ formula_ports g) → All P (formula_ports f)
  left f g s = all_left P (formula_ports f) (formula_ports g) s

  right : (f g : Ltl) → All P (formula_ports f ++ formula_ports g) → All P (formula_ports g)
  right f g s = all_right P (formula_ports f) (formula_ports g) s

  pub formula_kinds : (f : Ltl) → All P (formula_ports f) → ReadsKinds own f → ReadsKinds free (substituted told f)
  formula_kinds form.True s h = tt
  formula_kinds form.False s h = tt
  formula_kinds (form.Atomic a) s h = test_kinds a s h
  formula_kinds (form.Not f) s h = formula_kinds f s h
  formula_kinds (form.And f g) s h = (formula_kinds f (left f g s) h.0, formula_kinds g (right f g s) h.1)
  formula_kinds (form.Or f g) s h = (formula_kinds f (left f g s) h.0, formula_kinds g (right f g s) h.1)
  formula_kinds (form.Implies f g) s h = (formula_kinds f (left f g s) h.0, formula_kinds g (right f g s) h.1)
  formula_kinds (form.Iff f g) s h = (formula_kinds f (left f g s) h.0, formula_kinds g (right f g s) h.1)
  formula_kinds (form.Then f) s h = formula_kinds f s h
  formula_kinds (form.Until f g) s h = (formula_kinds f (left f g s) h.0, formula_kinds g (right f g s) h.1)
  formula_kinds (form.Releases f g) s h = (formula_kinds f (left f g s) h.0, formula_kinds g (right f g s) h.1)
  formula_kinds (form.Future f) s h = formula_kinds f s h
  formula_kinds (form.Always f) s h = formula_kinds f s h
  formula_kinds (form.Never f) s h = formula_kinds f s h
