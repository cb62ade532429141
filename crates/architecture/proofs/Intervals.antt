-- A typed expression has values of its interval, or names among its names, where the ports have values of their types.
use Rattle.std.proofs.Common.{◌≡◌, ℕ, zero, suc, ◌<◌, ℤ, pos, ◌+ℤ◌, ◌-ℤ◌, neg_ℤ, ◌≤ℤ◌, int_le, Bool, true, false, ◌&&◌, List, [], ◌∷◌, length, get_or, Option}
use Rattle.std.proofs.Common.{Some, None, refl, subst, arith}
use Rattle.std.proofs.lemmas.Bool.{false≢true}
use Rattle.std.proofs.lemmas.Int.{ints}
use Rattle.std.proofs.lemmas.Map.Views.{Contains-from_any}
use Rattle.std.proofs.lemmas.Slice.Eq.{bytes_eq-Decides}
use Rattle.std.specs.Prelude.{Contains}
use Rattle.std.specs.Int.Signed.{≤ℤ_refl}
use Rattle.std.specs.List.{list_all}
use Rattle.oss_syntax.specs.Expressions.{Tree, Name, Dotted, Numeral, Truth, Brackets, OfPort, Prefix, Binary}
use Rattle.oss_syntax.specs.declared.expression.BinaryWord.{BinaryWord}
use Rattle.oss_syntax.specs.declared.expression.BinaryWord.TheVariants as binary
use Rattle.oss_syntax.specs.declared.expression.PortWord.{PortWord}
use Rattle.oss_syntax.specs.declared.expression.PortWord.TheVariants as port_word
use Rattle.oss_syntax.specs.declared.expression.PrefixWord.{PrefixWord}
use Rattle.oss_syntax.specs.declared.expression.PrefixWord.TheVariants as prefix
use Rattle.port_types.specs.Intervals.{IsIn}
use Rattle.port_types.specs.Types.{IsOfType}
use Rattle.port_types.specs.declared.interval.Interval.{Interval}
use Rattle.port_types.specs.declared.types.PortType.{PortType}
use Rattle.port_types.specs.declared.types.PortType.TheVariants as kind
use Rattle.port_types.specs.declared.types.Value.{Value}
use Rattle.port_types.specs.declared.types.Value.TheVariants as value
use Rattle.typed_ltl.specs.Traces.{Assignment}
use Rattle.typed_ltl.specs.Truth.{as_number, as_name, read_value, number_value, choice_name}
use Rattle.spec_model.specs.Meanings.{SourceMeaning, TruthSource, NumberSource, ChoiceSource, source_meaning}
use Rattle.spec_model.specs.declared.wire.Source.{Source}
use Rattle.spec_model.specs.declared.wire.Source.TheVariants as source
use Rattle.spec_types.specs.Typing.{PortReading, ExpressionReading, Typed, Formula, Term, Pick, number_in, values_in, sums, differences, port_as, read_name}
use Rattle.spec_types.specs.Typing.{of_port, of_wanted, typed_prefix, typed_binary, typed_of}
use Rattle.spec_types.specs.TypeFaults.{is_name_of, are_names_of, is_within, admits_source}
use Rattle.spec_types.specs.TreeComponents.{typed_source}
use Rattle.spec_values.specs.FreeTypes.{SourceHasType}
use Rattle.architecture.proofs.Readings.{MeansOnly}

both : (a b : Bool) → (a && b) ≡ true → (a ≡ true) × (b ≡ true)
both true b e = (refl, e)
both false b e = absurd (false≢true e)

-- sums and differences

in_sums : (x y : ℤ) (a b : Interval) → IsIn x a → IsIn y b → IsIn (x +ℤ y) (sums a b)
in_sums x y a b h k = (omega (arith, ints, h.0, k.0), omega (arith, ints, h.1, k.1))

in_differences : (x y : ℤ) (a b : Interval) → IsIn x a → IsIn y b → IsIn (x -ℤ y) (differences a b)
in_differences x y a b h k = (omega (arith, ints, h.0, k.1), omega (arith, ints, h.1, k.0))

in_opposites : (x : ℤ) (a : Interval) → IsIn x a → IsIn (neg_ℤ x) (differences (record { lo = pos 0; hi = pos 0 }) a)
in_opposites x a h = (omega (arith, ints, h.1), omega (arith, ints, h.0))

in_one : (z : ℤ) → IsIn z (record { lo = z; hi = z })
in_one z = (≤ℤ_refl z, ≤ℤ_refl z)

in_range : (lo hi z : ℤ) (values : Interval) → IsIn z values → is_within lo hi values ≡ true → (lo ≤ℤ z) × (z ≤ℤ hi)
in_range lo hi z values h e =
    let ends = both (int_le lo values.lo) (int_le values.hi hi) e in
    (omega (arith, ints, ends.0, h.0), omega (arith, ints, ends.1, h.1))

-- names

every : (test : List ℕ → Bool) (names : List (List ℕ)) → list_all test names ≡ true → (k : ℕ) (d : List ℕ)
    → k < length names → test (get_or names k d) ≡ true
every test [] e k d l = absurd (let h : k < 0 = l in omega (arith, h))
every test (name ∷ names) e zero d l = (both (test name) (list_all test names) e).0
every test (name ∷ names) e (suc k) d l =
    every test names (both (test name) (list_all test names) e).1 k d (let h : suc k < suc (length names) = l in omega (arith, h))

in_names : (others names : List (List ℕ)) (name : List ℕ) → are_names_of others names ≡ true → Contains names name
    → Contains others name
in_names others names name e h =
    Contains-from_any (λ x y same. (bytes_eq-Decides x y).0 same) name others
    (subst (λ (text : List ℕ). is_name_of others text ≡ true) h.2 (every (is_name_of others) names e h.0 name h.1))

-- values, by type

number_of_range : (lo hi : ℤ) (v : Value) → IsOfType (kind.Range lo hi) v → IsIn (as_number v)
    (record { lo = lo; hi = hi })
number_of_range lo hi (value.Bool b) h = absurd h
number_of_range lo hi (value.Int z) h = h
number_of_range lo hi (value.Name n) h = absurd h

name_of_enum : (names : List (List ℕ)) (v : Value) → IsOfType (kind.Enum names) v → Contains names (as_name v)
name_of_enum names (value.Bool b) h = absurd h
name_of_enum names (value.Int z) h = absurd h
name_of_enum names (value.Name n) h = h

module _ (free : Assignment) where
  -- the port has a value of its type
  abbrev pub HasOwnType : PortReading → Type 0
  HasOwnType p = IsOfType p.kind (free p.number)

  -- the expression has values of what it is typed by
  abbrev pub IsTyped : Typed → Type 0
  IsTyped (Formula f) = Unit {0}
  IsTyped (Term t values) = IsIn (number_value free free t) values
  IsTyped (Pick p names) = Contains names (choice_name free free p)

  read_here : (number : ℕ) (next : Bool) → free number ≡ read_value free free number next
  read_here number true = refl
  read_here number false = refl

  port_typed : (number : ℕ) (next : Bool) (type : PortType) → IsOfType type (free number)
      → IsTyped (port_as number next type)
  port_typed number next kind.Bool h = tt
  port_typed number next (kind.Range lo hi) h =
      number_of_range lo hi (read_value free free number next) (subst (IsOfType (kind.Range lo hi)) (read_here number next) h)
  port_typed number next (kind.Enum names) h =
      name_of_enum names (read_value free free number next) (subst (IsOfType (kind.Enum names)) (read_here number next) h)

  number_typed : (t : Typed) → IsTyped t → IsIn (number_value free free (number_in t)) (values_in t)
  number_typed (Formula f) h = in_one (pos 0)
  number_typed (Term t values) h = h
  number_typed (Pick p names) h = in_one (pos 0)

  name_typed : (text : List ℕ) (o : Option PortReading) → ((p : PortReading) → o ≡ Some p → HasOwnType p)
      → IsTyped (read_name text o)
  name_typed text None so = (0, omega arith, refl)
  name_typed text (Some p) so = port_typed p.number false p.kind (so p refl)

  of_port_typed : (word : PortWord) (p : PortReading) → HasOwnType p → IsTyped (of_port word p)
  of_port_typed port_word.Next p h = port_typed p.number true p.kind h
  of_port_typed port_word.Change p h = tt
  of_port_typed port_word.Rise p h = tt
  of_port_typed port_word.Fall p h = tt

  wanted_typed : (word : PortWord) (o : Option PortReading) → ((p : PortReading) → o ≡ Some p → HasOwnType p)
      → IsTyped (of_wanted word o)
  wanted_typed word None so = tt
  wanted_typed word (Some p) so = of_port_typed word p (so p refl)

  before_typed : (word : PrefixWord) (a : Typed) → IsTyped a → IsTyped (typed_prefix word a)
  before_typed prefix.Minus a h = in_opposites (number_value free free (number_in a)) (values_in a) (number_typed a h)
  before_typed prefix.Not a h = tt
  before_typed prefix.Always a h = tt
  before_typed prefix.Never a h = tt
  before_typed prefix.Future a h = tt
  before_typed prefix.Then a h = tt

  between_typed : (word : BinaryWord) (a b : Typed) → IsTyped a → IsTyped b → IsTyped (typed_binary word a b)
  between_typed binary.Plus a b h k =
      in_sums (number_value free free (number_in a)) (number_value free free (number_in b)) (values_in a) (values_in b) (number_typed a h) (number_typed b k)
  between_typed binary.Minus a b h k = in_differences (number_value free free (number_in a)) (number_value free free (number_in b)) (values_in a) (values_in b)
      (number_typed a h) (number_typed b k)
  between_typed binary.Equal a b h k = tt
  between_typed binary.NotEqual a b h k = tt
  between_typed binary.Less a b h k = tt
  between_typed binary.AtMost a b h k = tt
  between_typed binary.Greater a b h k = tt
  between_typed binary.AtLeast a b h k = tt
  between_typed binary.Until a b h k = tt
  between_typed binary.Releases a b h k = tt
  between_typed binary.And a b h k = tt
  between_typed binary.Or a b h k = tt
  between_typed binary.Implies a b h k = tt
  between_typed binary.Iff a b h k = tt

  pub typed_has : (reading : ExpressionReading) → MeansOnly HasOwnType reading → (e : Tree) → IsTyped (typed_of reading e)
  typed_has reading means (Name name) = name_typed name.text (reading.bare name.text) (means.bare name.text)
  typed_has reading means (Dotted sub port) =
      name_typed port.text (reading.dotted sub.text port.text) (means.dotted sub.text port.text)
  typed_has reading means (Numeral value span) = in_one (pos value)
  typed_has reading means (Truth value span) = tt
  typed_has reading means (Brackets inside span) = typed_has reading means inside
  typed_has reading means (OfPort word port span) = wanted_typed word (reading.wanted port.text) (means.wanted port.text)
  typed_has reading means (Prefix word operand span) =
      before_typed word (typed_of reading operand) (typed_has reading means operand)
  typed_has reading means (Binary word left right span) =
      between_typed word (typed_of reading left) (typed_of reading right) (typed_has reading means left)
      (typed_has reading means right)

  -- what a type admits has values of the type

  abbrev pub MeaningHasType : PortType → SourceMeaning → Type 0
  MeaningHasType type (TruthSource f) = (truth : Bool) → IsOfType type (value.Bool truth)
  MeaningHasType type (NumberSource t) = IsOfType type (value.Int (number_value free free t))
  MeaningHasType type (ChoiceSource p) = IsOfType type (value.Name (choice_name free free p))

  pub admitted_has : (type : PortType) (t : Typed) → IsTyped t → admits_source type t ≡ true
      → MeaningHasType type (typed_source t)
  admitted_has kind.Bool (Formula f) h e = λ truth. tt
  admitted_has kind.Bool (Term t values) h e = absurd (false≢true e)
  admitted_has kind.Bool (Pick p names) h e = absurd (false≢true e)
  admitted_has (kind.Range lo hi) (Formula f) h e = absurd (false≢true e)
  admitted_has (kind.Range lo hi) (Term t values) h e = in_range lo hi (number_value free free t) values h e
  admitted_has (kind.Range lo hi) (Pick p names) h e = absurd (false≢true e)
  admitted_has (kind.Enum others) (Formula f) h e = absurd (false≢true e)
  admitted_has (kind.Enum others) (Term t values) h e = absurd (false≢true e)
  admitted_has (kind.Enum others) (Pick p names) h e = in_names others names (choice_name free free p) e h

  pub source_has : (type : PortType) (s : Source) → MeaningHasType type (source_meaning s) → SourceHasType type free s
  source_has type (source.Truth f) h = h
  source_has type (source.Number t) h = h
  source_has type (source.Choice p) h = h
