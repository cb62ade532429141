-- A typed expression reads ports of the kinds that it wants, where its names mean ports of the types that they are read
-- with, and `rise` and `fall` are of boolean ports alone.
use Rattle.std.proofs.Common.{◌≡◌, ℕ, ◌<◌, Bool, true, false, List, [], ◌++◌, length, Option, Some, None, refl, sym, subst}
use Rattle.std.specs.Prelude.{slice_index_or}
use Rattle.std.proofs.lemmas.Bool.{false≢true}
use Rattle.oss_syntax.specs.Expressions.{Tree, Name, Dotted, Numeral, Truth, Brackets, OfPort, Prefix, Binary}
use Rattle.oss_syntax.specs.declared.expression.BinaryWord.{BinaryWord}
use Rattle.oss_syntax.specs.declared.expression.BinaryWord.TheVariants as binary
use Rattle.oss_syntax.specs.declared.expression.PortWord.{PortWord}
use Rattle.oss_syntax.specs.declared.expression.PortWord.TheVariants as port_word
use Rattle.oss_syntax.specs.declared.expression.PrefixWord.{PrefixWord}
use Rattle.oss_syntax.specs.declared.expression.PrefixWord.TheVariants as prefix
use Rattle.oss_syntax.specs.declared.words.Word.{Word}
use Rattle.port_types.specs.declared.types.PortType.{PortType}
use Rattle.port_types.specs.declared.types.PortType.TheVariants as kind
use Rattle.state_coding.specs.Reads.{IsBoolean, IsRange, IsEnumeration, HasKind, ReadsNumbers, ReadsEnumeration}
use Rattle.spec_model.specs.Meanings.{SourceMeaning, TruthSource, NumberSource, ChoiceSource, source_meaning}
use Rattle.spec_model.specs.declared.wire.Source.{Source}
use Rattle.spec_model.specs.declared.wire.Source.TheVariants as source
use Rattle.spec_types.specs.Typing.{PortReading, ExpressionReading, Typed, Formula, Term, Pick, formula_in, number_in, port_as, read_port, read_name}
use Rattle.spec_types.specs.Typing.{equality, at_most, of_port, of_wanted, typed_prefix, typed_binary, truth_word, typed_of}
use Rattle.spec_types.specs.TypeFaults.{is_boolean, admits_port, admits_operand, admits_operands, mismatch_unless, port_mismatch, expression_faults}
use Rattle.spec_types.specs.TypeFaults.{admits_source}
use Rattle.spec_types.specs.TreeComponents.{typed_source}
use Rattle.architecture.proofs.Listing.{both_empty}
use Rattle.architecture.proofs.Readings.{MeansOnly}
use Rattle.coded_levels.specs.CodableTypes.{ReadsKinds, SourceReads}

-- a typed expression reads ports of the kinds that it wants
abbrev pub TypedReadsKinds : List PortType → Typed → Type 0
TypedReadsKinds ports (Formula f) = ReadsKinds ports f
TypedReadsKinds ports (Term t values) = ReadsNumbers ports t
TypedReadsKinds ports (Pick p names) = ReadsEnumeration ports p

-- the port of this number is there, with the type that it is read with
pub record HasReadType (ports : List PortType) (p : PortReading) : Type 0 where
  pub there : p.number < length ports
  pub is : slice_index_or ports p.number kind.Bool ≡ p.kind

boolean_kind : (k : PortType) → is_boolean k ≡ true → IsBoolean k
boolean_kind kind.Bool e = tt
boolean_kind (kind.Range lo hi) e = absurd (false≢true e)
boolean_kind (kind.Enum names) e = absurd (false≢true e)

no_mismatch : (b : Bool) (offset : ℕ) → mismatch_unless b offset ≡ [] → b ≡ true
no_mismatch true offset e = refl
no_mismatch false offset e = cc

module _ (ports : List PortType) where
  pub formula_kinds : (t : Typed) → TypedReadsKinds ports t → ReadsKinds ports (formula_in t)
  formula_kinds (Formula f) h = h
  formula_kinds (Term t values) h = tt
  formula_kinds (Pick p names) h = tt

  number_kinds : (t : Typed) → TypedReadsKinds ports t → ReadsNumbers ports (number_in t)
  number_kinds (Formula f) h = tt
  number_kinds (Term t values) h = h
  number_kinds (Pick p names) h = tt

  equality_kinds : (a b : Typed) → TypedReadsKinds ports a → TypedReadsKinds ports b → ReadsKinds ports (equality a b)
  equality_kinds (Formula f) (Formula g) h k = (h, k)
  equality_kinds (Formula f) (Term b others) h k = tt
  equality_kinds (Formula f) (Pick q others) h k = tt
  equality_kinds (Term a values) (Formula g) h k = tt
  equality_kinds (Term a values) (Term b others) h k = (h, k)
  equality_kinds (Term a values) (Pick q others) h k = tt
  equality_kinds (Pick p names) (Formula g) h k = tt
  equality_kinds (Pick p names) (Term b others) h k = tt
  equality_kinds (Pick p names) (Pick q others) h k = (h, k)

  at_most_kinds : (a b : Typed) → TypedReadsKinds ports a → TypedReadsKinds ports b → ReadsKinds ports (at_most a b)
  at_most_kinds a b h k = (number_kinds a h, number_kinds b k)

  -- ports

  kinds_as : (number : ℕ) (next : Bool) (type : PortType) → number < length ports
      → slice_index_or ports number kind.Bool ≡ type → TypedReadsKinds ports (port_as number next type)
  kinds_as number next kind.Bool l e = (l, subst IsBoolean (sym e) tt)
  kinds_as number next (kind.Range lo hi) l e = (l, subst IsRange (sym e) tt)
  kinds_as number next (kind.Enum names) l e = (l, subst IsEnumeration (sym e) tt)

  port_kinds : (next : Bool) (p : PortReading) → HasReadType ports p → TypedReadsKinds ports (read_port next p)
  port_kinds next p h = kinds_as p.number next p.kind h.there h.is

  boolean_port : (p : PortReading) → HasReadType ports p → is_boolean p.kind ≡ true → HasKind IsBoolean ports p.number
  boolean_port p h b = (h.there, subst IsBoolean (sym h.is) (boolean_kind p.kind b))

  of_port_kinds : (word : PortWord) (p : PortReading) → HasReadType ports p → admits_port word p.kind ≡ true
      → TypedReadsKinds ports (of_port word p)
  of_port_kinds port_word.Next p h e = port_kinds true p h
  of_port_kinds port_word.Change p h e =
      equality_kinds (read_port true p) (read_port false p) (port_kinds true p h) (port_kinds false p h)
  of_port_kinds port_word.Rise p h e = (boolean_port p h e, boolean_port p h e)
  of_port_kinds port_word.Fall p h e = (boolean_port p h e, boolean_port p h e)

  name_kinds : (text : List ℕ) (o : Option PortReading) → ((p : PortReading) → o ≡ Some p → HasReadType ports p)
      → TypedReadsKinds ports (read_name text o)
  name_kinds text None so = tt
  name_kinds text (Some p) so = port_kinds false p (so p refl)

  wanted_kinds : (word : PortWord) (name : Word) (o : Option PortReading)
      → ((p : PortReading) → o ≡ Some p → HasReadType ports p) → port_mismatch word name o ≡ []
      → TypedReadsKinds ports (of_wanted word o)
  wanted_kinds word name None so none = tt
  wanted_kinds word name (Some p) so none =
      of_port_kinds word p (so p refl) (no_mismatch (admits_port word p.kind) name.span.start none)

  -- operators

  before_kinds : (word : PrefixWord) (a : Typed) → TypedReadsKinds ports a → TypedReadsKinds ports (typed_prefix word a)
  before_kinds prefix.Minus a h = number_kinds a h
  before_kinds prefix.Not a h = formula_kinds a h
  before_kinds prefix.Always a h = formula_kinds a h
  before_kinds prefix.Never a h = formula_kinds a h
  before_kinds prefix.Future a h = formula_kinds a h
  before_kinds prefix.Then a h = formula_kinds a h

  between_kinds : (word : BinaryWord) (a b : Typed) → TypedReadsKinds ports a → TypedReadsKinds ports b
      → TypedReadsKinds ports (typed_binary word a b)
  between_kinds binary.Plus a b h k = (number_kinds a h, number_kinds b k)
  between_kinds binary.Minus a b h k = (number_kinds a h, number_kinds b k)
  between_kinds binary.Equal a b h k = equality_kinds a b h k
  between_kinds binary.NotEqual a b h k = equality_kinds a b h k
  between_kinds binary.Less a b h k = at_most_kinds b a k h
  between_kinds binary.AtMost a b h k = at_most_kinds a b h k
  between_kinds binary.Greater a b h k = at_most_kinds a b h k
  between_kinds binary.AtLeast a b h k = at_most_kinds b a k h
  between_kinds binary.Until a b h k = (formula_kinds a h, formula_kinds b k)
  between_kinds binary.Releases a b h k = (formula_kinds a h, formula_kinds b k)
  between_kinds binary.And a b h k = (formula_kinds a h, formula_kinds b k)
  between_kinds binary.Or a b h k = (formula_kinds a h, formula_kinds b k)
  between_kinds binary.Implies a b h k = (formula_kinds a h, formula_kinds b k)
  between_kinds binary.Iff a b h k = (formula_kinds a h, formula_kinds b k)

  truth_kinds : (value : Bool) → ReadsKinds ports (truth_word value)
  truth_kinds true = tt
  truth_kinds false = tt

  -- expressions

  pub typed_kinds : (reading : ExpressionReading) → MeansOnly (HasReadType ports) reading → (e : Tree)
      → expression_faults reading e ≡ [] → TypedReadsKinds ports (typed_of reading e)
  typed_kinds reading means (Name name) none = name_kinds name.text (reading.bare name.text) (means.bare name.text)
  typed_kinds reading means (Dotted sub port) none =
      name_kinds port.text (reading.dotted sub.text port.text) (means.dotted sub.text port.text)
  typed_kinds reading means (Numeral value span) none = tt
  typed_kinds reading means (Truth value span) none = truth_kinds value
  typed_kinds reading means (Brackets inside span) none = typed_kinds reading means inside none
  typed_kinds reading means (OfPort word port span) none =
      wanted_kinds word port (reading.wanted port.text) (means.wanted port.text) none
  typed_kinds reading means (Prefix word operand span) none =
      let parts = both_empty (expression_faults reading operand)
      (mismatch_unless (admits_operand word (typed_of reading operand)) span.start) none in
      before_kinds word (typed_of reading operand) (typed_kinds reading means operand parts.0)
  typed_kinds reading means (Binary word left right span) none =
      let parts = both_empty (expression_faults reading left) (expression_faults reading right
      ++ mismatch_unless (admits_operands word (typed_of reading left) (typed_of reading right)) span.start) none in
      let more = both_empty (expression_faults reading right)
      (mismatch_unless (admits_operands word (typed_of reading left) (typed_of reading right)) span.start) parts.1 in
      between_kinds word (typed_of reading left) (typed_of reading right) (typed_kinds reading means left parts.0)
      (typed_kinds reading means right more.0)

  -- sources, by the type of the target

  abbrev pub MeaningReadsKinds : PortType → SourceMeaning → Type 0
  MeaningReadsKinds kind.Bool (TruthSource f) = ReadsKinds ports f
  MeaningReadsKinds (kind.Range lo hi) (NumberSource t) = ReadsNumbers ports t
  MeaningReadsKinds (kind.Enum names) (ChoiceSource p) = ReadsEnumeration ports p
  MeaningReadsKinds _ _ = ⊥

  pub admitted_reads : (type : PortType) (t : Typed) → TypedReadsKinds ports t → admits_source type t ≡ true
      → MeaningReadsKinds type (typed_source t)
  admitted_reads kind.Bool (Formula f) h e = h
  admitted_reads kind.Bool (Term t values) h e = absurd (false≢true e)
  admitted_reads kind.Bool (Pick p names) h e = absurd (false≢true e)
  admitted_reads (kind.Range lo hi) (Formula f) h e = absurd (false≢true e)
  admitted_reads (kind.Range lo hi) (Term t values) h e = h
  admitted_reads (kind.Range lo hi) (Pick p names) h e = absurd (false≢true e)
  admitted_reads (kind.Enum others) (Formula f) h e = absurd (false≢true e)
  admitted_reads (kind.Enum others) (Term t values) h e = absurd (false≢true e)
  admitted_reads (kind.Enum others) (Pick p names) h e = h

  pub source_reads : (type : PortType) (s : Source) → MeaningReadsKinds type (source_meaning s)
      → SourceReads ports type s
  source_reads kind.Bool (source.Truth f) h = h
  source_reads kind.Bool (source.Number t) h = absurd h
  source_reads kind.Bool (source.Choice p) h = absurd h
  source_reads (kind.Range lo hi) (source.Truth f) h = absurd h
  source_reads (kind.Range lo hi) (source.Number t) h = h
  source_reads (kind.Range lo hi) (source.Choice p) h = absurd h
  source_reads (kind.Enum names) (source.Truth f) h = absurd h
  source_reads (kind.Enum names) (source.Number t) h = absurd h
  source_reads (kind.Enum names) (source.Choice p) h = h
