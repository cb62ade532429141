-- What terms, picks, atoms and formulas mean: plain inductive types, over which truth is defined by
-- cases. A port is a number, and a truth value tells whether it is read in the next valuation.
use Rattle.std.specs.Prelude.{ℕ, ℤ, Bool, List}
use Rattle.typed_ltl.specs.declared.term.Term.{Term, fold-Term}
use Rattle.typed_ltl.specs.declared.term.Term.TheOpen.{Term-F}
use Rattle.typed_ltl.specs.declared.term.Pick.{Pick}
use Rattle.typed_ltl.specs.declared.term.Pick.TheVariants as pick
use Rattle.typed_ltl.specs.declared.atom.Atom.{Atom}
use Rattle.typed_ltl.specs.declared.atom.Atom.TheVariants as atom
use Rattle.typed_ltl.specs.declared.formula.Formula.{Formula, fold-Formula}
use Rattle.typed_ltl.specs.declared.formula.Formula.TheOpen.{Formula-F}

-- a whole number that depends on a valuation and the next one
pub data Number : Type 0 where
  Literal : ℤ → Number
  NumberAt : ℕ → Bool → Number
  Sum : Number → Number → Number
  Difference : Number → Number → Number
  Opposite : Number → Number

abbrev pub number_node : Term-F Number → Number
number_node (Term-F.Const z) = Literal z
number_node (Term-F.Port p next) = NumberAt p.0 next
number_node (Term-F.Plus a b) = Sum a b
number_node (Term-F.Minus a b) = Difference a b
number_node (Term-F.Negate a) = Opposite a

abbrev pub number_of : Term → Number
number_of t = fold-Term Number number_node t

-- a name that depends on a valuation and the next one
pub data Choice : Type 0 where
  Named : List ℕ → Choice
  NameAt : ℕ → Bool → Choice

abbrev pub choice_of : Pick → Choice
choice_of (pick.Name n) = Named n
choice_of (pick.Port p next) = NameAt p.0 next

-- a fact about a valuation and the next one
pub data Proposition : Type 0 where
  TruthAt : ℕ → Bool → Proposition
  Equals : Number → Number → Proposition
  AtMost : Number → Number → Proposition
  SameName : Choice → Choice → Proposition

abbrev pub proposition_of : Atom → Proposition
proposition_of (atom.Port p next) = TruthAt p.0 next
proposition_of (atom.Equal a b) = Equals (number_of a) (number_of b)
proposition_of (atom.AtMost a b) = AtMost (number_of a) (number_of b)
proposition_of (atom.Same a b) = SameName (choice_of a) (choice_of b)

-- a formula of linear temporal logic (Pnueli, The Temporal Logic of Programs, 1977; the further forms
-- are those of Manna and Pnueli, The Temporal Logic of Reactive and Concurrent Systems, 1992)
pub data Ltl : Type 0 where
  True : Ltl
  False : Ltl
  Atomic : Proposition → Ltl
  Not : Ltl → Ltl
  And : Ltl → Ltl → Ltl
  Or : Ltl → Ltl → Ltl
  Implies : Ltl → Ltl → Ltl
  Iff : Ltl → Ltl → Ltl
  Then : Ltl → Ltl
  Until : Ltl → Ltl → Ltl
  Releases : Ltl → Ltl → Ltl
  Future : Ltl → Ltl
  Always : Ltl → Ltl
  Never : Ltl → Ltl

abbrev pub ltl_node : Formula-F Ltl → Ltl
ltl_node Formula-F.True = True
ltl_node Formula-F.False = False
ltl_node (Formula-F.Atom a) = Atomic (proposition_of a)
ltl_node (Formula-F.Not f) = Not f
ltl_node (Formula-F.And f g) = And f g
ltl_node (Formula-F.Or f g) = Or f g
ltl_node (Formula-F.Implies f g) = Implies f g
ltl_node (Formula-F.Iff f g) = Iff f g
ltl_node (Formula-F.Then f) = Then f
ltl_node (Formula-F.Until f g) = Until f g
ltl_node (Formula-F.Releases f g) = Releases f g
ltl_node (Formula-F.Future f) = Future f
ltl_node (Formula-F.Always f) = Always f
ltl_node (Formula-F.Never f) = Never f

abbrev pub meaning : Formula → Ltl
meaning f = fold-Formula Ltl ltl_node f
