-- Terms, picks, atoms, formulas, contracts and connections are made again from what they mean, so those of one
-- meaning are equal.

use Rattle.std.proofs.Common.{◌≡◌, ℕ, ap, sym, subst, refl, ◌∙◌}
use Rattle.typed_ltl.specs.declared.term.Term.{Term}
use Rattle.typed_ltl.specs.declared.term.Term.TheOpen.{Term-F}
use Rattle.typed_ltl.specs.declared.term.Term.TheViews.{roll-Term}
use Rattle.typed_ltl.specs.declared.term.Term.TheFolds.{fold-roll-Term, map-Term, ind-Term}
use Rattle.typed_ltl.specs.declared.term.Pick.{Pick}
use Rattle.typed_ltl.specs.declared.term.Pick.TheVariants as pick
use Rattle.typed_ltl.specs.declared.atom.Atom.{Atom}
use Rattle.typed_ltl.specs.declared.atom.Atom.TheVariants as atom
use Rattle.typed_ltl.specs.declared.formula.Formula.{Formula}
use Rattle.typed_ltl.specs.declared.formula.Formula.TheOpen.{Formula-F}
use Rattle.typed_ltl.specs.declared.formula.Formula.TheViews.{roll-Formula}
use Rattle.typed_ltl.specs.declared.formula.Formula.TheFolds.{fold-roll-Formula, map-Formula, ind-Formula}
use Rattle.typed_ltl.specs.Formulas.{Number, number_node, number_of, Choice, choice_of, Proposition, proposition_of, Ltl, ltl_node, meaning}
use Rattle.typed_ltl.specs.Formulas as form
use Rattle.spec_model.specs.declared.contract.Contract.{Contract}
use Rattle.spec_model.specs.declared.wire.Source.{Source}
use Rattle.spec_model.specs.declared.wire.Source.TheVariants as source
use Rattle.spec_model.specs.declared.wire.Wire.{Wire}
use Rattle.spec_model.specs.Meanings.{ContractMeaning, contract_meaning, SourceMeaning, TruthSource, NumberSource, ChoiceSource, source_meaning}
use Rattle.spec_model.specs.Meanings.{WireMeaning, wire_meaning}

-- terms

abbrev term_from : Number → Term
term_from (form.Literal z) = roll-Term (Term-F.Const z)
term_from (form.NumberAt p next) = roll-Term (Term-F.Port (record { 0 = p }) next)
term_from (form.Sum a b) = roll-Term (Term-F.Plus (term_from a) (term_from b))
term_from (form.Difference a b) = roll-Term (Term-F.Minus (term_from a) (term_from b))
term_from (form.Opposite a) = roll-Term (Term-F.Negate (term_from a))

abbrev IsTermAgain : Term → Type 0
IsTermAgain t = term_from (number_of t) ≡ t

term_again_node : (y : Term-F ((t : Term) × IsTermAgain t))
    → IsTermAgain (roll-Term (map-Term ((t : Term) × IsTermAgain t) Term (λ t. t.0) y))
term_again_node (Term-F.Const z) = ap term_from (fold-roll-Term Number number_node (Term-F.Const z))
term_again_node (Term-F.Port p next) = ap term_from (fold-roll-Term Number number_node (Term-F.Port p next))
term_again_node (Term-F.Plus a b) =
    ap term_from (fold-roll-Term Number number_node (Term-F.Plus a.0 b.0)) ∙ (λ j. roll-Term (Term-F.Plus (a.1 j) (b.1 j)))
term_again_node (Term-F.Minus a b) =
    ap term_from (fold-roll-Term Number number_node (Term-F.Minus a.0 b.0)) ∙ (λ j. roll-Term (Term-F.Minus (a.1 j) (b.1 j)))
term_again_node (Term-F.Negate a) =
    ap term_from (fold-roll-Term Number number_node (Term-F.Negate a.0)) ∙ (λ j. roll-Term (Term-F.Negate (a.1 j)))

term_again : (t : Term) → IsTermAgain t
term_again = ind-Term IsTermAgain (λ x y is. subst (λ z. IsTermAgain (roll-Term z)) is (term_again_node y))

-- picks and atoms

abbrev pick_from : Choice → Pick
pick_from (form.Named n) = pick.Name n
pick_from (form.NameAt p next) = pick.Port (record { 0 = p }) next

pick_again : (p : Pick) → pick_from (choice_of p) ≡ p
pick_again (pick.Name n) = refl
pick_again (pick.Port p next) = refl

abbrev atom_from : Proposition → Atom
atom_from (form.TruthAt p next) = atom.Port (record { 0 = p }) next
atom_from (form.Equals a b) = atom.Equal (term_from a) (term_from b)
atom_from (form.AtMost a b) = atom.AtMost (term_from a) (term_from b)
atom_from (form.SameName a b) = atom.Same (pick_from a) (pick_from b)

atom_again : (a : Atom) → atom_from (proposition_of a) ≡ a
atom_again (atom.Port p next) = refl
atom_again (atom.Equal a b) = λ j. atom.Equal (term_again a j) (term_again b j)
atom_again (atom.AtMost a b) = λ j. atom.AtMost (term_again a j) (term_again b j)
atom_again (atom.Same a b) = λ j. atom.Same (pick_again a j) (pick_again b j)

-- formulas

abbrev formula_from : Ltl → Formula
formula_from form.True = roll-Formula Formula-F.True
formula_from form.False = roll-Formula Formula-F.False
formula_from (form.Atomic a) = roll-Formula (Formula-F.Atom (atom_from a))
formula_from (form.Not f) = roll-Formula (Formula-F.Not (formula_from f))
formula_from (form.And f g) = roll-Formula (Formula-F.And (formula_from f) (formula_from g))
formula_from (form.Or f g) = roll-Formula (Formula-F.Or (formula_from f) (formula_from g))
formula_from (form.Implies f g) = roll-Formula (Formula-F.Implies (formula_from f) (formula_from g))
formula_from (form.Iff f g) = roll-Formula (Formula-F.Iff (formula_from f) (formula_from g))
formula_from (form.Then f) = roll-Formula (Formula-F.Then (formula_from f))
formula_from (form.Until f g) = roll-Formula (Formula-F.Until (formula_from f) (formula_from g))
formula_from (form.Releases f g) = roll-Formula (Formula-F.Releases (formula_from f) (formula_from g))
formula_from (form.Future f) = roll-Formula (Formula-F.Future (formula_from f))
formula_from (form.Always f) = roll-Formula (Formula-F.Always (formula_from f))
formula_from (form.Never f) = roll-Formula (Formula-F.Never (formula_from f))

abbrev IsFormulaAgain : Formula → Type 0
IsFormulaAgain f = formula_from (meaning f) ≡ f

formula_again_node : (y : Formula-F ((f : Formula) × IsFormulaAgain f))
    → IsFormulaAgain (roll-Formula (map-Formula ((f : Formula) × IsFormulaAgain f) Formula (λ f. f.0) y))
formula_again_node Formula-F.True = ap formula_from (fold-roll-Formula Ltl ltl_node Formula-F.True)
formula_again_node Formula-F.False = ap formula_from (fold-roll-Formula Ltl ltl_node Formula-F.False)
formula_again_node (Formula-F.Atom a) =
    ap formula_from (fold-roll-Formula Ltl ltl_node (Formula-F.Atom a)) ∙ (λ j. roll-Formula (Formula-F.Atom (atom_again a j)))
formula_again_node (Formula-F.Not f) =
    ap formula_from (fold-roll-Formula Ltl ltl_node (Formula-F.Not f.0)) ∙ (λ j. roll-Formula (Formula-F.Not (f.1 j)))
formula_again_node (Formula-F.And f g) =
    ap formula_from (fold-roll-Formula Ltl ltl_node (Formula-F.And f.0 g.0)) ∙ (λ j. roll-Formula (Formula-F.And (f.1 j) (g.1 j)))
formula_again_node (Formula-F.Or f g) =
    ap formula_from (fold-roll-Formula Ltl ltl_node (Formula-F.Or f.0 g.0)) ∙ (λ j. roll-Formula (Formula-F.Or (f.1 j) (g.1 j)))
formula_again_node (Formula-F.Implies f g) =
    ap formula_from (fold-roll-Formula Ltl ltl_node (Formula-F.Implies f.0 g.0)) ∙ (λ j. roll-Formula (Formula-F.Implies (f.1 j) (g.1 j)))
formula_again_node (Formula-F.Iff f g) =
    ap formula_from (fold-roll-Formula Ltl ltl_node (Formula-F.Iff f.0 g.0)) ∙ (λ j. roll-Formula (Formula-F.Iff (f.1 j) (g.1 j)))
formula_again_node (Formula-F.Then f) =
    ap formula_from (fold-roll-Formula Ltl ltl_node (Formula-F.Then f.0)) ∙ (λ j. roll-Formula (Formula-F.Then (f.1 j)))
formula_again_node (Formula-F.Until f g) =
    ap formula_from (fold-roll-Formula Ltl ltl_node (Formula-F.Until f.0 g.0)) ∙ (λ j. roll-Formula (Formula-F.Until (f.1 j) (g.1 j)))
formula_again_node (Formula-F.Releases f g) =
    ap formula_from (fold-roll-Formula Ltl ltl_node (Formula-F.Releases f.0 g.0)) ∙ (λ j. roll-Formula (Formula-F.Releases (f.1 j) (g.1 j)))
formula_again_node (Formula-F.Future f) =
    ap formula_from (fold-roll-Formula Ltl ltl_node (Formula-F.Future f.0)) ∙ (λ j. roll-Formula (Formula-F.Future (f.1 j)))
formula_again_node (Formula-F.Always f) =
    ap formula_from (fold-roll-Formula Ltl ltl_node (Formula-F.Always f.0)) ∙ (λ j. roll-Formula (Formula-F.Always (f.1 j)))
formula_again_node (Formula-F.Never f) =
    ap formula_from (fold-roll-Formula Ltl ltl_node (Formula-F.Never f.0)) ∙ (λ j. roll-Formula (Formula-F.Never (f.1 j)))

formula_again : (f : Formula) → IsFormulaAgain f
formula_again = ind-Formula IsFormulaAgain (λ x y is. subst (λ z. IsFormulaAgain (roll-Formula z)) is (formula_again_node y))

-- contracts and connections

abbrev pub contract_from : ContractMeaning → Contract
contract_from k = record {
  name = k.name;
  assume = formula_from k.assume;
  assume_uses = k.assume_uses;
  guarantee = formula_from k.guarantee;
  guarantee_uses = k.guarantee_uses;
}

pub contract_again : (k : Contract) → contract_from (contract_meaning k) ≡ k
contract_again k = λ j. record {
  name = k.name;
  assume = formula_again k.assume j;
  assume_uses = k.assume_uses;
  guarantee = formula_again k.guarantee j;
  guarantee_uses = k.guarantee_uses;
}

pub contracts_are_distinct : (a b : Contract) → contract_meaning a ≡ contract_meaning b → a ≡ b
contracts_are_distinct a b same = sym (contract_again a) ∙ (ap contract_from same ∙ contract_again b)

abbrev source_from : SourceMeaning → Source
source_from (TruthSource f) = source.Truth (formula_from f)
source_from (NumberSource t) = source.Number (term_from t)
source_from (ChoiceSource p) = source.Choice (pick_from p)

source_again : (s : Source) → source_from (source_meaning s) ≡ s
source_again (source.Truth f) = ap source.Truth (formula_again f)
source_again (source.Number t) = ap source.Number (term_again t)
source_again (source.Choice p) = ap source.Choice (pick_again p)

abbrev pub wire_from : WireMeaning → Wire
wire_from w = record { target = w.target; source = source_from w.source; uses = w.uses }

pub wire_again : (w : Wire) → wire_from (wire_meaning w) ≡ w
wire_again w = λ j. record { target = w.target; source = source_again w.source j; uses = w.uses }

pub wires_are_distinct : (a b : Wire) → wire_meaning a ≡ wire_meaning b → a ≡ b
wires_are_distinct a b same = sym (wire_again a) ∙ (ap wire_from same ∙ wire_again b)
