use Rattle.std.proofs.Common.{◌≡◌, ◌∙◌, sym, ap, subst}
use Rattle.std.specs.Prelude.{ℤ}
use Rattle.typed_ltl.specs.declared.term.Term.TheFolds.{fold-roll-Term}
use Rattle.typed_ltl.specs.declared.term.Term.TheOpen.{Term-F}
use Rattle.typed_ltl.specs.declared.term.Term.TheVariants as variant
use Rattle.typed_ltl.specs.declared.term.Term.TheVariants.{rolls-Const}
use Rattle.typed_ltl.specs.Formulas as form
use Rattle.typed_ltl.specs.Formulas.{Number, number_node, number_of}
use Rattle.state_coding.specs.Reads.{ReadsNumbers}
use Rattle.formula_vectors.proofs.coded_states.number.Goals as goal

Const_is : (z : ℤ) → number_of (variant.Const z) ≡ form.Literal z
Const_is z = ap number_of (sym (rolls-Const z)) ∙ fold-roll-Term Number number_node (Term-F.Const z)

pub returns : goal.returns
returns c = λ ports. subst (ReadsNumbers ports) (sym (Const_is _)) tt
