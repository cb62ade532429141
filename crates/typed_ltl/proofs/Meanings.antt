use Rattle.std.proofs.Common.{◌≡◌, sym, ap, ◌∙◌}
use Rattle.typed_ltl.specs.declared.atom.Atom.{Atom}
use Rattle.typed_ltl.specs.declared.formula.Formula.TheFolds.{fold-roll-Formula}
use Rattle.typed_ltl.specs.declared.formula.Formula.TheOpen.{Formula-F}
use Rattle.typed_ltl.specs.declared.formula.Formula.TheVariants as variant
use Rattle.typed_ltl.specs.declared.formula.Formula.TheVariants.{rolls-Atom}
use Rattle.typed_ltl.specs.Formulas as form
use Rattle.typed_ltl.specs.Formulas.{Ltl, ltl_node, meaning, proposition_of}

pub meaning-Atom : (a : Atom) → meaning (variant.Atom a) ≡ form.Atomic (proposition_of a)
meaning-Atom a = ap meaning (sym (rolls-Atom a)) ∙ fold-roll-Formula Ltl ltl_node (Formula-F.Atom a)
