use Rattle.std.proofs.Common.{length, subst, refl, arith, List}
use Rattle.std.proofs.lemmas.List.{take_all}
use Rattle.cnf.specs.declared.lit.Lit.{Lit}
use Rattle.sat_core.specs.Learning.{OthersFalse}
use Rattle.sat_core.proofs.Members.{any_lit}
use Rattle.sat_core.proofs.Propagating.{others_next}
use Rattle.sat_core.proofs.propagator.replacement.Goals as goal

pub loop-lit-preserved : goal.loop-lit-preserved
loop-lit-preserved c =
    others_next c.args.trail.now.steps.items (length c.args.trail.now.steps.items) c.args.lits.now c.loop-lit.lit-index any_lit c.args.other
    (omega arith) (c.if-can_replace.ensures.no refl) c.loop-lit.invariant

pub returns-clause-none : goal.returns-clause-none
returns-clause-none c = λ e.
    let steps = c.args.trail.now.steps.items in
    subst (λ (l : List Lit). OthersFalse steps (length steps) l c.args.other) (take_all c.loop-lit.lit-index c.args.lits.now (omega arith))
    c.loop-lit.invariant
