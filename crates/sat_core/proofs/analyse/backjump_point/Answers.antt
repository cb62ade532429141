use Rattle.std.proofs.Common.{◌+◌, length, subst, sym, refl, ap, ◌∙◌, arith}
use Rattle.cnf.specs.declared.lit.Lit.{Lit}
use Rattle.cnf.specs.Clauses.{opposite}
use Rattle.sat_core.specs.declared.trail.Step.{Step}
use Rattle.sat_core.specs.Learning.{OthersFalse}
use Rattle.sat_core.proofs.Analysis.{AllFalse-later, turning_some, others_before}
use Rattle.sat_core.proofs.analyse.backjump_point.Goals as goal

pub others_end-end-requires-clause-all : goal.others_end-end-requires-clause-all
others_end-end-requires-clause-all c =
    AllFalse-later c.args.trail.now.steps.items (c.args.at + 1) (length c.args.trail.now.steps.items) c.args.lits.now
    (omega (arith, c.requires.at)) c.requires.all

pub returns-clause-some : goal.returns-clause-some
returns-clause-some c =
    let e = c.negated-lit.ensures ∙ ap (λ (s : Step). opposite s.lit) c.step.ensures in
    turning_some c.args.trail.now.steps.items c.args.trail.now.places.items c.args.lits.now c.args.at c.others_end-end.result c.negated-lit.result
    c.opening.result e c.requires.trail c.requires.at (c.if-not-has.ensures.0 refl) c.others_end-end.ensures.covers c.opening.ensures.some

pub returns-clause-none : goal.returns-clause-none
returns-clause-none c = λ none has.
    let steps = c.args.trail.now.steps.items in
    let e = c.negated-lit.ensures ∙ ap (λ (s : Step). opposite s.lit) c.step.ensures in
    let o = subst (λ (l : Lit). OthersFalse steps c.args.at c.args.lits.now l) (sym e) (others_before steps c.args.at c.args.lits.now c.requires.all) in
    let le = c.others_end-end.ensures.least c.args.at (omega (arith, c.requires.at)) o in
    c.opening.ensures.none none c.args.at le (omega arith)
