use Rattle.std.proofs.Common.{◌+◌, List, Contains, subst, sym, ◌∙◌, arith}
use Rattle.cnf.specs.declared.lit.Lit.{Lit}
use Rattle.cnf.specs.Clauses.{opposite}
use Rattle.sat_core.specs.Search.{AllFalse, lit_at}
use Rattle.sat_core.proofs.Trails.{opposite-opposite}
use Rattle.sat_core.proofs.Meetings.{reached_false, reached_to}
use Rattle.sat_core.proofs.analyse.turning_point.Goals as goal

pub backjump_point-requires-clause-all : goal.backjump_point-requires-clause-all
backjump_point-requires-clause-all c =
    let steps = c.args.trail.now.steps.items in
    subst (λ (l : List Lit). AllFalse steps (c.args.at + 1) l) (sym (c.as_slice.ensures.value ∙ c.in_ok-lits.ensures))
    (reached_false steps c.args.trail.now.places.items c.requires.trail (c.args.at + 1) c.args.set.now.steps.items c.args.set.now.places.items
    c.requires.met)

pub returns-clause-none : goal.returns-clause-none
returns-clause-none c = λ none met.
    let steps = c.args.trail.now.steps.items in
    let lit = lit_at steps c.args.at in
    c.backjump_point.ensures.none none
    (subst (λ (l : List Lit). Contains l (opposite lit)) (sym (c.as_slice.ensures.value ∙ c.in_ok-lits.ensures))
    (reached_to steps c.args.trail.now.places.items c.requires.trail (c.args.at + 1) c.args.set.now.steps.items (opposite lit)
    (omega (arith, c.requires.at)) met (c.args.at, omega arith, sym (opposite-opposite lit))))
