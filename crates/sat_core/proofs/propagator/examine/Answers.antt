use Rattle.std.proofs.Common.{arith, subst, refl, length, List, Bool, Some}
use Rattle.cnf.specs.declared.lit.Lit.{Lit}
use Rattle.clause_links.specs.WatchLists.{clause_lits}
use Rattle.sat_core.specs.Search.{ValueIs}
use Rattle.sat_core.specs.Learning.{OthersFalse}
use Rattle.sat_core.proofs.Propagating.{own_within, all_false_by}
use Rattle.sat_core.proofs.WatchLaws.{both_back}
use Rattle.sat_core.proofs.propagator.examine.Goals as goal

pub value-requires-clause-var : goal.value-requires-clause-var
value-requires-clause-var g c =
    let other = c.other_watch-other.result in
    omega (
      arith,
      own_within c.args.links.now c.args.clause other c.args.watch c.requires.exact
          (both_back c.args.links.now c.args.clause c.args.watch other c.other_watch-other.ensures),
      c.requires.vars,
    )

pub returns-in-None-replacement-clause-examined : goal.returns-in-None-replacement-clause-examined
returns-in-None-replacement-clause-examined g c =
    let steps = c.args.trail.now.steps.items in
    let other = c.other_watch-other.result in
    all_false_by steps (clause_lits c.args.links.now c.args.clause) other
    (subst (λ (b : Bool). ValueIs steps c.args.trail.now.places.items other (Some b)) c.in-Some-false.field-0-test c.in-Some-false.ensures)
    (subst (λ (l : List Lit). OthersFalse steps (length steps) l other) c.lits.ensures.lits (c.in-None-replacement.ensures.none refl))

pub returns-in-None-replacement-2-clause-examined : goal.returns-in-None-replacement-2-clause-examined
returns-in-None-replacement-2-clause-examined g c =
    let steps = c.args.trail.now.steps.items in
    let other = c.other_watch-other.result in (
      c.other_watch-other.ensures,
      subst (λ (l : List Lit). OthersFalse steps (length steps) l other) c.lits-in-None.ensures.lits
          (c.in-None-replacement-2.ensures.none refl),
      c.in-None.ensures,
    )
