use Rattle.std.proofs.Common.{◌≡◌, [], List, length, subst, sym, ap, ◌∙◌, arith}
use Rattle.cnf.specs.declared.lit.Lit.{Lit}
use Rattle.sat_core.specs.declared.chain.Resolution.{Resolution}
use Rattle.sat_core.specs.Search.{lists_of, clause_of, IsDerivation, AllFalse}
use Rattle.sat_core.specs.Meeting.{HasMet, reached}
use Rattle.sat_core.proofs.Chains.{none_false, IsDerivation-start}
use Rattle.sat_core.proofs.Keeping.{IsDerivation-same}
use Rattle.sat_core.proofs.Meetings.{reached_start, reached_false}
use Rattle.sat_core.proofs.analyse.trace_back.Goals as goal

pub loop-at-init : goal.loop-at-init
loop-at-init c =
    let steps = c.args.trail.now.steps.items in
    let places = c.args.trail.now.places.items in
    let new = c.meet_all.new.set in
    let len = c.len-at.ensures in
    let k = lists_of c.args.database in
    let clause = clause_of k c.args.reason in
    let has = subst (λ (l : List Lit). HasMet steps c.args.set.now.steps.items l new.steps.items) c.lits.ensures c.meet_all.ensures.has in
    let same = reached_start steps places c.requires.trail c.args.set.now.steps.items new.steps.items clause c.requires.empty c.requires.all has in
    record {
      within = omega (arith, len);
      met = c.meet_all.ensures.met;
      derived =
          subst (λ m. IsDerivation k c.args.reason c.new.result.items (reached places m new.steps.items)) (sym len)
          (subst (λ (r : List Resolution). IsDerivation k c.args.reason r (reached places (length steps) new.steps.items)) (sym c.new.ensures.items)
          (IsDerivation-same k c.args.reason [] clause (reached places (length steps) new.steps.items) same
          (IsDerivation-start k c.args.reason c.requires.named)));
    }

pub returns-clause-derived : goal.returns-clause-derived
returns-clause-derived c =
    let steps = c.args.trail.now.steps.items in
    let places = c.args.trail.now.places.items in
    let k = lists_of c.args.database in
    let at : c.loop-at.at ≡ 0 = omega arith in
    let false' = subst (λ n. AllFalse steps n (reached places n c.loop-at.set.steps.items)) at
    (reached_false steps places c.requires.trail c.loop-at.at c.loop-at.set.steps.items c.loop-at.set.places.items c.loop-at.invariant.met) in
    let none = none_false steps (reached places 0 c.loop-at.set.steps.items) false' in
    subst (λ (l : List Lit). IsDerivation k c.loop-at.derivation.first c.loop-at.derivation.rest.items l)
    (ap (λ n. reached places n c.loop-at.set.steps.items) at ∙ none) c.loop-at.invariant.derived
