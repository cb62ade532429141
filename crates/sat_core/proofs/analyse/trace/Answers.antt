use Rattle.std.proofs.Common.{◌≡◌, ◌+◌, ◌-◌, [], List, length, subst, sym, ap, ◌∙◌, arith}
use Rattle.cnf.specs.declared.lit.Lit.{Lit}
use Rattle.cnf.specs.Clauses.{opposite}
use Rattle.sat_core.specs.declared.chain.Resolution.{Resolution}
use Rattle.sat_core.specs.declared.trail.Step.{Step}
use Rattle.sat_core.specs.Search.{clause_lists, lists_of, clause_of, IsDerivation, AllFalse, lit_at}
use Rattle.sat_core.specs.Learning.{Asserts}
use Rattle.sat_core.specs.Meeting.{HasMet, reached}
use Rattle.sat_core.proofs.Chains.{named_without, none_false, IsDerivation-start}
use Rattle.sat_core.proofs.Analysis.{AllFalse-later}
use Rattle.sat_core.proofs.Keeping.{IsDerivation-same}
use Rattle.sat_core.proofs.Meetings.{reached_start, reached_false, asserts_at}
use Rattle.sat_core.proofs.analyse.trace.Goals as goal

pub loop-at-init : goal.loop-at-init
loop-at-init c =
    let steps = c.args.trail.now.steps.items in
    let places = c.args.trail.now.places.items in
    let f = c.args.database in
    let new = c.meet_all-open.new.set in
    let len = c.len-at.ensures in
    let clause = clause_of (lists_of f) c.args.reason in
    let n = named_without f.added.now f.learnt.now f.assumed.now c.args.reason c.requires.falsified.kept c.requires.falsified.named in
    let k = clause_lists f.added.now f.learnt.now [] in
    let has = subst (λ (l : List Lit). HasMet steps c.args.set.now.steps.items l new.steps.items) c.lits.ensures c.meet_all-open.ensures.has in
    let same = reached_start steps places c.requires.trail c.args.set.now.steps.items new.steps.items clause c.requires.empty c.requires.falsified.all has in
    let start = subst (λ (l : List Lit). IsDerivation k c.args.reason [] l) n.1 (IsDerivation-start k c.args.reason n.0) in
    record {
      within = omega (arith, len);
      met = c.meet_all-open.ensures.met;
      derived =
          subst (λ m. IsDerivation k c.args.reason c.new.result.items (reached places m new.steps.items)) (sym len)
          (subst (λ (r : List Resolution). IsDerivation k c.args.reason r (reached places (length steps) new.steps.items)) (sym c.new.ensures.items)
          (IsDerivation-same k c.args.reason [] clause (reached places (length steps) new.steps.items) same start));
    }

pub returns-in-Some-clause-lesson : goal.returns-in-Some-clause-lesson
returns-in-Some-clause-lesson c =
    let steps = c.args.trail.now.steps.items in
    let places = c.args.trail.now.places.items in
    let at = c.loop-at.at in
    let set = c.loop-at.set in
    let lits = c.in_ok-lits.lits.items in
    let e = c.negated-lit.ensures ∙ ap (λ (s : Step). opposite s.lit) c.step.ensures in
    let back : at - 1 + 1 ≡ at = omega arith in
    let is : lits ≡ reached places (at - 1 + 1) set.steps.items = c.in_ok-lits.ensures in
    let asserts = asserts_at steps (reached places (at - 1 + 1) set.steps.items) (opposite (lit_at steps (at - 1))) c.in_ok-keep.field-0 c.in-Some.keep
    c.in-Some.is c.in_ok-keep.ensures.some in
    record {
      derived =
          subst (λ (l : List Lit). IsDerivation (clause_lists c.args.database.added.now c.args.database.learnt.now []) c.loop-at.derivation.first
          c.loop-at.derivation.rest.items l) (sym (is ∙ ap (λ n. reached places n set.steps.items) back)) c.loop-at.invariant.derived;
      all =
          subst (λ (l : List Lit). AllFalse steps (length steps) l) (sym is)
          (AllFalse-later steps (at - 1 + 1) (length steps) (reached places (at - 1 + 1) set.steps.items) (omega (arith, c.loop-at.invariant.within))
          (reached_false steps places c.requires.trail (at - 1 + 1) set.steps.items set.places.items c.loop-at.invariant.met));
      turns =
          subst (λ (l : Lit). Asserts steps lits l c.in-Some.keep) (sym e)
          (subst (λ (l : List Lit). Asserts steps l (opposite (lit_at steps (at - 1))) c.in-Some.keep) (sym is) asserts);
    }

pub returns-clause-lesson : goal.returns-clause-lesson
returns-clause-lesson c =
    let steps = c.args.trail.now.steps.items in
    let places = c.args.trail.now.places.items in
    let at : c.loop-at.at ≡ 0 = omega arith in
    let false' = subst (λ n. AllFalse steps n (reached places n c.loop-at.set.steps.items)) at
    (reached_false steps places c.requires.trail c.loop-at.at c.loop-at.set.steps.items c.loop-at.set.places.items c.loop-at.invariant.met) in
    let none = none_false steps (reached places 0 c.loop-at.set.steps.items) false' in
    let k = clause_lists c.args.database.added.now c.args.database.learnt.now [] in
    record {
      derived =
          subst (λ (l : List Lit). IsDerivation k c.loop-at.derivation.first c.loop-at.derivation.rest.items l)
          (ap (λ n. reached places n c.loop-at.set.steps.items) at ∙ none ∙ sym c.new-2.ensures.items) c.loop-at.invariant.derived;
      all =
          subst (λ (l : List Lit). AllFalse steps (length steps) l) (sym c.new-2.ensures.items)
          (AllFalse-later steps 0 (length steps) [] (omega arith) (subst (λ (l : List Lit). AllFalse steps 0 l) none false'));
      turns = c.new-2.ensures.items;
    }
