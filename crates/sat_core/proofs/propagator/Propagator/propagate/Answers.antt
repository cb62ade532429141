use Rattle.std.proofs.Common.{◌≡◌, ◌∙◌, ◌+◌, ◌-◌, ◌∷◌, ◌++◌, [], length, ap, sym, refl, subst, arith, List, Option, ℕ}
use Rattle.std.proofs.lemmas.List.{length_push}
use Rattle.cnf.specs.declared.lit.Lit.{Lit}
use Rattle.clause_links.specs.WatchLists.{watchers}
use Rattle.sat_core.specs.declared.trail.Step.{Step}
use Rattle.sat_core.specs.declared.trail.Trail.{Trail}
use Rattle.sat_core.specs.Watching.{IsPropagator, IsVisiting, IsConflicting, AllSettled}
use Rattle.sat_core.proofs.WatchLaws.{visited}
use Rattle.sat_core.proofs.Propagating.{propagator_pushed, visiting_begun, left_at_start, left_some}
use Rattle.sat_core.proofs.propagator.Propagator.propagate.Goals as goal

-- one step more than before
more : (steps grown : List Step) (step : Step) → grown ≡ steps ++ step ∷ [] → length grown - 1 ≡ length steps
more steps grown step e = omega (arith, ap length e, length_push steps step)

pub loop-walk-init : goal.loop-walk-init
loop-walk-init g c =
    let s = c.args.self.now in
    let steps = s.trail.steps.items in
    let grown = c.push.new.self.steps.items in
    let exact = c.lists_are_exact.ensures in
    let begun = visiting_begun s.links s.references.items steps grown s.trail.places.items s.waiting.steps.items s.waiting.places.items c.args.step
    c.negated-watch.result c.head.result exact c.requires.state c.requires.quiet c.push.ensures.steps (c.negated-watch.ensures, c.head.ensures.first) in
    record {
      state = subst (λ n. IsPropagator s.links s.references.items grown c.push.new.self.places.items s.waiting.steps.items s.waiting.places.items n)
          (sym (more steps grown c.args.step c.push.ensures.steps))
          (propagator_pushed s.links s.references.items steps grown s.trail.places.items c.push.new.self.places.items s.waiting.steps.items
          s.waiting.places.items c.args.step c.requires.state c.push.ensures.steps c.push.ensures.trail c.push.ensures.vars);
      trail = c.push.ensures.steps;
      watch = c.negated-watch.ensures;
      visiting = begun;
      counted =
          let le = left_at_start s.links grown c.negated-watch.result c.head.result exact begun in
          omega (arith, le, ap (λ (l : Lit). length (watchers s.links l)) c.negated-watch.ensures);
      clauses = refl;
      vars = refl;
      references = refl;
    }

pub returns-in-None-clause-state : goal.returns-in-None-clause-state
returns-in-None-clause-state g c =
    let p = c.visit.new.self in
    let trail = ap (λ (t : Trail). t.steps.items) c.visit.ensures.trail ∙ c.loop-walk.invariant.trail in
    subst (λ n. IsPropagator p.links p.references.items p.trail.steps.items p.trail.places.items p.waiting.steps.items p.waiting.places.items n)
    (more c.args.self.now.trail.steps.items p.trail.steps.items c.args.step trail) c.visit.ensures.state

pub returns-in-None-clause-ends : goal.returns-in-None-clause-ends
returns-in-None-clause-ends g c =
    let p = c.visit.new.self in
    let found = c.in-None.ensures.conflict refl in
    (found.0, subst (λ (t : Trail). IsConflicting p.links t.steps.items c.in-Some.clause) (sym c.visit.ensures.trail) found.1)

pub returns-in-None-clause-steps : goal.returns-in-None-clause-steps
returns-in-None-clause-steps g c =
    let p = c.loop-walk.self in
    let inv = c.loop-walk.invariant in
    let some = left_some p.links p.trail.steps.items c.negated-watch.result c.loop-walk.walk.before c.loop-walk.walk.at c.in-Some.clause c.in-Some.is
    inv.visiting in
    omega (arith, some, inv.counted, c.visit.ensures.steps)

pub returns-clause-state : goal.returns-clause-state
returns-clause-state g c =
    let p = c.loop-walk.self in
    subst (λ n. IsPropagator p.links p.references.items p.trail.steps.items p.trail.places.items p.waiting.steps.items p.waiting.places.items n)
    (more c.args.self.now.trail.steps.items p.trail.steps.items c.args.step c.loop-walk.invariant.trail) c.loop-walk.invariant.state

pub returns-clause-ends : goal.returns-clause-ends
returns-clause-ends g c =
    let p = c.loop-walk.self in
    let inv = c.loop-walk.invariant in
    let steps = c.args.self.now.trail.steps.items in
    let long : length p.trail.steps.items ≡ length steps + 1 = ap length inv.trail ∙ length_push steps c.args.step in
    let at = subst (λ (o : Option ℕ). IsVisiting p.links p.trail.steps.items c.negated-watch.result c.loop-walk.walk.before o) c.in_default.is inv.visiting in
    visited p.links p.trail.steps.items c.negated-watch.result c.loop-walk.walk.before (length steps) c.lists_are_exact-2.ensures long at
    (subst (λ n. AllSettled p.links p.trail.steps.items n) (more steps p.trail.steps.items c.args.step inv.trail) inv.state.settled)
