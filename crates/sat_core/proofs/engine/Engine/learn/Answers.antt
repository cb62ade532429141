use Rattle.std.proofs.Common.{◌≡◌, ◌<◌, ◌∙◌, [], List, length, subst, sym, get_or, Some}
use Rattle.std.proofs.lemmas.List.Elements.{Contains-get_or}
use Rattle.cnf.specs.declared.lit.Lit.{Lit}
use Rattle.clause_log.specs.Derivations.{SameLits}
use Rattle.sat_core.specs.declared.clause_ref.ClauseRef.{ClauseRef}
use Rattle.sat_core.specs.declared.engine.Engine.{Engine}
use Rattle.sat_core.specs.declared.propagator.Propagator.{Propagator}
use Rattle.sat_core.specs.declared.analyse.Backjump.{Backjump}
use Rattle.sat_core.specs.declared.analyse.LearntClause.{LearntClause}
use Rattle.sat_core.specs.Search.{clause_lists, IsDerivation, Forces, trail_weight}
use Rattle.sat_core.specs.Learning.{IsLearntFrom}
use Rattle.sat_core.specs.Engines.{IsSearching, TakesStep, step_weight}
use Rattle.sat_core.proofs.Chains.{same-refl}
use Rattle.sat_core.proofs.Searching.{lesson_ends}
use Rattle.sat_core.proofs.SearchLaws.{IsBack, IsLesson, IsLearning, with_propagator, back_is, lesson_returned, lesson_within, lesson_free}
use Rattle.sat_core.proofs.SearchLaws.{emptied, lesson_forces, lesson_derived, lesson_goes_on, lesson_weight, learnt_engine, weight_positive}
use Rattle.sat_core.proofs.engine.Engine.learn.Goals as goal

pub returns-in_err-lits-clause-engine : goal.returns-in_err-lits-clause-engine
returns-in_err-lits-clause-engine c =
    emptied c.args.added.now c.args.self.now c.analyse.new.set c.requires.search.engine c.analyse.ensures.set c.analyse.ensures.vars c.analyse.ensures.empty

pub returns-in-None-clause-engine : goal.returns-in-None-clause-engine
returns-in-None-clause-engine c =
    emptied c.args.added.now c.args.self.now c.analyse.new.set c.requires.search.engine c.analyse.ensures.set c.analyse.ensures.vars c.analyse.ensures.empty

pub returns-in-None-clause-found : goal.returns-in-None-clause-found
returns-in-None-clause-found c =
    let e = c.args.self.now in
    lesson_ends c.args.added.now e.learnt.clauses.items c.as_slice.result.now c.args.assumed.now e.propagator.trail.steps.items c.in_ok-lits.field-0
    c.as_slice.ensures.value c.in-None.is c.in_ok-lits.ensures.lesson

pub returns-in-None-clause-weight : goal.returns-in-None-clause-weight
returns-in-None-clause-weight c =
    let t = c.args.self.now.propagator.trail in
    weight_positive t.steps.items t.places.items c.requires.search.engine.propagator.trail

-- what was learnt, and where the trail is cut
lesson_of : (added : List (List Lit)) (assumed : List Lit) (e : Engine) (p : Propagator) (ls : List (List Lit))
    (l : LearntClause)
    (b : Backjump) (order : List Lit) → IsSearching added assumed e → IsBack e (with_propagator e p) b.keep → ls ≡ e.learnt.clauses.items
    → IsLearntFrom (clause_lists added ls []) e.propagator.trail.steps.items l → l.backjump ≡ Some b
    → SameLits order l.lits.items
    → IsLesson added assumed e (with_propagator e p) l b order
lesson_of added assumed e p ls l b order search back is from turns same = record {
  search = search;
  back = back;
  learnt = subst (λ (x : List (List Lit)). IsLearntFrom (clause_lists added x []) e.propagator.trail.steps.items l) is from;
  turns = turns;
  same = same;
}

pub watch_order-requires-clause-forces : goal.watch_order-requires-clause-forces
watch_order-requires-clause-forces c =
    let e = c.args.self.now in
    let b = c.back.ensures in
    let l = c.in_ok-lits.field-0 in
    let jump = c.in-Some.backjump in
    let steps = c.back.new.self.trail.steps.items in
    subst (λ (x : List Lit). Forces steps (length steps) x jump.lit) (sym c.deref.ensures.value)
    (lesson_forces c.args.added.now c.args.assumed.now e (with_propagator e c.back.new.self) l jump
    (lesson_of c.args.added.now c.args.assumed.now e c.back.new.self c.as_slice.result.now l jump l.lits.items c.requires.search
    (back_is e c.back.new.self jump.keep (b.trail, b.queue) (b.vars, b.queue_vars ∙ c.analyse.ensures.vars) (b.steps, b.waiting) (b.links, b.references))
    c.as_slice.ensures.value c.in_ok-lits.ensures.lesson c.in-Some.is (same-refl l.lits.items)))

pub returns-in_err-order-in-Some-clause-engine : goal.returns-in_err-order-in-Some-clause-engine
returns-in_err-order-in-Some-clause-engine c =
    let e = c.args.self.now in
    let b = c.back.ensures in
    let l = c.in_ok-lits.field-0 in
    let jump = c.in-Some.backjump in
    (lesson_returned c.args.added.now c.args.assumed.now e (with_propagator e c.back.new.self) l jump l.lits.items
    (lesson_of c.args.added.now c.args.assumed.now e c.back.new.self c.as_slice.result.now l jump l.lits.items c.requires.search
    (back_is e c.back.new.self jump.keep (b.trail, b.queue) (b.vars, b.queue_vars ∙ c.analyse.ensures.vars) (b.steps, b.waiting) (b.links, b.references))
    c.as_slice.ensures.value c.in_ok-lits.ensures.lesson c.in-Some.is (same-refl l.lits.items))).engine

-- the clause in its order
lesson : (c : goal.After-keep-arg-in-Some-1)
    → IsLesson c.args.added.now c.args.assumed.now c.args.self.now
    (with_propagator c.args.self.now c.back.new.self) c.in_ok-lits.field-0
    c.in-Some.backjump c.as_slice-in-Some.result.now
lesson c =
    let e = c.args.self.now in
    let b = c.back.ensures in
    let l = c.in_ok-lits.field-0 in
    let jump = c.in-Some.backjump in
    let order = c.as_slice-in-Some.result.now in
    let same : SameLits order l.lits.items =
    subst (λ (x : List Lit). SameLits x l.lits.items) (sym c.as_slice-in-Some.ensures.value)
    (subst (λ (x : List Lit). SameLits c.in_ok-order-in-Some.order.items x) c.deref.ensures.value c.in_ok-order-in-Some.ensures.same) in
    lesson_of c.args.added.now c.args.assumed.now e c.back.new.self c.as_slice.result.now l jump order c.requires.search
    (back_is e c.back.new.self jump.keep (b.trail, b.queue) (b.vars, b.queue_vars ∙ c.analyse.ensures.vars) (b.steps, b.waiting) (b.links, b.references))
    c.as_slice.ensures.value c.in_ok-lits.ensures.lesson c.in-Some.is same

pub keep-requires-clause-state : goal.keep-requires-clause-state
keep-requires-clause-state c =
    (lesson_returned c.args.added.now c.args.assumed.now c.args.self.now (with_propagator c.args.self.now c.back.new.self) c.in_ok-lits.field-0
    c.in-Some.backjump c.as_slice-in-Some.result.now (lesson c)).state

pub keep-requires-clause-quiet : goal.keep-requires-clause-quiet
keep-requires-clause-quiet c =
    (lesson_returned c.args.added.now c.args.assumed.now c.args.self.now (with_propagator c.args.self.now c.back.new.self) c.in_ok-lits.field-0
    c.in-Some.backjump c.as_slice-in-Some.result.now (lesson c)).quiet

pub keep-requires-clause-free : goal.keep-requires-clause-free
keep-requires-clause-free c =
    lesson_free c.args.added.now c.args.assumed.now c.args.self.now (with_propagator c.args.self.now c.back.new.self) c.in_ok-lits.field-0
    c.in-Some.backjump c.as_slice-in-Some.result.now (lesson c)

pub keep-requires-clause-known : goal.keep-requires-clause-known
keep-requires-clause-known c = λ k d low.
    lesson_within c.args.added.now c.args.assumed.now c.args.self.now (with_propagator c.args.self.now c.back.new.self) c.in_ok-lits.field-0
    c.in-Some.backjump c.as_slice-in-Some.result.now (lesson c) (get_or c.as_slice-in-Some.result.now k d)
    (Contains-get_or c.as_slice-in-Some.result.now k d low)

-- the clause in its order
lesson_err : (c : goal.After-drop-lits-in_err-reason-in-Some)
    → IsLesson c.args.added.now c.args.assumed.now c.args.self.now
    (with_propagator c.args.self.now c.back.new.self) c.in_ok-lits.field-0
    c.in-Some.backjump c.as_slice-in-Some.result.now
lesson_err c =
    let e = c.args.self.now in
    let b = c.back.ensures in
    let l = c.in_ok-lits.field-0 in
    let jump = c.in-Some.backjump in
    let order = c.as_slice-in-Some.result.now in
    let same : SameLits order l.lits.items =
    subst (λ (x : List Lit). SameLits x l.lits.items) (sym c.as_slice-in-Some.ensures.value)
    (subst (λ (x : List Lit). SameLits c.in_ok-order-in-Some.order.items x) c.deref.ensures.value c.in_ok-order-in-Some.ensures.same) in
    lesson_of c.args.added.now c.args.assumed.now e c.back.new.self c.as_slice.result.now l jump order c.requires.search
    (back_is e c.back.new.self jump.keep (b.trail, b.queue) (b.vars, b.queue_vars ∙ c.analyse.ensures.vars) (b.steps, b.waiting) (b.links, b.references))
    c.as_slice.ensures.value c.in_ok-lits.ensures.lesson c.in-Some.is same

-- the clause is kept, or memory is wanted
learning_err : (c : goal.After-drop-lits-in_err-reason-in-Some)
    → IsLearning c.args.added.now (with_propagator c.args.self.now
    c.back.new.self) c.keep.new.self c.as_slice-in-Some.result.now
learning_err c =
    let e = c.args.self.now in
    let m = with_propagator e c.back.new.self in
    let k = c.keep.ensures in
    let r = lesson_returned c.args.added.now c.args.assumed.now e m c.in_ok-lits.field-0 c.in-Some.backjump c.as_slice-in-Some.result.now (lesson_err c) in
    let d : IsDerivation (clause_lists c.args.added.now m.learnt.clauses.items []) c.in_ok-lits.field-0.derivation.first
    c.in_ok-lits.field-0.derivation.rest.items c.as_slice-in-Some.result.now =
    lesson_derived c.args.added.now c.args.assumed.now e m c.in_ok-lits.field-0 c.in-Some.backjump c.as_slice-in-Some.result.now (lesson_err c) in
    record {
      state = k.state;
      quiet = k.quiet;
      trail = k.trail;
      phases = k.phases;
      keeps = k.keeps c.args.added.now r.engine.keeps d;
      vars = k.longer.vars;
    }

pub returns-in_err-reason-in-Some-clause-engine : goal.returns-in_err-reason-in-Some-clause-engine
returns-in_err-reason-in-Some-clause-engine c =
    let m = with_propagator c.args.self.now c.back.new.self in
    let r = lesson_returned c.args.added.now c.args.assumed.now c.args.self.now m c.in_ok-lits.field-0 c.in-Some.backjump
    c.as_slice-in-Some.result.now (lesson_err c) in
    learnt_engine c.args.added.now m c.keep.new.self c.as_slice-in-Some.result.now r.engine (learning_err c)

-- the clause in its order
lesson_ok : (c : goal.After-drop-lits-2)
    → IsLesson c.args.added.now c.args.assumed.now c.args.self.now
    (with_propagator c.args.self.now c.back.new.self) c.in_ok-lits.field-0
    c.in-Some.backjump c.as_slice-in-Some.result.now
lesson_ok c =
    let e = c.args.self.now in
    let b = c.back.ensures in
    let l = c.in_ok-lits.field-0 in
    let jump = c.in-Some.backjump in
    let order = c.as_slice-in-Some.result.now in
    let same : SameLits order l.lits.items =
    subst (λ (x : List Lit). SameLits x l.lits.items) (sym c.as_slice-in-Some.ensures.value)
    (subst (λ (x : List Lit). SameLits c.in_ok-order-in-Some.order.items x) c.deref.ensures.value c.in_ok-order-in-Some.ensures.same) in
    lesson_of c.args.added.now c.args.assumed.now e c.back.new.self c.as_slice.result.now l jump order c.requires.search
    (back_is e c.back.new.self jump.keep (b.trail, b.queue) (b.vars, b.queue_vars ∙ c.analyse.ensures.vars) (b.steps, b.waiting) (b.links, b.references))
    c.as_slice.ensures.value c.in_ok-lits.ensures.lesson c.in-Some.is same

-- the clause is kept, or memory is wanted
learning_ok : (c : goal.After-drop-lits-2)
    → IsLearning c.args.added.now (with_propagator c.args.self.now
    c.back.new.self) c.keep.new.self c.as_slice-in-Some.result.now
learning_ok c =
    let e = c.args.self.now in
    let m = with_propagator e c.back.new.self in
    let k = c.keep.ensures in
    let r = lesson_returned c.args.added.now c.args.assumed.now e m c.in_ok-lits.field-0 c.in-Some.backjump c.as_slice-in-Some.result.now (lesson_ok c) in
    let d : IsDerivation (clause_lists c.args.added.now m.learnt.clauses.items []) c.in_ok-lits.field-0.derivation.first
    c.in_ok-lits.field-0.derivation.rest.items c.as_slice-in-Some.result.now =
    lesson_derived c.args.added.now c.args.assumed.now e m c.in_ok-lits.field-0 c.in-Some.backjump c.as_slice-in-Some.result.now (lesson_ok c) in
    record {
      state = k.state;
      quiet = k.quiet;
      trail = k.trail;
      phases = k.phases;
      keeps = k.keeps c.args.added.now r.engine.keeps d;
      vars = k.longer.vars;
    }

pub returns-clause-engine : goal.returns-clause-engine
returns-clause-engine c =
    let m = with_propagator c.args.self.now c.back.new.self in
    let r = lesson_returned c.args.added.now c.args.assumed.now c.args.self.now m c.in_ok-lits.field-0 c.in-Some.backjump
    c.as_slice-in-Some.result.now (lesson_ok c) in
    learnt_engine c.args.added.now m c.keep.new.self c.as_slice-in-Some.result.now r.engine (learning_ok c)

pub returns-clause-found : goal.returns-clause-found
returns-clause-found c =
    let m = with_propagator c.args.self.now c.back.new.self in
    let g = lesson_goes_on c.args.added.now c.args.assumed.now c.args.self.now m c.in_ok-lits.field-0 c.in-Some.backjump
    c.as_slice-in-Some.result.now (lesson_ok c) c.keep.new.self (learning_ok c) c.in_ok-reason-in-Some.ensures.learnt in
    subst (λ (r : ClauseRef). TakesStep c.args.added.now c.args.assumed.now c.keep.new.self (record { lit = c.in-Some.backjump.lit; reason = Some r }))
    (sym c.in_ok-reason-in-Some.ensures.reason) g

pub returns-clause-weight : goal.returns-clause-weight
returns-clause-weight c =
    let m = with_propagator c.args.self.now c.back.new.self in
    let t = c.args.self.now.propagator.trail in
    let w = lesson_weight c.args.added.now c.args.assumed.now c.args.self.now m c.in_ok-lits.field-0 c.in-Some.backjump
    c.as_slice-in-Some.result.now (lesson_ok c) c.keep.new.self (learning_ok c) c.in_ok-reason-in-Some.ensures.learnt in
    subst (λ (r : ClauseRef). step_weight c.keep.new.self (record { lit = c.in-Some.backjump.lit; reason = Some r })
    < trail_weight t.steps.items t.places.items) (sym c.in_ok-reason-in-Some.ensures.reason) w
