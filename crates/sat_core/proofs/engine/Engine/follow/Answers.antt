use Rattle.std.proofs.Common.{◌≡◌, ◌<◌, ◌∙◌, length, ap, sym, arith, Some}
use Rattle.std.specs.List.{slice_get}
use Rattle.std.proofs.lemmas.Option.{slice_get-get_or}
use Rattle.sat_core.proofs.SearchLaws.{all_settled, stepped_engine, stepped, seen_push, kept_false}
use Rattle.sat_core.proofs.Rounds.{stepped_to, stepped_is}
use Rattle.sat_core.proofs.engine.Engine.follow.Goals as goal

pub propagate-requires-clause-state : goal.propagate-requires-clause-state
propagate-requires-clause-state c =
    all_settled c.args.added.now c.args.assumed.now c.args.self.now c.args.step c.requires.goes_on

pub advance-requires-clause-search : goal.advance-requires-clause-search
advance-requires-clause-search c =
    let e = c.args.self.now in
    let p = c.propagate.ensures in
    stepped c.args.added.now c.args.assumed.now e (stepped_to e c.propagate.new.self c.args.step) c.args.step c.propagate.result c.requires.goes_on
    (stepped_is e c.propagate.new.self c.args.step c.propagate.result p.state p.trail p.ends (p.vars, p.clauses, p.references))

pub advance-requires-clause-seen : goal.advance-requires-clause-seen
advance-requires-clause-seen c =
    seen_push c.args.self.now.propagator.trail.steps.items c.propagate.new.self.trail.steps.items c.args.step c.args.assumed.now
    c.args.cursors.now.assumed c.propagate.ensures.trail c.requires.seen

pub learn-requires-clause-search : goal.learn-requires-clause-search
learn-requires-clause-search c =
    let e = c.args.self.now in
    let p = c.propagate.ensures in
    stepped c.args.added.now c.args.assumed.now e (stepped_to e c.propagate.new.self c.args.step) c.args.step c.propagate.result c.requires.goes_on
    (stepped_is e c.propagate.new.self c.args.step c.propagate.result p.state p.trail p.ends (p.vars, p.clauses, p.references))

-- the kept clause in conflict stands for the clause of its reference
pub learn-requires-clause-false_ : goal.learn-requires-clause-false_
learn-requires-clause-false_ c =
    let e = c.args.self.now in
    let new = c.propagate.new.self in
    let p = c.propagate.ensures in
    let clause = c.in-Conflict.clause in
    let reason = c.index-reason.result.now in
    let ends = c.in-Conflict.ensures.ends in
    let s = stepped_engine c.args.added.now c.args.assumed.now e (stepped_to e new c.args.step) c.args.step c.propagate.result c.requires.goes_on
    (stepped_is e new c.args.step c.propagate.result p.state p.trail p.ends (p.vars, p.clauses, p.references)) in
    let low : clause < length new.references.items = omega (arith, ends.0, p.state.referred) in
    let at : slice_get new.references.items clause ≡ Some reason =
    slice_get-get_or new.references.items clause reason low ∙ ap Some (sym c.index-reason.ensures) in
    kept_false c.args.added.now e.learnt.clauses.items c.args.assumed.now new.links.clauses new.references.items new.trail.steps.items clause reason
    s.keeps.kept at ends.1
