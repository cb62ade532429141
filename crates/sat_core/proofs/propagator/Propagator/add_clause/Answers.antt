use Rattle.std.proofs.Common.{◌∙◌, ap, ◌++◌, ◌∷◌, [], List, arith}
use Rattle.sat_core.specs.declared.clause_ref.ClauseRef.{ClauseRef}
use Rattle.sat_core.proofs.EngineLaws.{propagator_clause, NoConflict-clause, first_of}
use Rattle.sat_core.proofs.propagator.Propagator.add_clause.Goals as goal

pub returns-clause-state : goal.returns-clause-state
returns-clause-state c =
    let s = c.args.self.now in
    let e = c.in_ok-add_clause.ensures in
    propagator_clause s.links c.add_clause.new.self s.references.items c.push_within.new.items.items s.trail.steps.items s.trail.places.items
    s.waiting.steps.items s.waiting.places.items c.args.lits.now c.args.reference c.lists_are_exact.ensures c.lists_are_exact-2.ensures
    c.requires.watch e.watched (
      e.clauses,
      c.add_clause.ensures.vars,
      c.push_within.ensures.items ∙ ap (λ (l : List ClauseRef). l ++ c.args.reference ∷ []) c.reserve.ensures.items,
    )
    c.requires.state

pub returns-clause-quiet : goal.returns-clause-quiet
returns-clause-quiet c =
    let s = c.args.self.now in
    let a = first_of c.args.lits.now (omega (arith, c.requires.watch.two)) in
    NoConflict-clause s.links c.add_clause.new.self s.trail.steps.items c.args.lits.now a.0 c.in_ok-add_clause.ensures.clauses a.2
    (c.requires.watch.free a.0 a.1) c.requires.quiet
