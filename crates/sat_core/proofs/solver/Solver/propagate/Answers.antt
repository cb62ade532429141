use Rattle.std.proofs.Common.{subst, sym, refl, None}
use Rattle.std.specs.List.{Contains}
use Rattle.cnf.specs.Clauses.{opposite}
use Rattle.sat_core.specs.Solving.{Solving, HasConflict}
use Rattle.sat_core.proofs.LitSets.{lits_of}
use Rattle.sat_core.proofs.SolverLaws.{ready, quiet_from, free_from_lits, ends_to, after_propagation}
use Rattle.sat_core.proofs.SearchLaws.{with_propagator}
use Rattle.sat_core.proofs.solver.Solver.propagate.Given.{Over}
use Rattle.sat_core.proofs.solver.Solver.propagate.Goals as goal

quiet_inside : (g : Over) (c : goal.After-propagate-arg-2-1 g)
    → HasConflict c.self.inside.engine.propagator.links (lits_of c.self.inside.engine.propagator.trail.steps.items) → ⊥
quiet_inside g c = subst (λ (v : Solving). HasConflict v.kept v.true_lits → ⊥) (sym c.self.view_is) c.requires.quiet

pub propagate-requires-clause-state : goal.propagate-requires-clause-state
propagate-requires-clause-state g c = ready c.self.inside.added.items c.self.inside.engine c.self.invariant.engine (quiet_inside g c)

pub propagate-requires-clause-quiet : goal.propagate-requires-clause-quiet
propagate-requires-clause-quiet g c =
    let p = c.self.inside.engine.propagator in
    quiet_from p.links p.trail.steps.items (quiet_inside g c)

pub propagate-requires-clause-free : goal.propagate-requires-clause-free
propagate-requires-clause-free g c =
    let p = c.self.inside.engine.propagator in
    free_from_lits p.trail.steps.items p.trail.places.items c.args.lit c.self.invariant.engine.propagator.trail
    (subst (λ (v : Solving). Contains v.true_lits c.args.lit → ⊥) (sym c.self.view_is) c.requires.not_true)
    (subst (λ (v : Solving). Contains v.true_lits (opposite c.args.lit) → ⊥) (sym c.self.view_is) c.requires.not_false)

pub invariant_of-self : goal.invariant_of-self
invariant_of-self g c =
    let e = c.self.inside.engine in
    let p = c.propagate.ensures in
    record {
      found = c.self.invariant.found;
      none_empty = c.self.invariant.none_empty;
      engine =
          after_propagation c.self.inside.added.items e (with_propagator e c.propagate.new.self)
          (record { lit = c.args.lit; reason = None }) c.propagate.result c.self.invariant.engine p.state p.trail p.ends
          (record { vars = p.vars; clauses = p.clauses; references = p.references; units = refl; reasons = refl; learnt = refl; derivations = refl })
          refl;
    }

pub returns-clause-ends : goal.returns-clause-ends
returns-clause-ends g c = ends_to c.propagate.new.self.links c.propagate.new.self.trail.steps.items c.propagate.result c.propagate.ensures.ends
