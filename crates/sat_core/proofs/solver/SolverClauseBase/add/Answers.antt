use Rattle.std.proofs.Common.{◌≡◌, ◌∙◌, ◌++◌, ◌∷◌, [], List, length, subst, sym, ap, refl, arith}
use Rattle.std.proofs.lemmas.Bool.{false≢true}
use Rattle.cnf.specs.declared.lit.Lit.{Lit}
use Rattle.clause_links.specs.WatchLists.{WatchLists}
use Rattle.sat_core.specs.declared.clause_ref.ClauseRef.TheVariants.{Added}
use Rattle.sat_core.specs.declared.solver.Solver.TheInside.{Inside}
use Rattle.sat_core.specs.Solving.{Solving, HasConflict}
use Rattle.sat_core.specs.Engines.{IsSolver, IsEngine}
use Rattle.sat_core.proofs.LitSets.{lits_of}
use Rattle.sat_core.proofs.SolverLaws.{rest_state, quiet_to, solver_with, solver_added, solver_emptied}
use Rattle.sat_core.proofs.solver.SolverClauseBase.add.Goals as goal
use Rattle.sat_core.proofs.solver.SolverClauseBase.add.Goals.{then-branch, else-branch}

pub invariant_of-self : goal.invariant_of-self
invariant_of-self c =
    let added = c.self.inside.added.items in
    solver_with added added c.self.inside.empty c.self.inside.engine c.reset.new.self c.self.invariant refl
    (c.reset.ensures.engine added c.self.invariant.engine)

pub returns-in_err-clause-clause-quiet : goal.returns-in_err-clause-clause-quiet
returns-in_err-clause-clause-quiet c =
    quiet_to c.reset.new.self.propagator.links c.reset.new.self.propagator.trail.steps.items c.reset.ensures.quiet

pub invariant_of-self-in_err-reserve : goal.invariant_of-self-in_err-reserve
invariant_of-self-in_err-reserve c =
    let added = c.self.inside.added.items in
    solver_with added c.reserve.new.self.items c.self.inside.empty c.self.inside.engine c.reset.new.self c.self.invariant c.reserve.ensures.items
    (c.reset.ensures.engine added c.self.invariant.engine)

pub returns-in_err-reserve-clause-quiet : goal.returns-in_err-reserve-clause-quiet
returns-in_err-reserve-clause-quiet c =
    quiet_to c.reset.new.self.propagator.links c.reset.new.self.propagator.trail.steps.items c.reset.ensures.quiet

pub add-requires-clause-state : goal.add-requires-clause-state
add-requires-clause-state c =
    let added = c.self.inside.added.items in
    rest_state added c.reset.new.self (c.reset.ensures.engine added c.self.invariant.engine) c.reset.ensures.rest

pub add-requires-clause-known : goal.add-requires-clause-known
add-requires-clause-known c = λ k d low.
    let same = ap (λ (l : WatchLists). l.vars) c.reset.ensures.links ∙ ap (λ (v : Solving). v.vars) c.self.view_is in
    omega (arith, c.requires.known k d low, same)

pub invariant_of-self-in_err-add : goal.invariant_of-self-in_err-add
invariant_of-self-in_err-add c =
    let added = c.self.inside.added.items in
    solver_with added c.reserve.new.self.items c.self.inside.empty c.self.inside.engine c.add.new.self c.self.invariant c.reserve.ensures.items
    (c.in_err-add.ensures.engine added (c.reset.ensures.engine added c.self.invariant.engine))

pub returns-in_err-add-clause-quiet : goal.returns-in_err-add-clause-quiet
returns-in_err-add-clause-quiet c =
    quiet_to c.add.new.self.propagator.links c.add.new.self.propagator.trail.steps.items c.add.ensures.quiet

-- the added clauses with the new one, and the engine with it
grown_is : (c : goal.After-push_within) → c.if-branch.self-inside.added.items ≡ c.reserve.new.self.items
    → c.push_within.new.items.items ≡ c.self.inside.added.items ++ c.args.lits.now ∷ []
grown_is c same =
    c.push_within.ensures.items ∙ ap (λ (l : List (List Lit)). l ++ c.in_ok-clause.clause ∷ []) (same ∙ c.reserve.ensures.items)
    ∙ ap (λ (x : List Lit). c.self.inside.added.items ++ x ∷ []) c.in_ok-clause.ensures

index_is : (c : goal.After-push_within) → c.len-index.result ≡ length c.self.inside.added.items
index_is c = c.len-index.ensures ∙ c.reserve.new.self.ok.0 ∙ ap length c.reserve.ensures.items

engine_is : (c : goal.After-push_within) → IsEngine (c.self.inside.added.items ++ c.args.lits.now ∷ []) c.add.new.self
engine_is c =
    let added = c.self.inside.added.items in
    c.in_ok-add.ensures.added added (c.reset.ensures.engine added c.self.invariant.engine) (ap Added (index_is c))

pub invariant_of-self-2 : goal.invariant_of-self-2
invariant_of-self-2 c =
    let added = c.self.inside.added.items in
    let grown = c.push_within.new.items.items in
    elim c.if-branch.branch [
      | then-branch w ↦
          subst (λ (i : Inside). IsSolver grown i.empty i.engine) (sym w.self-inside-is)
          (solver_emptied added grown c.args.lits.now c.len-index.result c.add.new.self (grown_is c (ap (λ (i : Inside). i.added.items) w.self-inside-is))
          (c.in_ok-add.ensures.empty.0 w.if-branch.true)
          (index_is c) (engine_is c))
      | else-branch w ↦
          subst (λ (i : Inside). IsSolver grown i.empty i.engine) (sym w.self-inside-is)
          (solver_added added grown c.args.lits.now c.self.inside.empty c.self.inside.engine c.add.new.self c.self.invariant
          (grown_is c (ap (λ (i : Inside). i.added.items) w.self-inside-is))
          (λ e. false≢true (sym w.if-branch.false ∙ c.in_ok-add.ensures.empty.1 e)) (engine_is c))
    ]

pub returns-clause-quiet : goal.returns-clause-quiet
returns-clause-quiet c =
    let q = quiet_to c.add.new.self.propagator.links c.add.new.self.propagator.trail.steps.items c.add.ensures.quiet in
    elim c.if-branch.branch [
      | then-branch w ↦
          subst (λ (i : Inside). HasConflict i.engine.propagator.links (lits_of i.engine.propagator.trail.steps.items) → ⊥) (sym w.self-inside-is) q
      | else-branch w ↦
          subst (λ (i : Inside). HasConflict i.engine.propagator.links (lits_of i.engine.propagator.trail.steps.items) → ⊥) (sym w.self-inside-is) q
    ]
