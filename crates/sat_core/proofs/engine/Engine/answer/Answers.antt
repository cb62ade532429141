use Rattle.std.proofs.Common.{[], List, subst, sym}
use Rattle.cnf.specs.declared.lit.Lit.{Lit}
use Rattle.clause_log.specs.Derivations.{SameLits}
use Rattle.sat_core.specs.declared.clause_ref.ClauseRef.TheVariants.{Added}
use Rattle.sat_core.specs.declared.chain.Resolution.{Resolution}
use Rattle.sat_core.specs.Search.{clause_lists, IsDerivation}
use Rattle.sat_core.proofs.Chains.{same-refl}
use Rattle.sat_core.proofs.SolverLaws.{empty_at}
use Rattle.sat_core.proofs.engine.Engine.answer.Goals as goal

-- an added clause that is empty derives the empty clause by itself
pub returns-in-Some-clause-answers : goal.returns-in-Some-clause-answers
returns-in-Some-clause-answers c =
    let index = c.in-Some.index in
    let here = empty_at c.args.added.now index (c.requires.solver.found index c.in-Some.is) in
    subst (λ (r : List Resolution). IsDerivation (clause_lists c.args.added.now c.args.self.now.learnt.clauses.items c.args.assumed.now)
    (Added index) r []) (sym c.new.ensures.items)
    (record { named = here.0; reached = subst (λ (l : List Lit). SameLits l []) (sym here.1) (same-refl []) })
