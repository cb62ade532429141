use Rattle.std.proofs.Common.{ℕ, ◌<◌, ◌∙◌, List, sym, subst}
use Rattle.std.specs.Prelude.{All}
use Rattle.cnf.specs.declared.lit.Lit.{Lit}
use Rattle.lasso_search.proofs.KnownBits.{bits_known}
use Rattle.lasso_search.proofs.search.least_lasso.Goals as goal

pub least_model-requires-clause-bits : goal.least_model-requires-clause-bits
least_model-requires-clause-bits c =
    let known = bits_known c.args.solver.now.vars c.args.solver.now.clauses c.args.tab.now c.args.layers.now c.requires.layers in
    let read = subst (All (λ (lit : Lit). lit.var < c.args.solver.now.vars)) (sym (c.as_slice-in-Sat.ensures.value ∙ c.in_ok-bits-in-Sat.ensures)) known in
    subst (λ (n : ℕ). All (λ (lit : Lit). lit.var < n) c.as_slice-in-Sat.result.now) (sym c.solve.ensures.vars) read
