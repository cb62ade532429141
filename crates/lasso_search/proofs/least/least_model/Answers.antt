use Rattle.std.proofs.Common.{ℕ, ◌<◌, ◌∙◌, subst}
use Rattle.std.specs.Prelude.{All}
use Rattle.cnf.specs.declared.lit.Lit.{Lit}
use Rattle.lasso_search.proofs.LeastSteps.{fixed_on, least_of_all}
use Rattle.lasso_search.proofs.least.least_model.Goals as goal

pub loop-bit-preserved : goal.loop-bit-preserved
loop-bit-preserved c = record {
  vars = c.fix_bit.ensures.vars ∙ c.loop-bit.invariant.vars;
  clauses = c.fix_bit.ensures.clauses ∙ c.loop-bit.invariant.clauses;
  lits = subst (λ (n : ℕ). All (λ (lit : Lit). lit.var < n) c.fix_bit.new.known.items) c.loop-bit.invariant.vars c.in_ok-best.ensures.known;
  fixed = fixed_on _ _ _ _ _ _ _ c.args.bits.now c.loop-bit.bit-index _ c.loop-bit.best _
      c.requires.bits c.loop-bit-test.true c.loop-bit.invariant.fixed (record {
        vars = c.loop-bit.invariant.vars;
        same = c.loop-bit.invariant.clauses;
        grown = c.in_ok-best.ensures.fixed;
        model = c.in_ok-best.ensures.model;
        least = c.in_ok-best.ensures.least;
      });
}

pub returns-clause-least : goal.returns-clause-least
returns-clause-least c =
    least_of_all _ _ _ _ c.args.bits.now c.loop-bit.bit-index c.loop-bit.best c.loop-bit-test.false c.loop-bit.invariant.fixed
