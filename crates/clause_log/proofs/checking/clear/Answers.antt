use Rattle.std.proofs.Common.{◌∙◌, refl, arith}
use Rattle.clause_log.proofs.StepLaws.{clear_more, clear_whole}
use Rattle.clause_log.proofs.checking.clear.Goals as goal

pub loop-var-preserved : goal.loop-var-preserved
loop-var-preserved c = record {
  vars = c.put-in-loop-var.ensures.vars ∙ c.put.ensures.vars ∙ c.loop-var.invariant.vars;
  empty = clear_more _ _ _ c.loop-var.var _ _ refl c.negated.ensures c.loop-var.invariant.empty c.put.ensures.put c.put-in-loop-var.ensures.put;
}

pub returns-clause-empty : goal.returns-clause-empty
returns-clause-empty c =
    clear_whole c.loop-var.set c.loop-var.var (omega (arith, c.loop-var-test.false, c.vars-var-end.ensures, c.loop-var.invariant.vars))
    c.loop-var.invariant.empty
