use Rattle.std.proofs.Common.{◌∙◌}
use Rattle.clause_log.proofs.Lits.{no_lit}
use Rattle.clause_log.proofs.StepLaws.{puts_more}
use Rattle.clause_log.proofs.checking.put_all.Goals as goal

pub loop-lit-preserved : goal.loop-lit-preserved
loop-lit-preserved c = record {
  vars = c.put.ensures.vars ∙ c.loop-lit.invariant.vars;
  puts = puts_more _ _ _ c.args.lits.now c.loop-lit.lit-index no_lit c.args.mark c.loop-lit-test.true c.loop-lit.invariant.puts c.put.ensures.put;
}
