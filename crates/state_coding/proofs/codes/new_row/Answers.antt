use Rattle.std.proofs.Common.{◌∙◌, ◌-◌, ap, arith}
use Rattle.cnf.specs.Gates.{literal}
use Rattle.state_coding.proofs.CodeSteps.{row_goes_on}
use Rattle.state_coding.proofs.codes.new_row.Goals as goal

pub loop-preserved : goal.loop-preserved
loop-preserved g c = record {
  vars = omega (arith, c.in_ok-var.ensures.ok, c.loop.invariant.vars);
  row = row_goes_on _ _ (c.args.count - c.loop.counter) _ c.loop.row _ _ _ (omega arith) c.in_ok-push.ensures.ok
      (ap literal c.in_ok-var.ensures.number) c.in_ok-var.ensures.ok c.loop.invariant.row;
  clauses = c.new_var.ensures.clauses ∙ c.loop.invariant.clauses;
}
