use Rattle.std.proofs.Common.{◌∙◌, ap, subst}
use Rattle.cnf.specs.declared.lit.Lit.{Lit}
use Rattle.clause_log.specs.Marks.{mark_of, SetsMark}
use Rattle.clause_log.proofs.SetLaws.{member_marked}
use Rattle.clause_log.proofs.StepLaws.{resolved}
use Rattle.clause_log.proofs.checking.resolve.Goals as goal

pub returns-in-Some-clause-yes : goal.returns-in-Some-clause-yes
returns-in-Some-clause-yes c = λ h. (
  c.in-Some.pivot,
  c.in-Some.ensures.0,
  resolved c.args.set.now c.put.new.self c.put_all.new.set c.put-in-Some.new.self c.args.clause.now c.in-Some.pivot c.has-stays.result
      c.in-Some.ensures.1 c.in-Some.ensures.2 c.put.ensures.put
      (c.has-stays.ensures ∙ ap (λ (l : Lit). mark_of c.put.new.self l) c.negated-opposite.ensures)
      c.put_all.ensures.puts
      (subst (λ (l : Lit). SetsMark c.put_all.new.set l c.has-stays.result c.put-in-Some.new.self) c.negated-opposite.ensures c.put-in-Some.ensures.put),
)

pub returns-in-None-clause-no : goal.returns-in-None-clause-no
returns-in-None-clause-no c = λ h pivot at on has. c.in-None.ensures pivot at (member_marked c.args.set.now pivot on) has
