use Rattle.std.proofs.Common.{◌≡◌, ◌∙◌, ◌++◌, None, sym, get_or, arith}
use Rattle.std.proofs.lemmas.Option.{get_or_from_slice_get}
use Rattle.tableau.specs.TableauStates.{fairness}
use Rattle.counter_cert.specs.StepClauses.{fairness_clauses, condition_clauses}
use Rattle.counter_cert.proofs.Added.{each_goes_on}
use Rattle.counter_cert.proofs.Members.{pair_at}
use Rattle.counter_cert.proofs.counting.put_fairness.Goals as goal

pub put_condition-requires-clause-until : goal.put_condition-requires-clause-until
put_condition-requires-clause-until c = λ u is.
    let pair = pair_at c.args.tab.now c.members.ensures.coded.closed c.loop-j.j c.condition.result u c.condition.ensures is in
    omega (arith, c.requires.layer, pair.left)

pub put_condition-requires-clause-right : goal.put_condition-requires-clause-right
put_condition-requires-clause-right c = λ u is.
    let pair = pair_at c.args.tab.now c.members.ensures.coded.closed c.loop-j.j c.condition.result u c.condition.ensures is in
    omega (arith, c.requires.layer, pair.right)

pub loop-j-preserved : goal.loop-j-preserved
loop-j-preserved c =
    let at : get_or (fairness c.args.tab.now) c.loop-j.j None ≡ c.condition.result =
    get_or_from_slice_get (fairness c.args.tab.now) c.loop-j.j c.condition.result None c.condition.ensures in
    each_goes_on (fairness_clauses c.args.tab.now c.args.layer.now c.args.first) c.loop-j.j _ _ _ c.loop-j.invariant
    (c.in_ok-put_condition.ensures
    ∙ (λ i. c.loop-j.clauses.items ++ condition_clauses c.args.layer.now (c.literal_of.ensures i) (sym at i)))
