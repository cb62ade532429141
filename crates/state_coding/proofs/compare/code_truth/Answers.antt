use Rattle.state_coding.proofs.AtomSteps.{truth_true, truth_false}
use Rattle.state_coding.proofs.compare.code_truth.Goals as goal

pub returns-then-truth-clause-coded : goal.returns-then-truth-clause-coded
returns-then-truth-clause-coded g c = truth_true _ _ _ _ _ c.args.truth c.if-truth.true c.in_ok-lit.ensures.vars c.in_ok-lit.ensures.clauses
    c.in_ok-lit.ensures.answer

pub returns-else-truth-clause-coded : goal.returns-else-truth-clause-coded
returns-else-truth-clause-coded g c =
    truth_false _ _ _ _ c.in_ok-lit.lit _ c.args.truth c.if-truth.false c.in_ok-lit.ensures.vars c.in_ok-lit.ensures.clauses
    c.in_ok-lit.ensures.answer c.negated.ensures
