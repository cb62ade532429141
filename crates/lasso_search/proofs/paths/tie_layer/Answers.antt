use Rattle.std.proofs.Common.{◌-◌, arith, length}
use Rattle.lasso_search.proofs.LayerFacts.{follows_by_step, step_of_follows, signs_of_follows}
use Rattle.lasso_search.proofs.paths.tie_layer.Goals as goal

pub returns-in_err-sign_layer-clause-kept : goal.returns-in_err-sign_layer-clause-kept
returns-in_err-sign_layer-clause-kept g c = λ model is h.
    c.sign_layer.ensures.kept model is (λ on.
    signs_of_follows c.args.tab.now c.args.question.now model c.args.layers.now c.args.layer.now c.if-count-eq0.true (h on))

pub returns-in_err-code_step-clause-kept : goal.returns-in_err-code_step-clause-kept
returns-in_err-code_step-clause-kept g c = λ model is h.
    c.code_step.ensures.kept model is (λ on.
    step_of_follows c.args.tab.now c.args.question.now model c.args.layers.now c.args.layer.now c.index-layers-count.result
    (length c.args.layers.now - 1) (omega (arith, c.if-count-eq0.false)) c.index-layers-count.is (h on))

pub returns-in_ok-sign_layer-clause-kept : goal.returns-in_ok-sign_layer-clause-kept
returns-in_ok-sign_layer-clause-kept g c = λ model is h.
    c.sign_layer.ensures.kept model is (λ on.
    signs_of_follows c.args.tab.now c.args.question.now model c.args.layers.now c.args.layer.now c.if-count-eq0.true (h on))

pub returns-in_ok-code_step-clause-follows : goal.returns-in_ok-code_step-clause-follows
returns-in_ok-code_step-clause-follows g c = λ model le h on.
    follows_by_step c.args.tab.now c.args.question.now model c.args.layers.now c.args.layer.now c.index-layers-count.result
    (length c.args.layers.now - 1) (omega (arith, c.if-count-eq0.false)) c.index-layers-count.is (c.in_ok-code_step.ensures.step model le h on)

pub returns-in_ok-code_step-clause-kept : goal.returns-in_ok-code_step-clause-kept
returns-in_ok-code_step-clause-kept g c = λ model is h.
    c.code_step.ensures.kept model is (λ on.
    step_of_follows c.args.tab.now c.args.question.now model c.args.layers.now c.args.layer.now c.index-layers-count.result
    (length c.args.layers.now - 1) (omega (arith, c.if-count-eq0.false)) c.index-layers-count.is (h on))
