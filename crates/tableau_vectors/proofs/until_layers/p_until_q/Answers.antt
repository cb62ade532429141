use Rattle.std.proofs.Common.{◌∙◌}
use Rattle.std.proofs.lemmas.Result.{IfOk-weaker}
use Rattle.typed_ltl.specs.Formulas as logic
use Rattle.tableau_vectors.proofs.until_layers.p_until_q.Goals as goal

pub returns : goal.returns
returns c = IfOk-weaker c.until.result _ _ (λ f h. h ∙ (λ j. logic.Until (c.port.ensures j) (c.port-2.ensures j))) c.until.ensures
