use Rattle.std.proofs.Common.{◌∙◌, ap}
use Rattle.std.proofs.lemmas.Result.{IfOk-weaker}
use Rattle.typed_ltl.specs.Formulas as logic
use Rattle.tableau_vectors.proofs.until_layers.then_p.Goals as goal

pub returns : goal.returns
returns c = IfOk-weaker c.then.result _ _ (λ f h. h ∙ ap logic.Then c.port.ensures) c.then.ensures
