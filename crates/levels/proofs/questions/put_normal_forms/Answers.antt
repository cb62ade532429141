use Rattle.std.proofs.Common.{refl}
use Rattle.levels.specs.Steps.{normal_form_node}
use Rattle.levels.proofs.Stepwise.{mapped_on}
use Rattle.levels.proofs.questions.put_normal_forms.Goals as goal

pub loop-part-preserved : goal.loop-part-preserved
loop-part-preserved c =
    mapped_on normal_form_node c.args.question.now c.loop-part.question c.put_normal_form.new.question c.args.parts.now c.loop-part.part-index _ _
    c.loop-part-test.true refl c.loop-part.invariant c.in_ok-put_normal_form.ensures
