use Rattle.std.proofs.Common.{◌++◌, map, refl}
use Rattle.levels.specs.LevelQuestions.{outside_set}
use Rattle.levels.specs.Steps.{normal_form_node}
use Rattle.levels.proofs.Stepwise.{kept_on, kept_all}
use Rattle.levels.proofs.questions.put_kept.Goals as goal

pub loop-place-preserved : goal.loop-place-preserved
loop-place-preserved c =
    kept_on normal_form_node c.args.set c.loop-place.question c.put_outside.new.question
    (c.args.question.now ++ map normal_form_node (outside_set c.args.set 0 c.args.parts.now)) c.args.parts.now c.loop-place.place _ _
    c.loop-place-test.true refl c.loop-place.invariant c.in_ok-put_outside.ensures

pub returns : goal.returns
returns c =
    kept_all normal_form_node c.args.set c.loop-place.question
    (c.args.question.now ++ map normal_form_node (outside_set c.args.set 0 c.args.parts.now)) c.args.parts.now c.loop-place.place
    c.loop-place-test.false c.loop-place.invariant
