use Rattle.std.proofs.Common.{◌++◌, map, filter, refl}
use Rattle.levels.specs.Steps.{normal_form_node, has_other_sub}
use Rattle.levels.proofs.Stepwise.{filtered_on, filtered_all}
use Rattle.levels.proofs.questions.put_others.Goals as goal

pub loop-part-preserved : goal.loop-part-preserved
loop-part-preserved c =
    filtered_on normal_form_node (has_other_sub c.args.sub) c.loop-part.question c.put_other.new.question
    (c.args.question.now ++ map normal_form_node (filter (has_other_sub c.args.sub) c.args.parts.now)) c.args.parts.now c.loop-part.part-index _ _
    c.loop-part-test.true refl c.loop-part.invariant c.in_ok-put_other.ensures

pub returns : goal.returns
returns c =
    filtered_all normal_form_node (has_other_sub c.args.sub) c.loop-part.question
    (c.args.question.now ++ map normal_form_node (filter (has_other_sub c.args.sub) c.args.parts.now)) c.args.parts.now c.loop-part.part-index
    c.loop-part-test.false c.loop-part.invariant
