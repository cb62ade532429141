use Rattle.std.proofs.Common.{List, ◌++◌, ◌∙◌, map, ap}
use Rattle.core_ltl.specs.declared.question.SignedNode.{SignedNode}
use Rattle.levels.specs.LevelQuestions.{outside_set}
use Rattle.levels.specs.Steps.{normal_form_node, broken_nodes}
use Rattle.levels.proofs.Asked.{dropping_asks}
use Rattle.levels.proofs.level.Level.dropping.Goals as goal

pub returns : goal.returns
returns c = λ spec item is.
    dropping_asks spec item c.args.self.now c.args.set c.put_broken.new.question is
    (c.in_ok-put_broken.ensures
    ∙ ap (λ (q : List SignedNode). q ++ broken_nodes c.args.self.now) (c.in_ok-put_kept.ensures
    ∙ (λ j. c.new-question.ensures j ++ map normal_form_node (outside_set c.args.set 0 (c.as_slice.ensures.value j)))))
