use Rattle.std.proofs.Common.{List, ◌++◌, ◌∙◌, map, ap}
use Rattle.core_ltl.specs.declared.question.SignedNode.{SignedNode}
use Rattle.levels.specs.Steps.{normal_form_node, broken_nodes}
use Rattle.levels.proofs.Asked.{entails_asks}
use Rattle.levels.proofs.level.Level.entails.Goals as goal

pub returns : goal.returns
returns c = λ spec item is.
    entails_asks spec item c.args.self.now c.put_broken.new.question is
    (c.in_ok-put_broken.ensures
    ∙ ap (λ (q : List SignedNode). q ++ broken_nodes c.args.self.now) (c.in_ok-put_normal_forms.ensures
    ∙ (λ j. c.new-question.ensures j ++ map normal_form_node (c.as_slice.ensures.value j))))
