use Rattle.std.proofs.Common.{◌≡◌, ◌++◌, map, drop}
use Rattle.levels.specs.LevelQuestions.{outside_set}
use Rattle.levels.specs.Steps.{normal_form_node}
use Rattle.levels.proofs.questions.put_kept.Given as goal

abbrev pub invariant-loop-place : goal.invariant-loop-place
invariant-loop-place l = l.question ++ map normal_form_node (outside_set l.set l.place (drop l.place l.parts))
    ≡ l.fn.question ++ map normal_form_node (outside_set l.set 0 l.parts)
