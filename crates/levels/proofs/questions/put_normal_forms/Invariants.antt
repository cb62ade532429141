use Rattle.std.proofs.Common.{◌≡◌, ◌++◌, map, take}
use Rattle.levels.specs.Steps.{normal_form_node}
use Rattle.levels.proofs.questions.put_normal_forms.Given as goal

abbrev pub invariant-loop-part : goal.invariant-loop-part
invariant-loop-part l = l.question ≡ l.fn.question ++ map normal_form_node (take l.part-index l.parts)
