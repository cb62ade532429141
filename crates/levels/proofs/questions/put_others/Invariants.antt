use Rattle.std.proofs.Common.{◌≡◌, ◌++◌, map, filter, drop}
use Rattle.levels.specs.Steps.{normal_form_node, has_other_sub}
use Rattle.levels.proofs.questions.put_others.Given as goal

abbrev pub invariant-loop-part : goal.invariant-loop-part
invariant-loop-part l = l.question ++ map normal_form_node (filter (has_other_sub l.sub) (drop l.part-index l.parts))
    ≡ l.fn.question ++ map normal_form_node (filter (has_other_sub l.sub) l.parts)
