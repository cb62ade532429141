use Rattle.std.proofs.Common.{◌≡◌, ◌++◌, take}
use Rattle.std.specs.List.{flat_map}
use Rattle.report.specs.JudgementTexts.{judgement_line}
use Rattle.report.proofs.judgement_text.append_judgements.Given as goal

abbrev pub invariant-loop-judgement : goal.invariant-loop-judgement
invariant-loop-judgement l = l.text ≡ l.fn.text ++ flat_map (judgement_line l.spec) (take l.judgement-index l.judgements)
