use Rattle.ocra_tool.proofs.check.reported.Goals as goal

pub returns : goal.returns
returns c = (c.in_ok-answers.answers, c.in_ok-answers.ensures, c.in_ok-text.ensures, c.status_of.ensures)
