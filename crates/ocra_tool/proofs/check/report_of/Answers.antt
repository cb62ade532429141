use Rattle.ocra_tool.proofs.Checked.{checked_if}
use Rattle.ocra_tool.proofs.check.report_of.Goals as goal

pub reported-requires-clause-decidable : goal.reported-requires-clause-decidable
reported-requires-clause-decidable c = c.files_can_be_decided.ensures c.args.width c.args.bytes.now c.args.source.now.spec c.requires.sole.is

pub reported-requires-clause-clear : goal.reported-requires-clause-clear
reported-requires-clause-clear c = (c.args.width, c.requires.sole.is.levels)

pub returns : goal.returns
returns c =
    checked_if c.args.depth c.args.width c.args.bytes.now c.args.source.now.spec c.reported.result
    (record { valid = c.proved_is_valid.ensures; safe = c.success_is_safe.ensures; answers = c.answers_are_unique.ensures })
    (c.files_can_be_decided.ensures c.args.width c.args.bytes.now c.args.source.now.spec c.requires.sole.is)
    c.requires.deep c.requires.sole c.reported.ensures
