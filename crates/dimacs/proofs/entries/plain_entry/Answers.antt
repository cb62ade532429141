use Rattle.std.proofs.Common.{◌∙◌}
use Rattle.dimacs.proofs.EntryLaws.{plain_none}
use Rattle.dimacs.proofs.entries.plain_entry.Goals as goal

pub returns-in-Some-clause-some : goal.returns-in-Some-clause-some
returns-in-Some-clause-some c = c.in-Some.ensures.some ∙ c.numbered_entry.ensures.word

pub returns-in-Some-clause-small : goal.returns-in-Some-clause-small
returns-in-Some-clause-small c = c.numbered_entry.ensures.small c.in-Some.ensures.most

pub returns-in-None-clause-none : goal.returns-in-None-clause-none
returns-in-None-clause-none c = plain_none c.args.word.now c.requires c.in-None.ensures.none
