use Rattle.dimacs.proofs.EntryLaws.{entry_along, none_along}
use Rattle.dimacs.proofs.entries.read_entry.Goals as goal

pub returns-in-Some-clause-some : goal.returns-in-Some-clause-some
returns-in-Some-clause-some c = entry_along c.negative_entry.result _ _ c.in-Some.ensures.some c.negative_entry.ensures.some

pub returns-in-Some-clause-none : goal.returns-in-Some-clause-none
returns-in-Some-clause-none c = none_along c.negative_entry.result _ _ c.in-Some.ensures.some c.negative_entry.ensures.none
