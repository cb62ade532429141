use Rattle.ocra_tool.proofs.Excluded.{sound_has_no_fault, sound_has_no_second_fault}
use Rattle.ocra_tool.proofs.laws.sound_files_have_no_fault.Goals as goal

pub returns-clause-first : goal.returns-clause-first
returns-clause-first c = sound_has_no_fault (record {
  one = c.one_token_list.ensures;
  without = c.tokens_without_fault.ensures;
  unique = c.stands_is_unique.ensures;
})

pub returns-clause-second : goal.returns-clause-second
returns-clause-second c = sound_has_no_second_fault c.lassos_dont_break.ensures
