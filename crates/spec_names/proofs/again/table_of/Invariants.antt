use Rattle.std.proofs.Common.{map, take}
use Rattle.spec_names.specs.Tables.{IsPlaceTable}
use Rattle.spec_names.specs.Words.{word_at}
use Rattle.spec_names.proofs.again.table_of.Given as goal

abbrev pub invariant-loop-place : goal.invariant-loop-place
invariant-loop-place l = IsPlaceTable (map word_at (take l.place l.words)) l.table
