-- What contracts see of a sink in memory.
use Rattle.std.specs.Prelude.{ℕ, ◌≡◌, List}
use Rattle.oss_io.specs.declared.sinks.MemorySink.{MemorySink}

abbrev pub sink_taken : MemorySink → List ℕ
sink_taken s = s.taken.items

-- how many bytes it takes in all
abbrev pub sink_room : MemorySink → ℕ
sink_room s = s.room

-- the numbers of the writes that fail
abbrev pub sink_failing : MemorySink → List ℕ
sink_failing s = s.failing

-- how many bytes a write takes at most
abbrev pub sink_piece : MemorySink → ℕ
sink_piece s = s.piece

-- how many writes there were
abbrev pub sink_writes : MemorySink → ℕ
sink_writes s = s.writes

-- how many of them failed
abbrev pub sink_faults : MemorySink → ℕ
sink_faults s = s.faults

-- what no call changes
pub record IsSameSink (old new : MemorySink) : Type 0 where
  pub room : sink_room new ≡ sink_room old
  pub failing : sink_failing new ≡ sink_failing old
  pub piece : sink_piece new ≡ sink_piece old
