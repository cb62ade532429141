use Rattle.std.specs.Prelude.{◌≡◌, ◌+◌, ◌≤◌, length}
use Rattle.replay.specs.Reading.{AreReadTo, lines_ahead, line_behind}
use Rattle.replay.proofs.reading.read_states.Given as goal

-- so many states are read
abbrev pub invariant-loop : goal.invariant-loop
invariant-loop l = record {
  count : length l.states ≡ l.counter;
  read : AreReadTo l.table.names l.table.kinds (line_behind l.fn.bytes l.fn.first) l.count (lines_ahead l.fn.bytes l.fn.first) l.states
      (lines_ahead l.rest l.number);
  behind : line_behind l.fn.bytes l.fn.first ≡ line_behind l.rest l.number;
  shorter : l.number + length l.rest ≤ l.fn.first + length l.fn.bytes;
}
