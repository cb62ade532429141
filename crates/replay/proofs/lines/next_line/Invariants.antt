use Rattle.std.proofs.Common.{◌≡◌, ◌+◌, ◌≤◌, length}
use Rattle.replay.specs.Reading.{lines_ahead, line_behind}
use Rattle.replay.proofs.lines.next_line.Given as goal

-- no line so far counts
abbrev pub invariant-loop-rest : goal.invariant-loop-rest
invariant-loop-rest l = record {
  ahead : lines_ahead l.fn.bytes l.fn.first ≡ lines_ahead l.rest l.number;
  behind : line_behind l.fn.bytes l.fn.first ≡ line_behind l.rest l.number;
  shorter : l.number + length l.rest ≤ l.fn.first + length l.fn.bytes;
}

abbrev pub decreases-loop-rest : goal.decreases-loop-rest
decreases-loop-rest l = length l.rest
