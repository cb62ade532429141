use Rattle.std.proofs.Common.{◌≡◌, ℕ, ◌<◌, false, get_or}
use Rattle.replay.specs.Reading.{is_stop}
use Rattle.replay.proofs.lines.run_len.Given as goal

-- none of the bytes so far passes
abbrev pub invariant-loop-i : goal.invariant-loop-i
invariant-loop-i l = (k : ℕ) → k < l.i → is_stop l.stop (get_or l.bytes k 0) ≡ false
