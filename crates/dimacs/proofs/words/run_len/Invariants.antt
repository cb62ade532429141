use Rattle.std.proofs.Common.{◌≡◌, ℕ, ◌<◌, false, get_or}
use Rattle.dimacs.specs.DimacsReading.{ends_run}
use Rattle.dimacs.proofs.words.run_len.Given as goal

-- none of the bytes so far passes
abbrev pub invariant-loop-i : goal.invariant-loop-i
invariant-loop-i l = (k : ℕ) → k < l.i → ends_run l.end (get_or l.bytes k 0) ≡ false
