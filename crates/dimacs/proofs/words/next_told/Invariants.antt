use Rattle.std.proofs.Common.{◌+◌, ◌≤◌, ℕ, List, length}
use Rattle.dimacs.specs.DimacsReading.{IsReadUpTo}
use Rattle.dimacs.proofs.words.next_told.Given as goal

-- no word was passed
abbrev pub invariant-lines : goal.invariant-lines
invariant-lines l = record {
  same : (text : List ℕ) → (words : List (List ℕ)) → IsReadUpTo text l.fn.number l.fn.rest l.fn.behind words
      → IsReadUpTo text l.at l.line l.left words;
  further : l.at + length l.left ≤ l.fn.number + length l.fn.behind;
  shorter : length l.line + length l.left ≤ length l.fn.rest + length l.fn.behind;
}

abbrev pub decreases-lines : goal.decreases-lines
decreases-lines l = length l.left
