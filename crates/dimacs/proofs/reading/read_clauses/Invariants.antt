use Rattle.std.proofs.Common.{◌≡◌, ◌+◌, ◌<◌, ◌≤◌, ◌^◌, ℕ, List, length}
use Rattle.dimacs.specs.DimacsReading.{IsReadUpTo, AreTaken}
use Rattle.dimacs.proofs.reading.read_clauses.Given as goal

-- the words so far, and what they stand for
abbrev pub invariant-words : goal.invariant-words
invariant-words l = record {
  taken : (words : List (List ℕ)) × IsReadUpTo l.text l.ahead.number l.ahead.rest.now l.ahead.behind.now words
      × AreTaken words l.header.vars l.header.count l.cnf.clauses l.unfinished;
  few : l.ended ≤ l.header.count;
  ended : l.ended ≡ length l.cnf.clauses;
  vars : l.cnf.vars ≡ l.header.vars;
  further : l.ahead.number + length l.ahead.behind.now < 2 ^ 63;
}

abbrev pub decreases-words : goal.decreases-words
decreases-words l = length l.ahead.rest.now + length l.ahead.behind.now
