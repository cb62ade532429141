use Rattle.std.proofs.Common.{◌≡◌, ◌*◌, ◌≤◌}
use Rattle.levels.specs.LevelFaults.{combinations}
use Rattle.levels.proofs.limits.small_sets.Given as goal

abbrev pub invariant-loop : goal.invariant-loop
invariant-loop l = record {
  singles : l.singles ≡ combinations l.counter 1;
  pairs : l.pairs ≡ combinations l.counter 2;
  triples : l.triples ≡ combinations l.counter 3;
  few : l.triples ≤ 1048576 * l.counter;
  fewer : l.pairs ≤ 1024 * l.counter;
  fewest : l.singles ≤ l.counter;
}
