use Rattle.std.proofs.Common.{◌≡◌, ◌-◌, ◌++◌}
use Rattle.std.specs.Prelude.{replicate}
use Rattle.state_coding.specs.Numbers.{widen}
use Rattle.state_coding.proofs.sums.widen.Given as goal

-- with the places that are left, the row so far is the wide row
abbrev pub invariant-loop : goal.invariant-loop
invariant-loop l = l.wide ++ replicate (l.places - l.counter) l.top ≡ widen l.places l.row
