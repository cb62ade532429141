use Rattle.std.specs.Prelude.{◌≡◌, ◌≤◌, ◌-◌, take}
use Rattle.oss_base.specs.Places.{place_after}
use Rattle.architecture.proofs.text_places.moved.Given as goal

abbrev pub invariant-loop-at : goal.invariant-loop-at
invariant-loop-at l = record {
  place : l.place ≡ place_after (take l.at l.bytes);
  within : l.at ≤ l.offset;
}

abbrev pub decreases-loop-at : goal.decreases-loop-at
decreases-loop-at l = l.end - l.at
