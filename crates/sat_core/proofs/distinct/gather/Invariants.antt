use Rattle.std.proofs.Common.{◌≡◌, length, take}
use Rattle.clause_log.specs.Derivations.{SameLits}
use Rattle.sat_core.specs.Search.{IsTrail}
use Rattle.sat_core.proofs.LitSets.{lits_of}
use Rattle.sat_core.proofs.distinct.gather.Given as goal

-- the trail has the literals so far
abbrev pub invariant-loop-lit : goal.invariant-loop-lit
invariant-loop-lit l = record {
  set : IsTrail l.set.steps.items l.set.places.items;
  vars : length l.set.places.items ≡ length l.fn.set.places.items;
  all : SameLits (lits_of l.set.steps.items) (take l.lit-index l.lits);
}
