use Rattle.spec_model.specs.FreePlaces.{whole_place}
use Rattle.spec_model.proofs.Building.{Built}
use Rattle.spec_model.proofs.free_order.places_of.Given as goal

abbrev pub invariant-loop-target : goal.invariant-loop-target
invariant-loop-target l = Built (whole_place l.own l.counts) l.targets l.driven.items l.target-index
