use Rattle.std.proofs.Common.{refl}
use Rattle.sat_core.proofs.LitSets.{none_opposite}
use Rattle.sat_core.proofs.distinct.opposites.Goals as goal

pub returns-in-None-clause-found : goal.returns-in-None-clause-found
returns-in-None-clause-found c =
    none_opposite c.gather-clash.new.set.steps.items c.gather-clash.new.set.places.items c.args.lits.now c.gather-clash.ensures.set
    (c.in-None.ensures.all refl)
