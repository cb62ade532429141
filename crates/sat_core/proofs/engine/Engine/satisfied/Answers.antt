use Rattle.std.proofs.Common.{map}
use Rattle.sat_core.specs.Search.{unit_clause}
use Rattle.sat_core.proofs.Searching.{within_same}
use Rattle.sat_core.proofs.Choosing.{done_none_false}
use Rattle.sat_core.proofs.engine.Engine.satisfied.Goals as goal

pub model-requires-clause-true_ : goal.model-requires-clause-true_
model-requires-clause-true_ c =
    done_none_false c.args.added.now c.args.assumed.now c.args.self.now c.requires.search c.requires.quiet c.requires.none_empty c.requires.done.2

pub model-requires-clause-within : goal.model-requires-clause-within
model-requires-clause-within c =
    within_same _ _ c.args.added.now c.requires.search.engine.propagator.vars c.requires.search.engine.keeps.added_within

pub model-requires-clause-assumed_within : goal.model-requires-clause-assumed_within
model-requires-clause-assumed_within c =
    within_same _ _ (map unit_clause c.args.assumed.now) c.requires.search.engine.propagator.vars c.requires.search.assumed_within
