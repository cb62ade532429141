use Rattle.sat_core.proofs.Searching.{none_decided}
use Rattle.sat_core.proofs.SearchLaws.{emptied}
use Rattle.sat_core.proofs.engine.Engine.refuted.Goals as goal

pub refute-requires-clause-undecided : goal.refute-requires-clause-undecided
refute-requires-clause-undecided c =
    let e = c.args.self.now in
    none_decided c.args.added.now e.learnt.clauses.items c.args.assumed.now e.propagator.trail.steps.items e.propagator.trail.places.items
    c.args.index c.requires.search.engine.propagator.trail c.requires.search.justified c.requires.false_.0 c.requires.false_.1

pub returns-clause-engine : goal.returns-clause-engine
returns-clause-engine c =
    emptied c.args.added.now c.args.self.now c.refute.new.set c.requires.search.engine c.refute.ensures.set c.refute.ensures.vars
    c.refute.ensures.empty
