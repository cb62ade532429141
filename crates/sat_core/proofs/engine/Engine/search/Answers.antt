use Rattle.sat_core.proofs.SearchLaws.{search_begun, longer_then}
use Rattle.sat_core.proofs.engine.Engine.search.Goals as goal

pub advance-requires-clause-search : goal.advance-requires-clause-search
advance-requires-clause-search c =
    (search_begun c.args.added.now c.args.assumed.now c.args.self.now c.requires.engine c.requires.rest c.requires.assumed
    c.lists_are_exact.ensures).0

pub advance-requires-clause-quiet : goal.advance-requires-clause-quiet
advance-requires-clause-quiet c =
    (search_begun c.args.added.now c.args.assumed.now c.args.self.now c.requires.engine c.requires.rest c.requires.assumed
    c.lists_are_exact.ensures).1

pub returns-in_err-found-in-Next-clause-longer : goal.returns-in_err-found-in-Next-clause-longer
returns-in_err-found-in-Next-clause-longer c =
    longer_then c.args.self.now c.loop-found.self c.follow.new.self c.loop-found.invariant.longer c.follow.ensures.longer

pub loop-found-preserved : goal.loop-found-preserved
loop-found-preserved c = record {
  engine = c.follow.ensures.engine;
  longer = longer_then c.args.self.now c.loop-found.self c.follow.new.self c.loop-found.invariant.longer c.follow.ensures.longer;
  found = c.in_ok-found-in-Next.ensures.found;
  seen = c.follow.ensures.seen;
}
