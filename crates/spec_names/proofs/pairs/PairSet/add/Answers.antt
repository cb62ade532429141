use Rattle.spec_names.proofs.PairFacts.{pair_added, pair_put}
use Rattle.spec_names.proofs.pairs.PairSet.add.Goals as goal

pub returns-clause-added : goal.returns-clause-added
returns-clause-added c =
    pair_added c.self.inside.pairs.keys (c.in_ok-from_str.field-0, c.in_ok-from_str-2.field-0) c.args.self.now (c.args.first.now, c.args.second.now)
    c.in_ok-_place.added
    c.self.view_is (λ j. (c.in_ok-from_str.ensures.ok j, c.in_ok-from_str-2.ensures.ok j)) c.in_ok-_place.ensures.added

pub returns-clause-pairs : goal.returns-clause-pairs
returns-clause-pairs c =
    pair_put c.self.inside.pairs.keys c.insert_full.new.self.keys (c.in_ok-from_str.field-0, c.in_ok-from_str-2.field-0) c.args.self.now
    (c.args.first.now, c.args.second.now)
    c.self.view_is (λ j. (c.in_ok-from_str.ensures.ok j, c.in_ok-from_str-2.ensures.ok j)) c.in_ok-_place.ensures.keys
