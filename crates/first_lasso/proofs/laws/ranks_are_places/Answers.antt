use Rattle.first_lasso.proofs.Ranks as ranks
use Rattle.first_lasso.proofs.laws.ranks_are_places.Goals as goal

pub returns-clause-places : goal.returns-clause-places
returns-clause-places c = ranks.ranks_are_places

pub returns-clause-ranks : goal.returns-clause-ranks
returns-clause-ranks c = ranks.places_are_ranks c.values_by_kind.ensures c.each_value_once.ensures
