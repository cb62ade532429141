use Rattle.std.proofs.Common.{◌≢◌, List, subst, sym, rules}
use Rattle.std.specs.Prelude.{AllPairs}
use Rattle.std.proofs.lemmas.List.Sorted.{IsNonDecreasingBy-from_sort_by_key}
use Rattle.port_types.specs.declared.sets.Set24.{Set24}
use Rattle.minimal_sets.specs.Orders.{AreInShortlexOrder}
use Rattle.minimal_sets.specs.Searches.{rank_from}
use Rattle.minimal_sets.proofs.Ranks.{once_permuted, ordered}
use Rattle.minimal_sets.proofs.orders.in_order.Goals as goal

pub returns-clause-order : goal.returns-clause-order
returns-clause-order c =
    let sorted : List Set24 = c.sort_unstable_by_key.new.self.items in
    subst AreInShortlexOrder (sym c.from_vec.ensures) (
    ordered c.sets_by_members.ensures sorted
    (once_permuted c.sets_by_members.ensures c.into_vec-items.result.items sorted c.sort_unstable_by_key.ensures.permutation
    (subst (AllPairs (λ s t. s ≢ t)) (sym c.into_vec-items.ensures) c.requires))
    (IsNonDecreasingBy-from_sort_by_key (λ s. rank_from s 24) sorted c.sort_unstable_by_key.ensures.sorted (λ a r q k. search rules))
    )
