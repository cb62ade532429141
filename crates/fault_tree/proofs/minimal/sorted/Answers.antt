use Rattle.std.proofs.Common.{sym, subst, rules, is_lt}
use Rattle.std.proofs.lemmas.Fn.{always_returns_same}
use Rattle.minimal_sets.specs.Orders.{shortlex}
use Rattle.fault_tree.specs.Keeping.{IsSortedUp}
use Rattle.fault_tree.proofs.Shortlex.{shortlex_weak}
use Rattle.fault_tree.proofs.minimal.sorted.Goals as goal

pub returns-clause-order : goal.returns-clause-order
returns-clause-order c =
    subst IsSortedUp (sym c.from_vec.ensures)
    (c.sort_unstable_by.ensures.sorted (λ s t. is_lt (shortlex s t)) shortlex_weak
    (always_returns_same _ _ _ (λ a r f k. search rules)))
