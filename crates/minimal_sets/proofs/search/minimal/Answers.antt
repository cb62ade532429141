use Rattle.std.proofs.Common.{◌≡◌, ◌+◌, ◌*◌, ◌≤◌, ℕ, length, subst, sym}
use Rattle.std.proofs.lemmas.List.Sorted.{length_permutation}
use Rattle.port_types.specs.declared.sets.Set24.{Set24}
use Rattle.minimal_sets.specs.Families.{IsMinimalMember}
use Rattle.minimal_sets.proofs.Cursors.{below_all, all_before, members_exactly, outside_exactly}
use Rattle.minimal_sets.proofs.Ranks.{exactly_permuted}
use Rattle.minimal_sets.proofs.search.minimal.Goals as goal

pub advance-requires-clause-below : goal.advance-requires-clause-below
advance-requires-clause-below g c = λ place in'.
    below_all c.args.n c.below-all.result c.below-all.ensures c.loop-next.next c.loop-next-test.true place in'

pub returns-clause-exactly : goal.returns-clause-exactly
returns-clause-exactly g c =
    let F : Set24 → Type 0 = g.T.Test.family c.args.test.now in
    exactly_permuted c.sets_by_members.ensures (IsMinimalMember c.args.n F) c.loop-next.members c.in_order.result c.in_order.ensures.same
    (members_exactly c.args.n F (g.met.T.Test.upward c.args.test.now) c.loop-next.next
    (all_before c.args.n c.below-all.result c.below-all.ensures c.loop-next.next c.loop-next-test.false)
    c.loop-next.members c.loop-next.outside c.loop-next.invariant.search)

pub returns-clause-steps : goal.returns-clause-steps
returns-clause-steps g c =
    let F : Set24 → Type 0 = g.T.Test.family c.args.test.now in
    let same : length c.in_order.result ≡ length c.loop-next.members =
    length_permutation c.loop-next.members c.in_order.result c.in_order.ensures.same in
    record {
      maximal = c.loop-next.outside;
      exactly = outside_exactly c.args.n F (g.met.T.Test.upward c.args.test.now) c.loop-next.next
          (all_before c.args.n c.below-all.result c.below-all.ensures c.loop-next.next c.loop-next-test.false)
          c.loop-next.members c.loop-next.outside c.loop-next.invariant.search;
      within = subst (λ (size : ℕ). c.loop-next.steps ≤ c.args.steps.now + (c.args.n + 1) * (size + length c.loop-next.outside)) (sym same)
          c.loop-next.invariant.steps;
    }
