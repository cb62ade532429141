use Rattle.std.proofs.Common.{List, ℕ, subst, sym}
use Rattle.std.specs.Prelude.{All, Contains}
use Rattle.std.proofs.lemmas.Result.{IfOk-weaker}
use Rattle.std.proofs.lemmas.List.Sorted.{All-permutation, Contains-permutation, IsPermutation-sym}
use Rattle.fault_tree.specs.Leaves.{IsRising, AreMinimalOf}
use Rattle.fault_tree.proofs.Formed.{minimal_of_same}
use Rattle.fault_tree.proofs.minimal.minimal_of.Goals as goal

pub keep_minimal-requires-clause-rising : goal.keep_minimal-requires-clause-rising
keep_minimal-requires-clause-rising c =
    subst (All IsRising) (sym c.as_slice.ensures)
    (All-permutation IsRising c.args.sets c.sorted-ordered.result c.sorted-ordered.ensures.same c.requires)

pub returns : goal.returns
returns c =
    let ordered : List (List ℕ) = c.sorted-ordered.result in
    IfOk-weaker c.keep_minimal.result (AreMinimalOf (Contains c.as_slice.result.now)) (AreMinimalOf (Contains c.args.sets))
    (λ kept is. minimal_of_same (Contains c.sorted-ordered.result) (Contains c.args.sets)
    (λ s. (
      Contains-permutation c.sorted-ordered.result c.args.sets s
          (IsPermutation-sym c.args.sets c.sorted-ordered.result c.sorted-ordered.ensures.same),
      Contains-permutation c.args.sets c.sorted-ordered.result s c.sorted-ordered.ensures.same,
    )) kept
    (subst (λ (l : List (List ℕ)). AreMinimalOf (Contains l) kept) c.as_slice.ensures is))
    c.keep_minimal.ensures
