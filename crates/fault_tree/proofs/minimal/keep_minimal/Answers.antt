use Rattle.std.proofs.Common.{◌≡◌, ◌++◌, ◌∷◌, [], ◌-◌, ◌<◌, ℕ, List, length, get_or, take, refl, subst, sym, ap, ◌∙◌}
use Rattle.std.specs.declared.cmp.Ordering.TheVariants.{Less}
use Rattle.std.proofs.lemmas.Bool.{false≢true}
use Rattle.std.proofs.lemmas.List.{take_all}
use Rattle.minimal_sets.specs.Orders.{shortlex}
use Rattle.fault_tree.specs.Keeping.{IsShortFirst, AreKeptOf, HasSmallerSubset}
use Rattle.fault_tree.proofs.KeepingLaws.{IsNext, short_first, kept_minimal, next_of, next_kept, next_same, next_covered, kept_upto}
use Rattle.fault_tree.proofs.minimal.keep_minimal.Goals as goal
use Rattle.fault_tree.proofs.minimal.keep_minimal.Goals.{then-stands_after+then-not-has_smaller_subset+in_ok-copy_of+in_ok-push, else-stands_after}
use Rattle.fault_tree.proofs.minimal.keep_minimal.Goals.{else-stands_after-via-then-stands_after+else-not-has_smaller_subset}
use Rattle.fault_tree.proofs.minimal.keep_minimal.Goals.{else-stands_after-via-else-stands_after}

-- the last of some sets stands before s
abbrev LastBefore : List ℕ → List (List ℕ) → Type 0
LastBefore s kept = 0 < length kept → shortlex (get_or kept (length kept - 1) []) s ≡ Less

pub has_smaller_subset-requires : goal.has_smaller_subset-requires
has_smaller_subset-requires c =
    subst IsShortFirst (sym c.as_slice-then-stands_after.ensures) (short_first c.loop-set.kept c.loop-set.invariant.order)

pub loop-set-preserved : goal.loop-set-preserved
loop-set-preserved c =
    let next : IsNext (take c.loop-set.set-index c.args.sets.now) c.loop-set.kept c.set-item.result =
    next_of c.args.sets.now c.loop-set.kept c.loop-set.set-index c.set-item.result c.requires.order c.requires.rising
    c.loop-set-test.true c.set-item.is c.loop-set.invariant in
    kept_upto c.args.sets.now c.if-stands_after.kept c.loop-set.set-index c.set-item.result c.loop-set-test.true c.set-item.is
    (elim c.if-stands_after.branch [
      | then-stands_after+then-not-has_smaller_subset+in_ok-copy_of+in_ok-push w ↦
          let last : LastBefore c.set-item.result c.loop-set.kept =
          subst (LastBefore c.set-item.result) c.as_slice.ensures (w.if-stands_after.ensures.0 refl) in
          let new : c.if-stands_after.kept ≡ c.loop-set.kept ++ c.set-item.result ∷ [] =
          w.kept-is ∙ w.in_ok-push.ensures.ok ∙ ap (λ (l : List ℕ). c.loop-set.kept ++ l ∷ []) w.in_ok-copy_of.ensures in
          subst (AreKeptOf (take c.loop-set.set-index c.args.sets.now ++ c.set-item.result ∷ [])) (sym new)
          (next_kept (take c.loop-set.set-index c.args.sets.now) c.loop-set.kept c.set-item.result c.loop-set.invariant next last
          (λ has. false≢true (w.if-not-has_smaller_subset.ensures.1
          (subst (λ (l : List (List ℕ)). HasSmallerSubset l c.set-item.result) (sym w.as_slice-then-stands_after.ensures) has))))
      | else-stands_after w ↦
          subst (AreKeptOf (take c.loop-set.set-index c.args.sets.now ++ c.set-item.result ∷ [])) (sym w.kept-is)
          (elim w.else-stands_after.branch [
            | else-stands_after-via-then-stands_after+else-not-has_smaller_subset w' ↦
                next_covered (take c.loop-set.set-index c.args.sets.now) c.loop-set.kept c.set-item.result c.loop-set.invariant
                (subst (λ (l : List (List ℕ)). HasSmallerSubset l c.set-item.result) w'.as_slice-then-stands_after.ensures
                (w'.if-not-has_smaller_subset.ensures.0 refl))
            | else-stands_after-via-else-stands_after w' ↦
                next_same (take c.loop-set.set-index c.args.sets.now) c.loop-set.kept c.set-item.result c.loop-set.invariant next
                (λ last. false≢true (w'.if-stands_after.ensures.1
                (subst (LastBefore c.set-item.result) (sym c.as_slice.ensures) last)))
          ])
    ])

pub returns : goal.returns
returns c =
    kept_minimal c.args.sets.now c.loop-set.kept c.requires.rising
    (subst (λ (l : List (List ℕ)). AreKeptOf l c.loop-set.kept)
    (take_all c.loop-set.set-index c.args.sets.now c.loop-set-test.false) c.loop-set.invariant)
