use Rattle.std.proofs.Common.{◌≡◌, ◌≤◌, ℕ, List, [], false, length, get_or, sym, ap, ◌∙◌, arith}
use Rattle.std.proofs.lemmas.Bool.{false≢true}
use Rattle.std.proofs.lemmas.List.{get_or_default}
use Rattle.fault_tree.specs.Keeping.{sublist_test}
use Rattle.fault_tree.proofs.KeepingLaws.{none_smaller, none_more}
use Rattle.fault_tree.proofs.minimal.has_smaller_subset.Goals as goal

pub returns-then-len : goal.returns-then-len
returns-then-len c =
    let here : c.other-item.result ≡ get_or c.args.kept.now c.loop-other.other-index [] =
    c.other-item.is ∙ get_or_default c.args.kept.now c.loop-other.other-index c.other-item.result [] c.loop-other-test.true in
    let long : length c.args.set.now ≤ length (get_or c.args.kept.now c.loop-other.other-index []) =
    omega (arith, c.len.ensures, c.len-in-loop-other.ensures, c.if-len.true, ap (λ (l : List ℕ). length l) here) in (
      λ is. absurd (false≢true is),
      λ has. absurd (none_smaller c.args.kept.now c.args.set.now c.loop-other.other-index c.requires c.loop-other-test.true
          long c.loop-other.invariant has),
    )

pub loop-other-preserved : goal.loop-other-preserved
loop-other-preserved c =
    let not_in : sublist_test c.other-item.result c.args.set.now ≡ false = cc in
    none_more c.args.kept.now c.args.set.now c.other-item.result c.loop-other.other-index c.loop-other-test.true
    c.other-item.is (λ passes. false≢true (sym not_in ∙ passes)) c.loop-other.invariant
