use Rattle.std.proofs.Common.{◌<◌, ℕ, List, length, sym, ◌∙◌, arith}
use Rattle.fault_tree.proofs.KeepingLaws.{test_at_end, test_below}
use Rattle.fault_tree.proofs.minimal.is_sublist.Goals as goal
use Rattle.fault_tree.proofs.minimal.is_sublist.Goals.{then-j-outer-via-then-j-outer, then-j-outer-via-else-j-outer+then-inner-i}

pub returns-then-j-outer : goal.returns-then-j-outer
returns-then-j-outer c =
    let xs : List ℕ = c.args.inner.now in
    let ys : List ℕ = c.args.outer.now in
    elim c.then-j-outer.branch [
      | then-j-outer-via-then-j-outer w ↦
          sym (test_at_end xs ys c.loop-i.i c.loop-i.j c.loop-i-test.true w.if-j-outer.true) ∙ c.loop-i.invariant.so_far
      | then-j-outer-via-else-j-outer+then-inner-i w ↦
          let low : c.loop-i.j < length ys = omega (arith, c.loop-i.invariant.j_in, w.if-j-outer.false) in
          sym (test_below xs ys c.loop-i.i c.loop-i.j c.loop-i-test.true low w.if-inner-i.true) ∙ c.loop-i.invariant.so_far
    ]
