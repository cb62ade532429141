use Rattle.std.proofs.Common.{inl, inr}
use Rattle.fault_tree.proofs.Merging.{merged_end}
use Rattle.fault_tree.specs.Forming.{merged}
use Rattle.fault_tree.proofs.unions.union.Goals as goal
use Rattle.fault_tree.proofs.unions.union.Goals.{then-loop-i-test+else-j-ys, else-loop-i-test}

pub returns : goal.returns
returns c =
    merged_end c.args.xs.now c.args.ys.now (merged c.args.xs.now c.args.ys.now) c.loop-i.union c.append.new.self c.append-2.new.self
    c.loop-i.i c.loop-i.j
    (elim c.loop-i-test.branch [
      | then-loop-i-test+else-j-ys w ↦ inr w.if-j-ys.false
      | else-loop-i-test w ↦ inl w.loop-i-test.false
    ])
    c.in_ok-append.ensures.ok c.in_ok-append-2.ensures.ok c.loop-i.invariant.so_far
