use Rattle.std.proofs.Common.{List, ℕ, subst, ◌∙◌}
use Rattle.std.proofs.lemmas.List.{take_all}
use Rattle.fault_tree.specs.Marks.{IsNamedIn, Marks}
use Rattle.fault_tree.proofs.Marking.{marks_more}
use Rattle.fault_tree.proofs.reaching.mark_cuts.Goals as goal

pub loop-cut-preserved : goal.loop-cut-preserved
loop-cut-preserved c =
    marks_more c.args.marks.now c.loop-cut.marks c.mark_cut.new.marks c.args.cuts.now c.loop-cut.cut-index c.cut-item.result
    c.as_slice.result.now c.loop-cut-test.true (c.as_slice.ensures ∙ c.cut-item.is) c.loop-cut.invariant c.mark_cut.ensures

pub returns : goal.returns
returns c =
    subst (λ (cuts : List (List ℕ)). Marks c.args.marks.now c.loop-cut.marks (IsNamedIn cuts))
    (take_all c.loop-cut.cut-index c.args.cuts.now c.loop-cut-test.false) c.loop-cut.invariant
