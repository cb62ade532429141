use Rattle.std.proofs.Common.{◌≡◌, ◌++◌, ℕ, List, length, map, min, take, sym, ap, ◌∙◌, arith}
use Rattle.fault_tree.specs.Forming.{all_unions, cut_unions, table_sets}
use Rattle.fault_tree.specs.Trees.{product}
use Rattle.fault_tree.proofs.TableLaws.{unions_more, unions_same}
use Rattle.fault_tree.proofs.expanding.unions_of.Goals as goal
use Rattle.fault_tree.proofs.expanding.unions_of.Goals.{then-cut_width-gt0+in_ok-more+in_ok-unions, else-cut_width-gt0}

pub loop-cut-preserved : goal.loop-cut-preserved
loop-cut-preserved c =
    let sets : ℕ → List (List ℕ) = table_sets c.args.table.now in
    let before : List (List ℕ) = all_unions (table_sets c.args.table.now) (take c.loop-cut.cut-index c.args.cuts.now) in
    elim c.if-cut_width-gt0.branch [
      | then-cut_width-gt0+in_ok-more+in_ok-unions w ↦
          let more : w.in_ok-more.more ≡ cut_unions sets c.cut-item.result =
          w.in_ok-more.ensures ∙ ap (cut_unions sets) w.as_slice-then-cut_width-gt0.ensures in
          w.unions-is ∙ w.in_ok-unions.ensures
          ∙ ap (λ (l : List (List ℕ)). l ++ w.in_ok-more.more) c.loop-cut.invariant
          ∙ ap (λ (l : List (List ℕ)). before ++ l) more
          ∙ sym (unions_more sets c.args.cuts.now c.loop-cut.cut-index c.cut-item.result c.loop-cut-test.true c.cut-item.is)
      | else-cut_width-gt0 w ↦
          let count : c.cut_width.result ≡ min (product (map (λ member. length (sets member)) c.cut-item.result)) 65537 =
          c.cut_width.ensures
          ∙ ap (λ (l : List ℕ). min (product (map (λ member. length (sets member)) l)) 65537) c.as_slice.ensures in
          w.unions-is ∙ c.loop-cut.invariant
          ∙ sym (unions_same sets c.args.cuts.now c.loop-cut.cut-index c.cut-item.result c.loop-cut-test.true c.cut-item.is
          (omega (arith, count, w.if-cut_width-gt0.false)))
    ]
