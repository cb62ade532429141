use Rattle.std.proofs.Common.{◌-◌, ◌*◌, ◌<◌, ℕ, [], length, get_or, min, ap, ◌∙◌, arith}
use Rattle.std.proofs.lemmas.List.{get_or_default}
use Rattle.fault_tree.specs.Forming.{table_sets}
use Rattle.fault_tree.proofs.Counts.{cut_step}
use Rattle.fault_tree.proofs.widths.cut_width.Goals as goal

pub loop-i-preserved : goal.loop-i-preserved
loop-i-preserved c =
    let low : c.loop-i.i - 1 < length c.args.cut.now = omega (arith, c.loop-i.invariant.i_in, c.loop-i-test.true) in
    let member : ℕ = get_or c.args.cut.now (c.loop-i.i - 1) 0 in
    record {
      so_far =
          c.min-width.ensures ∙ ap (λ (m : ℕ). min (m * c.loop-i.width) 65537) c.min-sets.ensures
          ∙ cut_step (table_sets c.args.table.now) c.args.cut.now (c.loop-i.i - 1) c.loop-i.i c.len.result c.loop-i.width low
          (omega (arith, c.loop-i-test.true))
          (c.len.ensures ∙ ap length (c.index-table-cut.is
          ∙ get_or_default c.args.table.now member c.index-table-cut.result [] (c.requires (c.loop-i.i - 1) 0 low)))
          c.loop-i.invariant.so_far;
      i_in = omega (arith, c.loop-i.invariant.i_in);
    }
