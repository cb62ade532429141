use Rattle.std.proofs.Common.{◌-◌, ◌<◌, ℕ, List, [], length, map, min, ap, ◌∙◌, arith}
use Rattle.std.proofs.lemmas.List.{get_or_default}
use Rattle.fault_tree.specs.Forming.{table_sets}
use Rattle.fault_tree.specs.Trees.{product}
use Rattle.fault_tree.proofs.Counts.{cuts_step}
use Rattle.fault_tree.proofs.widths.width_of.Goals as goal

pub loop-i-preserved : goal.loop-i-preserved
loop-i-preserved c =
    let low : c.loop-i.i - 1 < length c.args.cuts.now = omega (arith, c.loop-i.invariant.i_in, c.loop-i-test.true) in
    let sets : ℕ → List (List ℕ) = table_sets c.args.table.now in
    record {
      so_far =
          c.min-width.ensures
          ∙ cuts_step sets c.args.cuts.now (c.loop-i.i - 1) c.loop-i.i c.cut_width.result c.loop-i.width low
          (omega (arith, c.loop-i-test.true))
          (c.cut_width.ensures ∙ ap (λ (cut : List ℕ). min (product (map (λ member. length (sets member)) cut)) 65537)
          (c.as_slice.ensures ∙ c.index-cuts-i.is
          ∙ get_or_default c.args.cuts.now (c.loop-i.i - 1) c.index-cuts-i.result [] low))
          c.loop-i.invariant.so_far;
      i_in = omega (arith, c.loop-i.invariant.i_in);
    }
