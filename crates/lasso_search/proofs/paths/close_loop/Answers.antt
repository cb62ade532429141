use Rattle.std.proofs.Common.{◌-◌, arith, length}
use Rattle.lasso_search.proofs.PathLayers.{layers_later}
use Rattle.lasso_search.proofs.LayerFacts.{loop_part_coded, closes_by_parts, kept_by_step, kept_by_parts}
use Rattle.lasso_search.proofs.paths.close_loop.Goals as goal

pub returns-in_err-code_step-clause-kept : goal.returns-in_err-code_step-clause-kept
returns-in_err-code_step-clause-kept g c =
    kept_by_step c.args.tab.now c.args.layers.now c.args.loop_at (length c.args.layers.now - 1) c.index-layers-layers.result
    c.index-layers-loop_at.result c.args.under
    (record {
      end = omega (arith, c.requires.place);
      inside = c.requires.place;
      is_from = c.index-layers-layers.is;
      is_to = c.index-layers-loop_at.is;
    }) _ _ _ _ c.code_step.ensures.kept

pub make_fair-requires-clause-layers : goal.make_fair-requires-clause-layers
make_fair-requires-clause-layers g c =
    loop_part_coded _ _ c.args.tab.now c.args.loop_at c.args.layers.now
    (layers_later c.layers_stay.ensures _ _ _ _ c.code_step.ensures.more.0 c.args.tab.now c.args.layers.now (omega (arith, c.code_step.ensures.vars))
    c.code_step.ensures.more.1 c.requires.layers)

pub returns-in_err-make_fair-clause-kept : goal.returns-in_err-make_fair-clause-kept
returns-in_err-make_fair-clause-kept g c =
    kept_by_parts c.args.tab.now c.args.layers.now c.args.loop_at (length c.args.layers.now - 1) c.index-layers-layers.result
    c.index-layers-loop_at.result c.args.under
    (record {
      end = omega (arith, c.requires.place);
      inside = c.requires.place;
      is_from = c.index-layers-layers.is;
      is_to = c.index-layers-loop_at.is;
    }) _ _ _ _ _ _ c.code_step.ensures.kept c.make_fair.ensures.kept

pub returns-clause-closes : goal.returns-clause-closes
returns-clause-closes g c =
    closes_by_parts c.args.tab.now c.args.layers.now c.args.loop_at (length c.args.layers.now - 1) c.index-layers-layers.result
    c.index-layers-loop_at.result c.args.under
    (record {
      end = omega (arith, c.requires.place);
      inside = c.requires.place;
      is_from = c.index-layers-layers.is;
      is_to = c.index-layers-loop_at.is;
    }) _ _ _ _ c.make_fair.ensures.vars c.make_fair.ensures.more c.in_ok-code_step.ensures.step
    c.in_ok-make_fair.ensures.says

pub returns-clause-kept : goal.returns-clause-kept
returns-clause-kept g c =
    kept_by_parts c.args.tab.now c.args.layers.now c.args.loop_at (length c.args.layers.now - 1) c.index-layers-layers.result
    c.index-layers-loop_at.result c.args.under
    (record {
      end = omega (arith, c.requires.place);
      inside = c.requires.place;
      is_from = c.index-layers-layers.is;
      is_to = c.index-layers-loop_at.is;
    }) _ _ _ _ _ _ c.code_step.ensures.kept c.make_fair.ensures.kept
