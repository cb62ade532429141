use Rattle.std.proofs.Common.{arith}
use Rattle.sat_core.proofs.Logs.{marked_more_links}
use Rattle.sat_core.proofs.log.mark.Goals as goal

pub loop-place-preserved : goal.loop-place-preserved
loop-place-preserved c =
    let resolutions = c.args.derivation.now.rest.items in
    marked_more_links c.args.needed.now c.loop-place.needed _ c.args.derivation.now.first resolutions c.loop-place.place c.index-resolution.result.now
    (omega (arith, c.args.derivation.now.rest.ok.0)) c.index-resolution.ensures c.mark_source-in-loop-place.ensures c.requires c.loop-place.invariant
