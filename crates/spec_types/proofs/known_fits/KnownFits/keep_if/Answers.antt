use Rattle.spec_types.proofs.Fitting.{one_more_fits}
use Rattle.spec_types.proofs.known_fits.KnownFits.keep_if.Goals as goal

pub returns-in_ok-keep : goal.returns-in_ok-keep
returns-in_ok-keep c scopes fit all = one_more_fits scopes c.args.self.now.kept.items _ _ c.in_ok-keep.ensures all (fit c.if-fit.true)

pub returns-else-fit : goal.returns-else-fit
returns-else-fit c scopes fit all = all
