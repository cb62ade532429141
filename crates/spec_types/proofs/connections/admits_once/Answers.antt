use Rattle.std.proofs.Common.{IfSome, subst, map}
use Rattle.spec_types.specs.Walks as walks
use Rattle.spec_types.specs.Fitting as fitting
use Rattle.spec_types.proofs.connections.admits_once.Goals as goal

pub admits_known-requires-clause-given : goal.admits_known-requires-clause-given
admits_known-requires-clause-given c =
    subst (λ o. IfSome o (λ p. fitting.IsPortRead (map walks.interface c.args.scope.now.scopes.now) p (walks.typed c.args.source.now)))
    c.in-Some.is c.requires.place
