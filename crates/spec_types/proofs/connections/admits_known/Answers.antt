use Rattle.std.proofs.Common.{sym, ◌∙◌, map}
use Rattle.spec_types.specs.Walks as walks
use Rattle.spec_types.proofs.Fitting.{known_fits, fits_now}
use Rattle.spec_types.proofs.connections.admits_known.Goals as goal

pub returns-then-tell-clause-fit : goal.returns-then-tell-clause-fit
returns-then-tell-clause-fit c =
    let scopes = map walks.interface c.args.scope.now.scopes.now in
    known_fits scopes c.args.wanted c.args.given c.args.target.now (walks.refinement c.args.scope.now) (walks.typed c.args.source.now)
    c.requires.wanted c.requires.given (c.tell.ensures c.if-tell.true scopes c.requires.known.fit)

pub returns-in_ok-keep_if-clause-known : goal.returns-in_ok-keep_if-clause-known
returns-in_ok-keep_if-clause-known c =
    let scopes = map walks.interface c.args.scope.now.scopes.now in
    record {
      own_is = c.requires.known.own_is;
      fit = c.in_ok-keep_if.ensures scopes
          (λ fits. fits_now scopes c.args.wanted c.args.given c.args.target.now (walks.refinement c.args.scope.now) (walks.typed c.args.source.now)
          c.requires.wanted c.requires.given (sym c.in_ok-fit.ensures ∙ fits))
          c.requires.known.fit;
    }
