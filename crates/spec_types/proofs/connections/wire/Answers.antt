use Rattle.oss_syntax.specs.Expressions.{tree}
use Rattle.spec_types.specs.Walks as walks
use Rattle.spec_types.proofs.Fitting.{typed_read}
use Rattle.spec_types.proofs.connections.wire.Goals as goal

pub note_source-requires-clause-place : goal.note_source-requires-clause-place
note_source-requires-clause-place c =
    typed_read (walks.refinement c.args.scope.now) c.args.order.now (tree c.args.source.now) _ c.long_source-place.result
    c.in_ok-typed.ensures.typed c.long_source-place.ensures
