use Rattle.std.proofs.Common.{◌≡◌, ◌∙◌, sym, ap}
use Rattle.oss_syntax.specs.Expressions.{Tree, Prefix, Binary, tree}
use Rattle.spec_names.specs.Noting.{noted}
use Rattle.spec_types.specs.Typing as typing
use Rattle.spec_types.specs.TypeFaults as faults
use Rattle.spec_types.specs.Uses as uses
use Rattle.spec_types.specs.Walks as walks
use Rattle.spec_types.proofs.Walking.{counts_both, tree-Prefix, tree-Binary, noted_prefix, noted_binary}
use Rattle.spec_types.proofs.walk.+typed_expression.Goals as goal

pub returns-in_ok-typed-in-Prefix-clause-first : goal.returns-in_ok-typed-in-Prefix-clause-first
returns-in_ok-typed-in-Prefix-clause-first t c =
    let reading = walks.scope_reading c.args.scope.now in
    let is : tree c.args.expr.now ≡ Prefix c.in-Prefix.word (tree c.get-in-Prefix.result.now) c.in-Prefix.span =
    ap tree c.in-Prefix.is ∙ (tree-Prefix c.in-Prefix.word c.in-Prefix.operand c.in-Prefix.span
    ∙ ap (λ o. Prefix c.in-Prefix.word (tree o) c.in-Prefix.span) (sym c.get-in-Prefix.ensures)) in
    noted_prefix c.in-Prefix.word (walks.typed c.in_ok-operand-in-Prefix.operand)
    (typing.typed_of reading (tree c.get-in-Prefix.result.now)) c.in-Prefix.span.start
    (faults.expression_faults reading (tree c.get-in-Prefix.result.now)) c.args.first.now c.typed_expression-in-Prefix.new.first c.prefixed.new.first
    c.in_ok-operand-in-Prefix.ensures.typed c.in_ok-operand-in-Prefix.ensures.first c.prefixed.ensures.first
    ∙ ap (λ (e : Tree). noted (faults.expression_faults reading e) c.args.first.now) (sym is)

pub returns-in_ok-typed-in-Binary-clause-counts : goal.returns-in_ok-typed-in-Binary-clause-counts
returns-in_ok-typed-in-Binary-clause-counts t c =
    let reading = walks.scope_reading c.args.scope.now in
    let is : tree c.args.expr.now ≡ Binary c.in-Binary.word (tree c.get-in-Binary.result.now) (tree c.get-in-Binary-2.result.now) c.in-Binary.span =
    ap tree c.in-Binary.is ∙ (tree-Binary c.in-Binary.word c.in-Binary.left c.in-Binary.right c.in-Binary.span
    ∙ (λ j. Binary c.in-Binary.word (tree (sym c.get-in-Binary.ensures j)) (tree (sym c.get-in-Binary-2.ensures j)) c.in-Binary.span)) in
    counts_both c.args.counts.now c.typed_expression-in-Binary.new.counts c.typed_expression-in-Binary-2.new.counts
    (uses.reads reading (tree c.get-in-Binary.result.now)) (uses.reads reading (tree c.get-in-Binary-2.result.now))
    c.in_ok-left-in-Binary.ensures.counts c.in_ok-right-in-Binary.ensures.counts
    ∙ ap (λ (e : Tree). uses.count_each c.args.counts.now (uses.reads reading e)) (sym is)

pub returns-in_ok-typed-in-Binary-clause-first : goal.returns-in_ok-typed-in-Binary-clause-first
returns-in_ok-typed-in-Binary-clause-first t c =
    let reading = walks.scope_reading c.args.scope.now in
    let is : tree c.args.expr.now ≡ Binary c.in-Binary.word (tree c.get-in-Binary.result.now) (tree c.get-in-Binary-2.result.now) c.in-Binary.span =
    ap tree c.in-Binary.is ∙ (tree-Binary c.in-Binary.word c.in-Binary.left c.in-Binary.right c.in-Binary.span
    ∙ (λ j. Binary c.in-Binary.word (tree (sym c.get-in-Binary.ensures j)) (tree (sym c.get-in-Binary-2.ensures j)) c.in-Binary.span)) in
    noted_binary c.in-Binary.word (walks.typed c.in_ok-left-in-Binary.left) (typing.typed_of reading (tree c.get-in-Binary.result.now))
    (walks.typed c.in_ok-right-in-Binary.right) (typing.typed_of reading (tree c.get-in-Binary-2.result.now)) c.in-Binary.span.start
    (faults.expression_faults reading (tree c.get-in-Binary.result.now)) (faults.expression_faults reading (tree c.get-in-Binary-2.result.now))
    c.args.first.now c.typed_expression-in-Binary.new.first c.typed_expression-in-Binary-2.new.first c.combined.new.first
    (record { left = c.in_ok-left-in-Binary.ensures.typed; right = c.in_ok-right-in-Binary.ensures.typed })
    c.in_ok-left-in-Binary.ensures.first c.in_ok-right-in-Binary.ensures.first c.in_ok-typed-in-Binary.ensures.first
    ∙ ap (λ (e : Tree). noted (faults.expression_faults reading e) c.args.first.now) (sym is)
