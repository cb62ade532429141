use Rattle.std.proofs.Common.{List, map, subst}
use Rattle.std.proofs.lemmas.Result.{err_from_is_err_and}
use Rattle.core_ltl.specs.declared.stop.ClosureStop.TheVariants as stop
use Rattle.core_ltl.specs.Nodes.{members}
use Rattle.connections.specs.declared.substituting.Part.{Part}
use Rattle.connections.specs.LevelFormulas.{formulas_of_part}
use Rattle.levels.specs.Levels.{AreAllPartNodes}
use Rattle.levels.specs.Steps.{AddsFormulas, ExceedsWith, formulas_meaning, parts_formulas}
use Rattle.levels.proofs.Adding.{steps_added, steps_nodes, many_asked, many_given, many_listed, same_error}
use Rattle.levels.proofs.building.add_formulas.Goals as goal

pub returns-clause-added : goal.returns-clause-added
returns-clause-added c =
    let places = c.args.places.now in
    let d = c.add_over-2.new.closure in
    let e = c.add_parts.new.closure in
    steps_added places (formulas_meaning c.args.formulas.now) c.args.closure.now c.add_over.new.closure d e
    (record {
      asks = c.in_ok-assume.ensures.added;
      gives = c.in_ok-guarantee.ensures.added;
      parts = subst (λ (ps : List Part). AddsFormulas d e (parts_formulas places (map formulas_of_part ps))) c.as_slice.ensures c.in_ok-parts.ensures.added;
    })

pub returns-clause-nodes : goal.returns-clause-nodes
returns-clause-nodes c =
    let places = c.args.places.now in
    let d = c.add_over-2.new.closure in
    let e = c.add_parts.new.closure in
    steps_nodes places (formulas_meaning c.args.formulas.now) c.args.closure.now c.add_over.new.closure d e
    (record { assume = c.in_ok-assume.assume; guarantee = c.in_ok-guarantee.guarantee; parts = c.in_ok-parts.parts })
    (record {
      asks = c.in_ok-assume.ensures.added;
      gives = c.in_ok-guarantee.ensures.added;
      parts = subst (λ (ps : List Part). AddsFormulas d e (parts_formulas places (map formulas_of_part ps))) c.as_slice.ensures c.in_ok-parts.ensures.added;
    }) (
      c.in_ok-assume.ensures.node,
      c.in_ok-guarantee.ensures.node,
      subst (λ (ps : List Part). AreAllPartNodes (members e) places c.in_ok-parts.parts.items (map formulas_of_part ps)) c.as_slice.ensures
          c.in_ok-parts.ensures.nodes,
    )

pub returns-in_err-assume-clause-too_large : goal.returns-in_err-assume-clause-too_large
returns-in_err-assume-clause-too_large c =
    let p = err_from_is_err_and c.from_residual.result c.from_residual.ensures.1 in
    rw (p.1, p.2) (λ is. many_asked c.args.places.now (formulas_meaning c.args.formulas.now) c.args.closure.now
    (c.in_err-assume.ensures.too_large (same_error c.in_err-assume.field-0.0 stop.TooLarge is)))

pub returns-in_err-guarantee-clause-too_large : goal.returns-in_err-guarantee-clause-too_large
returns-in_err-guarantee-clause-too_large c =
    let p = err_from_is_err_and c.from_residual-in_err-guarantee.result c.from_residual-in_err-guarantee.ensures.1 in
    rw (p.1, p.2) (λ is. many_given c.args.places.now (formulas_meaning c.args.formulas.now) c.args.closure.now c.add_over.new.closure
    c.in_ok-assume.ensures.added (c.in_err-guarantee.ensures.too_large (same_error c.in_err-guarantee.field-0.0 stop.TooLarge is)))

pub returns-in_err-parts-clause-too_large : goal.returns-in_err-parts-clause-too_large
returns-in_err-parts-clause-too_large c =
    let d = c.add_over-2.new.closure in
    let p = err_from_is_err_and c.from_residual-in_err-parts.result c.from_residual-in_err-parts.ensures.1 in
    rw (p.1, p.2) (λ is. many_listed c.args.places.now (formulas_meaning c.args.formulas.now) c.args.closure.now c.add_over.new.closure d
    c.in_ok-assume.ensures.added c.in_ok-guarantee.ensures.added
    (subst (λ (ps : List Part). ExceedsWith d (parts_formulas c.args.places.now (map formulas_of_part ps))) c.as_slice.ensures
    (c.in_err-parts.ensures.too_large (same_error c.in_err-parts.field-0.0 stop.TooLarge is))))
