use Rattle.std.proofs.Common.{refl}
use Rattle.std.proofs.lemmas.Result.{err_from_is_err_and}
use Rattle.core_ltl.specs.declared.stop.ClosureStop.TheVariants as stop
use Rattle.connections.specs.LevelFormulas.{formulas_of_part}
use Rattle.levels.proofs.Adding.{three_added, three_nodes, many_first, many_second, many_third, same_error}
use Rattle.levels.proofs.building.add_part.Goals as goal

pub returns-clause-added : goal.returns-clause-added
returns-clause-added c =
    three_added c.args.places.now (formulas_of_part c.args.part.now) c.args.closure.now c.add_over.new.closure c.add_over-2.new.closure
    c.add_implied.new.closure
    (record { asked = c.in_ok-assume.ensures.added; given = c.in_ok-guarantee.ensures.added; implied = c.in_ok-normal_form.ensures.added })

pub returns-clause-nodes : goal.returns-clause-nodes
returns-clause-nodes c =
    three_nodes c.args.places.now (formulas_of_part c.args.part.now) c.args.closure.now c.add_over.new.closure c.add_over-2.new.closure
    c.add_implied.new.closure
    (record {
      sub = c.args.part.now.sub;
      assume = c.in_ok-assume.assume;
      guarantee = c.in_ok-guarantee.guarantee;
      normal_form = c.in_ok-normal_form.normal_form;
    })
    (record { asked = c.in_ok-assume.ensures.added; given = c.in_ok-guarantee.ensures.added; implied = c.in_ok-normal_form.ensures.added }) refl
    (c.in_ok-assume.ensures.node, c.in_ok-guarantee.ensures.node, c.in_ok-normal_form.ensures.node)

pub returns-in_err-assume-clause-too_large : goal.returns-in_err-assume-clause-too_large
returns-in_err-assume-clause-too_large c =
    let p = err_from_is_err_and c.from_residual.result c.from_residual.ensures.1 in
    rw (p.1, p.2) (λ is. many_first c.args.places.now (formulas_of_part c.args.part.now) c.args.closure.now
    (c.in_err-assume.ensures.too_large (same_error c.in_err-assume.field-0.0 stop.TooLarge is)))

pub returns-in_err-guarantee-clause-too_large : goal.returns-in_err-guarantee-clause-too_large
returns-in_err-guarantee-clause-too_large c =
    let p = err_from_is_err_and c.from_residual-in_err-guarantee.result c.from_residual-in_err-guarantee.ensures.1 in
    rw (p.1, p.2) (λ is. many_second c.args.places.now (formulas_of_part c.args.part.now) c.args.closure.now c.add_over.new.closure
    c.in_ok-assume.ensures.added (c.in_err-guarantee.ensures.too_large (same_error c.in_err-guarantee.field-0.0 stop.TooLarge is)))

pub returns-in_err-normal_form-clause-too_large : goal.returns-in_err-normal_form-clause-too_large
returns-in_err-normal_form-clause-too_large c =
    let p = err_from_is_err_and c.from_residual-in_err-normal_form.result c.from_residual-in_err-normal_form.ensures.1 in
    rw (p.1, p.2) (λ is. many_third c.args.places.now (formulas_of_part c.args.part.now) c.args.closure.now c.add_over.new.closure
    c.add_over-2.new.closure c.in_ok-assume.ensures.added c.in_ok-guarantee.ensures.added
    (c.in_err-normal_form.ensures.too_large (same_error c.in_err-normal_form.field-0.0 stop.TooLarge is)))
