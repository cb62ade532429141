use Rattle.core_ltl.specs.declared.stop.ClosureStop.TheVariants as stop
use Rattle.levels.specs.Steps.{closure_over, formulas_meaning}
use Rattle.levels.proofs.Adding.{all_after, empty_members, empty_within, same_error, too_many}
use Rattle.levels.proofs.building.nodes_of.Goals as goal

pub add_formulas-requires-clause-within : goal.add_formulas-requires-clause-within
add_formulas-requires-clause-within c = empty_within c.new-closure.result c.new-closure.ensures.nodes

pub returns-in-Ok-clause-nodes : goal.returns-in-Ok-clause-nodes
returns-in-Ok-clause-nodes c =
    let a = c.new-closure.result in
    record {
      closure = all_after a c.add_formulas.new.closure (closure_over c.args.places.now (formulas_meaning c.args.formulas.now))
          (empty_members a c.new-closure.ensures.nodes c.new-closure.ensures.atoms) c.in-Ok.ensures.added;
      within = c.in-Ok.ensures.added.within;
      assume = c.in-Ok.ensures.nodes.assume;
      guarantee = c.in-Ok.ensures.nodes.guarantee;
      parts = c.in-Ok.ensures.nodes.parts;
    }

pub returns-in-Err-clause-too_large : goal.returns-in-Err-clause-too_large
returns-in-Err-clause-too_large c =
    let a = c.new-closure.result in
    λ is. too_many a (closure_over c.args.places.now (formulas_meaning c.args.formulas.now))
    (empty_members a c.new-closure.ensures.nodes c.new-closure.ensures.atoms)
    (c.in-Err.ensures.too_large (same_error c.in-Err.stop stop.TooLarge is))
