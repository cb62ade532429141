use Rattle.std.proofs.Common.{◌+◌, List, [], map, take, sym, subst}
use Rattle.std.proofs.lemmas.List.{take_all}
use Rattle.std.proofs.lemmas.Result.{err_from_is_err_and}
use Rattle.core_ltl.specs.declared.stop.ClosureStop.TheVariants as stop
use Rattle.core_ltl.specs.Nodes.{members}
use Rattle.connections.specs.declared.substituting.Part.{Part}
use Rattle.connections.specs.LevelFormulas.{formulas_of_part}
use Rattle.levels.specs.declared.level.PartNodes.{PartNodes}
use Rattle.levels.specs.Levels.{AreAllPartNodes}
use Rattle.levels.specs.Steps.{AddsFormulas, parts_formulas}
use Rattle.levels.proofs.Adding.{adds_none, same_error}
use Rattle.levels.proofs.Lists.{part_added, part_exceeds, part_nodes}
use Rattle.levels.proofs.building.add_parts.Goals as goal

pub loop-part-init : goal.loop-part-init
loop-part-init c = record {
  added = adds_none c.args.closure.now c.requires.within;
  nodes = subst (λ (ns : List PartNodes). AreAllPartNodes (members c.args.closure.now) c.args.places.now ns []) (sym c.new-nodes.ensures.items) tt;
}

pub loop-part-preserved : goal.loop-part-preserved
loop-part-preserved c = record {
  added = part_added c.args.places.now c.args.parts.now c.loop-part.part-index c.part-item.result c.part-item.result c.args.closure.now
      c.loop-part.closure c.add_part.new.closure c.loop-part-test.true (sym c.part-item.is) c.loop-part.invariant.added c.in_ok-part.ensures.added;
  nodes = subst (λ (ns : List PartNodes). AreAllPartNodes (members c.add_part.new.closure) c.args.places.now ns
      (map formulas_of_part (take (c.loop-part.part-index + 1) c.args.parts.now))) (sym c.in_ok-push.ensures.items)
      (part_nodes c.args.places.now c.args.parts.now c.loop-part.part-index c.part-item.result c.part-item.result c.loop-part.closure
      c.add_part.new.closure c.loop-part.nodes.items c.in_ok-part.part c.loop-part-test.true (sym c.part-item.is) c.in_ok-part.ensures.added.kept
      c.loop-part.invariant.nodes c.in_ok-part.ensures.nodes);
}

pub returns-in_err-part-clause-too_large : goal.returns-in_err-part-clause-too_large
returns-in_err-part-clause-too_large c =
    let p = err_from_is_err_and c.from_residual.result c.from_residual.ensures.1 in
    rw (p.1, p.2) (λ is. part_exceeds c.args.places.now c.args.parts.now c.loop-part.part-index c.part-item.result c.part-item.result c.args.closure.now
    c.loop-part.closure c.loop-part-test.true (sym c.part-item.is) c.loop-part.invariant.added
    (c.in_err-part.ensures.too_large (same_error c.in_err-part.field-0.0 stop.TooLarge is)))

pub returns-clause-added : goal.returns-clause-added
returns-clause-added c =
    subst (λ (ps : List Part). AddsFormulas c.args.closure.now c.loop-part.closure (parts_formulas c.args.places.now (map formulas_of_part ps)))
    (take_all c.loop-part.part-index c.args.parts.now c.loop-part-test.false) c.loop-part.invariant.added

pub returns-clause-nodes : goal.returns-clause-nodes
returns-clause-nodes c =
    subst (λ (ps : List Part). AreAllPartNodes (members c.loop-part.closure) c.args.places.now c.loop-part.nodes.items (map formulas_of_part ps))
    (take_all c.loop-part.part-index c.args.parts.now c.loop-part-test.false) c.loop-part.invariant.nodes
