use Rattle.std.proofs.Common.{◌≤◌, List, length, map, ap, ◌∙◌}
use Rattle.oss_base.specs.Limits.{most_closure_members}
use Rattle.oss_base.specs.declared.ids.ComponentId.{ComponentId}
use Rattle.port_types.specs.declared.types.PortType.{PortType}
use Rattle.spec_model.specs.Architecture.{free_targets}
use Rattle.connections.specs.Drivers.{driver_rows}
use Rattle.first_lasso.specs.UsedPorts.{types_at}
use Rattle.levels.specs.LevelFaults.{closure_size}
use Rattle.spec_model.specs.FreeTypes.{free_types}
use Rattle.levels.specs.Levels.{IsLevel, occurring}
use Rattle.levels.specs.Steps.{IsBuilt, formulas_meaning, shown_type}
use Rattle.levels.proofs.Built.{level_is, level_within, level_exceeds, ok_then, ok_so}
use Rattle.levels.proofs.building.build.Goals as goal

pub substitute_by-requires-clause-rows : goal.substitute_by-requires-clause-rows
substitute_by-requires-clause-rows c = c.requires.scope.rows ∙ ap (driver_rows c.args.spec.now) c.requires.component

pub substitute_by-requires-clause-free : goal.substitute_by-requires-clause-free
substitute_by-requires-clause-free c =
    c.requires.scope.free ∙ ap (λ (d : ComponentId). length (free_targets c.args.spec.now d)) c.requires.component

pub returns-clause-level : goal.returns-clause-level
returns-clause-level c =
    let spec = c.args.spec.now in
    let item = c.args.item.now in
    let scope = c.args.scope.now in
    let formulas = c.in_ok-formulas.formulas in
    let places = occurring scope.drivers.free (formulas_meaning formulas) in
    let types : List PortType = map shown_type scope.free in
    ok_then c.over_ports.result (IsBuilt scope.component places (types_at types places) (formulas_meaning formulas)) (IsLevel spec item)
    (λ level built. level_is spec item formulas level types scope.component scope.drivers.free c.in_ok-formulas.ensures
    (record {
      component = c.requires.component;
      free = c.requires.scope.free ∙ ap (λ (d : ComponentId). length (free_targets spec d)) c.requires.component;
      types = c.requires.scope.types ∙ ap (free_types spec) c.requires.component;
    }) built) c.over_ports.ensures.level

pub returns-clause-within : goal.returns-clause-within
returns-clause-within c =
    let spec = c.args.spec.now in
    let item = c.args.item.now in
    let scope = c.args.scope.now in
    let formulas = c.in_ok-formulas.formulas in
    let places = occurring scope.drivers.free (formulas_meaning formulas) in
    let types : List PortType = map shown_type scope.free in
    ok_so c.over_ports.result (IsBuilt scope.component places (types_at types places) (formulas_meaning formulas))
    (closure_size spec item ≤ most_closure_members)
    (λ level built. level_within spec item formulas level types scope.component scope.drivers.free c.in_ok-formulas.ensures
    (record {
      component = c.requires.component;
      free = c.requires.scope.free ∙ ap (λ (d : ComponentId). length (free_targets spec d)) c.requires.component;
      types = c.requires.scope.types ∙ ap (free_types spec) c.requires.component;
    }) built) c.over_ports.ensures.level

pub returns-clause-too_large : goal.returns-clause-too_large
returns-clause-too_large c = λ is.
    level_exceeds c.args.spec.now c.args.item.now c.in_ok-formulas.formulas c.args.scope.now.drivers.free c.in_ok-formulas.ensures
    (c.requires.scope.free ∙ ap (λ (d : ComponentId). length (free_targets c.args.spec.now d)) c.requires.component)
    (c.over_ports.ensures.too_large is)
