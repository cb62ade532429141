use Rattle.std.proofs.Common.{◌≡◌, ◌∙◌, subst, map, filter_map, length, List, IfOk, OnOk}
use Rattle.spec_model.specs.Meanings as meanings
use Rattle.std.specs.List.{flat_map}
use Rattle.spec_model.specs.declared.wire.Target.{Target}
use Rattle.spec_model.specs.FreeRows.{free_among}
use Rattle.spec_names.specs.Noting.{noted}
use Rattle.spec_types.specs.Walks as walks
use Rattle.spec_types.specs.Making as making
use Rattle.spec_types.proofs.components.refinement_wires.Goals as goal

pub returns-clause-wires : goal.returns-clause-wires
returns-clause-wires c =
    let r = walks.refinement c.args.scope.now in
    subst (λ (order : List Target). IfOk c.wires_of.result (λ made. map meanings.wire_meaning made
    ≡ filter_map (making.wire_in (walks.target_by r) (walks.connection_reading_by r order)) c.args.items.now))
    (c.in_ok-order.ensures ∙ (λ j. free_among (length r.own.ports) (c.in_ok-counts.ensures j) ((c.as_slice.ensures.value ∙ c.in_ok-targets.ensures) j)))
    c.wires_of.ensures.wires

pub returns-clause-first : goal.returns-clause-first
returns-clause-first c =
    let r = walks.refinement c.args.scope.now in
    subst (λ (order : List Target). OnOk c.wires_of.result (c.wires_of.new.first
    ≡ noted (flat_map (making.wire_faults_by (walks.kind_by r) (walks.connection_reading_by r order)) c.args.items.now) c.args.first.now))
    (c.in_ok-order.ensures ∙ (λ j. free_among (length r.own.ports) (c.in_ok-counts.ensures j) ((c.as_slice.ensures.value ∙ c.in_ok-targets.ensures) j)))
    c.wires_of.ensures.first
