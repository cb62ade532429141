use Rattle.std.proofs.Common.{◌≡◌, ◌∙◌, ap, sym, map, subst, List}
use Rattle.std.specs.List.{flat_map, zip}
use Rattle.oss_syntax.specs.Trees.{Component, component_tree, component_trees}
use Rattle.spec_names.specs.Noting.{noted}
use Rattle.spec_types.specs.TreeComponents as specs
use Rattle.spec_types.specs.Walks.{Interface, AreAllPorts}
use Rattle.spec_types.specs.Walks as walks
use Rattle.spec_types.specs.Tables as facts
use Rattle.spec_types.proofs.Walking.{noted_three}
use Rattle.spec_types.proofs.Making.{flat_map-map}
use Rattle.spec_types.proofs.Zips.{map_of_map}
use Rattle.spec_types.proofs.Whole.{all_ports_are, contracts_are, contract_faults_are, all_wires_are, all_wire_faults_are}
use Rattle.spec_types.proofs.components.typed_by_tables.Goals as goal

pub returns-clause-typed : goal.returns-clause-typed
returns-clause-typed c =
    let components = c.args.components.now in
    let all : List Component = component_trees components in
    let scopes : List Interface = map walks.interface c.as_slice-all.result.now in
    let own : c.in_ok-ports.ports.items ≡ map (λ (k : Component). specs.own_ports k.interface) all =
    c.in_ok-ports.ensures.ports ∙ sym (map_of_map (λ (k : Component). specs.own_ports k.interface) component_tree components) in
    let is : scopes ≡ map facts.interface_by (zip c.args.directory.now.interfaces.items (map (λ (k : Component). specs.own_ports k.interface) all)) =
    ap (map walks.interface) c.as_slice-all.ensures.value
    ∙ (c.in_ok-scopes.ensures ∙ (λ j. map facts.interface_by (zip (c.as_slice-interfaces.ensures.value j) ((c.as_slice-own.ensures.value ∙ own) j)))) in
    let are : AreAllPorts all scopes = subst (AreAllPorts all) (sym is) (all_ports_are all c.args.directory.now.interfaces.items c.requires.interfaces) in
    record {
      ports_are = c.from_vec-port_lists.ensures ∙ own;
      contracts_are = ap specs.contract_lists c.from_vec-contract_lists.ensures
          ∙ (c.in_ok-contracts.ensures.contracts ∙ contracts_are components scopes are);
      wires_are = ap specs.wire_lists c.from_vec-wire_lists.ensures
          ∙ (c.in_ok-wires.ensures.wires
          ∙ ((λ j. map (facts.wires_of_pair scopes) (zip (zip components scopes) (c.as_slice-refinements.ensures.value j)))
          ∙ all_wires_are all scopes are components scopes c.args.directory.now.refinements.items are c.requires.refinements));
    }

pub returns-clause-first : goal.returns-clause-first
returns-clause-first c =
    let components = c.args.components.now in
    let all : List Component = component_trees components in
    let scopes : List Interface = map walks.interface c.as_slice-all.result.now in
    let own : c.in_ok-ports.ports.items ≡ map (λ (k : Component). specs.own_ports k.interface) all =
    c.in_ok-ports.ensures.ports ∙ sym (map_of_map (λ (k : Component). specs.own_ports k.interface) component_tree components) in
    let is : scopes ≡ map facts.interface_by (zip c.args.directory.now.interfaces.items (map (λ (k : Component). specs.own_ports k.interface) all)) =
    ap (map walks.interface) c.as_slice-all.ensures.value
    ∙ (c.in_ok-scopes.ensures ∙ (λ j. map facts.interface_by (zip (c.as_slice-interfaces.ensures.value j) ((c.as_slice-own.ensures.value ∙ own) j)))) in
    let are : AreAllPorts all scopes = subst (AreAllPorts all) (sym is) (all_ports_are all c.args.directory.now.interfaces.items c.requires.interfaces) in
    noted_three c.args.first.now c.all_ports.new.first c.all_contracts.new.first c.all_wires.new.first
    (flat_map (λ (k : Component). specs.range_faults_in k.interface) all) (flat_map (λ (k : Component). specs.contract_faults k.interface) all)
    (flat_map (specs.connection_faults all) all)
    (c.in_ok-ports.ensures.first
    ∙ ap (λ list. noted list c.args.first.now) (sym (flat_map-map (λ (k : Component). specs.range_faults_in k.interface) component_tree components)))
    (c.in_ok-contracts.ensures.first ∙ ap (λ list. noted list c.all_ports.new.first) (contract_faults_are components scopes are))
    (c.in_ok-wires.ensures.first
    ∙ ap (λ list. noted list c.all_contracts.new.first)
    ((λ j. flat_map (facts.wire_faults_of_pair scopes) (zip (zip components scopes) (c.as_slice-refinements.ensures.value j)))
    ∙ all_wire_faults_are all scopes are components scopes c.args.directory.now.refinements.items are c.requires.refinements))
