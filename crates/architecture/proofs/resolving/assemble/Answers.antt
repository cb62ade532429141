use Rattle.std.proofs.Common.{ap, sym, ◌∙◌, length, map, slice_get, zero-add, Some}
use Rattle.oss_syntax.specs.Trees.{component_trees}
use Rattle.architecture.specs.Standing.{component_meaning}
use Rattle.architecture.proofs.Making.{components_made, items_made, system_found}
use Rattle.architecture.proofs.resolving.assemble.Goals as goal

pub returns : goal.returns
returns c = record {
  components = ap (map component_meaning) c.in_ok-components.ensures
      ∙ components_made c.args.directory.now.components (component_trees c.args.components.now) c.requires.directory.names c.args.components.now
      c.args.typed.ports c.args.typed.contracts c.args.typed.wires c.requires.typed.ports_are c.requires.typed.contracts_are c.requires.typed.wires_are;
  items = c.in_ok-items.ensures
      ∙ items_made c.args.bytes.now (component_trees c.args.components.now) c.args.directory.now c.requires.directory 0 c.args.components.now
      (λ k. ap (slice_get (component_trees c.args.components.now)) (zero-add k));
  system = system_found (length c.args.bytes.now) c.args.components.now c.requires.names
      ∙ ap Some (sym (c.in_ok-system.ensures ∙ c.system_of.ensures));
}
