-- Serves proofs only: what each item of a text gives.

use Rattle.std.specs.Prelude.{ℕ, List, [], Option, Some, None, option_map}
use Rattle.oss_syntax.specs.declared.interface.InterfaceItem.{InterfaceItem}
use Rattle.oss_syntax.specs.declared.interface.InterfaceItem.TheVariants as interface
use Rattle.oss_syntax.specs.Trees.{item_tree}
use Rattle.spec_names.specs.Scopes.{port_declaration}
use Rattle.oss_base.specs.declared.sites.FaultSite.{FaultSite}
use Rattle.spec_model.specs.declared.port.OwnPort.{OwnPort}
use Rattle.oss_syntax.specs.declared.refinement.TargetTree.{TargetTree}
use Rattle.oss_syntax.specs.declared.refinement.RefinementItem.{RefinementItem}
use Rattle.oss_syntax.specs.declared.refinement.RefinementItem.TheVariants as refinement
use Rattle.port_types.specs.declared.types.PortType.{PortType}
use Rattle.spec_model.specs.declared.wire.Target.{Target}
use Rattle.oss_syntax.specs.Expressions.{Tree, tree}
use Rattle.spec_types.specs.Typing.{ExpressionReading, typed_of, formula_in}
use Rattle.spec_types.specs.TypeFaults.{source_faults}
use Rattle.spec_types.specs.Uses.{expression_uses}
use Rattle.spec_model.specs.Meanings.{ContractMeaning, WireMeaning}
use Rattle.spec_types.specs.TreeComponents.{typed_port, range_faults, interface_item_faults, tree_contract}
use Rattle.spec_types.specs.TreeComponents.{typed_source}

abbrev pub port_in : InterfaceItem → Option OwnPort
port_in item = option_map typed_port (port_declaration (item_tree item))

abbrev pub range_faults_at : InterfaceItem → List FaultSite
range_faults_at (interface.Port input name kind) = range_faults kind
range_faults_at (interface.Contract name assume guarantee) = []

-- contracts, by what the names of their formulas mean

abbrev pub contract_by : ExpressionReading → List ℕ → Tree → Tree → ContractMeaning
contract_by reading name assume guarantee = record {
  name = name;
  assume = formula_in (typed_of reading assume);
  assume_uses = expression_uses reading assume;
  guarantee = formula_in (typed_of reading guarantee);
  guarantee_uses = expression_uses reading guarantee;
}

abbrev pub contract_in : ExpressionReading → InterfaceItem → Option ContractMeaning
contract_in reading item = tree_contract reading (item_tree item)

abbrev pub item_faults_by : ExpressionReading → InterfaceItem → List FaultSite
item_faults_by reading item = interface_item_faults reading (item_tree item)

-- connections, by what their targets and the names of their expressions mean

abbrev pub targets_in : (TargetTree → Target) → RefinementItem → Option Target
targets_in target (refinement.Sub name component) = None
targets_in target (refinement.Connection t e) = Some (target t)
targets_in target (refinement.Contract name parts) = None

abbrev pub wire_in : (TargetTree → Target) → ExpressionReading → RefinementItem → Option WireMeaning
wire_in target reading (refinement.Sub name component) = None
wire_in target reading (refinement.Connection t e) =
    Some (record {
      target = target t;
      source = typed_source (typed_of reading (tree e));
      uses = expression_uses reading (tree e);
    })
wire_in target reading (refinement.Contract name parts) = None

abbrev pub wire_faults_by : (TargetTree → PortType) → ExpressionReading → RefinementItem → List FaultSite
wire_faults_by kind reading (refinement.Sub name component) = []
wire_faults_by kind reading (refinement.Connection t e) = source_faults reading (kind t) (tree e)
wire_faults_by kind reading (refinement.Contract name parts) = []
