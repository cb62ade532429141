-- The size of a level after substitution. The size of a formula is the number of its operators and operands (Baier and
-- Katoen, Principles of Model Checking, 2008: the length of a formula), as the text writes it. A port that is
-- connected counts as the expression of its connection does, at each of its occurrences.
use Rattle.std.specs.Prelude.{ℕ, ◌+◌, ◌*◌, ◌-◌, Option, Some, None, slice_get}
use Rattle.std.specs.List.{sum_by}
use Rattle.std.specs.Option.{option_map_or}
use Rattle.oss_base.specs.declared.ids.ComponentId.{ComponentId}
use Rattle.oss_base.specs.declared.ids.ContractId.{ContractId}
use Rattle.oss_base.specs.declared.ids.ItemId.{ItemId}
use Rattle.oss_base.specs.declared.ids.SubId.{SubId}
use Rattle.port_types.specs.declared.types.PortId.{PortId}
use Rattle.spec_model.specs.declared.spec.Spec.{Spec}
use Rattle.spec_model.specs.declared.contract.Uses.{Uses}
use Rattle.spec_model.specs.declared.contract.Contract.{Contract}
use Rattle.spec_model.specs.declared.item.Item.{Item}
use Rattle.spec_model.specs.declared.wire.Wire.{Wire}
use Rattle.spec_model.specs.Architecture.{connection, target}
use Rattle.connections.specs.LevelFormulas.{contract_at}

-- by how much one occurrence of a port grows: a port counts 1, a connected one as its connection's expression
abbrev pub growth : Option Wire → ℕ
growth None = 0
growth (Some w) = w.uses.size - 1

-- by how much all occurrences of a port grow, where each port has this connection
abbrev pub growth_of_use : (ℕ → Option Wire) → PortId × ℕ → ℕ
growth_of_use wires count = count.1 * growth (wires count.0.0)

-- the size of an expression after substitution, told by its size and by how often it reads each port
abbrev pub substituted_size : (ℕ → Option Wire) → Uses → ℕ
substituted_size wires uses = uses.size + sum_by (growth_of_use wires) uses.ports

-- the size of a contract's two formulas
abbrev pub pair_size : (ℕ → Option Wire) → Contract → ℕ
pair_size wires k = substituted_size wires k.assume_uses + substituted_size wires k.guarantee_uses

-- the connections of the ports of the component itself, or of one of its subcomponents
abbrev pub connections_at : Spec → ComponentId → Option SubId → ℕ → Option Wire
connections_at spec c s k = connection spec c (target s k)

abbrev pub contract_size : Spec → ComponentId → Option SubId → ContractId → ℕ
contract_size spec c s d = option_map_or (pair_size (connections_at spec c s)) (contract_at spec c s d) 0

abbrev pub part_size : Spec → ComponentId → SubId × ContractId → ℕ
part_size spec c part = contract_size spec c (Some part.0) part.1

-- the size of a level: of the refined contract's formulas, and of those of each listed contract
abbrev pub level_size : Spec → Item → ℕ
level_size spec item = contract_size spec item.component None item.contract
    + sum_by (part_size spec item.component) item.parts

-- the size of the level of an item. An item that does not exist has none.
abbrev pub item_size : Spec → ItemId → ℕ
item_size spec item = option_map_or (level_size spec) (slice_get spec.items item.0) 0

-- the greatest size that a level may have
abbrev pub largest_level : ℕ
largest_level = 16384
