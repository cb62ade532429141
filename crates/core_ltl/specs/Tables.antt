-- Serves proofs only. A closure as the code keeps it, as two hashed tables, and what a step of the walk does to it.
use Rattle.std.specs.Prelude.{◌≡◌, ℕ, ◌^◌, ◌<◌, ◌≤◌, Result, IfOk, OnOk, IsErrOf, length}
use Rattle.core_ltl.specs.declared.node.NodeId.{NodeId}
use Rattle.core_ltl.specs.declared.stop.ClosureStop.{ClosureStop}
use Rattle.core_ltl.specs.declared.stop.ClosureStop.TheVariants as stop
use Rattle.core_ltl.specs.declared.table.Table.{Table}
use Rattle.core_ltl.specs.Nodes.{Listing, Members, members, IsClosure, KeepsNumbers}

abbrev pub table_listing : Table → Listing
table_listing t = record { nodes = t.nodes.keys; atoms = t.atoms.keys }

abbrev pub table_members : Table → Members
table_members t = members (table_listing t)

pub record IsTable (t : Table) : Type 0 where
  pub closed : IsClosure (table_members t)
  pub few : length t.nodes.keys < 2 ^ 32

-- The step leads to these members and this node, or ends before: at a node over the limit, or for want of memory.
pub record Adds (limit : ℕ) (old new : Table) (after : Members × NodeId)
    (result : Result NodeId ClosureStop) : Type 0 where
  pub ok : IfOk result (λ node. (table_members new, node) ≡ after)
  pub within : OnOk result (length new.nodes.keys ≤ limit)
  pub too_large : IsErrOf result stop.TooLarge → limit < length after.0.nodes
  pub kept : KeepsNumbers (table_listing old) (table_listing new)
