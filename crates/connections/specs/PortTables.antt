-- Serves proofs only: what the ports of a component, or of one of its subcomponents, stand for, told by a row of the
-- table of drivers. A port that the row does not have is looked for among the connections.
use Rattle.std.specs.Prelude.{◌≡◌, ℕ, List, [], Option, None, slice_get, find}
use Rattle.std.specs.Option.{option_map_or}
use Rattle.oss_base.specs.declared.ids.ComponentId.{ComponentId}
use Rattle.oss_base.specs.declared.ids.SubId.{SubId}
use Rattle.spec_model.specs.declared.spec.Spec.{Spec}
use Rattle.spec_model.specs.declared.wire.Wire.{Wire}
use Rattle.spec_model.specs.declared.wire.Target.{Target}
use Rattle.spec_model.specs.Architecture.{wires_of, connection, target, same_target}
use Rattle.connections.specs.declared.driving.Driver.{Driver}
use Rattle.connections.specs.declared.driving.Driver.TheVariants as driver
use Rattle.connections.specs.declared.port_row.PortRow.{PortRow}
use Rattle.connections.specs.Substitution.{Reading, source_reading}
use Rattle.connections.specs.Substitution as by
use Rattle.connections.specs.Tables.{row_of}

pub record PortTable : Type 0 where
  pub wires : List Wire
  pub drivers : List Driver
  pub sub : Option SubId
  pub free : ℕ

abbrev pub port_table : PortRow → PortTable
port_table row = record { wires = row.wires.now; drivers = row.drivers.now; sub = row.sub; free = row.free }

abbrev pub wire_of_driver : List Wire → Driver → Option Wire
wire_of_driver wires (driver.Free k) = None
wire_of_driver wires (driver.Wired k) = slice_get wires k

abbrev pub place_of_driver : ℕ → Driver → ℕ
place_of_driver free (driver.Free k) = k
place_of_driver free (driver.Wired k) = free

abbrev pub first_with_target : List Wire → Target → Option Wire
first_with_target wires t = find (λ (w : Wire). same_target w.target t) wires

-- the connection that drives a port
abbrev pub table_wire : PortTable → ℕ → Option Wire
table_wire table k = option_map_or (wire_of_driver table.wires) (slice_get table.drivers k)
    (first_with_target table.wires (target table.sub k))

-- the place of a port that no connection drives
abbrev pub table_place : PortTable → ℕ → ℕ
table_place table k = option_map_or (place_of_driver table.free) (slice_get table.drivers k) table.free

abbrev pub reading_of_wire : Option Wire → ℕ → Reading
reading_of_wire wire place = option_map_or (λ (w : Wire). source_reading w.source) wire (by.Free place)

abbrev pub table_reading : PortTable → ℕ → Reading
table_reading table k = reading_of_wire (table_wire table k) (table_place table k)

-- the row of the component itself, or of one of its subcomponents
abbrev pub row_in : List (List Driver) → Option SubId → List Driver
row_in rows sub = option_map_or (λ (row : List Driver). row) (slice_get rows (row_of sub)) []

abbrev pub table_at : Spec → List (List Driver) → ℕ → ComponentId → Option SubId → PortTable
table_at spec rows free c sub = record { wires = wires_of spec c; drivers = row_in rows sub; sub = sub; free = free }

-- the rows tell the connection of each port
abbrev pub TellConnections : Spec → ComponentId → List (List Driver) → Type 0
TellConnections spec c rows = (free : ℕ) (sub : Option SubId) (k : ℕ)
    → table_wire (table_at spec rows free c sub) k ≡ connection spec c (target sub k)
