-- Serves proofs only: the tables of which drivers are made: a row for the component itself and one for each
-- subcomponent, and in it a cell for each port, which notes the first connection that drives it.
use Rattle.std.specs.Prelude.{ℕ, zero, suc, ◌+◌, List, [], ◌∷◌, map, length, replicate, Option, Some, None}
use Rattle.oss_base.specs.declared.ids.ComponentId.{ComponentId}
use Rattle.oss_base.specs.declared.ids.SubId.{SubId}
use Rattle.spec_model.specs.declared.spec.Spec.{Spec}
use Rattle.spec_model.specs.declared.sub.Sub.{Sub}
use Rattle.spec_model.specs.declared.wire.Wire.{Wire}
use Rattle.spec_model.specs.Architecture.{ports_of, subs_of}
use Rattle.connections.specs.declared.driving.Driver.{Driver}
use Rattle.connections.specs.declared.driving.Driver.TheVariants as driver

abbrev pub port_counts : Spec → ComponentId → List ℕ
port_counts spec c = length (ports_of spec c) ∷ map (λ (s : Sub). length (ports_of spec s.component)) (subs_of spec c)

abbrev pub blank : ℕ → List (Option ℕ)
blank n = replicate n None

-- the row of a target: 0 for the component itself
abbrev pub row_of : Option SubId → ℕ
row_of None = 0
row_of (Some s) = s.0 + 1

-- a cell keeps the first that is noted
abbrev pub cell_with_wire : Option ℕ → ℕ → Option ℕ
cell_with_wire None wire = Some wire
cell_with_wire (Some first) wire = Some first

abbrev pub row_with_wire : List (Option ℕ) → ℕ → ℕ → List (Option ℕ)
row_with_wire [] port wire = []
row_with_wire (cell ∷ row) zero wire = cell_with_wire cell wire ∷ row
row_with_wire (cell ∷ row) (suc port) wire = cell ∷ row_with_wire row port wire

abbrev pub rows_with_wire : List (List (Option ℕ)) → ℕ → ℕ → ℕ → List (List (Option ℕ))
rows_with_wire [] at port wire = []
rows_with_wire (row ∷ rows) zero port wire = row_with_wire row port wire ∷ rows
rows_with_wire (row ∷ rows) (suc at) port wire = row ∷ rows_with_wire rows at port wire

-- the connections noted one after the other, the first one having this number
abbrev pub rows_with_wires : List (List (Option ℕ)) → ℕ → List Wire → List (List (Option ℕ))
rows_with_wires rows first [] = rows
rows_with_wires rows first (wire
    ∷ wires) = rows_with_wires (rows_with_wire rows (row_of wire.target.sub) wire.target.port.0 first) (first + 1) wires

-- how many cells note no connection
abbrev pub vacant : List (Option ℕ) → ℕ
vacant [] = 0
vacant (None ∷ row) = 1 + vacant row
vacant (Some wire ∷ row) = vacant row

-- the drivers that the cells stand for, where the first free port has this place in the free order
abbrev pub drivers_of_row : ℕ → List (Option ℕ) → List Driver
drivers_of_row next [] = []
drivers_of_row next (None ∷ row) = driver.Free next ∷ drivers_of_row (next + 1) row
drivers_of_row next (Some wire ∷ row) = driver.Wired wire ∷ drivers_of_row next row

abbrev pub drivers_of_rows : ℕ → List (List (Option ℕ)) → List (List Driver)
drivers_of_rows next [] = []
drivers_of_rows next (row ∷ rows) = drivers_of_row next row ∷ drivers_of_rows (next + vacant row) rows

-- how many cells of all rows note no connection
abbrev pub vacant_rows : List (List (Option ℕ)) → ℕ
vacant_rows [] = 0
vacant_rows (row ∷ rows) = vacant row + vacant_rows rows
