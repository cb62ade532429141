-- What drives the ports that a refinement speaks of.
use Rattle.std.specs.Prelude.{ℕ, ◌+◌, Bool, cond, List, [], ◌∷◌, map, length, Option, Some, None, option_map}
use Rattle.std.specs.Option.{option_map_or}
use Rattle.std.specs.List.{range_with_len}
use Rattle.oss_base.specs.declared.ids.ComponentId.{ComponentId}
use Rattle.spec_model.specs.declared.spec.Spec.{Spec}
use Rattle.spec_model.specs.declared.wire.Wire.{Wire}
use Rattle.spec_model.specs.declared.wire.Target.{Target}
use Rattle.spec_model.specs.Architecture.{subs_of, wires_of, same_target, targets_at, free_place}
use Rattle.connections.specs.declared.driving.Driver.{Driver}
use Rattle.connections.specs.declared.driving.Driver.TheVariants as driver

-- the place of the first element that passes
abbrev pub first_place : {X : Type 0} → (X → Bool) → List X → Option ℕ
first_place p [] = None
first_place p (x ∷ xs) = cond (p x) (Some 0) (option_map (λ (k : ℕ). k + 1) (first_place p xs))

-- the first of the connections that drives a port
abbrev pub first_wire : List Wire → Target → Option ℕ
first_wire wires t = first_place (λ (w : Wire). same_target w.target t) wires

-- a port is driven by the first connection that has it as its target, or free
abbrev pub driver_of : Spec → ComponentId → Target → Driver
driver_of spec c t = option_map_or driver.Wired (first_wire (wires_of spec c) t) (driver.Free (free_place spec c t))

-- all ports in rows: the component's own ports, then those of each subcomponent
abbrev pub port_rows : Spec → ComponentId → List (List Target)
port_rows spec c = targets_at spec c None
    ∷ map (λ k. targets_at spec c (Some (record { 0 = k }))) (range_with_len 0 (length (subs_of spec c)))

-- the drivers of all ports, row by row
abbrev pub driver_rows : Spec → ComponentId → List (List Driver)
driver_rows spec c = map (map (driver_of spec c)) (port_rows spec c)
