-- Which ports of a component are free, told by the numbers of ports of the component and of each of its
-- subcomponents and by the targets of its connections alone, before a specification is made. That these are the free
-- ports of a specification is the law `FreeRowsAreFree` (free ports of a refinement: Cimatti and Tonetta, Contracts-
-- refinement proof system for component-based embedded systems, 2015).

use Rattle.std.specs.Prelude.{◌≡◌, ℕ, ◌+◌, Bool, not, List, [], ◌∷◌, ◌++◌, length, map, Option, Some, None}
use Rattle.std.specs.List.{list_any, range_with_len, filter}
use Rattle.oss_base.specs.declared.ids.SubId.{SubId}
use Rattle.oss_base.specs.declared.ids.ComponentId.{ComponentId}
use Rattle.spec_model.specs.declared.spec.Spec.{Spec}
use Rattle.spec_model.specs.declared.sub.Sub.{Sub}
use Rattle.spec_model.specs.declared.wire.Wire.{Wire}
use Rattle.spec_model.specs.declared.wire.Target.{Target}
use Rattle.spec_model.specs.Architecture.{target, same_target, ports_of, subs_of, wires_of, free_targets}

-- the ports of the component itself, or of one of its subcomponents
abbrev pub row : Option SubId → ℕ → List Target
row sub count = map (target sub) (range_with_len 0 count)

-- the ports of the subcomponents from number k on
abbrev pub rows : ℕ → List ℕ → List Target
rows k [] = []
rows k (count ∷ counts) = row (Some (record { 0 = k })) count ++ rows (k + 1) counts

-- the ports of a component with so many own ports and subcomponents with so many ports
abbrev pub ports_among : ℕ → List ℕ → List Target
ports_among own counts = row None own ++ rows 0 counts

-- the port is none of these targets
abbrev pub is_unconnected : List Target → Target → Bool
is_unconnected connected t = not (list_any (same_target t) connected)

abbrev pub free_among : ℕ → List ℕ → List Target → List Target
free_among own counts connected = filter (is_unconnected connected) (ports_among own counts)

-- the free ports of a specification are those
abbrev pub FreeRowsAreFree : Type 0
FreeRowsAreFree = (spec : Spec) (c : ComponentId) → free_targets spec c
    ≡ free_among (length (ports_of spec c)) (map (λ (s : Sub). length (ports_of spec s.component)) (subs_of spec c))
    (map (λ (w : Wire). w.target) (wires_of spec c))
