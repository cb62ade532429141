-- The types of the free ports of a component, in the free order (Cimatti and Tonetta, Contracts-refinement proof system
-- for component-based embedded systems, 2015: the ports over which a composite component is seen).
use Rattle.std.specs.Prelude.{List, map}
use Rattle.std.specs.Option.{option_map_or}
use Rattle.port_types.specs.declared.types.PortType.{PortType}
use Rattle.port_types.specs.declared.types.PortType.TheVariants as kind
use Rattle.oss_base.specs.declared.ids.ComponentId.{ComponentId}
use Rattle.spec_model.specs.declared.spec.Spec.{Spec}
use Rattle.spec_model.specs.declared.port.OwnPort.{OwnPort}
use Rattle.spec_model.specs.declared.wire.Target.{Target}
use Rattle.spec_model.specs.Architecture.{port_at, free_targets}

-- a port that does not exist counts as boolean
abbrev pub type_of_target : Spec → ComponentId → Target → PortType
type_of_target spec c t = option_map_or (λ (port : OwnPort). port.kind) (port_at spec c t) kind.Bool

abbrev pub free_types : Spec → ComponentId → List PortType
free_types spec c = map (type_of_target spec c) (free_targets spec c)
