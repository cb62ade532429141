-- Free ports as they are printed, `p` for a port of the component itself and `s.p` for one of a subcomponent.
use Rattle.std.specs.Prelude.{ℕ, List, [], ◌++◌, map, Option, Some, None, codes, slice_get}
use Rattle.std.specs.Option.{option_map_or}
use Rattle.oss_base.specs.declared.ids.ComponentId.{ComponentId}
use Rattle.oss_base.specs.declared.ids.SubId.{SubId}
use Rattle.spec_model.specs.declared.spec.Spec.{Spec}
use Rattle.spec_model.specs.declared.sub.Sub.{Sub}
use Rattle.spec_model.specs.declared.port.OwnPort.{OwnPort}
use Rattle.spec_model.specs.declared.wire.Target.{Target}
use Rattle.spec_model.specs.Architecture.{port_at, subs_of, free_targets}

-- `s.` before a port of a subcomponent
abbrev pub port_prefix : Spec → ComponentId → Option SubId → List ℕ
port_prefix spec c None = []
port_prefix spec c (Some s) =
    option_map_or (λ (sub : Sub). sub.name) (slice_get (subs_of spec c) s.0) [] ++ codes "."

abbrev pub port_text : Spec → ComponentId → Target → List ℕ
port_text spec c t = port_prefix spec c t.sub ++ option_map_or (λ (port : OwnPort). port.name) (port_at spec c t) []

-- the free ports of a component, in their order
abbrev pub free_names : Spec → ComponentId → List (List ℕ)
free_names spec c = map (port_text spec c) (free_targets spec c)
