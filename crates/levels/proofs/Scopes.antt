-- The types of the free ports, as they are shown and as they are defined.

use Rattle.std.proofs.Common.{◌≡◌, ◌∙◌, List, [], ◌∷◌, map, Option, refl, sym, ap}
use Rattle.std.specs.Option.{option_map_or}
use Rattle.oss_base.specs.declared.ids.ComponentId.{ComponentId}
use Rattle.port_types.specs.declared.types.PortType.TheVariants as kind
use Rattle.spec_model.specs.declared.spec.Spec.{Spec}
use Rattle.spec_model.specs.declared.port.FreePort.{FreePort}
use Rattle.spec_model.specs.declared.port.OwnPort.{OwnPort}
use Rattle.spec_model.specs.declared.wire.Target.{Target}
use Rattle.spec_model.specs.Architecture.{AreFreePorts, IsFreePort, free_targets}
use Rattle.spec_model.specs.FreeTypes.{free_types, type_of_target}
use Rattle.levels.specs.Steps.{shown_type}

shown_as : (spec : Spec) (c : ComponentId) (t : Target) (free : FreePort) → IsFreePort spec c t free → shown_type free ≡ type_of_target spec c t
shown_as spec c t free h =
    sym (ap (λ (o : Option OwnPort). option_map_or (λ (port : OwnPort). port.kind) o kind.Bool) h.port.1 ∙ h.port.3)

shown_all : (spec : Spec) (c : ComponentId) (ts : List Target) (free : List FreePort) → AreFreePorts spec c ts free
    → map shown_type free ≡ map (type_of_target spec c) ts
shown_all spec c [] [] h = refl
shown_all spec c [] (free ∷ rest) h = absurd h
shown_all spec c (t ∷ ts) [] h = absurd h
shown_all spec c (t ∷ ts) (free ∷ rest) h = λ j. shown_as spec c t free h.0 j ∷ shown_all spec c ts rest h.1 j

pub shown_types : (spec : Spec) (c : ComponentId) (free : List FreePort) → AreFreePorts spec c (free_targets spec c) free
    → map shown_type free ≡ free_types spec c
shown_types spec c free h = shown_all spec c (free_targets spec c) free h
