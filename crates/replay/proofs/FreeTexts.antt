-- Free ports as they are shown have the names and types of the free targets.
use Rattle.std.proofs.Common.{◌≡◌, List, [], ◌∷◌, ◌++◌, map, Option, Some, refl, sym, ◌∙◌}
use Rattle.std.specs.Option.{option_map_or}
use Rattle.port_types.specs.declared.types.PortType.TheVariants as kind
use Rattle.oss_base.specs.declared.ids.ComponentId.{ComponentId}
use Rattle.spec_model.specs.declared.spec.Spec.{Spec}
use Rattle.spec_model.specs.declared.port.OwnPort.{OwnPort}
use Rattle.spec_model.specs.declared.port.FreePort.{FreePort}
use Rattle.spec_model.specs.declared.wire.Target.{Target}
use Rattle.spec_model.specs.Architecture.{AreFreePorts, IsFreePort, port_at}
use Rattle.replay.specs.FreePortNames.{port_prefix, port_text}
use Rattle.spec_model.specs.FreeTypes.{type_of_target}
use Rattle.replay.specs.Reading.{free_text}

named_so : (o : Option OwnPort) (port : OwnPort) → o ≡ Some port → option_map_or (λ (p : OwnPort). p.name) o [] ≡ port.name
named_so o port e = rw e refl

typed_so : (o : Option OwnPort) (port : OwnPort) → o ≡ Some port → option_map_or (λ (p : OwnPort). p.kind) o kind.Bool ≡ port.kind
typed_so o port e = rw e refl

shown_text : (spec : Spec) (c : ComponentId) (t : Target) (free : FreePort) → IsFreePort spec c t free
    → free_text spec c free ≡ port_text spec c t
shown_text spec c t free h =
    λ j. port_prefix spec c (sym h.at j) ++ (sym h.port.2 ∙ sym (named_so (port_at spec c t) h.port.0 h.port.1)) j

shown_kind : (spec : Spec) (c : ComponentId) (t : Target) (free : FreePort) → IsFreePort spec c t free → free.kind ≡ type_of_target spec c t
shown_kind spec c t free h = sym h.port.3 ∙ sym (typed_so (port_at spec c t) h.port.0 h.port.1)

pub shown_texts : (spec : Spec) (c : ComponentId) (ts : List Target) (free : List FreePort) → AreFreePorts spec c ts free
    → map (free_text spec c) free ≡ map (port_text spec c) ts
shown_texts spec c [] [] h = refl
shown_texts spec c [] (f ∷ free) h = absurd h
shown_texts spec c (t ∷ ts) [] h = absurd h
shown_texts spec c (t ∷ ts) (f ∷ free) (h, more) = λ j. shown_text spec c t f h j ∷ shown_texts spec c ts free more j

pub shown_kinds : (spec : Spec) (c : ComponentId) (ts : List Target) (free : List FreePort) → AreFreePorts spec c ts free
    → map (λ (f : FreePort). f.kind) free ≡ map (type_of_target spec c) ts
shown_kinds spec c [] [] h = refl
shown_kinds spec c [] (f ∷ free) h = absurd h
shown_kinds spec c (t ∷ ts) [] h = absurd h
shown_kinds spec c (t ∷ ts) (f ∷ free) (h, more) = λ j. shown_kind spec c t f h j ∷ shown_kinds spec c ts free more j
