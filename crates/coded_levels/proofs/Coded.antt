-- Levels can be coded.
use Rattle.std.proofs.Common.{◌≡◌, ℕ, List, map, length, get_or, Option, Some, None, All, refl, sym, subst, inl, inr, arith}
use Rattle.std.specs.Option.{option_map_or}
use Rattle.std.proofs.lemmas.Bool.{cases_lt}
use Rattle.std.proofs.lemmas.List.{length-map, get_or_past}
use Rattle.std.proofs.lemmas.List.Elements.{All-nil, All-map}
use Rattle.oss_base.specs.declared.ids.ComponentId.{ComponentId}
use Rattle.port_types.specs.declared.types.PortType.{PortType}
use Rattle.port_types.specs.declared.types.PortType.TheVariants as kind
use Rattle.typed_ltl.specs.Formulas.{proposition_of}
use Rattle.core_ltl.specs.Nodes.{Members}
use Rattle.state_coding.specs.Codes.{IsCodable}
use Rattle.state_coding.specs.Reads.{ReadsPorts}
use Rattle.spec_model.specs.declared.spec.Spec.{Spec}
use Rattle.spec_model.specs.declared.item.Item.{Item}
use Rattle.spec_model.specs.declared.port.OwnPort.{OwnPort}
use Rattle.spec_model.specs.declared.wire.Target.{Target}
use Rattle.spec_model.specs.Architecture.{port_at, free_targets}
use Rattle.spec_model.specs.FreeTypes.{type_of_target, free_types}
use Rattle.first_lasso.specs.UsedPorts.{types_at}
use Rattle.levels.specs.Levels.{level_meaning, level_places, level_types, level_members, occurring, over_places, closure_formulas, no_members}
use Rattle.levels.specs.Levels.{with_formulas}
use Rattle.coded_levels.specs.CodableTypes.{HasCodableTypes}
use Rattle.coded_levels.specs.Laws.{LevelsCanBeCoded, FreeTypesHaveValues}
use Rattle.coded_levels.proofs.LevelKinds.{level_kinds}
use Rattle.coded_levels.proofs.PlaceKinds.{closure_reads}
use Rattle.coded_levels.proofs.ClosureKinds.{with_reads}

boolean_is_codable : IsCodable kind.Bool
boolean_is_codable = (tt, omega arith)

option_codable : (o : Option OwnPort) → ((port : OwnPort) → o ≡ Some port → IsCodable port.kind)
    → IsCodable (option_map_or (λ (port : OwnPort). port.kind) o kind.Bool)
option_codable None h = boolean_is_codable
option_codable (Some port) h = h port refl

target_is_codable : (spec : Spec) → HasCodableTypes spec → (c : ComponentId) (t : Target) → IsCodable (type_of_target spec c t)
target_is_codable spec has c t = option_codable (port_at spec c t) (has.types c t)

free_types_are_codable : (spec : Spec) → HasCodableTypes spec → (c : ComponentId) → All IsCodable (free_types spec c)
free_types_are_codable spec has c =
    All-map IsCodable (type_of_target spec c) (free_targets spec c) (λ k d lt. target_is_codable spec has c (get_or (free_targets spec c) k d))

codable_at : (ports : List PortType) (p : ℕ) → All IsCodable ports → IsCodable (get_or ports p kind.Bool)
codable_at ports p h =
    elim (cases_lt p (length ports)) [
      | inl lt ↦ h p kind.Bool lt
      | inr past ↦ subst (λ (t : PortType). IsCodable t) (sym (get_or_past ports p kind.Bool past)) boolean_is_codable
    ]

types_are_codable : (ports : List PortType) (places : List ℕ) → All IsCodable ports → All IsCodable (types_at ports places)
types_are_codable ports places h =
    All-map IsCodable (λ (p : ℕ). get_or ports p kind.Bool) places (λ k d lt. codable_at ports (get_or places k d) h)

-- the atoms of a level read the ports that occur
level_atoms : (spec : Spec) → HasCodableTypes spec → (item : Item)
    → All (ReadsPorts (level_types spec item)) (level_members spec item).atoms
level_atoms spec has item =
    let ports : List PortType = free_types spec item.component in
    let n : length ports ≡ length (free_targets spec item.component) =
    length-map (free_targets spec item.component) (type_of_target spec item.component) in
    subst (λ (m : ℕ). All (ReadsPorts (types_at ports (occurring m (level_meaning spec item))))
    (with_formulas no_members (map (over_places (occurring m (level_meaning spec item))) (closure_formulas (level_meaning spec item)))).atoms) n
    (with_reads (types_at ports (occurring (length ports) (level_meaning spec item)))
    (map (over_places (occurring (length ports) (level_meaning spec item))) (closure_formulas (level_meaning spec item))) no_members
    (All-nil (ReadsPorts (types_at ports (occurring (length ports) (level_meaning spec item)))))
    (closure_reads ports (level_meaning spec item) (level_kinds spec has item)))

pub levels_can_be_coded : LevelsCanBeCoded
levels_can_be_coded spec item level has is = (
  subst (λ (ports : List PortType). All IsCodable ports) (sym is.ports)
      (types_are_codable (free_types spec item.component) (level_places spec item) (free_types_are_codable spec has item.component)),
  subst (λ (ports : List PortType). All (ReadsPorts ports) (map proposition_of level.closure.atoms)) (sym is.ports)
      (subst (λ (m : Members). All (ReadsPorts (level_types spec item)) m.atoms) (sym is.closure) (level_atoms spec has item)),
)

pub free_types_have_values : FreeTypesHaveValues
free_types_have_values spec c has k d lt = (free_types_are_codable spec has c k d lt).1
