-- The faults of limits in a specification, as a list of kinds and offsets. A limit is a choice of this language: the
-- textual language of components and contracts (Cimatti, Dorigatti and Tonetta, OCRA: a tool for checking the
-- refinement of temporal contracts, 2013) has none.
use Rattle.std.specs.Prelude.{ℕ, zero, suc, ◌+◌, if◌then◌else◌, List, [], ◌∷◌, ◌++◌, length, flat_map, nat_lt, Option}
use Rattle.std.specs.Prelude.{is_some, position, slice_get}
use Rattle.std.specs.List.{sum_by}
use Rattle.std.specs.Option.{option_map_or}
use Rattle.oss_base.specs.Limits.{most_components, most_instances, most_parts}
use Rattle.oss_base.specs.declared.fault.FaultKind.TheVariants.{F25, F26, F27}
use Rattle.oss_base.specs.declared.sites.FaultSite.{FaultSite}
use Rattle.oss_syntax.specs.declared.words.PartWord.{PartWord}
use Rattle.oss_syntax.specs.Trees.{RefinementItemTree, Sub, Connection, Refined, Component}
use Rattle.spec_names.specs.NamesFaults.{site, start_of, past, parts_at}
use Rattle.spec_names.specs.Scopes.{SubDeclaration, sub_declarations, component_place, refinement_parts}

-- The instances of the component at a place: itself, and those of its subcomponents, and theirs, down to a depth.
abbrev pub instances_to : List Component → ℕ → ℕ → ℕ
instances_to components zero place = 1
instances_to components (suc depth) place = 1 + sum_by (λ (sub : SubDeclaration). option_map_or
    (instances_to components depth) (component_place components sub.component.text) 0)
    (sub_declarations (parts_at components place))

-- All of them: where no component contains itself, none lies deeper than there are components.
abbrev pub instances : List Component → ℕ → ℕ
instances components place = instances_to components (length components) place

-- the first component that is the system
abbrev pub system_place : List Component → Option ℕ
system_place components = position (λ (c : Component). is_some c.system) components

-- the component at this place has too many instances: the fault stands at its name
abbrev pub instances_past : List Component → ℕ → List FaultSite
instances_past components place = option_map_or (λ (c : Component).
    if nat_lt most_instances (instances components place) then site F26 (start_of c.name) ∷ [] else [])
    (slice_get components place) []

-- the system has too many instances
abbrev pub system_past : List Component → List FaultSite
system_past components = option_map_or (instances_past components) (system_place components) []

-- a refined contract lists too many parts
abbrev pub parts_past : RefinementItemTree → List FaultSite
parts_past (Sub name component) = []
parts_past (Connection target source) = []
parts_past (Refined name listed) = past F27 (λ (part : PartWord). start_of part.sub) most_parts listed

abbrev pub limit_faults : List Component → List FaultSite
limit_faults components =
    past F25 (λ (c : Component). start_of c.name) most_components components
    ++ (system_past components
    ++ flat_map (λ (c : Component). flat_map parts_past (refinement_parts c)) components)
