-- Counting instances with a list of those that wait to be counted (serves proofs only).
use Rattle.std.specs.Prelude.{◌≡◌, ℕ, ◌+◌, nat_lt, Bool, List, [], filter_map, flat_map, Option, is_some, slice_get}
use Rattle.std.specs.List.{sum_by}
use Rattle.std.specs.Option.{option_map_or}
use Rattle.oss_base.specs.Limits.{most_instances}
use Rattle.oss_base.specs.declared.sites.FaultSite.{FaultSite}
use Rattle.oss_syntax.specs.declared.component.TreeComponent.{TreeComponent}
use Rattle.oss_syntax.specs.declared.refinement.RefinementItem.{RefinementItem}
use Rattle.oss_syntax.specs.Trees.{component_tree, refinement_item_tree}
use Rattle.spec_names.specs.declared.refinements.RefinementTables.{RefinementTables}
use Rattle.spec_names.specs.Scopes.{refinement_parts}
use Rattle.spec_limits.specs.LimitFaults.{parts_past}

abbrev pub places_among : List (Option ℕ) → List ℕ
places_among components = filter_map (λ (place : Option ℕ). place) components

-- the places of the components of the subcomponents of the component at a place
abbrev pub inner_at : List RefinementTables → ℕ → List ℕ
inner_at refinements place = option_map_or (λ (tables : RefinementTables). places_among tables.components.items)
    (slice_get refinements place) []

-- a size of components is one more than those of their subcomponents together
abbrev pub IsSize : List RefinementTables → (ℕ → ℕ) → Type 0
IsSize refinements size = (place : ℕ) → size place ≡ 1 + sum_by size (inner_at refinements place)

-- whatever size is meant, this says whether that of the root is over the limit
abbrev pub SaysWhetherPast : List RefinementTables → ℕ → Bool → Type 0
SaysWhetherPast refinements root past =
    (size : ℕ → ℕ) → IsSize refinements size → past ≡ nat_lt most_instances (size root)

abbrev pub is_system : TreeComponent → Bool
is_system c = is_some c.system

abbrev pub item_parts_past : RefinementItem → List FaultSite
item_parts_past item = parts_past (refinement_item_tree item)

abbrev pub component_parts_past : TreeComponent → List FaultSite
component_parts_past c = flat_map parts_past (refinement_parts (component_tree c))
