-- Containment by ranks (serves proofs only).
use Rattle.std.specs.Prelude.{ℕ, Bool, false, List, filter_map, Option, nat_eq, slice_get, option_and_then}
use Rattle.std.specs.Prelude.{slice_index_or}
use Rattle.std.specs.Option.{option_map_or}
use Rattle.oss_base.specs.declared.sites.FaultSite.{FaultSite}
use Rattle.oss_syntax.specs.declared.words.Word.{Word}
use Rattle.oss_syntax.specs.declared.refinement.RefinementItem.{RefinementItem}
use Rattle.oss_syntax.specs.Trees.{refinement_item_tree}
use Rattle.spec_names.specs.declared.refinements.RefinementTables.{RefinementTables}
use Rattle.spec_names.specs.NamesFaults.{containment_of_part}
use Rattle.spec_names.specs.Tables.{entry_place}

abbrev pub inner_of : RefinementTables → List ℕ
inner_of tables = filter_map (λ (place : Option ℕ). place) tables.components.items

-- the component of this name has the rank of the own one
abbrev pub leads_by : List (List ℕ × ℕ) → List ℕ → ℕ → List ℕ → Bool
leads_by names ranks own text = option_map_or (λ rank. nat_eq rank (slice_index_or ranks own 0))
    (option_and_then (slice_get ranks) (entry_place names text)) false

abbrev pub leads_word : List (List ℕ × ℕ) → List ℕ → ℕ → Word → Bool
leads_word names ranks own word = leads_by names ranks own word.text

abbrev pub inner_faults : List (List ℕ × ℕ) → List ℕ → ℕ → RefinementItem → List FaultSite
inner_faults names ranks own item = containment_of_part (leads_word names ranks own) (refinement_item_tree item)
