-- The formulas of a level, over the free ports of its component: those of the refined contract, and those of each
-- contract by which it is refined (Cimatti and Tonetta, Contracts-refinement proof system for component-based
-- embedded systems, 2015: the contracts in the proof obligations of a refinement).
use Rattle.std.specs.Prelude.{◌≡◌, List, [], map, Option, Some, None, slice_get}
use Rattle.std.specs.Option.{option_map_or}
use Rattle.oss_base.specs.declared.ids.ComponentId.{ComponentId}
use Rattle.oss_base.specs.declared.ids.ContractId.{ContractId}
use Rattle.oss_base.specs.declared.ids.SubId.{SubId}
use Rattle.typed_ltl.specs.Formulas.{Ltl, meaning}
use Rattle.typed_ltl.specs.Formulas as form
use Rattle.spec_model.specs.declared.spec.Spec.{Spec}
use Rattle.spec_model.specs.declared.contract.Contract.{Contract}
use Rattle.spec_model.specs.declared.item.Item.{Item}
use Rattle.spec_model.specs.Architecture.{contracts_of, sub_component}
use Rattle.connections.specs.declared.substituting.LevelFormulas.{LevelFormulas}
use Rattle.connections.specs.declared.substituting.Part.{Part}
use Rattle.connections.specs.Substitution.{readings, substituted}

-- the contracts of the component itself, or of one of its subcomponents
abbrev pub contracts_at : Spec → ComponentId → Option SubId → List Contract
contracts_at spec c None = contracts_of spec c
contracts_at spec c (Some s) = option_map_or (contracts_of spec) (sub_component spec c s) []

abbrev pub contract_at : Spec → ComponentId → Option SubId → ContractId → Option Contract
contract_at spec c s d = slice_get (contracts_at spec c s) d.0

-- What a contract asks and what it gives. One that does not exist asks and gives nothing.
abbrev pub what_it_asks : Option Contract → Ltl
what_it_asks contract = option_map_or (λ (k : Contract). meaning k.assume) contract form.True

abbrev pub what_it_gives : Option Contract → Ltl
what_it_gives contract = option_map_or (λ (k : Contract). meaning k.guarantee) contract form.True

-- the same with each connected port replaced by the expression of its connection
abbrev pub asked_over_free : Spec → ComponentId → Option SubId → ContractId → Ltl
asked_over_free spec c s d = substituted (readings spec c s) (what_it_asks (contract_at spec c s d))

abbrev pub given_over_free : Spec → ComponentId → Option SubId → ContractId → Ltl
given_over_free spec c s d = substituted (readings spec c s) (what_it_gives (contract_at spec c s d))

-- a listed contract with its two formulas
abbrev pub part_over_free : Spec → ComponentId → SubId × ContractId → SubId × Ltl × Ltl
part_over_free spec c part =
    (part.0, asked_over_free spec c (Some part.0) part.1, given_over_free spec c (Some part.0) part.1)

abbrev pub formulas_of_part : Part → SubId × Ltl × Ltl
formulas_of_part part = (part.sub, meaning part.assume, meaning part.guarantee)

-- these are the formulas of the level of an item, with those of the listed contracts in the order of the list
pub record AreLevelFormulas (spec : Spec) (item : Item) (formulas : LevelFormulas) : Type 0 where
  pub assume : meaning formulas.assume ≡ asked_over_free spec item.component None item.contract
  pub guarantee : meaning formulas.guarantee ≡ given_over_free spec item.component None item.contract
  pub parts : map formulas_of_part formulas.parts ≡ map (part_over_free spec item.component) item.parts
