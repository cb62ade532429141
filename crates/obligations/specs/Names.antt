-- How obligations are named: `C.c entails` and `C.c assumes s.d`. What does not exist has the empty name.
use Rattle.std.specs.Prelude.{ℕ, List, [], ◌++◌, slice_get, codes}
use Rattle.std.specs.Option.{option_map_or}
use Rattle.oss_base.specs.declared.ids.ComponentId.{ComponentId}
use Rattle.oss_base.specs.declared.ids.ContractId.{ContractId}
use Rattle.oss_base.specs.declared.ids.SubId.{SubId}
use Rattle.spec_model.specs.declared.spec.Spec.{Spec}
use Rattle.spec_model.specs.declared.spec.Component.{Component}
use Rattle.spec_model.specs.declared.contract.Contract.{Contract}
use Rattle.spec_model.specs.declared.sub.Sub.{Sub}
use Rattle.spec_model.specs.declared.item.Item.{Item}
use Rattle.spec_model.specs.Architecture.{contracts_of, subs_of, sub_component}
use Rattle.obligations.specs.declared.name.ObligationName.{ObligationName}
use Rattle.obligations.specs.declared.name.ObligationName.TheVariants as obligation

abbrev pub component_name : Spec → ComponentId → List ℕ
component_name spec c = option_map_or (λ (k : Component). k.name) (slice_get spec.components c.0) []

abbrev pub contract_name : Spec → ComponentId → ContractId → List ℕ
contract_name spec c d = option_map_or (λ (k : Contract). k.name) (slice_get (contracts_of spec c) d.0) []

abbrev pub sub_name : Spec → ComponentId → SubId → List ℕ
sub_name spec c s = option_map_or (λ (sub : Sub). sub.name) (slice_get (subs_of spec c) s.0) []

abbrev pub part_name : Spec → ComponentId → SubId × ContractId → List ℕ
part_name spec c part = (sub_name spec c part.0 ++ codes ".")
    ++ option_map_or (λ (b : ComponentId). contract_name spec b part.1) (sub_component spec c part.0) []

abbrev pub level_name : Spec → Item → List ℕ
level_name spec item = (component_name spec item.component ++ codes ".")
    ++ contract_name spec item.component item.contract

abbrev pub obligation_text : Spec → ObligationName → List ℕ
obligation_text spec (obligation.Entails item) =
    option_map_or (λ (i : Item). level_name spec i ++ codes " entails") (slice_get spec.items item.0) []
obligation_text spec (obligation.Assumes item place) =
    option_map_or (λ (i : Item). (level_name spec i ++ codes " assumes ")
    ++ option_map_or (part_name spec i.component) (slice_get i.parts place) []) (slice_get spec.items item.0) []
