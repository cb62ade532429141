-- The formulas of a contract without a type fault read own ports of the kinds that they want.
use Rattle.std.proofs.Common.{◌≡◌, ℕ, zero, suc, ◌<◌, Bool, true, false, List, [], ◌∷◌, length, map, slice_get, get_or, Option, Some, None}
use Rattle.std.proofs.Common.{option_map, refl, sym, ap, subst, ◌∙◌}
use Rattle.std.specs.Option.{option_map_or}
use Rattle.std.proofs.lemmas.List.{length-map}
use Rattle.std.proofs.lemmas.Option.{none-some, same_Some, slice_get-map}
use Rattle.oss_syntax.specs.Expressions.{Tree}
use Rattle.oss_syntax.specs.Trees.{Item, Port, Contract}
use Rattle.port_types.specs.declared.types.PortType.{PortType}
use Rattle.port_types.specs.declared.types.PortType.TheVariants as kind
use Rattle.spec_model.specs.Meanings.{ContractMeaning}
use Rattle.spec_model.specs.declared.port.OwnPort.{OwnPort}
use Rattle.spec_names.specs.Scopes.{PortDeclaration, port_declarations, is_named, port_place, is_enumerator, enumerator_if, port_or}
use Rattle.spec_names.proofs.Lists.{position_within}
use Rattle.spec_types.specs.Typing.{PortReading, ExpressionReading, formula_in, typed_of}
use Rattle.spec_types.specs.TypeFaults.{is_formula, mismatch_unless, expression_start, expression_faults, formula_faults}
use Rattle.spec_types.specs.TreeComponents.{type_of, typed_port, own_ports, kind_at, port_meant, own_reading, no_reading, contract_reading}
use Rattle.spec_types.specs.TreeComponents.{interface_item_faults, contract_faults, tree_contract, tree_contracts}
use Rattle.architecture.proofs.Listing.{Each, each_kept, each_empty, both_empty}
use Rattle.architecture.proofs.Readings.{MeansOnly}
use Rattle.coded_levels.specs.CodableTypes.{ReadsKinds}
use Rattle.file_types.proofs.KindReads.{HasReadType, formula_kinds, typed_kinds}

-- the types of the ports of an interface
abbrev pub interface_types : List Item → List PortType
interface_types interface = map (λ (port : OwnPort). port.kind) (own_ports interface)

-- the type of a port by its place
pub kind_of_port : (interface : List Item) (place : ℕ)
    → option_map_or (λ (port : OwnPort). port.kind) (slice_get (own_ports interface) place) kind.Bool
    ≡ kind_at interface place
kind_of_port interface place =
    ap (λ (o : Option OwnPort). option_map_or (λ (port : OwnPort). port.kind) o kind.Bool) (slice_get-map typed_port (port_declarations interface) place)
    ∙ by (slice_get (port_declarations interface) place)
  where
    by : (o : Option PortDeclaration)
        → option_map_or (λ (port : OwnPort). port.kind) (option_map typed_port o) kind.Bool
        ≡ option_map_or (λ (port : PortDeclaration). type_of port.kind) o kind.Bool
    by None = refl
    by (Some d) = refl

type_read : (ports : List OwnPort) (place : ℕ) → get_or (map (λ (port : OwnPort). port.kind) ports) place kind.Bool
    ≡ option_map_or (λ (port : OwnPort). port.kind) (slice_get ports place) kind.Bool
type_read [] zero = refl
type_read [] (suc place) = refl
type_read (port ∷ ports) zero = refl
type_read (port ∷ ports) (suc place) = type_read ports place

module _ (interface : List Item) where
  own_read : (place : ℕ) → place < length (port_declarations interface)
      → HasReadType (interface_types interface) (own_reading interface place)
  own_read place l = record {
    there = subst (λ (size : ℕ). place < size) (sym (length-map (own_ports interface) (λ (port : OwnPort). port.kind)
        ∙ length-map (port_declarations interface) typed_port)) l;
    is = type_read (own_ports interface) place ∙ kind_of_port interface place;
  }

  -- what the names of a contract mean

  meant : (o : Option ℕ) (seen : Bool) (p : PortReading)
      → ((q : ℕ) → o ≡ Some q → q < length (port_declarations interface))
      → port_meant (own_reading interface) no_reading (port_or o (enumerator_if seen)) ≡ Some p
      → HasReadType (interface_types interface) p
  meant None true p so e = absurd (none-some p e)
  meant None false p so e = absurd (none-some p e)
  meant (Some q) seen p so e =
      subst (HasReadType (interface_types interface)) (same_Some (own_reading interface q) p e) (own_read q (so q refl))

  wanted : (o : Option ℕ) (p : PortReading) → ((q : ℕ) → o ≡ Some q → q < length (port_declarations interface))
      → option_map (own_reading interface) o ≡ Some p → HasReadType (interface_types interface) p
  wanted None p so e = absurd (none-some p e)
  wanted (Some q) p so e =
      subst (HasReadType (interface_types interface)) (same_Some (own_reading interface q) p e) (own_read q (so q refl))

  place_below : (text : List ℕ) (q : ℕ) → port_place interface text ≡ Some q → q < length (port_declarations interface)
  place_below text q e = position_within (λ (port : PortDeclaration). is_named text port.name) (port_declarations interface) q e

  names_read : MeansOnly (HasReadType (interface_types interface)) (contract_reading interface)
  names_read = record {
    bare = λ text p e. meant (port_place interface text) (is_enumerator interface text) p (place_below text) e;
    dotted = λ sub port p e. absurd (none-some p e);
    wanted = λ text p e. wanted (port_place interface text) p (place_below text) e;
  }

  -- contracts

  abbrev pub BothReadKinds : ContractMeaning → Type 0
  BothReadKinds m =
      ReadsKinds (interface_types interface) m.assume × ReadsKinds (interface_types interface) m.guarantee

  one_formula : (e : Tree) → formula_faults (contract_reading interface) e ≡ []
      → ReadsKinds (interface_types interface) (formula_in (typed_of (contract_reading interface) e))
  one_formula e none =
      let reading : ExpressionReading = contract_reading interface in
      let parts = both_empty (expression_faults reading e) (mismatch_unless (is_formula (typed_of reading e)) (expression_start e)) none in
      formula_kinds (interface_types interface) (typed_of reading e) (typed_kinds (interface_types interface) reading names_read e parts.0)

  one_contract : (item : Item) (m : ContractMeaning) → interface_item_faults (contract_reading interface) item ≡ []
      → tree_contract (contract_reading interface) item ≡ Some m → BothReadKinds m
  one_contract (Port input name type) m none e = absurd (none-some m e)
  one_contract (Contract name assume guarantee) m none e =
      let reading : ExpressionReading = contract_reading interface in
      let parts = both_empty (formula_faults reading assume) (formula_faults reading guarantee) none in
      subst BothReadKinds (same_Some _ m e) (one_formula assume parts.0, one_formula guarantee parts.1)

  pub contracts_kinds : contract_faults interface ≡ [] → Each BothReadKinds (tree_contracts interface)
  contracts_kinds none = each_kept (tree_contract (contract_reading interface)) (λ item. interface_item_faults (contract_reading interface) item ≡ [])
      BothReadKinds one_contract interface (each_empty (interface_item_faults (contract_reading interface)) interface none)
