-- What a text stands for has small numbers.
use Rattle.std.proofs.Common.{◌≡◌, ℕ, ◌≤◌, Bool, true, false, List, [], ◌∷◌, length, map, slice_get, Option, Some, None, refl, sym, subst, arith}
use Rattle.std.specs.Prelude.{All}
use Rattle.std.specs.Option.{option_map_or}
use Rattle.std.proofs.lemmas.Int.{ints}
use Rattle.std.proofs.lemmas.Option.{none-some, same_Some}
use Rattle.oss_base.specs.Limits.{largest_numeral, most_bytes}
use Rattle.oss_base.specs.declared.ids.ComponentId.{ComponentId}
use Rattle.oss_base.specs.declared.ids.SubId.{SubId}
use Rattle.oss_syntax.specs.Expressions.{Tree}
use Rattle.oss_syntax.specs.Terminals.{terminals_of}
use Rattle.oss_syntax.specs.Tokens.{AreTokens, StandsIn, AreInOrder}
use Rattle.oss_syntax.specs.Trees.{Item, Port, Contract as WrittenContract, RefinementItemTree, Sub, Connection, Refined, Component}
use Rattle.oss_syntax.specs.declared.token.Token.{Token}
use Rattle.oss_syntax.specs.declared.types.TypeTree.{TypeTree}
use Rattle.oss_syntax.specs.declared.types.TypeTree.TheVariants as type
use Rattle.port_types.specs.Types.{IsSignedNumeral}
use Rattle.spec_model.specs.Architecture.{ports_of, contracts_of, wires_of, sub_component, ports_at}
use Rattle.spec_model.specs.Meanings.{ContractMeaning, contract_meaning, SourceMeaning, TruthSource, NumberSource, ChoiceSource, WireMeaning, source_meaning}
use Rattle.spec_model.specs.declared.contract.Contract.{Contract}
use Rattle.spec_model.specs.declared.port.OwnPort.{OwnPort}
use Rattle.spec_model.specs.declared.spec.Spec.{Spec}
use Rattle.spec_model.specs.declared.wire.Source.{Source}
use Rattle.spec_model.specs.declared.wire.Source.TheVariants as source
use Rattle.spec_model.specs.declared.wire.Wire.{Wire}
use Rattle.spec_names.specs.Scopes.{PortDeclaration, port_declaration, port_declarations, refinement_parts, interface_at}
use Rattle.spec_types.specs.Typing.{ExpressionReading, Typed, Formula, Term, Pick, typed_of}
use Rattle.spec_types.specs.TreeComponents.{signed, typed_port, type_of, own_ports, contract_reading, connection_reading, tree_contract, tree_contracts}
use Rattle.spec_types.specs.TreeComponents.{typed_source}
use Rattle.spec_types.specs.TreeComponents.{tree_wire, tree_wires}
use Rattle.spec_values.specs.SmallNumbers.{HasShortTerms, IsShort, SourceIsShort, HasNumeralEnds, HasSmallNumbers}
use Rattle.architecture.specs.Laws.{ResolvedHasSmallNumbers}
use Rattle.architecture.specs.Standing.{Stands}
use Rattle.architecture.proofs.FewTerminals.{IsFewTree, HasFileBounds, leaf_count, IsFewItem, IsFewPart, IsFewComponent, text_few, few_components}
use Rattle.architecture.proofs.Listing.{Each, each_at, each_kept, each_mapped}
use Rattle.architecture.proofs.Places.{ports_made, contracts_made}
use Rattle.architecture.proofs.ShortTerms.{IsShortTyped, formula_short, typed_short}
use Rattle.architecture.proofs.WellFormed.{each_wire}

-- types

signed_numeral : (negative : Bool) (value : ℕ) → value ≤ largest_numeral → IsSignedNumeral (signed negative value)
signed_numeral true value l = (omega (arith, ints, l), omega (arith, ints, l))
signed_numeral false value l = (omega (arith, ints, l), omega (arith, ints, l))

ends_of : (t : TypeTree) → HasFileBounds t → HasNumeralEnds (type_of t)
ends_of type.Boolean h = tt
ends_of type.Event h = tt
ends_of (type.Range lo hi) h = (signed_numeral lo.negative lo.value h.0, signed_numeral hi.negative hi.value h.1)
ends_of (type.Enum names) h = tt

abbrev pub HasEnds : OwnPort → Type 0
HasEnds port = HasNumeralEnds port.kind

each_made : {X Y : Type 0} (f : X → Y) (P : Y → Type 0) (xs : List X) → Each (λ x. P (f x)) xs → Each P (map f xs)
each_made f P [] each = tt
each_made f P (x ∷ xs) each = (each.0, each_made f P xs each.1)

module _ (n : ℕ) (most : n ≤ most_bytes) where
  tree_short : (reading : ExpressionReading) (e : Tree) → IsFewTree n e → IsShortTyped (leaf_count e)
      (typed_of reading e)
  tree_short reading e few = typed_short reading e few.0 (omega (arith, few.1, most))

  -- interfaces

  one_port : (item : Item) (port : PortDeclaration) → IsFewItem n item → port_declaration item ≡ Some port
      → HasNumeralEnds (type_of port.kind)
  one_port (Port input name kind) port few e =
      subst (λ (p : PortDeclaration). HasNumeralEnds (type_of p.kind)) (same_Some _ port e) (ends_of kind few)
  one_port (WrittenContract name assume guarantee) port few e = absurd (none-some port e)

  ports_small : (interface : List Item) → Each (IsFewItem n) interface → Each HasEnds (own_ports interface)
  ports_small interface few = each_made typed_port HasEnds (port_declarations interface)
      (each_kept port_declaration (IsFewItem n) (λ (p : PortDeclaration). HasNumeralEnds (type_of p.kind)) one_port interface few)

  abbrev AreShortBoth : ContractMeaning → Type 0
  AreShortBoth m = HasShortTerms m.assume × HasShortTerms m.guarantee

  one_contract : (reading : ExpressionReading) (item : Item) (m : ContractMeaning) → IsFewItem n item
      → tree_contract reading item ≡ Some m → AreShortBoth m
  one_contract reading (Port input name kind) m few e = absurd (none-some m e)
  one_contract reading (WrittenContract name assume guarantee) m few e =
      subst AreShortBoth (same_Some _ m e) (
        formula_short (leaf_count assume) (typed_of reading assume) (tree_short reading assume few.0),
        formula_short (leaf_count guarantee) (typed_of reading guarantee) (tree_short reading guarantee few.1),
      )

  contracts_small : (interface : List Item) → Each (IsFewItem n) interface → Each AreShortBoth (tree_contracts interface)
  contracts_small interface few =
      each_kept (tree_contract (contract_reading interface)) (IsFewItem n) AreShortBoth (one_contract (contract_reading interface)) interface few

  -- connections

  abbrev MeaningIsShort : SourceMeaning → Type 0
  MeaningIsShort (TruthSource f) = HasShortTerms f
  MeaningIsShort (NumberSource t) = IsShort t
  MeaningIsShort (ChoiceSource p) = Unit {0}

  meant_short : (k : ℕ) (t : Typed) → k ≤ n → IsShortTyped k t → MeaningIsShort (typed_source t)
  meant_short k (Formula f) l h = h
  meant_short k (Term t values) l h = omega (arith, l, most, h)
  meant_short k (Pick p names) l h = tt

  one_wire : (all : List Component) (c : Component) (reading : ExpressionReading) (p : RefinementItemTree)
      (m : WireMeaning) → IsFewPart n p → tree_wire all c reading p ≡ Some m → MeaningIsShort m.source
  one_wire all c reading (Sub name component) m few e = absurd (none-some m e)
  one_wire all c reading (Connection target source) m few e =
      subst (λ (w : WireMeaning). MeaningIsShort w.source) (same_Some _ m e)
      (meant_short (leaf_count source) (typed_of reading source) few.1 (tree_short reading source few))
  one_wire all c reading (Refined name listed) m few e = absurd (none-some m e)

  wires_small : (all : List Component) (c : Component) → Each (IsFewPart n) (refinement_parts c)
      → Each (λ (m : WireMeaning). MeaningIsShort m.source) (tree_wires all c)
  wires_small all c few = each_kept (tree_wire all c (connection_reading all c)) (IsFewPart n) (λ (m : WireMeaning). MeaningIsShort m.source)
      (one_wire all c (connection_reading all c)) (refinement_parts c) few

  source_small : (s : Source) → MeaningIsShort (source_meaning s) → SourceIsShort s
  source_small (source.Truth f) h = h
  source_small (source.Number t) h = h
  source_small (source.Choice p) h = h

  -- the specification

  module _ (bytes : List ℕ) (all : List Component) (made : Spec) (stands : Stands bytes all made)
      (few : Each (IsFewComponent n) all) where
    own_few : (k : ℕ) → Each (IsFewItem n) (interface_at all k)
    own_few k = by (slice_get all k) (λ c at. (each_at (IsFewComponent n) all few k c at).0)
      where
        by : (o : Option Component) → ((c : Component) → o ≡ Some c → Each (IsFewItem n) c.interface)
            → Each (IsFewItem n) (option_map_or (λ (c : Component). c.interface) o [])
        by None so = tt
        by (Some c) so = so c refl

    own_ends : (b : ComponentId) → Each HasEnds (ports_of made b)
    own_ends b = subst (Each HasEnds) (sym (ports_made bytes all made stands b.0)) (ports_small (interface_at all b.0) (own_few b.0))

    seen_ends : (c : ComponentId) (s : Option SubId) → Each HasEnds (ports_at made c s)
    seen_ends c None = own_ends c
    seen_ends c (Some s) = by (sub_component made c s)
      where
        by : (o : Option ComponentId) → Each HasEnds (option_map_or (ports_of made) o [])
        by None = tt
        by (Some b) = own_ends b

    pub small : HasSmallNumbers made
    small = record {
      ports = λ c t port at. each_at HasEnds (ports_at made c t.sub) (seen_ends c t.sub) t.port.0 port at;
      contracts = λ c d k at.
          each_at (λ (m : Contract). AreShortBoth (contract_meaning m)) (contracts_of made c)
          (each_mapped contract_meaning AreShortBoth (contracts_of made c)
          (subst (Each AreShortBoth) (sym (contracts_made bytes all made stands c.0)) (contracts_small (interface_at all c.0) (own_few c.0)))) d k at;
      wires = λ c k w at. source_small w.source
          (each_at (λ (v : Wire). MeaningIsShort (source_meaning v.source)) (wires_of made c)
          (each_wire bytes all made stands (λ (m : WireMeaning). MeaningIsShort m.source) c.0
          (λ p there. wires_small all p (each_at (IsFewComponent n) all few c.0 p there).1)) k w at);
    }

pub small_numbers : ((bytes : List ℕ) (tokens : List Token) → AreTokens bytes tokens → All (StandsIn bytes) tokens
    × AreInOrder 0 tokens)
    → ResolvedHasSmallNumbers
small_numbers stand bytes tokens all made short cut text stands =
    small (length bytes) short bytes all made stands
    (few_components (length bytes) (terminals_of bytes tokens) all (text_few bytes tokens (stand bytes tokens cut)) text)
