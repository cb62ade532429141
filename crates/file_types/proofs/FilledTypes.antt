-- The types that a text without a fault declares have values: no range is empty, and an enumeration has some names, not
-- too many, and each once.
use Rattle.std.proofs.Common.{◌≡◌, ◌≢◌, ℕ, ◌<◌, ◌≤◌, ◌^◌, ℤ, pos, negsuc, ◌+ℤ◌, ◌-ℤ◌, ◌≤ℤ◌, int_le, Bool, true, false, List, [], ◌∷◌, length, map}
use Rattle.std.proofs.Common.{Some, refl, sym, subst, arith}
use Rattle.std.specs.Prelude.{AllPairs, flat_map}
use Rattle.std.proofs.lemmas.Int.{ints}
use Rattle.std.proofs.lemmas.List.{length-map}
use Rattle.std.proofs.lemmas.List.FromFn.{length-map-range_with_len}
use Rattle.std.proofs.lemmas.Option.{none-some, same_Some}
use Rattle.oss_base.specs.Limits.{most_bytes}
use Rattle.oss_base.specs.declared.fault.FaultKind.TheVariants.{F18}
use Rattle.oss_syntax.specs.Trees.{Item, Port, Contract}
use Rattle.oss_syntax.specs.declared.types.TypeTree.{TypeTree}
use Rattle.oss_syntax.specs.declared.types.TypeTree.TheVariants as type
use Rattle.oss_syntax.specs.declared.words.Word.{Word}
use Rattle.port_types.specs.Types.{natural_part, range_size, values}
use Rattle.port_types.specs.declared.types.PortType.{PortType}
use Rattle.port_types.specs.declared.types.PortType.TheVariants as kind
use Rattle.port_types.specs.declared.types.Value.TheVariants as value
use Rattle.state_coding.specs.Codes.{IsCodable}
use Rattle.spec_model.specs.declared.port.OwnPort.{OwnPort}
use Rattle.spec_names.specs.NamesFaults.{again, same_name, start_of, enumerators_again}
use Rattle.spec_names.specs.Scopes.{PortDeclaration, port_declaration, port_declarations, type_enumerators}
use Rattle.spec_types.specs.TreeComponents.{bound, type_of, typed_port, own_ports, empty_unless, range_faults, range_faults_in}
use Rattle.spec_values.specs.SmallNumbers.{HasNumeralEnds}
use Rattle.architecture.proofs.Listing.{Each, each_kept, each_both, each_empty}
use Rattle.file_types.proofs.DifferentNames.{names_differ}
use Rattle.file_types.proofs.Enumerations.{HasFewNames, DeclaresFewNames}

-- the type has a value, and its names can be numbered
abbrev pub IsFilled : PortType → Type 0
IsFilled kind.Bool = Unit {0}
IsFilled (kind.Range lo hi) = lo ≤ℤ hi
IsFilled (kind.Enum names) = (0 < length names) × (length names < 2 ^ 32) × AllPairs (λ a b. a ≢ b) names

-- filled types with numerals at their ends can be coded

positive_part : (z : ℤ) → pos 1 ≤ℤ z → 0 < natural_part z
positive_part (pos n) l = omega (arith, ints, l)
positive_part (negsuc n) l = absurd (omega (arith, ints, l))

range_has : (lo hi : ℤ) → lo ≤ℤ hi → 0 < length (values (kind.Range lo hi))
range_has lo hi l =
    let size : length (values (kind.Range lo hi)) ≡ range_size lo hi = length-map-range_with_len (λ k. value.Int (lo +ℤ pos k)) 0 (range_size lo hi) in
    subst (λ (n : ℕ). 0 < n) (sym size) (positive_part ((hi +ℤ pos 1) -ℤ lo) (omega (arith, ints, l)))

pub codable : (type : PortType) → HasNumeralEnds type → IsFilled type → IsCodable type
codable kind.Bool ends filled = (tt, omega arith)
codable (kind.Range lo hi) ends filled = (ends, range_has lo hi filled)
codable (kind.Enum names) ends filled =
    ((filled.1, filled.2), subst (λ (n : ℕ). 0 < n) (sym (length-map names value.Name)) filled.0)

-- declared types

in_order : (b : Bool) (offset : ℕ) → empty_unless b offset ≡ [] → b ≡ true
in_order true offset e = refl
in_order false offset e = cc

ends_in_order : (lo hi : ℤ) → int_le lo hi ≡ true → lo ≤ℤ hi
ends_in_order lo hi e = omega (arith, ints, e)

abbrev pub IsFilledPort : OwnPort → Type 0
IsFilledPort port = IsFilled port.kind

module _ (n : ℕ) (most : n ≤ most_bytes) where
  type_filled : (t : TypeTree) → HasFewNames n t → again F18 same_name start_of (type_enumerators t) ≡ []
      → range_faults t ≡ [] → IsFilled (type_of t)
  type_filled type.Boolean few once none = tt
  type_filled type.Event few once none = tt
  type_filled (type.Range lo hi) few once none =
      ends_in_order (bound lo) (bound hi) (in_order (int_le (bound lo) (bound hi)) lo.span.start none)
  type_filled (type.Enum names) few once none =
      let size : length (map (λ (w : Word). w.text) names) ≡ length names = length-map names (λ (w : Word). w.text) in
      (omega (arith, size, few.0), omega (arith, size, few.1, most), names_differ F18 names once)

  -- what is declared at a port
  abbrev IsSoundPort : PortDeclaration → Type 0
  IsSoundPort d = HasFewNames n d.kind × (again F18 same_name start_of (type_enumerators d.kind) ≡ [])

  one_port : (item : Item) (d : PortDeclaration) → DeclaresFewNames n item × (enumerators_again item ≡ [])
      → port_declaration item ≡ Some d → IsSoundPort d
  one_port (Port input name kind) d h e = subst IsSoundPort (same_Some _ d e) h
  one_port (Contract name assume guarantee) d h e = absurd (none-some d e)

  abbrev IsSoundDeclaration : PortDeclaration → Type 0
  IsSoundDeclaration d = IsSoundPort d × (range_faults d.kind ≡ [])

  declared : (ds : List PortDeclaration) → Each IsSoundDeclaration ds → Each IsFilledPort (map typed_port ds)
  declared [] each = tt
  declared (d ∷ ds) each = (type_filled d.kind each.0.0.0 each.0.0.1 each.0.1, declared ds each.1)

  pub ports_filled : (interface : List Item) → Each (DeclaresFewNames n) interface
      → flat_map enumerators_again interface ≡ [] → range_faults_in interface ≡ []
      → Each IsFilledPort (own_ports interface)
  ports_filled interface few once ranges =
      let ds : List PortDeclaration = port_declarations interface in
      let ports : Each IsSoundPort ds = each_kept port_declaration (λ item. DeclaresFewNames n item × (enumerators_again item ≡ [])) IsSoundPort one_port
      interface (each_both (DeclaresFewNames n) (λ item. enumerators_again item ≡ []) interface few (each_empty enumerators_again interface once)) in
      declared ds (each_both IsSoundPort (λ (d : PortDeclaration). range_faults d.kind ≡ []) ds ports
      (each_empty (λ (d : PortDeclaration). range_faults d.kind) ds ranges))
