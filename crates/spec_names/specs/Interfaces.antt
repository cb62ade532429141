-- What the tables of an interface tell (serves proofs only).
use Rattle.std.specs.Prelude.{ℕ, max, Bool, true, false, not, ◌||◌, List, Option, is_some, option_map, option_and_then}
use Rattle.std.specs.Prelude.{slice_get}
use Rattle.std.specs.Option.{option_map_or}
use Rattle.oss_base.specs.declared.fault.FaultKind.TheVariants.{F9, F18}
use Rattle.oss_syntax.specs.declared.words.Word.{Word}
use Rattle.oss_syntax.specs.declared.interface.InterfaceItem.{InterfaceItem}
use Rattle.oss_syntax.specs.Trees.{item_tree}
use Rattle.spec_names.specs.declared.interfaces.InterfaceTables.{InterfaceTables}
use Rattle.oss_base.specs.declared.sites.FaultSite.{FaultSite}
use Rattle.spec_names.specs.Scopes.{PortDeclaration, port_declaration}
use Rattle.spec_names.specs.NamesFaults.{NameUse, Bare, OfSub, Wanted, item_uses, site, start_of, again, same_name}
use Rattle.spec_names.specs.Tables.{entry_place}
use Rattle.spec_names.specs.Words.{enumerators_of_item}

abbrev pub input_of_item : InterfaceItem → Option Bool
input_of_item item = option_map (λ (port : PortDeclaration). port.input) (port_declaration (item_tree item))

abbrev pub uses_of_item : InterfaceItem → List NameUse
uses_of_item item = item_uses (item_tree item)

-- the enumerators of an item that stand twice
abbrev pub enumerator_faults : InterfaceItem → List FaultSite
enumerator_faults item = again F18 same_name start_of (enumerators_of_item item)

abbrev pub same_bool : Bool → Bool → Bool
same_bool true b = b
same_bool false b = not b

-- by the tables: the first port of a name is there and has this direction
abbrev pub directed_in : Bool → InterfaceTables → List ℕ → Bool
directed_in input tables text = option_map_or (same_bool input)
    (option_and_then (slice_get tables.inputs.items) (entry_place tables.ports text)) false

-- by the tables: a use of a name means something in a formula
abbrev pub is_known_in : InterfaceTables → NameUse → Bool
is_known_in tables (Bare name) = is_some (entry_place tables.ports name.text) || is_some
    (entry_place tables.enumerators name.text)
is_known_in tables (OfSub sub port) = false
is_known_in tables (Wanted port) = is_some (entry_place tables.ports port.text)

-- by a table of enumerators: the clash of a port with the first of its name
abbrev pub clash_by : List (List ℕ × ℕ) → List Word → Word → Option FaultSite
clash_by table names port =
    option_map (λ (name : Word). site F9 (max (start_of port) (start_of name)))
    (option_and_then (slice_get names) (entry_place table port.text))
