-- What the tables of a refinement tell (serves proofs only).
use Rattle.std.specs.Prelude.{◌≡◌, ℕ, ◌<◌, length, Bool, true, false, ◌||◌, if◌then◌else◌, List, [], ◌++◌, filter_map}
use Rattle.std.specs.Prelude.{flat_map, Option, Some, None, is_some, option_map, option_and_then, slice_get}
use Rattle.std.specs.Option.{option_map_or}
use Rattle.std.specs.List.{list_any}
use Rattle.oss_syntax.specs.declared.words.Word.{Word}
use Rattle.oss_syntax.specs.declared.words.PartWord.{PartWord}
use Rattle.oss_syntax.specs.declared.refinement.RefinementItem.{RefinementItem}
use Rattle.oss_syntax.specs.declared.refinement.TargetTree.{TargetTree}
use Rattle.oss_syntax.specs.declared.refinement.TargetTree.TheVariants as targets
use Rattle.oss_base.specs.declared.fault.FaultKind.TheVariants.{F12, F13, F15, F20}
use Rattle.oss_syntax.specs.Trees.{Item, RefinementItemTree, Component, refinement_item_tree}
use Rattle.spec_names.specs.Directory.{IsInterface, AreInterfaces, IsRefinementOf}
use Rattle.spec_names.specs.declared.interfaces.InterfaceTables.{InterfaceTables}
use Rattle.spec_names.specs.declared.refinements.RefinementTables.{RefinementTables}
use Rattle.spec_names.specs.declared.refinements.Surroundings.{Surroundings}
use Rattle.oss_base.specs.declared.sites.FaultSite.{FaultSite}
use Rattle.spec_names.specs.declared.words.RefinementWord.TheVariants as words
use Rattle.spec_names.specs.Interfaces.{directed_in}
use Rattle.spec_names.specs.Noting.{noted}
use Rattle.spec_names.specs.NamesFaults.{NameUse, Bare, OfSub, Wanted, PartTests, first_word, use_start, source_uses}
use Rattle.spec_names.specs.NamesFaults.{part_faults, lacking, again, same_name, start_of, same_dotted, dotted_start}
use Rattle.spec_names.specs.Scopes.{SubDeclaration, sub_declaration, component_place}
use Rattle.spec_names.specs.Tables.{entry_place, IsPlaceTable}
use Rattle.spec_names.specs.Words.{word_of_part, sub_target_of_item}

abbrev pub component_of_item : List (List ℕ × ℕ) → RefinementItem → Option (Option ℕ)
component_of_item components item = option_map (λ (sub : SubDeclaration). entry_place components sub.component.text)
    (sub_declaration (refinement_item_tree item))

-- what the names of a refinement are looked up in
pub record Around : Type 0 where
  pub components : List (List ℕ × ℕ)
  pub own : InterfaceTables
  pub subs : RefinementTables
  pub interfaces : List InterfaceTables

abbrev pub names_around : Surroundings → Around
names_around s = record {
  components = s.components.now;
  own = s.own.now;
  subs = s.subs.now;
  interfaces = s.interfaces.now;
}

-- the interface of the component at a place that may be missing
abbrev pub interface_in : Around → Option ℕ → Option InterfaceTables
interface_in s component = option_and_then (slice_get s.interfaces) component

abbrev pub found_in : Around → List ℕ → Option InterfaceTables
found_in s sub = option_and_then (interface_in s) (option_and_then (slice_get s.subs.components.items)
    (entry_place s.subs.subs sub))

abbrev pub sub_directed_in : Bool → Around → List ℕ → List ℕ → Bool
sub_directed_in input s sub port = option_map_or (λ (tables : InterfaceTables). directed_in input tables port)
    (found_in s sub) false

abbrev pub is_driven_in : Around → TargetTree → Bool
is_driven_in s (targets.Own port) = directed_in false s.own port.text
is_driven_in s (targets.OfSub sub port) = sub_directed_in true s sub.text port.text

abbrev pub is_listed_in : Around → PartWord → Bool
is_listed_in s part = option_map_or (λ (tables : InterfaceTables). is_some
    (entry_place tables.contracts part.contract.text)) (found_in s part.sub.text) false

abbrev pub tests_in : Around → PartTests
tests_in s = record {
  component = λ word. is_some (entry_place s.components word.text);
  target = is_driven_in s;
  contract = λ word. is_some (entry_place s.own.contracts word.text);
  sub = λ part. is_some (entry_place s.subs.subs part.sub.text);
  listed = is_listed_in s;
}

-- a name is an enumerator of the own interface or of the component of a subcomponent
abbrev pub has_enumerator_in : List ℕ → Option InterfaceTables → Bool
has_enumerator_in text found =
    option_map_or (λ (tables : InterfaceTables). is_some (entry_place tables.enumerators text)) found false

abbrev pub sees_in : Around → List ℕ → Bool
sees_in s text = is_some (entry_place s.own.enumerators text)
    || list_any (λ component. has_enumerator_in text (interface_in s component)) s.subs.components.items

abbrev pub is_read_in : Around → NameUse → Bool → Bool
is_read_in s (Bare name) seen =
    if is_some (entry_place s.own.ports name.text) then directed_in true s.own name.text else seen
is_read_in s (OfSub sub port) seen = sub_directed_in false s sub.text port.text
is_read_in s (Wanted port) seen = directed_in true s.own port.text

-- where the list reaches to the first place of this word, it says whether the refinement sees its name
abbrev pub KnowsSeen : Around → List (List ℕ × ℕ) → List Bool → Word → Type 0
KnowsSeen s table seen word =
    (k : ℕ) → entry_place table word.text ≡ Some k → k < length seen → slice_get seen k ≡ Some (sees_in s word.text)

-- a use of a name means something in a connection
abbrev pub is_read_by : Around → NameUse → Bool
is_read_by s name = is_read_in s name (sees_in s (first_word name).text)

abbrev pub uses_of_source : RefinementItem → List NameUse
uses_of_source item = source_uses (refinement_item_tree item)

abbrev pub faults_of_item : Around → RefinementItem → List FaultSite
faults_of_item s item = part_faults (tests_in s) (refinement_item_tree item)

-- the faults of the names of items, by what is around them
abbrev pub item_faults : Around → List RefinementItem → List FaultSite
item_faults a items =
    flat_map (faults_of_item a) items
    ++ (again F15 same_name start_of (filter_map (word_of_part words.OwnTarget) items)
    ++ (again F15 same_dotted dotted_start (filter_map sub_target_of_item items)
    ++ (again F20 same_name start_of (filter_map (word_of_part words.Refined) items)
    ++ lacking F13 (is_read_by a) use_start (flat_map uses_of_source items))))

-- the tables of the subcomponents of a refinement, among components of these names
pub record AreTablesOf (components : List (List ℕ × ℕ)) (items : List RefinementItem) (tables : RefinementTables) : Type
    0 where
  pub subs : IsPlaceTable (filter_map (word_of_part words.Sub) items) tables.subs
  pub places : tables.components.items ≡ filter_map (component_of_item components) items

-- the faults of the names of a refinement are noted
abbrev pub AreNoted : Around → List RefinementItem → Option FaultSite → Option FaultSite → Type 0
AreNoted a items old new = new ≡ noted (again F12 same_name start_of (filter_map (word_of_part words.Sub) items) ++
    item_faults a items) old

-- what the tables of an interface tell where there are some: else it declares nothing
abbrev pub Fits : List Item → Option InterfaceTables → Type 0
Fits interface None = interface ≡ []
Fits interface (Some tables) = IsInterface interface tables

-- what is around the names of a refinement
pub record IsAround (components : List Component) (interface : List Item) (parts : List RefinementItemTree)
    (a : Around) :
    Type 0 where
  pub names : (text : List ℕ) → entry_place a.components text ≡ component_place components text
  pub own : IsInterface interface a.own
  pub subs : IsRefinementOf components parts a.subs
  pub interfaces : AreInterfaces components a.interfaces
