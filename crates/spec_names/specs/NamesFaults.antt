-- The faults of names in a specification, as a list of kinds and offsets: the table of faults in its own
-- words (the textual language of components and contracts of Cimatti, Dorigatti and Tonetta, OCRA: a tool
-- for checking the refinement of temporal contracts, 2013).
use Rattle.std.specs.Prelude.{ℕ, suc, zero, ◌+◌, max, Bool, false, not, ◌||◌, ◌&&◌, if◌then◌else◌, List, [], ◌∷◌, ◌++◌}
use Rattle.std.specs.Prelude.{length, map, filter, filter_map, flat_map, find, nat_eq, Option, Some, None, is_some}
use Rattle.std.specs.Prelude.{is_none, option_map, slice_get, bytes_eq}
use Rattle.std.specs.Option.{option_map_or}
use Rattle.std.specs.List.{list_any, list_all}
use Rattle.oss_base.specs.declared.fault.FaultKind.{FaultKind}
use Rattle.oss_base.specs.declared.fault.FaultKind.TheVariants.{F6, F7, F8, F9, F10, F11, F12, F13, F14, F15, F18, F19}
use Rattle.oss_base.specs.declared.fault.FaultKind.TheVariants.{F20, F21, F24}
use Rattle.oss_base.specs.declared.place.Span.{Span}
use Rattle.oss_syntax.specs.declared.words.Word.{Word}
use Rattle.oss_syntax.specs.declared.words.PartWord.{PartWord}
use Rattle.oss_syntax.specs.declared.refinement.TargetTree.{TargetTree}
use Rattle.oss_syntax.specs.declared.refinement.TargetTree.TheVariants as targets
use Rattle.oss_syntax.specs.Expressions.{Tree, Name, Dotted, Numeral, Truth, Brackets, OfPort, Prefix, Binary}
use Rattle.oss_syntax.specs.Trees.{Item, Port, Contract, RefinementItemTree, Sub, Connection, Refined, Component}
use Rattle.oss_base.specs.declared.sites.FaultSite.{FaultSite}
use Rattle.spec_names.specs.Scopes.{PortDeclaration, port_declarations, contract_words, item_enumerators, enumerators}
use Rattle.spec_names.specs.Scopes.{SubDeclaration, sub_declarations, refinement_parts, component_place, contract_place}
use Rattle.spec_names.specs.Scopes.{sub_place, sub_interface, Scope, contract_scope, connection_scope, target_meaning}

-- Three combinators over what stands in text order, each of which has a word at an offset.

abbrev pub start_of : Word → ℕ
start_of word = word.span.start

abbrev pub site : FaultKind → ℕ → FaultSite
site kind offset = record { kind = kind; offset = offset }

-- this means nothing there
abbrev pub lacking : {A : Type 0} → FaultKind → (A → Bool) → (A → ℕ) → List A → List FaultSite
lacking kind means offset xs = map (λ x. site kind (offset x)) (filter (λ x. not (means x)) xs)

-- this stood before
abbrev pub again_after : {A : Type 0} → FaultKind → (A → A → Bool) → (A → ℕ) → List A → List A → List FaultSite
again_after kind same offset before [] = []
again_after kind same offset before (x ∷ xs) =
    (if list_any (same x) before then site kind (offset x) ∷ [] else []) ++ again_after kind same offset
    (before ++ x ∷ []) xs

abbrev pub again : {A : Type 0} → FaultKind → (A → A → Bool) → (A → ℕ) → List A → List FaultSite
again kind same offset xs = again_after kind same offset [] xs

-- number n + 1 of these
abbrev pub one_site : Option FaultSite → List FaultSite
one_site None = []
one_site (Some s) = s ∷ []

abbrev pub past : {A : Type 0} → FaultKind → (A → ℕ) → ℕ → List A → List FaultSite
past kind offset n xs = one_site (option_map (λ x. site kind (offset x)) (slice_get xs n))

-- names that are the same

abbrev pub same_name : Word → Word → Bool
same_name a b = bytes_eq a.text b.text

-- `SUB.NAME`
abbrev pub same_dotted : Word × Word → Word × Word → Bool
same_dotted a b = same_name a.0 b.0 && same_name a.1 b.1

abbrev pub dotted_start : Word × Word → ℕ
dotted_start dotted = start_of dotted.0

-- expressions

-- a use of a name: alone, as `SUB.PORT`, or in `next` and its kin
pub data NameUse : Type 0 where
  Bare : Word → NameUse
  OfSub : Word → Word → NameUse
  Wanted : Word → NameUse

abbrev pub first_word : NameUse → Word
first_word (Bare name) = name
first_word (OfSub sub port) = sub
first_word (Wanted port) = port

abbrev pub use_start : NameUse → ℕ
use_start name = start_of (first_word name)

abbrev pub name_uses : Tree → List NameUse
name_uses (Name name) = Bare name ∷ []
name_uses (Dotted sub port) = OfSub sub port ∷ []
name_uses (Numeral value span) = []
name_uses (Truth truth span) = []
name_uses (Brackets inside span) = name_uses inside
name_uses (OfPort word port span) = Wanted port ∷ []
name_uses (Prefix word operand span) = name_uses operand
name_uses (Binary word left right span) = name_uses left ++ name_uses right

abbrev pub use_means : Scope → NameUse → Bool
use_means scope (Bare name) = is_some (scope.bare name.text)
use_means scope (OfSub sub port) = is_some (scope.dotted sub.text port.text)
use_means scope (Wanted port) = is_some (scope.wanted_port port.text)

-- interfaces

abbrev pub port_name_words : List Item → List Word
port_name_words interface = map (λ (port : PortDeclaration). port.name) (port_declarations interface)

-- A port's name is an enumerator of the interface: the fault stands at the later of the two. (A port
-- whose name stood before is a clash of its own already.)
abbrev pub clash_with : List Word → Word → Option FaultSite
clash_with names port = option_map (λ (name : Word). site F9 (max (start_of port) (start_of name)))
    (find (same_name port) names)

abbrev pub clashes : List Item → List FaultSite
clashes interface = filter_map (clash_with (enumerators interface)) (port_name_words interface)

-- an enumerator twice in one type
abbrev pub enumerators_again : Item → List FaultSite
enumerators_again item = again F18 same_name start_of (item_enumerators item)

-- the names that the formulas of a contract use
abbrev pub item_uses : Item → List NameUse
item_uses (Port input name kind) = []
item_uses (Contract name assume guarantee) = name_uses assume ++ name_uses guarantee

abbrev pub interface_faults : List Item → List FaultSite
interface_faults interface =
    again F9 same_name start_of (port_name_words interface)
    ++ (again F9 same_name start_of (contract_words interface)
    ++ (clashes interface
    ++ (flat_map enumerators_again interface
    ++ lacking F13 (use_means (contract_scope interface)) use_start (flat_map item_uses interface))))

-- refinements

abbrev pub own_target_word : RefinementItemTree → Option Word
own_target_word (Sub name component) = None
own_target_word (Connection (targets.Own port) source) = Some port
own_target_word (Connection (targets.OfSub sub port) source) = None
own_target_word (Refined name parts) = None

abbrev pub sub_target_pair : RefinementItemTree → Option (Word × Word)
sub_target_pair (Sub name component) = None
sub_target_pair (Connection (targets.Own port) source) = None
sub_target_pair (Connection (targets.OfSub sub port) source) = Some (sub, port)
sub_target_pair (Refined name parts) = None

abbrev pub refined_word : RefinementItemTree → Option Word
refined_word (Sub name component) = None
refined_word (Connection target source) = None
refined_word (Refined name parts) = Some name

-- the names that the expression of a connection uses
abbrev pub source_uses : RefinementItemTree → List NameUse
source_uses (Sub name component) = []
source_uses (Connection target source) = name_uses source
source_uses (Refined name listed) = []

abbrev pub target_start : TargetTree → ℕ
target_start (targets.Own port) = start_of port
target_start (targets.OfSub sub port) = start_of sub

abbrev pub words_of_part : PartWord → Word × Word
words_of_part part = (part.sub, part.contract)

-- What the words of a refinement have to be: the component of a subcomponent, a target of a connection, a
-- refined contract, the subcomponent of a listed part, and a contract of that one.
pub record PartTests : Type 0 where
  pub component : Word → Bool
  pub target : TargetTree → Bool
  pub contract : Word → Bool
  pub sub : PartWord → Bool
  pub listed : PartWord → Bool

abbrev pub part_tests : List Component → List Item → List RefinementItemTree → PartTests
part_tests components interface parts = record {
  component = λ word. is_some (component_place components word.text);
  target = λ target. is_some (target_meaning components interface parts target);
  contract = λ word. is_some (contract_place interface word.text);
  sub = λ part. is_some (sub_place parts part.sub.text);
  listed = λ part. is_some (contract_place (sub_interface components parts part.sub.text) part.contract.text);
}

-- a listed part whose first name is no subcomponent, whose contract is none of that one's component, or
-- that stood before in this list
abbrev pub listed_faults : PartTests → List PartWord → List FaultSite
listed_faults tests listed =
    lacking F24 tests.sub (λ (part : PartWord). start_of part.sub) listed
    ++ (lacking F19 tests.listed (λ (part : PartWord). start_of part.contract) listed
    ++ again F21 same_dotted dotted_start (map words_of_part listed))

abbrev pub part_faults : PartTests → RefinementItemTree → List FaultSite
part_faults tests (Sub name component) = lacking F10 tests.component start_of (component ∷ [])
part_faults tests (Connection target source) = lacking F14 tests.target target_start (target ∷ [])
part_faults tests (Refined name listed) = lacking F19 tests.contract start_of (name ∷ []) ++ listed_faults tests listed

abbrev pub refinement_faults : List Component → List Item → List RefinementItemTree → List FaultSite
refinement_faults components interface parts =
    again F12 same_name start_of (map (λ (sub : SubDeclaration). sub.name) (sub_declarations parts))
    ++ (flat_map (part_faults (part_tests components interface parts)) parts
    ++ (again F15 same_name start_of (filter_map own_target_word parts)
    ++ (again F15 same_dotted dotted_start (filter_map sub_target_pair parts)
    ++ (again F20 same_name start_of (filter_map refined_word parts)
    ++ lacking F13 (use_means (connection_scope components interface parts)) use_start (flat_map source_uses parts)))))

-- containment

-- the component at this place has a subcomponent of the one at that place
abbrev pub parts_at : List Component → ℕ → List RefinementItemTree
parts_at components place = option_map_or refinement_parts (slice_get components place) []

abbrev pub is_sub_of : List Component → ℕ → SubDeclaration → Bool
is_sub_of components place sub = option_map_or (nat_eq place) (component_place components sub.component.text) false

abbrev pub has_sub : List Component → ℕ → ℕ → Bool
has_sub components outer inner = list_any (is_sub_of components inner) (sub_declarations (parts_at components outer))

-- One component contains another through subcomponents: directly, or with the components in between all
-- at places below n (S. Warshall, A theorem on Boolean matrices, 1962).
abbrev pub contains_below : List Component → ℕ → ℕ → ℕ → Bool
contains_below components zero outer inner = has_sub components outer inner
contains_below components (suc n) outer inner =
    contains_below components n outer inner || (contains_below components n outer n && contains_below components n n
    inner)

abbrev pub contains : List Component → ℕ → ℕ → Bool
contains components outer inner = contains_below components (length components) outer inner

-- the component is the one at the own place, or contains it
abbrev pub leads_back : List Component → ℕ → Word → Bool
leads_back components own word =
    option_map_or (λ place. nat_eq place own || contains components place own) (component_place components word.text)
    false

-- a subcomponent whose component leads back to the own one
abbrev pub containment_of_part : (Word → Bool) → RefinementItemTree → List FaultSite
containment_of_part leads (Sub name component) = lacking F11 (λ word. not (leads word)) start_of (component ∷ [])
containment_of_part leads (Connection target source) = []
containment_of_part leads (Refined name listed) = []

abbrev pub containment_from : (ℕ → Word → Bool) → ℕ → List Component → List FaultSite
containment_from leads place [] = []
containment_from leads place (c ∷ rest) = flat_map (containment_of_part (leads place)) (refinement_parts c) ++
    containment_from leads (place + 1) rest

abbrev pub containment_faults : List Component → List FaultSite
containment_faults components = containment_from (leads_back components) 0 components

-- the whole

abbrev pub no_system : ℕ → List Component → List FaultSite
no_system end components = if list_all (λ (c : Component). is_none c.system) components then site F7 end ∷ [] else []

abbrev pub names_faults : ℕ → List Component → List FaultSite
names_faults end components =
    again F6 same_name start_of (map (λ (c : Component). c.name) components)
    ++ (no_system end components
    ++ (past F8 (λ (span : Span). span.start) 1 (filter_map (λ (c : Component). c.system) components)
    ++ (flat_map (λ (c : Component). interface_faults c.interface) components
    ++ (flat_map (λ (c : Component). refinement_faults components c.interface (refinement_parts c)) components
    ++ containment_faults components))))
