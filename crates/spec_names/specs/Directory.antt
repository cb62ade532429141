-- The directory of the names of a specification, and what is answered of them.
use Rattle.std.specs.Prelude.{◌≡◌, ℕ, ◌<◌, true, List, [], ◌∷◌, length, map, is_some, Some, slice_index_or}
use Rattle.oss_base.specs.Sites.{first_of}
use Rattle.oss_syntax.specs.Trees.{Item, RefinementItemTree, Component}
use Rattle.spec_names.specs.declared.interfaces.InterfaceTables.{InterfaceTables}
use Rattle.spec_names.specs.declared.refinements.RefinementTables.{RefinementTables}
use Rattle.spec_names.specs.declared.directory.Directory.{Directory}
use Rattle.spec_names.specs.declared.directory.Names.{Names}
use Rattle.spec_names.specs.declared.directory.Names.TheVariants as names
use Rattle.spec_names.specs.NamesFaults.{names_faults, has_sub}
use Rattle.spec_names.specs.Scopes.{PortDeclaration, port_declarations, port_place, contract_place, is_enumerator}
use Rattle.spec_names.specs.Scopes.{component_place, refinement_parts, SubDeclaration, sub_declarations, sub_place}
use Rattle.spec_names.specs.Tables.{entry_place}

-- The tables of an interface tell the places of its ports and contracts, which ports are inputs, and which names are
-- enumerators.
pub record IsInterface (interface : List Item) (tables : InterfaceTables) : Type 0 where
  pub ports : (text : List ℕ) → entry_place tables.ports text ≡ port_place interface text
  pub inputs : tables.inputs.items ≡ map (λ (port : PortDeclaration). port.input) (port_declarations interface)
  pub contracts : (text : List ℕ) → entry_place tables.contracts text ≡ contract_place interface text
  pub enumerators : (text : List ℕ) → is_some (entry_place tables.enumerators text) ≡ is_enumerator interface text

-- the tables of all interfaces, in order
abbrev pub AreInterfaces : List Component → List InterfaceTables → Type 0
AreInterfaces [] [] = Unit {0}
AreInterfaces [] (t ∷ tables) = ⊥
AreInterfaces (c ∷ components) [] = ⊥
AreInterfaces (c ∷ components) (t ∷ tables) = IsInterface c.interface t × AreInterfaces components tables

-- The tables of a refinement tell the places of its subcomponents, and that of the component of each.
pub record IsRefinementOf (components : List Component) (parts : List RefinementItemTree)
    (tables : RefinementTables) : Type
    0 where
  pub subs : (text : List ℕ) → entry_place tables.subs text ≡ sub_place parts text
  pub places : tables.components.items ≡ map (λ (sub : SubDeclaration). component_place components sub.component.text)
      (sub_declarations parts)

-- the tables of all refinements, in order
abbrev pub AreRefinements : List Component → List Component → List RefinementTables → Type 0
AreRefinements all [] [] = Unit {0}
AreRefinements all [] (t ∷ tables) = ⊥
AreRefinements all (c ∷ components) [] = ⊥
AreRefinements all (c ∷ components) (t ∷ tables) = IsRefinementOf all (refinement_parts c) t × AreRefinements all
    components tables

-- The components have ranks, and that of the component of a subcomponent is less.
pub record RanksFall (components : List Component) (ranks : List ℕ) : Type 0 where
  pub count : length ranks ≡ length components
  pub falls : (outer inner : ℕ) → outer < length components → has_sub components outer inner ≡ true
      → slice_index_or ranks inner 0 < slice_index_or ranks outer 0

-- The directory tells of each name what it means: the place of the first component, port, contract or subcomponent
-- of this name, and the component of each subcomponent.
pub record IsDirectoryOf (components : List Component) (d : Directory) : Type 0 where
  pub names : (text : List ℕ) → entry_place d.components text ≡ component_place components text
  pub interfaces : AreInterfaces components d.interfaces.items
  pub refinements : AreRefinements components components d.refinements.items
  pub ranks : RanksFall components d.ranks.items

-- What is answered of a text of this length: its first fault of names, or, where there is none, its directory.
abbrev pub AnswersNames : ℕ → List Component → Names → Type 0
AnswersNames end components (names.Fault s) = first_of (names_faults end components) ≡ Some s
AnswersNames end components (names.Directory d) = (names_faults end components ≡ []) × IsDirectoryOf components d
