-- Ports and subcomponents of what a text without a fault stands for: their names are names of the text, each stands
-- once, and the values of ports can stand in a lasso file.
use Rattle.std.proofs.Common.{◌≡◌, ℕ, ◌≤◌, Bool, true, false, List, [], ◌∷◌, length, map, filter_map, slice_get, Option, Some, None, refl, sym, ap, subst, ◌∙◌}
use Rattle.std.proofs.Common.{arith}
use Rattle.std.specs.Prelude.{flat_map}
use Rattle.std.specs.Option.{option_map_or}
use Rattle.std.proofs.lemmas.Int.{ints}
use Rattle.std.proofs.lemmas.Option.{none-some, same_Some}
use Rattle.std.proofs.lemmas.Simd.{map-map}
use Rattle.oss_base.specs.Limits.{largest_numeral}
use Rattle.oss_base.specs.declared.fault.FaultKind.TheVariants.{F6, F8, F9, F12}
use Rattle.oss_base.specs.declared.ids.ComponentId.{ComponentId}
use Rattle.oss_base.specs.declared.ids.SubId.{SubId}
use Rattle.oss_base.specs.declared.place.Span.{Span}
use Rattle.oss_syntax.specs.Terminals.{terminals_of}
use Rattle.oss_syntax.specs.Texts.{IsText}
use Rattle.oss_syntax.specs.Tokens.{AreTokens}
use Rattle.oss_syntax.specs.Trees.{Item, Port, Contract as WrittenContract, RefinementItemTree, Sub, Connection, Refined, Component}
use Rattle.oss_syntax.specs.declared.token.Token.{Token}
use Rattle.oss_syntax.specs.declared.types.TypeTree.{TypeTree}
use Rattle.oss_syntax.specs.declared.types.TypeTree.TheVariants as type
use Rattle.oss_syntax.specs.declared.words.Word.{Word}
use Rattle.oss_printer.proofs.Chunks.{terminals_from, terminals_read}
use Rattle.oss_printer.proofs.Fits.{AreWritable, IsName, FitsWord, FitsType, FitsItem, FitsRefinementItem, FitsRefinement, FitsComponent, pieces_writable}
use Rattle.oss_printer.proofs.Fits as fits
use Rattle.oss_printer.proofs.Fitting.{fits_text}
use Rattle.port_types.specs.Types.{IsSignedNumeral}
use Rattle.spec_model.specs.Architecture.{ports_of, subs_of, sub_component, ports_at}
use Rattle.spec_model.specs.declared.port.OwnPort.{OwnPort}
use Rattle.spec_model.specs.declared.spec.Component as model
use Rattle.spec_model.specs.declared.spec.Spec.{Spec}
use Rattle.spec_model.specs.declared.sub.Sub as spec_sub
use Rattle.spec_names.specs.NamesFaults.{again, same_name, start_of, no_system, past, interface_faults, port_name_words, refinement_faults, names_faults}
use Rattle.spec_names.specs.NamesFaults.{containment_faults}
use Rattle.spec_names.specs.Scopes.{PortDeclaration, port_declaration, port_declarations, SubDeclaration, sub_declaration, sub_declarations}
use Rattle.spec_names.specs.Scopes.{refinement_parts}
use Rattle.spec_types.specs.TreeComponents.{signed, typed_port, type_of, own_ports}
use Rattle.architecture.specs.FirstFaults.{tree_site}
use Rattle.architecture.specs.Standing.{ComponentMeaning, component_meaning, tree_sub, tree_component, Stands}
use Rattle.architecture.proofs.Listing.{Each, each_at, each_kept, each_mapped, each_empty, both_empty, all_of_each}
use Rattle.architecture.proofs.Places.{ports_made, subs_made_at}
use Rattle.architecture.proofs.Sources.{clear_phases}
use Rattle.replay.specs.Laws.{IsFileName, HasFileValues}
use Rattle.file_lassos.proofs.Once.{StandOnce, words_once}
use Rattle.file_lassos.proofs.Words.{file_name}

each_from : {X : Type 0} (P : X → Type 0) (xs : List X) → fits.Each P xs → Each P xs
each_from P [] each = tt
each_from P (x ∷ xs) each = (each.0, each_from P xs each.1)

each_made : {X Y : Type 0} (f : X → Y) (P : Y → Type 0) (xs : List X) → Each (λ x. P (f x)) xs → Each P (map f xs)
each_made f P [] each = tt
each_made f P (x ∷ xs) each = (each.0, each_made f P xs each.1)

-- ports

abbrev pub IsPlainPort : OwnPort → Type 0
IsPlainPort port = IsName port.name × HasFileValues port.kind

pub record ArePlainPorts (ports : List OwnPort) : Type 0 where
  pub plain : Each IsPlainPort ports
  pub once : StandOnce (map (λ (port : OwnPort). port.name) ports)

no_ports : ArePlainPorts []
no_ports = record { plain = tt; once = λ i j name at there. absurd (none-some name at) }

signed_numeral : (negative : Bool) (value : ℕ) → value ≤ largest_numeral → IsSignedNumeral (signed negative value)
signed_numeral true value l = (omega (arith, ints, l), omega (arith, ints, l))
signed_numeral false value l = (omega (arith, ints, l), omega (arith, ints, l))

file_names : (words : List Word) → fits.Each FitsWord words → Each IsFileName (map (λ (w : Word). w.text) words)
file_names [] each = tt
file_names (w ∷ words) each = (file_name w.text each.0, file_names words each.1)

values_of : (t : TypeTree) → FitsType t → HasFileValues (type_of t)
values_of type.Boolean h = tt
values_of type.Event h = tt
values_of (type.Range lo hi) h = (signed_numeral lo.negative lo.value h.0, signed_numeral hi.negative hi.value h.1)
values_of (type.Enum []) h = absurd h
values_of (type.Enum (w ∷ words)) h =
    all_of_each IsFileName (map (λ (v : Word). v.text) (w ∷ words)) (file_name w.text h.0, file_names words h.1)

plain_port : (item : Item) (port : PortDeclaration) → FitsItem item → port_declaration item ≡ Some port
    → IsPlainPort (typed_port port)
plain_port (Port input name kind) port h e =
    subst (λ (p : PortDeclaration). IsPlainPort (typed_port p)) (same_Some _ port e) (h.0, values_of kind h.1)
plain_port (WrittenContract name assume guarantee) port h e = absurd (none-some port e)

plain_ports : (interface : List Item) → fits.Each FitsItem interface → interface_faults interface ≡ []
    → ArePlainPorts (own_ports interface)
plain_ports interface each none =
    let ds : List PortDeclaration = port_declarations interface in
    let names : map (λ (w : Word). w.text) (port_name_words interface) ≡ map (λ (port : OwnPort). port.name) (own_ports interface) =
    map-map (λ (w : Word). w.text) (λ (port : PortDeclaration). port.name) ds ∙ sym (map-map (λ (port : OwnPort). port.name) typed_port ds) in
    let parts = both_empty (again F9 same_name start_of (port_name_words interface)) _ none in
    record {
      plain = each_made typed_port IsPlainPort ds
          (each_kept port_declaration FitsItem (λ (port : PortDeclaration). IsPlainPort (typed_port port)) plain_port interface
          (each_from FitsItem interface each));
      once = subst StandOnce names (words_once F9 (port_name_words interface) parts.0);
    }

-- subcomponents

abbrev pub IsPlainSub : spec_sub.Sub → Type 0
IsPlainSub sub = IsName sub.name

pub record ArePlainSubs (subs : List spec_sub.Sub) : Type 0 where
  pub plain : Each IsPlainSub subs
  pub once : StandOnce (map (λ (sub : spec_sub.Sub). sub.name) subs)

no_subs : ArePlainSubs []
no_subs = record { plain = tt; once = λ i j name at there. absurd (none-some name at) }

plain_sub : (p : RefinementItemTree) (sub : SubDeclaration) → FitsRefinementItem p → sub_declaration p ≡ Some sub
    → IsName sub.name.text
plain_sub (Sub name component) sub h e = subst (λ (s : SubDeclaration). IsName s.name.text) (same_Some _ sub e) h.0
plain_sub (Connection target source) sub h e = absurd (none-some sub e)
plain_sub (Refined name listed) sub h e = absurd (none-some sub e)

parts_fit : (o : Option (List RefinementItemTree)) → FitsRefinement o
    → Each FitsRefinementItem (option_map_or (λ (parts : List RefinementItemTree). parts) o [])
parts_fit None h = tt
parts_fit (Some parts) h = each_from FitsRefinementItem parts h

module _ (all : List Component) where
  plain_subs : (interface : List Item) (parts : List RefinementItemTree) → Each FitsRefinementItem parts
      → refinement_faults all interface parts ≡ [] → ArePlainSubs (map (tree_sub all) (sub_declarations parts))
  plain_subs interface parts each none =
      let ds : List SubDeclaration = sub_declarations parts in
      let words : List Word = map (λ (sub : SubDeclaration). sub.name) ds in
      let names : map (λ (w : Word). w.text) words ≡ map (λ (sub : spec_sub.Sub). sub.name) (map (tree_sub all) ds) =
      map-map (λ (w : Word). w.text) (λ (sub : SubDeclaration). sub.name) ds ∙ sym (map-map (λ (sub : spec_sub.Sub). sub.name) (tree_sub all) ds) in
      let first = both_empty (again F12 same_name start_of words) _ none in
      record {
        plain = each_made (tree_sub all) IsPlainSub ds
            (each_kept sub_declaration FitsRefinementItem (λ (sub : SubDeclaration). IsName sub.name.text) plain_sub parts each);
        once = subst StandOnce names (words_once F12 words first.0);
      }

-- the whole

-- a component of a text without a fault
record IsPlain (all : List Component) (c : Component) : Type 0 where
  pub fit : FitsComponent c
  pub interface : interface_faults c.interface ≡ []
  pub refinement : refinement_faults all c.interface (refinement_parts c) ≡ []

record IsNamed (all : List Component) : Type 0 where
  pub components : again F6 same_name start_of (map (λ (c : Component). c.name) all) ≡ []
  pub interfaces : flat_map (λ (c : Component). interface_faults c.interface) all ≡ []
  pub refinements : flat_map (λ (c : Component). refinement_faults all c.interface (refinement_parts c)) all ≡ []

named : (end : ℕ) (all : List Component) → names_faults end all ≡ [] → IsNamed all
named end all none =
    let one = both_empty (again F6 same_name start_of (map (λ (c : Component). c.name) all)) _ none in
    let two = both_empty (no_system end all) _ one.1 in
    let three = both_empty (past F8 (λ (span : Span). span.start) 1 (filter_map (λ (c : Component). c.system) all)) _ two.1 in
    let four = both_empty (flat_map (λ (c : Component). interface_faults c.interface) all) _ three.1 in
    let five = both_empty (flat_map (λ (c : Component). refinement_faults all c.interface (refinement_parts c)) all) (containment_faults all) four.1 in
    record { components = one.0; interfaces = four.0; refinements = five.0 }

tokens_writable : (bytes : List ℕ) (tokens : List Token) → AreTokens bytes tokens → AreWritable (terminals_of bytes tokens)
tokens_writable bytes tokens are =
    let e : terminals_of bytes tokens ≡ terminals_from 0 are.pieces =
    (λ i. terminals_of (are.whole i) (are.tokens_are i)) ∙ terminals_read are.pieces in
    subst AreWritable (sym e) (pieces_writable are.pieces [] 0 are.each)

-- what is so of each component of a specification
pub record HasPlainNames (made : Spec) : Type 0 where
  pub names : Each (λ (k : model.Component). IsName k.name) made.components
  pub once : StandOnce (map (λ (k : model.Component). k.name) made.components)
  pub ports : (c : ComponentId) → ArePlainPorts (ports_of made c)
  pub subs : (c : ComponentId) → ArePlainSubs (subs_of made c)

module _ (bytes : List ℕ) (all : List Component) (made : Spec) (stands : Stands bytes all made)
    (each : Each FitsComponent all) (told : IsNamed all) where
  plain_at : (n : ℕ) (c : Component) → slice_get all n ≡ Some c → IsPlain all c
  plain_at n c at = record {
    fit = each_at FitsComponent all each n c at;
    interface = each_at (λ (k : Component). interface_faults k.interface ≡ []) all
        (each_empty (λ (k : Component). interface_faults k.interface) all told.interfaces) n c at;
    refinement = each_at (λ (k : Component). refinement_faults all k.interface (refinement_parts k) ≡ []) all
        (each_empty (λ (k : Component). refinement_faults all k.interface (refinement_parts k)) all told.refinements) n c at;
  }

  ports_there : (n : ℕ) (o : Option Component) → slice_get all n ≡ o
      → ArePlainPorts (own_ports (option_map_or (λ (c : Component). c.interface) o []))
  ports_there n None e = no_ports
  ports_there n (Some c) e = let known = plain_at n c e in plain_ports c.interface known.fit.interface known.interface

  subs_there : (n : ℕ) (o : Option Component) → slice_get all n ≡ o
      → ArePlainSubs (map (tree_sub all) (sub_declarations (option_map_or refinement_parts o [])))
  subs_there n None e = no_subs
  subs_there n (Some c) e =
      let known = plain_at n c e in
      plain_subs all c.interface (refinement_parts c) (parts_fit c.refinement known.fit.refinement) known.refinement

  abbrev tree_names : List (List ℕ)
  tree_names = map (λ (c : Component). c.name.text) all

  names_made : tree_names ≡ map (λ (k : model.Component). k.name) made.components
  names_made =
      sym (map-map (λ (m : ComponentMeaning). m.name) (tree_component all) all)
      ∙ (ap (map (λ (m : ComponentMeaning). m.name)) (sym stands.components)
      ∙ map-map (λ (m : ComponentMeaning). m.name) component_meaning made.components)

  each_named : (cs : List Component) → Each FitsComponent cs → Each IsName (map (λ (c : Component). c.name.text) cs)
  each_named [] fit = tt
  each_named (c ∷ cs) fit = (fit.0.name, each_named cs fit.1)

  names_of_made : HasPlainNames made
  names_of_made = record {
    names = each_mapped (λ (k : model.Component). k.name) IsName made.components (subst (Each IsName) names_made (each_named all each));
    once = subst StandOnce (map-map (λ (w : Word). w.text) (λ (c : Component). c.name) all ∙ names_made)
        (words_once F6 (map (λ (c : Component). c.name) all) told.components);
    ports = λ c. subst ArePlainPorts (sym (ports_made bytes all made stands c.0)) (ports_there c.0 (slice_get all c.0) refl);
    subs = λ c. subst ArePlainSubs (sym (subs_made_at bytes all made stands c.0)) (subs_there c.0 (slice_get all c.0) refl);
  }

pub plain_names : (bytes : List ℕ) (tokens : List Token) (all : List Component) (made : Spec) → AreTokens bytes tokens
    → IsText (terminals_of bytes tokens) all → tree_site (length bytes) all ≡ None → Stands bytes all made
    → HasPlainNames made
plain_names bytes tokens all made cut text clear stands =
    names_of_made bytes all made stands
    (each_from FitsComponent all (fits_text all (terminals_of bytes tokens) text (tokens_writable bytes tokens cut)))
    (named (length bytes) all (clear_phases (length bytes) all clear).no_names)

-- the ports of a component, or of one of its subcomponents
pub plain_ports_at : (made : Spec) → HasPlainNames made → (c : ComponentId) (s : Option SubId) → ArePlainPorts (ports_at made c s)
plain_ports_at made known c None = known.ports c
plain_ports_at made known c (Some s) = by (sub_component made c s)
  where
    by : (o : Option ComponentId) → ArePlainPorts (option_map_or (ports_of made) o [])
    by None = no_ports
    by (Some b) = known.ports b
