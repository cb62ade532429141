-- What stands at a place of a specification is what stands at that place of the tree.
use Rattle.std.proofs.Common.{◌≡◌, ℕ, true, List, [], ◌∷◌, length, map, slice_get, Option, Some, None, option_map, is_some, refl, sym, ap, ◌∙◌}
use Rattle.std.proofs.lemmas.Bool.{false≢true}
use Rattle.std.proofs.lemmas.List.{length-map}
use Rattle.std.proofs.lemmas.Option.{slice_get-map}
use Rattle.std.specs.Option.{option_map_or}
use Rattle.oss_base.specs.declared.ids.ComponentId.{ComponentId}
use Rattle.oss_syntax.specs.Trees.{Component}
use Rattle.spec_model.specs.Architecture.{ports_of, contracts_of, subs_of, wires_of, sub_component, ports_at}
use Rattle.spec_model.specs.Meanings.{contract_meaning, wire_meaning}
use Rattle.spec_model.specs.declared.spec.Component as spec
use Rattle.spec_model.specs.declared.spec.Spec.{Spec}
use Rattle.spec_model.specs.declared.sub.Sub as spec_sub
use Rattle.spec_names.specs.NamesFaults.{parts_at}
use Rattle.spec_names.specs.Scopes.{port_declarations, SubDeclaration, sub_declarations, refinement_parts, component_place, interface_at, declared_interface}
use Rattle.spec_names.specs.Scopes.{sub_interface_at}
use Rattle.spec_types.specs.TreeComponents.{typed_port, own_ports, tree_contracts, tree_wires}
use Rattle.architecture.specs.Standing.{ComponentMeaning, component_meaning, place_or_first, tree_sub, tree_component, Stands}
use Rattle.architecture.proofs.Listing.{Each, each_at, same_at}

map_or_map : {A B C : Type 0} (f : A → B) (g : B → C) (o : Option A) (d : C) → option_map_or (λ a. g (f a)) o d
    ≡ option_map_or g (option_map f o) d
map_or_map f g None d = refl
map_or_map f g (Some a) d = refl

out_of : {A B C : Type 0} (f : A → B) (g : B → C) (o : Option A) (d : B) → g (option_map_or f o d) ≡ option_map_or
    (λ a. g (f a)) o (g d)
out_of f g None d = refl
out_of f g (Some a) d = refl

module _ (bytes : List ℕ) (all : List Component) (made : Spec) (stands : Stands bytes all made) where
  field_at : {X : Type 0} (field : ComponentMeaning → X) (none : X) (n : ℕ)
      → option_map_or (λ (k : spec.Component). field (component_meaning k)) (slice_get made.components n) none
      ≡ option_map_or (λ (c : Component). field (tree_component all c)) (slice_get all n) none
  field_at field none n =
      map_or_map component_meaning field (slice_get made.components n) none
      ∙ (ap (λ (o : Option ComponentMeaning). option_map_or field o none)
      (same_at component_meaning (tree_component all) made.components all stands.components n)
      ∙ sym (map_or_map (tree_component all) field (slice_get all n) none))

  pub ports_made : (n : ℕ) → ports_of made (record { 0 = n }) ≡ own_ports (interface_at all n)
  ports_made n = field_at (λ (m : ComponentMeaning). m.ports) [] n
      ∙ sym (out_of (λ (c : Component). c.interface) own_ports (slice_get all n) [])

  pub contracts_made : (n : ℕ) → map contract_meaning (contracts_of made (record { 0 = n })) ≡ tree_contracts
      (interface_at all n)
  contracts_made n =
      out_of (λ (k : spec.Component). k.contracts) (map contract_meaning) (slice_get made.components n) []
      ∙ (field_at (λ (m : ComponentMeaning). m.contracts) [] n
      ∙ sym (out_of (λ (c : Component). c.interface) tree_contracts (slice_get all n) []))

  pub subs_made_at : (n : ℕ) → subs_of made (record { 0 = n }) ≡ map (tree_sub all) (sub_declarations (parts_at all n))
  subs_made_at n = field_at (λ (m : ComponentMeaning). m.subs) [] n
      ∙ sym (out_of refinement_parts (λ parts. map (tree_sub all) (sub_declarations parts)) (slice_get all n) [])

  pub wires_made : (n : ℕ) → map wire_meaning (wires_of made (record { 0 = n }))
      ≡ option_map_or (tree_wires all) (slice_get all n) []
  wires_made n =
      out_of (λ (k : spec.Component). k.wires) (map wire_meaning) (slice_get made.components n) []
      ∙ field_at (λ (m : ComponentMeaning). m.wires) [] n

  -- how many ports the component of a name has, where there is one
  pub named_ports : (text : List ℕ) → is_some (component_place all text) ≡ true
      → ports_of made (record { 0 = place_or_first (component_place all text) }) ≡ own_ports
      (declared_interface all text)
  named_ports text there = by (component_place all text) there
    where
      by : (o : Option ℕ) → is_some o ≡ true
          → ports_of made (record { 0 = place_or_first o }) ≡ own_ports (option_map_or (interface_at all) o [])
      by None h = absurd (false≢true h)
      by (Some place) h = ports_made place

  -- the component of a subcomponent
  pub sub_made : (n s : ℕ) → sub_component made (record { 0 = n }) (record { 0 = s })
      ≡ option_map (λ (sub : SubDeclaration). (tree_sub all sub).component) (slice_get (sub_declarations (parts_at all n)) s)
  sub_made n s =
      ap (λ list. option_map (λ (sub : spec_sub.Sub). sub.component) (slice_get list s)) (subs_made_at n)
      ∙ (ap (option_map (λ (sub : spec_sub.Sub). sub.component)) (slice_get-map (tree_sub all) (sub_declarations (parts_at all n)) s)
      ∙ twice (slice_get (sub_declarations (parts_at all n)) s))
    where
      twice : (o : Option SubDeclaration) → option_map (λ (sub : spec_sub.Sub). sub.component)
          (option_map (tree_sub all) o)
          ≡ option_map (λ (sub : SubDeclaration). (tree_sub all sub).component) o
      twice None = refl
      twice (Some sub) = refl

  -- the ports of a subcomponent, where each has a component
  pub sub_ports : (n s : ℕ)
      → Each (λ (sub : SubDeclaration). is_some (component_place all sub.component.text) ≡ true)
      (sub_declarations (parts_at all n))
      → ports_at made (record { 0 = n }) (Some (record { 0 = s })) ≡ own_ports (sub_interface_at all (parts_at all n) s)
  sub_ports n s there =
      ap (λ (o : Option ComponentId). option_map_or (ports_of made) o []) (sub_made n s)
      ∙ by (slice_get (sub_declarations (parts_at all n)) s) (λ sub at. each_at (λ (k : SubDeclaration). is_some (component_place all k.component.text) ≡ true)
      (sub_declarations (parts_at all n)) there s sub at)
    where
      by : (o : Option SubDeclaration) → ((sub : SubDeclaration) → o ≡ Some sub → is_some
          (component_place all sub.component.text) ≡ true)
          → option_map_or (ports_of made) (option_map (λ (sub : SubDeclaration). (tree_sub all sub).component) o) []
          ≡ own_ports (option_map_or (λ (sub : SubDeclaration). declared_interface all sub.component.text) o [])
      by None so = refl
      by (Some sub) so = named_ports sub.component.text (so sub refl)

  -- how many ports each subcomponent has
  pub counts_made : (n : ℕ)
      → Each (λ (sub : SubDeclaration). is_some (component_place all sub.component.text) ≡ true)
      (sub_declarations (parts_at all n))
      → map (λ (s : spec_sub.Sub). length (ports_of made s.component)) (subs_of made (record { 0 = n }))
      ≡ map (λ (s : SubDeclaration). length (port_declarations (declared_interface all s.component.text))) (sub_declarations (parts_at all n))
  counts_made n there = ap (map (λ (s : spec_sub.Sub). length (ports_of made s.component))) (subs_made_at n) ∙ by (sub_declarations (parts_at all n)) there
    where
      by : (subs : List SubDeclaration) → Each (λ (sub : SubDeclaration). is_some
          (component_place all sub.component.text) ≡ true) subs
          → map (λ (s : spec_sub.Sub). length (ports_of made s.component)) (map (tree_sub all) subs)
          ≡ map (λ (s : SubDeclaration). length (port_declarations (declared_interface all s.component.text))) subs
      by [] each = refl
      by (sub ∷ subs) each =
          let here = ap length (named_ports sub.component.text each.0) ∙ length-map
          (port_declarations (declared_interface all sub.component.text)) typed_port in
          λ j. here j ∷ by subs each.1 j
