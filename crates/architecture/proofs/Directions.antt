-- No connection drives a port that one reads: a target is an own output or an input of a subcomponent, and what is read
-- is an own input or an output of a subcomponent.
use Rattle.std.proofs.Common.{◌≡◌, ℕ, zero, suc, ◌<◌, Bool, true, false, not, if◌then◌else◌, List, [], length, filter_map, slice_get, Option, Some, None}
use Rattle.std.proofs.Common.{option_map, option_and_then, is_some, refl, sym, ap, subst, ◌∙◌}
use Rattle.std.proofs.lemmas.Bool.{false≢true}
use Rattle.std.proofs.lemmas.Option.{none-some, same_Some, slice_get_within, slice_get-map}
use Rattle.std.specs.List.{list_any}
use Rattle.std.specs.Option.{option_map_or}
use Rattle.oss_base.specs.declared.ids.SubId.{SubId}
use Rattle.oss_syntax.specs.Trees.{Item, RefinementItemTree, Sub, Connection, Refined, Component}
use Rattle.oss_syntax.specs.declared.refinement.TargetTree.{TargetTree}
use Rattle.oss_syntax.specs.declared.refinement.TargetTree.TheVariants as targets
use Rattle.spec_model.specs.Architecture.{target, same_target}
use Rattle.spec_model.specs.declared.wire.Target.{Target}
use Rattle.spec_model.proofs.Targets.{other_target}
use Rattle.spec_names.specs.Scopes.{PortDeclaration, port_declarations, has_direction, directed_place, directed_port, port_place, SubDeclaration}
use Rattle.spec_names.specs.Scopes.{sub_declarations}
use Rattle.spec_names.specs.Scopes.{refinement_parts, declared_interface, sub_interface_at, sub_place, enumerator_if, target_meaning}
use Rattle.spec_names.specs.Scopes.{OwnPort, SubPort, sees_enumerator}
use Rattle.spec_types.specs.Typing.{PortReading}
use Rattle.spec_types.specs.TreeComponents.{port_meant, target_of_meaning, tree_target, driven_target, sub_port_counts, free_order, own_free_reading}
use Rattle.spec_types.specs.TreeComponents.{sub_free_reading}
use Rattle.spec_types.specs.TreeComponents.{connection_reading}
use Rattle.architecture.proofs.Listing.{Each, each_kept, each_more, none_passes}
use Rattle.architecture.proofs.FreePorts.{own_among, sub_among, free_at}
use Rattle.architecture.proofs.Readings.{MeansOnly, IsBelow}

-- the port at a place of an interface is there and has this direction
abbrev pub points : Bool → List Item → ℕ → Bool
points input interface place = option_map_or (has_direction input) (slice_get (port_declarations interface) place) false

opposite : (o : Option PortDeclaration) → option_map_or (has_direction true) o false ≡ true
    → option_map_or (has_direction false) o false ≡ false
opposite None h = absurd (false≢true h)
opposite (Some port) h = ap not h

opposite_back : (o : Option PortDeclaration) → option_map_or (has_direction false) o false ≡ true
    → option_map_or (has_direction true) o false ≡ false
opposite_back None h = absurd (false≢true h)
opposite_back (Some port) h = by port.input h
  where
    by : (b : Bool) → not b ≡ true → b ≡ false
    by true e = absurd (false≢true e)
    by false e = refl

points_within : (input : Bool) (interface : List Item) (place : ℕ) → points input interface place ≡ true
    → place < length (port_declarations interface)
points_within input interface place h = by (slice_get (port_declarations interface) place) refl h
  where
    by : (o : Option PortDeclaration) → slice_get (port_declarations interface) place ≡ o → option_map_or
        (has_direction input) o false ≡ true
        → place < length (port_declarations interface)
    by None e h = absurd (false≢true h)
    by (Some port) e h = slice_get_within (port_declarations interface) place port e

placed : (b : Bool) (place q : ℕ) → (if b then Some place else None) ≡ Some q → (place ≡ q) × (b ≡ true)
placed true place q e = (same_Some place q e, refl)
placed false place q e = absurd (none-some q e)

pub directed_points : (input : Bool) (interface : List Item) (text : List ℕ) (q : ℕ)
    → directed_port input interface text ≡ Some q
    → points input interface q ≡ true
directed_points input interface text q e = by (port_place interface text) e
  where
    by : (o : Option ℕ) → option_and_then (directed_place input interface) o ≡ Some q → points input interface q ≡ true
    by None h = absurd (none-some q h)
    by (Some place) h =
        let at = placed (points input interface place) place q h in
        subst (λ (k : ℕ). points input interface k ≡ true) at.0 at.1

none_points : (place : ℕ) → points false [] place ≡ false
none_points zero = refl
none_points (suc place) = refl

module _ (all : List Component) (c : Component) where
  abbrev pub interface_of : ℕ → List Item
  interface_of sub = sub_interface_at all (refinement_parts c) sub

  -- a port that may be driven, and one that may be read

  abbrev pub is_driven : Option SubId → ℕ → Bool
  is_driven None place = points false c.interface place
  is_driven (Some sub) place = points true (interface_of sub.0) place

  -- the target of a connection that means something is a port that is there and may be driven
  pub target_driven : (t : TargetTree) → is_some (target_meaning all c.interface (refinement_parts c) t) ≡ true
      → is_driven (tree_target all c t).sub (tree_target all c t).port.0 ≡ true
  target_driven (targets.Own port) h = by (directed_port false c.interface port.text) refl h
    where
      by : (o : Option ℕ) → directed_port false c.interface port.text ≡ o → is_some (option_map OwnPort o) ≡ true
          → is_driven (target_of_meaning (option_map OwnPort o)).sub (target_of_meaning (option_map OwnPort o)).port.0
          ≡ true
      by None e s = absurd (false≢true s)
      by (Some q) e s = directed_points false c.interface port.text q e
  target_driven (targets.OfSub sub port) h = by (sub_place (refinement_parts c) sub.text) h
    where
      inner : (s : ℕ) (o : Option ℕ) → directed_port true (interface_of s) port.text ≡ o → is_some
          (option_map (SubPort s) o) ≡ true
          → is_driven (target_of_meaning (option_map (SubPort s) o)).sub
          (target_of_meaning (option_map (SubPort s) o)).port.0 ≡ true
      inner s None e t = absurd (false≢true t)
      inner s (Some q) e t = directed_points true (interface_of s) port.text q e

      by : (o : Option ℕ) → is_some (option_and_then
          (λ (s : ℕ). option_map (SubPort s) (directed_port true (interface_of s) port.text)) o) ≡ true
          → is_driven (target_of_meaning (option_and_then
          (λ (s : ℕ). option_map (SubPort s) (directed_port true (interface_of s) port.text)) o)).sub
          (target_of_meaning (option_and_then (λ (s : ℕ). option_map (SubPort s) (directed_port true (interface_of s) port.text)) o)).port.0 ≡ true
      by None s = absurd (false≢true s)
      by (Some s) t = inner s (directed_port true (interface_of s) port.text) refl t

  -- the connections of a refinement whose targets mean something
  abbrev pub Driven : Target → Type 0
  Driven t = is_driven t.sub t.port.0 ≡ true

  abbrev pub IsMeant : RefinementItemTree → Type 0
  IsMeant (Sub name component) = Unit {0}
  IsMeant (Connection t e) = is_some (target_meaning all c.interface (refinement_parts c) t) ≡ true
  IsMeant (Refined name listed) = Unit {0}

  one_driven : (p : RefinementItemTree) (t : Target) → IsMeant p → driven_target all c p ≡ Some t → Driven t
  one_driven (Sub name component) t h e = absurd (none-some t e)
  one_driven (Connection target source) t h e = subst Driven (same_Some (tree_target all c target) t e) (target_driven target h)
  one_driven (Refined name listed) t h e = absurd (none-some t e)

  -- what the names of a connection mean

  module _ (Holds : PortReading → Type 0)
      (own_holds : (q : ℕ) → points true c.interface q ≡ true → Holds (own_free_reading all c q))
      (sub_holds : (s q : ℕ) → points false (interface_of s) q ≡ true → Holds (sub_free_reading all c s q)) where
    own_meant : (o : Option ℕ) (p : PortReading) → ((q : ℕ) → o ≡ Some q → points true c.interface q ≡ true)
        → port_meant (own_free_reading all c) (sub_free_reading all c) (option_map OwnPort o) ≡ Some p
        → Holds p
    own_meant None p so e = absurd (none-some p e)
    own_meant (Some q) p so e =
        subst Holds (same_Some (own_free_reading all c q) p e) (own_holds q (so q refl))

    bare_meant : (b seen : Bool) (text : List ℕ) (p : PortReading)
        → port_meant (own_free_reading all c) (sub_free_reading all c)
        (if b then option_map OwnPort (directed_port true c.interface text) else enumerator_if seen) ≡ Some p
        → Holds p
    bare_meant true seen text p e = own_meant (directed_port true c.interface text) p (directed_points true c.interface text) e
    bare_meant false true text p e = absurd (none-some p e)
    bare_meant false false text p e = absurd (none-some p e)

    sub_meant : (s : ℕ) (o : Option ℕ) (p : PortReading) →
        ((q : ℕ) → o ≡ Some q → points false (interface_of s) q ≡ true)
        → port_meant (own_free_reading all c) (sub_free_reading all c) (option_map (SubPort s) o) ≡ Some p
        → Holds p
    sub_meant s None p so e = absurd (none-some p e)
    sub_meant s (Some q) p so e =
        subst Holds (same_Some (sub_free_reading all c s q) p e) (sub_holds s q (so q refl))

    dotted_meant : (o : Option ℕ) (port : List ℕ) (p : PortReading)
        → port_meant (own_free_reading all c) (sub_free_reading all c)
        (option_and_then (λ (s : ℕ). option_map (SubPort s) (directed_port false (interface_of s) port)) o) ≡ Some p
        → Holds p
    dotted_meant None port p e = absurd (none-some p e)
    dotted_meant (Some s) port p e = sub_meant s (directed_port false (interface_of s) port) p (directed_points false (interface_of s) port) e

    wanted_meant : (o : Option ℕ) (p : PortReading) → ((q : ℕ) → o ≡ Some q → points true c.interface q ≡ true)
        → option_map (own_free_reading all c) o ≡ Some p → Holds p
    wanted_meant None p so e = absurd (none-some p e)
    wanted_meant (Some q) p so e =
        subst Holds (same_Some (own_free_reading all c q) p e) (own_holds q (so q refl))

    pub connection_means : MeansOnly Holds (connection_reading all c)
    connection_means = record {
      bare = λ text p e. bare_meant (is_some (port_place c.interface text)) (sees_enumerator all c.interface (refinement_parts c) text) text p e;
      dotted = λ sub port p e. dotted_meant (sub_place (refinement_parts c) sub) port p e;
      wanted = λ text p e. wanted_meant (directed_port true c.interface text) p (directed_points true c.interface text) e;
    }

  module _ (meant : Each IsMeant (refinement_parts c)) where
    not_driven : (t : Target) → is_driven t.sub t.port.0 ≡ false
        → list_any (same_target t) (filter_map (driven_target all c) (refinement_parts c)) ≡ false
    not_driven t free =
        none_passes (same_target t) (filter_map (driven_target all c) (refinement_parts c))
        (each_more Driven (λ (u : Target). same_target t u ≡ false)
        (λ u driven. other_target t u (λ same. false≢true (sym free ∙ (ap (λ (v : Target). is_driven v.sub v.port.0) same ∙ driven))))
        (filter_map (driven_target all c) (refinement_parts c))
        (each_kept (driven_target all c) IsMeant Driven one_driven (refinement_parts c) meant))

    -- what one may read is free

    pub own_free : (place : ℕ) → points true c.interface place ≡ true
        → slice_get (free_order all c) (own_free_reading all c place).number ≡ Some (target None place)
    own_free place h =
        let own : ℕ = length (port_declarations c.interface) in
        free_at own (sub_port_counts all c) (filter_map (driven_target all c) (refinement_parts c)) (target None place)
        (own_among own (sub_port_counts all c) place (points_within true c.interface place h))
        (not_driven (target None place) (opposite (slice_get (port_declarations c.interface) place) h))

    count_at : (sub place : ℕ) → points false (interface_of sub) place ≡ true
        → slice_get (sub_port_counts all c) sub ≡ Some (length (port_declarations (interface_of sub)))
    count_at sub place h =
        slice_get-map (λ (s : SubDeclaration). length (port_declarations (declared_interface all s.component.text))) (sub_declarations (refinement_parts c)) sub
        ∙ by (slice_get (sub_declarations (refinement_parts c)) sub) h
      where
        by : (o : Option SubDeclaration)
            → points false (option_map_or (λ (s : SubDeclaration). declared_interface all s.component.text) o []) place
            ≡ true
            → option_map (λ (s : SubDeclaration). length
            (port_declarations (declared_interface all s.component.text))) o
            ≡ Some (length (port_declarations (option_map_or (λ (s : SubDeclaration). declared_interface all s.component.text) o [])))
        by None e = absurd (false≢true (sym (none_points place) ∙ e))
        by (Some s) e = refl

    pub sub_free : (sub place : ℕ) → points false (interface_of sub) place ≡ true
        → slice_get (free_order all c) (sub_free_reading all c sub place).number
        ≡ Some (target (Some (record { 0 = sub })) place)
    sub_free sub place h =
        let own : ℕ = length (port_declarations c.interface) in
        let t : Target = target (Some (record { 0 = sub })) place in
        free_at own (sub_port_counts all c) (filter_map (driven_target all c) (refinement_parts c)) t
        (sub_among own (sub_port_counts all c) sub place (length (port_declarations (interface_of sub))) (count_at sub place h)
        (points_within false (interface_of sub) place h))
        (not_driven t (opposite_back (slice_get (port_declarations (interface_of sub)) place) h))

    pub connection_below : IsBelow (length (free_order all c)) (connection_reading all c)
    connection_below = connection_means (λ (p : PortReading). p.number < length (free_order all c))
        (λ q h. slice_get_within (free_order all c) (own_free_reading all c q).number (target None q) (own_free q h))
        (λ s q h. slice_get_within (free_order all c) (sub_free_reading all c s q).number (target (Some (record { 0 = s })) q) (sub_free s q h))
