-- What the tables of names tell is what the names of a text mean.

use Rattle.std.proofs.Common.{◌≡◌, ℕ, zero, suc, ◌<◌, Bool, true, false, not, cond, ltb, List, [], ◌∷◌, length, slice_get, position, Option, Some, None}
use Rattle.std.proofs.Common.{option_map, option_and_then, is_some, ◌⊎◌, inl, inr, refl, sym, ap, subst, ◌∙◌, arith, if◌then◌else◌}
use Rattle.std.proofs.lemmas.Bool.{ltb-true}
use Rattle.std.proofs.lemmas.Option.{none-some, same_Some, slice_get-map}
use Rattle.std.specs.Option.{option_map_or}
use Rattle.std.specs.List.{position_or_len}
use Rattle.oss_syntax.specs.declared.refinement.TargetTree.{TargetTree}
use Rattle.oss_syntax.specs.declared.refinement.TargetTree.TheVariants as targets
use Rattle.oss_syntax.specs.Trees.{Item, RefinementItemTree, Component}
use Rattle.port_types.specs.declared.types.PortType.{PortType}
use Rattle.port_types.specs.declared.types.PortType.TheVariants as kind
use Rattle.spec_model.specs.declared.wire.Target.{Target}
use Rattle.spec_model.specs.Architecture.{target}
use Rattle.spec_names.specs.Scopes.{is_named, PortDeclaration, port_declarations, port_place, has_direction, directed_place, directed_port, enumerator_if}
use Rattle.spec_names.specs.Scopes.{is_enumerator, sees_enumerator, SubDeclaration, sub_declarations, sub_place, component_place, declared_interface}
use Rattle.spec_names.specs.Scopes.{interface_at, sub_interface_at, refinement_parts, NameMeaning, port_or, sub_port, target_meaning, contract_scope}
use Rattle.spec_names.specs.Scopes.{connection_scope}
use Rattle.spec_names.specs.Scopes as names
use Rattle.spec_names.specs.Tables.{entry_place}
use Rattle.spec_types.specs.Typing.{PortReading}
use Rattle.spec_types.specs.TreeComponents.{type_of, typed_port, own_ports, kind_at, port_meant, own_reading, no_reading, own_free_reading, sub_free_reading}
use Rattle.spec_types.specs.TreeComponents.{free_order, free_number, target_of_meaning, tree_target, target_kind, target_kind_of}
use Rattle.spec_types.specs.TreeComponents as tree
use Rattle.spec_types.specs.Walks.{Placed, Interface, placed_at, find_port, Refinement, component_ports, sub_interface_by, PlacedInSub, placed_in}
use Rattle.spec_types.specs.Walks.{placed_in_sub, find_sub_port, own_port_read, same_direction, free_port_read, free_sub_port, directed_target, placed_target}
use Rattle.spec_types.specs.Walks.{target_by, directed_kind, kind_by, ArePortsOf, AreAllPorts, IsSeenBy}
use Rattle.spec_types.specs.Walks as code

-- positions

within : (n m k : ℕ) (b : Bool) → ltb n m ≡ b → cond b (Some n) None ≡ Some k → k < m
within n m k true e h = subst (λ x. x < m) (same_Some n k h) (ltb-true n m e)
within n m k false e h = absurd (none-some k h)

pub position-within : {X : Type 0} (p : X → Bool) (xs : List X) (k : ℕ) → position p xs ≡ Some k → k < length xs
position-within p xs k h = within (position_or_len p xs) (length xs) k (ltb (position_or_len p xs) (length xs)) refl h

pub there : {X : Type 0} (xs : List X) (n : ℕ) → n < length xs → (x : X) × (slice_get xs n ≡ Some x)
there [] n h = absurd (omega arith)
there (x ∷ xs) zero h = (x, refl)
there (x ∷ xs) (suc n) h = there xs n (omega arith)

-- the port of a name, as the text and as the tables tell it

pub record Declares (items : List Item) (i : Interface) (text : List ℕ) (k : ℕ) (d : PortDeclaration) : Type 0 where
  pub place : port_place items text ≡ Some k
  pub declared : slice_get (port_declarations items) k ≡ Some d
  pub finds : find_port i text ≡ Some (record { place = k; port = typed_port d })

pub record Lacks (items : List Item) (i : Interface) (text : List ℕ) : Type 0 where
  pub place : port_place items text ≡ None
  pub finds : find_port i text ≡ None

abbrev pub Finds : List Item → Interface → List ℕ → Type 0
Finds items i text = Lacks items i text ⊎ ((k : ℕ) × (d : PortDeclaration) × Declares items i text k d)

finds_by : (items : List Item) (i : Interface) (text : List ℕ) → ArePortsOf items i → (o : Option ℕ)
    → port_place items text ≡ o
    → entry_place i.table text ≡ o → Finds items i text
finds_by items i text is None e h = inl (record { place = e; finds = ap (option_and_then (placed_at i.ports)) h })
finds_by items i text is (Some k) e h =
    let at = there (port_declarations items) k (position-within (λ (port : PortDeclaration). is_named text port.name) (port_declarations items) k e) in
    let port : slice_get i.ports k ≡ Some (typed_port at.0) =
    ap (λ list. slice_get list k) is.ports_are ∙ (slice_get-map typed_port (port_declarations items) k ∙ ap (option_map typed_port) at.1) in
    inr (
      k,
      at.0,
      record {
        place = e;
        declared = at.1;
        finds = ap (option_and_then (placed_at i.ports)) h ∙ ap (option_map (λ p. record { place = k; port = p })) port;
      },
    )

pub finds : (items : List Item) (i : Interface) → ArePortsOf items i → (text : List ℕ) → Finds items i text
finds items i is text =
    finds_by items i text is (port_place items text) refl (is.places text)

-- contracts

kind_is : (items : List Item) (k : ℕ) (d : PortDeclaration) → slice_get (port_declarations items) k ≡ Some d
    → kind_at items k ≡ type_of d.kind
kind_is items k d e = ap (λ o. option_map_or (λ (port : PortDeclaration). type_of port.kind) o kind.Bool) e

no_port : (own : ℕ → PortReading) (of_sub : ℕ → ℕ → PortReading) (b : Bool)
    → port_meant own of_sub (enumerator_if b) ≡ None
no_port own of_sub true = refl
no_port own of_sub false = refl

own_is : (items : List Item) (k : ℕ) (d : PortDeclaration) → slice_get (port_declarations items) k ≡ Some d
    → Some (record { number = k; kind = type_of d.kind }) ≡ Some (own_reading items k)
own_is items k d e = ap (λ (t : PortType). Some (record { number = k; kind = t })) (sym (kind_is items k d e))

contract_bare : (items : List Item) (i : Interface) (text : List ℕ) → Finds items i text
    → own_port_read (find_port i text) ≡ port_meant (own_reading items) no_reading
    (port_or (port_place items text) (enumerator_if (is_enumerator items text)))
contract_bare items i text (inl lacks) =
    ap own_port_read lacks.finds
    ∙ (sym (no_port (own_reading items) no_reading (is_enumerator items text))
    ∙ ap (λ o. port_meant (own_reading items) no_reading (port_or o (enumerator_if (is_enumerator items text)))) (sym lacks.place))
contract_bare items i text (inr (k, d, found)) =
    ap own_port_read found.finds
    ∙ (own_is items k d found.declared
    ∙ ap (λ o. port_meant (own_reading items) no_reading (port_or o (enumerator_if (is_enumerator items text)))) (sym found.place))

contract_wanted : (items : List Item) (i : Interface) (text : List ℕ) → Finds items i text
    → own_port_read (find_port i text) ≡ option_map (own_reading items) (port_place items text)
contract_wanted items i text (inl lacks) = ap own_port_read lacks.finds ∙ ap (option_map (own_reading items)) (sym lacks.place)
contract_wanted items i text (inr (k, d, found)) =
    ap own_port_read found.finds ∙ (own_is items k d found.declared ∙ ap (option_map (own_reading items)) (sym found.place))

pub contract_reading_is : (items : List Item) (i : Interface) → ArePortsOf items i
    → code.contract_reading_by i ≡ tree.contract_reading items
contract_reading_is items i is = λ j. record {
  bare = λ text. contract_bare items i text (finds items i is text) j;
  dotted = λ sub port. None;
  wanted = λ text. contract_wanted items i text (finds items i is text) j;
}

-- directions

direction_is : (input : Bool) (d : PortDeclaration) → same_direction d.input input ≡ has_direction input d
direction_is true d = by d.input where
  by : (b : Bool) → same_direction b true ≡ b
  by true = refl
  by false = refl
direction_is false d = by d.input where
  by : (b : Bool) → same_direction b false ≡ not b
  by true = refl
  by false = refl

directed_is : (input : Bool) (items : List Item) (i : Interface) (text : List ℕ) (k : ℕ) (d : PortDeclaration)
    → Declares items i text k d
    → directed_port input items text ≡ cond (same_direction d.input input) (Some k) None
directed_is input items i text k d found =
    ap (option_and_then (directed_place input items)) found.place
    ∙ (ap (λ o. cond (option_map_or (has_direction input) o false) (Some k) None) found.declared
    ∙ ap (λ b. cond b (Some k) None) (sym (direction_is input d)))

undirected : (input : Bool) (items : List Item) (i : Interface) (text : List ℕ) → Lacks items i text
    → directed_port input items text ≡ None
undirected input items i text lacks = ap (option_and_then (directed_place input items)) lacks.place

-- subcomponents

-- the ports of an interface, which are none where the component is missing
abbrev HasPorts : List Item → Option Interface → Type 0
HasPorts items None = items ≡ []
HasPorts items (Some i) = ArePortsOf items i

pub record Standing (all : List Component) (scopes : List Interface) (k : ℕ) (c : Component) : Type 0 where
  pub interface : Interface
  pub stands : slice_get scopes k ≡ Some interface
  pub ports : ArePortsOf c.interface interface

pub standing : (all : List Component) (scopes : List Interface) → AreAllPorts all scopes → (k : ℕ) (c : Component)
    → slice_get all k ≡ Some c
    → Standing all scopes k c
standing [] scopes are k c e = absurd (none-some c e)
standing (d ∷ all) [] are k c e = absurd are
standing (d ∷ all) (i ∷ scopes) are zero c e =
    record { interface = i; stands = refl; ports = subst (λ (x : Component). ArePortsOf x.interface i) (same_Some d c e) are.0 }
standing (d ∷ all) (i ∷ scopes) are (suc k) c e =
    let rest = standing all scopes are.1 k c e in record { interface = rest.interface; stands = rest.stands; ports = rest.ports }

record OfSub (all : List Component) (c : Component) (r : Refinement) (s : ℕ) : Type 0 where
  ports : Option Interface
  tells : sub_interface_by r s ≡ ports
  has : HasPorts (sub_interface_at all (refinement_parts c) s) ports

of_sub_by : (all : List Component) (c : Component) (r : Refinement) → IsSeenBy all c r → (s : ℕ) (d : SubDeclaration)
    → slice_get (sub_declarations (refinement_parts c)) s ≡ Some d → (o : Option ℕ)
    → component_place all d.component.text ≡ o → OfSub all c r s
of_sub_by all c r is s d at None e =
    let component : slice_get r.components s ≡ Some None =
    ap (λ list. slice_get list s) is.components_are
    ∙ (slice_get-map (λ (sub : SubDeclaration). component_place all sub.component.text) (sub_declarations (refinement_parts c)) s
    ∙ (ap (option_map (λ (sub : SubDeclaration). component_place all sub.component.text)) at ∙ ap Some e)) in
    record {
      ports = None;
      tells = ap (option_and_then (component_ports r.scopes)) component;
      has = ap (λ o. option_map_or (λ (sub : SubDeclaration). declared_interface all sub.component.text) o []) at
          ∙ ap (λ o. option_map_or (interface_at all) o []) e;
    }
of_sub_by all c r is s d at (Some k) e =
    let component : slice_get r.components s ≡ Some (Some k) =
    ap (λ list. slice_get list s) is.components_are
    ∙ (slice_get-map (λ (sub : SubDeclaration). component_place all sub.component.text) (sub_declarations (refinement_parts c)) s
    ∙ (ap (option_map (λ (sub : SubDeclaration). component_place all sub.component.text)) at ∙ ap Some e)) in
    let found = there all k (position-within (λ (x : Component). is_named d.component.text x.name) all k e) in
    let stand = standing all r.scopes is.scopes_are k found.0 found.1 in
    let interface : sub_interface_at all (refinement_parts c) s ≡ found.0.interface =
    ap (λ o. option_map_or (λ (sub : SubDeclaration). declared_interface all sub.component.text) o []) at
    ∙ (ap (λ o. option_map_or (interface_at all) o []) e ∙ ap (λ o. option_map_or (λ (x : Component). x.interface) o []) found.1) in
    record {
      ports = Some stand.interface;
      tells = ap (option_and_then (component_ports r.scopes)) component ∙ stand.stands;
      has = subst (λ items. ArePortsOf items stand.interface) (sym interface) stand.ports;
    }

of_sub_is : (all : List Component) (c : Component) (r : Refinement) → IsSeenBy all c r → (s : ℕ)
    → s < length (sub_declarations (refinement_parts c))
    → OfSub all c r s
of_sub_is all c r is s l =
    let at = there (sub_declarations (refinement_parts c)) s l in
    of_sub_by all c r is s at.0 at.1 (component_place all at.0.component.text) refl

record LacksSub (all : List Component) (c : Component) (r : Refinement) (sub : List ℕ) : Type 0 where
  place : sub_place (refinement_parts c) sub ≡ None
  tells : entry_place r.subs sub ≡ None

record HasSub (all : List Component) (c : Component) (r : Refinement) (sub : List ℕ) (s : ℕ) : Type 0 where
  place : sub_place (refinement_parts c) sub ≡ Some s
  tells : entry_place r.subs sub ≡ Some s
  of_sub : OfSub all c r s

abbrev FindsSub : List Component → Component → Refinement → List ℕ → Type 0
FindsSub all c r sub = LacksSub all c r sub ⊎ ((s : ℕ) × HasSub all c r sub s)

finds_sub_by : (all : List Component) (c : Component) (r : Refinement) → IsSeenBy all c r
    → (sub : List ℕ) (o : Option ℕ)
    → sub_place (refinement_parts c) sub ≡ o → entry_place r.subs sub ≡ o → FindsSub all c r sub
finds_sub_by all c r is sub None e h = inl (record { place = e; tells = h })
finds_sub_by all c r is sub (Some s) e h =
    let of_sub = of_sub_is all c r is s (position-within (λ (x : SubDeclaration). is_named sub x.name) (sub_declarations (refinement_parts c)) s e) in
    inr (s, record { place = e; tells = h; of_sub = of_sub })

finds_sub : (all : List Component) (c : Component) (r : Refinement) → IsSeenBy all c r → (sub : List ℕ)
    → FindsSub all c r sub
finds_sub all c r is sub = finds_sub_by all c r is sub (sub_place (refinement_parts c) sub) refl (is.subs_are sub)

found_in : (all : List Component) (c : Component) (r : Refinement) (sub port : List ℕ) (s : ℕ)
    → (has : HasSub all c r sub s)
    → find_sub_port r sub port ≡ option_and_then (placed_in port s) has.of_sub.ports
found_in all c r sub port s has =
    ap (option_and_then (placed_in_sub r port)) has.tells ∙ ap (option_and_then (placed_in port s)) has.of_sub.tells

meant_in : (all : List Component) (c : Component) (r : Refinement) (input : Bool) (sub port : List ℕ) (s : ℕ)
    → HasSub all c r sub s
    → sub_port input all (refinement_parts c) sub port ≡ option_map (names.SubPort s)
    (directed_port input (sub_interface_at all (refinement_parts c) s) port)
meant_in all c r input sub port s has =
    ap (option_and_then (λ (s : ℕ). option_map (names.SubPort s) (directed_port input (sub_interface_at all (refinement_parts c) s) port))) has.place

no_ports : (input : Bool) (items : List Item) (port : List ℕ) → items ≡ [] → directed_port input items port ≡ None
no_ports input items port e = ap (λ list. directed_port input list port) e

-- connections

module _ (all : List Component) (c : Component) (r : Refinement) (order : List Target) (order_is : order ≡ free_order all c) (is : IsSeenBy all c r) where
  abbrev parts : List RefinementItemTree
  parts = refinement_parts c

  abbrev own : ℕ → PortReading
  own = own_free_reading all c

  abbrev of_sub : ℕ → ℕ → PortReading
  of_sub = sub_free_reading all c

  free_own : (k : ℕ) (d : PortDeclaration) → slice_get (port_declarations c.interface) k ≡ Some d
      → Some (record { number = free_number order (target None k); kind = type_of d.kind }) ≡ Some (own k)
  free_own k d e = λ j. Some (record { number = free_number (order_is j) (target None k); kind = sym (kind_is c.interface k d e) j })

  bare_by : (k : ℕ) (b : Bool) (p : PortReading) → Some p ≡ Some (own k) → cond b (Some p) None
      ≡ port_meant own of_sub (option_map names.OwnPort (cond b (Some k) None))
  bare_by k true p e = e
  bare_by k false p e = refl

  connection_bare : (text : List ℕ) → Finds c.interface r.own text
      → free_port_read order None true (find_port r.own text) ≡ port_meant own of_sub ((connection_scope all c.interface parts).bare text)
  connection_bare text (inl lacks) =
      ap (free_port_read order None true) lacks.finds
      ∙ (sym (no_port own of_sub (sees_enumerator all c.interface parts text))
      ∙ ap (λ o. port_meant own of_sub (if is_some o then option_map names.OwnPort (directed_port true c.interface text) else enumerator_if
      (sees_enumerator all c.interface parts text))) (sym lacks.place))
  connection_bare text (inr (k, d, found)) =
      ap (free_port_read order None true) found.finds
      ∙ (bare_by k (same_direction d.input true) (record { number = free_number order (target None k); kind = type_of d.kind }) (free_own k d found.declared)
      ∙ (ap (λ o. port_meant own of_sub (option_map names.OwnPort o)) (sym (directed_is true c.interface r.own text k d found))
      ∙ ap (λ o. port_meant own of_sub (if is_some o then option_map names.OwnPort (directed_port true c.interface text) else enumerator_if
      (sees_enumerator all c.interface parts text))) (sym found.place)))

  wanted_by : (k : ℕ) (b : Bool) (p : PortReading) → Some p ≡ Some (own k)
      → cond b (Some p) None ≡ option_map own (cond b (Some k) None)
  wanted_by k true p e = e
  wanted_by k false p e = refl

  connection_wanted : (text : List ℕ) → Finds c.interface r.own text
      → free_port_read order None true (find_port r.own text) ≡ option_map own (directed_port true c.interface text)
  connection_wanted text (inl lacks) =
      ap (free_port_read order None true) lacks.finds ∙ ap (option_map own) (sym (undirected true c.interface r.own text lacks))
  connection_wanted text (inr (k, d, found)) =
      ap (free_port_read order None true) found.finds
      ∙ (wanted_by k (same_direction d.input true) (record { number = free_number order (target None k); kind = type_of d.kind }) (free_own k d found.declared)
      ∙ ap (option_map own) (sym (directed_is true c.interface r.own text k d found)))

  free_of_sub : (s k : ℕ) (d : PortDeclaration)
      → slice_get (port_declarations (sub_interface_at all parts s)) k ≡ Some d
      → Some (record { number = free_number order (target (Some (record { 0 = s })) k); kind = type_of d.kind }) ≡ Some (of_sub s k)
  free_of_sub s k d e = λ j. Some (record {
    number = free_number (order_is j) (target (Some (record { 0 = s })) k);
    kind = sym (kind_is (sub_interface_at all parts s) k d e) j;
  })

  dotted_by : (s k : ℕ) (b : Bool) (p : PortReading) → Some p ≡ Some (of_sub s k)
      → cond b (Some p) None ≡ port_meant own of_sub (option_map (names.SubPort s) (cond b (Some k) None))
  dotted_by s k true p e = e
  dotted_by s k false p e = refl

  dotted_at : (port : List ℕ) (s : ℕ) (i : Interface) → Finds (sub_interface_at all parts s) i port
      → free_sub_port order (placed_in port s i) ≡ port_meant own of_sub (option_map (names.SubPort s) (directed_port false
      (sub_interface_at all parts s) port))
  dotted_at port s i (inl lacks) =
      ap (λ o. free_sub_port order (option_map (λ (p : Placed). record { sub = s; placed = p }) o)) lacks.finds
      ∙ ap (λ o. port_meant own of_sub (option_map (names.SubPort s) o)) (sym (undirected false (sub_interface_at all parts s) i port lacks))
  dotted_at port s i (inr (k, d, found)) =
      ap (λ o. free_sub_port order (option_map (λ (p : Placed). record { sub = s; placed = p }) o)) found.finds
      ∙ (dotted_by s k (same_direction d.input false) (record { number = free_number order (target (Some (record { 0 = s })) k); kind = type_of d.kind })
      (free_of_sub s k d found.declared)
      ∙ ap (λ o. port_meant own of_sub (option_map (names.SubPort s) o)) (sym (directed_is false (sub_interface_at all parts s) i port k d found)))

  dotted_in : (port : List ℕ) (s : ℕ) (o : Option Interface) → HasPorts (sub_interface_at all parts s) o
      → free_sub_port order (option_and_then (placed_in port s) o)
      ≡ port_meant own of_sub (option_map (names.SubPort s) (directed_port false (sub_interface_at all parts s) port))
  dotted_in port s None has = ap (λ o. port_meant own of_sub (option_map (names.SubPort s) o)) (sym (no_ports false (sub_interface_at all parts s) port has))
  dotted_in port s (Some i) has = dotted_at port s i (finds (sub_interface_at all parts s) i has port)

  connection_dotted : (sub port : List ℕ) → FindsSub all c r sub
      → free_sub_port order (find_sub_port r sub port) ≡ port_meant own of_sub (sub_port false all parts sub port)
  connection_dotted sub port (inl lacks) =
      ap (λ o. free_sub_port order (option_and_then (placed_in_sub r port) o)) lacks.tells
      ∙ ap (λ o. port_meant own of_sub (option_and_then (λ (s : ℕ). option_map (names.SubPort s) (directed_port false
      (sub_interface_at all parts s) port)) o)) (sym lacks.place)
  connection_dotted sub port (inr (s, has)) =
      ap (free_sub_port order) (found_in all c r sub port s has)
      ∙ (dotted_in port s has.of_sub.ports has.of_sub.has
      ∙ ap (port_meant own of_sub) (sym (meant_in all c r false sub port s has)))

  pub connection_reading_is : code.connection_reading_by r order ≡ tree.connection_reading all c
  connection_reading_is = λ j. record {
    bare = λ text. connection_bare text (finds c.interface r.own is.own_is text) j;
    dotted = λ sub port. connection_dotted sub port (finds_sub all c r is sub) j;
    wanted = λ text. connection_wanted text (finds c.interface r.own is.own_is text) j;
  }

-- targets

module _ (all : List Component) (c : Component) (r : Refinement) (is : IsSeenBy all c r) where
  abbrev of_parts : List RefinementItemTree
  of_parts = refinement_parts c

  own_target_by : (k : ℕ) (b : Bool)
      → cond b (target None k) (target None 0) ≡ target_of_meaning (option_map names.OwnPort (cond b (Some k) None))
  own_target_by k true = refl
  own_target_by k false = refl

  own_target_is : (text : List ℕ) → Finds c.interface r.own text
      → directed_target false None (find_port r.own text) ≡ target_of_meaning (option_map names.OwnPort (directed_port false c.interface text))
  own_target_is text (inl lacks) =
      ap (directed_target false None) lacks.finds ∙ ap (λ o. target_of_meaning (option_map names.OwnPort o)) (sym
      (undirected false c.interface r.own text lacks))
  own_target_is text (inr (k, d, found)) =
      ap (directed_target false None) found.finds
      ∙ (own_target_by k (same_direction d.input false) ∙ ap (λ o. target_of_meaning (option_map names.OwnPort o)) (sym
      (directed_is false c.interface r.own text k d found)))

  sub_target_by : (s k : ℕ) (b : Bool)
      → cond b (target (Some (record { 0 = s })) k) (target None 0) ≡ target_of_meaning (option_map (names.SubPort s) (cond b (Some k) None))
  sub_target_by s k true = refl
  sub_target_by s k false = refl

  sub_target_at : (port : List ℕ) (s : ℕ) (i : Interface) → Finds (sub_interface_at all of_parts s) i port
      → placed_target (placed_in port s i) ≡ target_of_meaning (option_map (names.SubPort s) (directed_port true (sub_interface_at all of_parts s) port))
  sub_target_at port s i (inl lacks) =
      ap (λ o. placed_target (option_map (λ (p : Placed). record { sub = s; placed = p }) o)) lacks.finds
      ∙ ap (λ o. target_of_meaning (option_map (names.SubPort s) o)) (sym (undirected true (sub_interface_at all of_parts s) i port lacks))
  sub_target_at port s i (inr (k, d, found)) =
      ap (λ o. placed_target (option_map (λ (p : Placed). record { sub = s; placed = p }) o)) found.finds
      ∙ (sub_target_by s k (same_direction d.input true)
      ∙ ap (λ o. target_of_meaning (option_map (names.SubPort s) o)) (sym (directed_is true (sub_interface_at all of_parts s) i port k d found)))

  sub_target_in : (port : List ℕ) (s : ℕ) (o : Option Interface) → HasPorts (sub_interface_at all of_parts s) o
      → placed_target (option_and_then (placed_in port s) o)
      ≡ target_of_meaning (option_map (names.SubPort s) (directed_port true (sub_interface_at all of_parts s) port))
  sub_target_in port s None has = ap (λ o. target_of_meaning (option_map (names.SubPort s) o)) (sym (no_ports true (sub_interface_at all of_parts s) port has))
  sub_target_in port s (Some i) has = sub_target_at port s i (finds (sub_interface_at all of_parts s) i has port)

  kind_of_own_by : (k : ℕ) (t : PortType) (b : Bool) → t ≡ kind_at c.interface k → cond b t kind.Bool
      ≡ target_kind all c (option_map names.OwnPort (cond b (Some k) None))
  kind_of_own_by k t true e = e
  kind_of_own_by k t false e = refl

  own_kind_is : (text : List ℕ) → Finds c.interface r.own text
      → directed_kind false (find_port r.own text) ≡ target_kind all c (option_map names.OwnPort (directed_port false c.interface text))
  own_kind_is text (inl lacks) =
      ap (directed_kind false) lacks.finds ∙ ap (λ o. target_kind all c (option_map names.OwnPort o)) (sym (undirected false c.interface r.own text lacks))
  own_kind_is text (inr (k, d, found)) =
      ap (directed_kind false) found.finds
      ∙ (kind_of_own_by k (type_of d.kind) (same_direction d.input false) (sym (kind_is c.interface k d found.declared))
      ∙ ap (λ o. target_kind all c (option_map names.OwnPort o)) (sym (directed_is false c.interface r.own text k d found)))

  kind_of_sub_by : (s k : ℕ) (t : PortType) (b : Bool) → t ≡ kind_at (sub_interface_at all of_parts s) k
      → cond b t kind.Bool ≡ target_kind all c (option_map (names.SubPort s) (cond b (Some k) None))
  kind_of_sub_by s k t true e = e
  kind_of_sub_by s k t false e = refl

  sub_kind_at : (port : List ℕ) (s : ℕ) (i : Interface) → Finds (sub_interface_at all of_parts s) i port
      → directed_kind true (option_map (λ (f : PlacedInSub). f.placed) (placed_in port s i))
      ≡ target_kind all c (option_map (names.SubPort s) (directed_port true (sub_interface_at all of_parts s) port))
  sub_kind_at port s i (inl lacks) =
      ap (λ o. directed_kind true (option_map (λ (f : PlacedInSub). f.placed) (option_map (λ (p : Placed). record { sub = s; placed = p }) o))) lacks.finds
      ∙ ap (λ o. target_kind all c (option_map (names.SubPort s) o)) (sym (undirected true (sub_interface_at all of_parts s) i port lacks))
  sub_kind_at port s i (inr (k, d, found)) =
      ap (λ o. directed_kind true (option_map (λ (f : PlacedInSub). f.placed) (option_map (λ (p : Placed). record { sub = s; placed = p }) o))) found.finds
      ∙ (kind_of_sub_by s k (type_of d.kind) (same_direction d.input true) (sym (kind_is (sub_interface_at all of_parts s) k d found.declared))
      ∙ ap (λ o. target_kind all c (option_map (names.SubPort s) o)) (sym (directed_is true (sub_interface_at all of_parts s) i port k d found)))

  sub_kind_in : (port : List ℕ) (s : ℕ) (o : Option Interface) → HasPorts (sub_interface_at all of_parts s) o
      → directed_kind true (option_map (λ (f : PlacedInSub). f.placed) (option_and_then (placed_in port s) o))
      ≡ target_kind all c (option_map (names.SubPort s) (directed_port true (sub_interface_at all of_parts s) port))
  sub_kind_in port s None has = ap (λ o. target_kind all c (option_map (names.SubPort s) o)) (sym (no_ports true (sub_interface_at all of_parts s) port has))
  sub_kind_in port s (Some i) has = sub_kind_at port s i (finds (sub_interface_at all of_parts s) i has port)

  sub_target_is : (sub port : List ℕ) → FindsSub all c r sub
      → placed_target (find_sub_port r sub port) ≡ target_of_meaning (sub_port true all of_parts sub port)
  sub_target_is sub port (inl lacks) =
      ap (λ o. placed_target (option_and_then (placed_in_sub r port) o)) lacks.tells
      ∙ ap (λ o. target_of_meaning (option_and_then (λ (s : ℕ). option_map (names.SubPort s) (directed_port true
      (sub_interface_at all of_parts s) port)) o)) (sym lacks.place)
  sub_target_is sub port (inr (s, has)) =
      ap placed_target (found_in all c r sub port s has)
      ∙ (sub_target_in port s has.of_sub.ports has.of_sub.has ∙ ap target_of_meaning (sym (meant_in all c r true sub port s has)))

  sub_kind_is : (sub port : List ℕ) → FindsSub all c r sub
      → directed_kind true (option_map (λ (f : PlacedInSub). f.placed) (find_sub_port r sub port)) ≡ target_kind all c (sub_port true all of_parts sub port)
  sub_kind_is sub port (inl lacks) =
      ap (λ o. directed_kind true (option_map (λ (f : PlacedInSub). f.placed) (option_and_then (placed_in_sub r port) o))) lacks.tells
      ∙ ap (λ o. target_kind all c (option_and_then (λ (s : ℕ). option_map (names.SubPort s) (directed_port true
      (sub_interface_at all of_parts s) port)) o)) (sym lacks.place)
  sub_kind_is sub port (inr (s, has)) =
      ap (λ o. directed_kind true (option_map (λ (f : PlacedInSub). f.placed) o)) (found_in all c r sub port s has)
      ∙ (sub_kind_in port s has.of_sub.ports has.of_sub.has ∙ ap (target_kind all c) (sym (meant_in all c r true sub port s has)))

  pub target_is : (t : TargetTree) → target_by r t ≡ tree_target all c t
  target_is (targets.Own port) = own_target_is port.text (finds c.interface r.own is.own_is port.text)
  target_is (targets.OfSub sub port) = sub_target_is sub.text port.text (finds_sub all c r is sub.text)

  pub target_kind_is : (t : TargetTree) → kind_by r t ≡ target_kind_of all c t
  target_kind_is (targets.Own port) = own_kind_is port.text (finds c.interface r.own is.own_is port.text)
  target_kind_is (targets.OfSub sub port) = sub_kind_is sub.text port.text (finds_sub all c r is sub.text)
