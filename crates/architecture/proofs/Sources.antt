-- What is known of the connections of a tree without a fault of names and types.
use Rattle.std.proofs.Common.{◌≡◌, ℕ, Bool, true, false, not, cond, List, [], ◌∷◌, length, map, filter_map, slice_get, Option, Some, None}
use Rattle.std.proofs.Common.{option_map, option_and_then, is_some, refl, subst}
use Rattle.std.specs.Prelude.{flat_map}
use Rattle.std.specs.Option.{option_map_or, option_or}
use Rattle.std.proofs.lemmas.Bool.{false≢true}
use Rattle.std.proofs.lemmas.Option.{none-some, same_Some, slice_get-map}
use Rattle.oss_base.specs.Sites.{earlier_site, first_of}
use Rattle.oss_base.specs.declared.fault.FaultKind.{FaultKind}
use Rattle.oss_base.specs.declared.fault.FaultKind.TheVariants.{F6, F8, F10, F14}
use Rattle.oss_base.specs.declared.place.Span.{Span}
use Rattle.oss_base.specs.declared.ids.SubId.{SubId}
use Rattle.oss_base.specs.declared.sites.FaultSite.{FaultSite}
use Rattle.oss_syntax.specs.Trees.{Item, RefinementItemTree, Sub, Connection, Refined, Component}
use Rattle.oss_syntax.specs.declared.refinement.TargetTree.{TargetTree}
use Rattle.oss_syntax.specs.declared.refinement.TargetTree.TheVariants as targets
use Rattle.port_types.specs.declared.types.PortType.{PortType}
use Rattle.port_types.specs.declared.types.PortType.TheVariants as kind
use Rattle.spec_limits.specs.LimitFaults.{limit_faults}
use Rattle.spec_model.specs.Expressions.{IsStateNumber, IsStateChoice, IsState, NumberReadsBelow, ChoiceReadsBelow, ReadsBelow}
use Rattle.spec_model.specs.Meanings.{SourceMeaning, TruthSource, NumberSource, ChoiceSource, WireMeaning}
use Rattle.spec_model.specs.declared.port.OwnPort.{OwnPort}
use Rattle.spec_model.specs.declared.wire.Target.{Target}
use Rattle.spec_names.specs.NamesFaults as names
use Rattle.spec_names.specs.NamesFaults.{names_faults, refinement_faults, part_tests, lacking, site, start_of, target_start, again, same_name, past, no_system}
use Rattle.spec_names.specs.NamesFaults.{interface_faults, containment_faults}
use Rattle.spec_names.specs.Scopes.{PortDeclaration, port_declarations, has_direction, directed_port, SubDeclaration, sub_declarations, refinement_parts}
use Rattle.spec_names.specs.Scopes.{component_place, sub_interface_at, sub_place, target_meaning, OwnPort as OwnMeaning, SubPort}
use Rattle.spec_types.specs.Typing.{ExpressionReading, Typed, Formula, Term, Pick, typed_of}
use Rattle.spec_types.specs.TypeFaults.{mismatch_unless, expression_faults, expression_start, admits_source}
use Rattle.spec_types.specs.TreeComponents as types
use Rattle.spec_types.specs.TreeComponents.{types_faults, range_faults_in, contract_faults, connection_faults, connection_reading, free_order, own_ports}
use Rattle.spec_types.specs.TreeComponents.{typed_port, type_of, kind_at, target_kind}
use Rattle.spec_types.specs.TreeComponents.{target_of_meaning, tree_target, typed_source, tree_wire, tree_wires}
use Rattle.architecture.specs.FirstFaults.{tree_site}
use Rattle.architecture.specs.StateSources.{HasStateSource}
use Rattle.architecture.proofs.Directions.{points, interface_of, is_driven, target_driven, IsMeant, connection_below}
use Rattle.architecture.proofs.Listing.{Each, each_at, each_both, each_empty, each_kept, each_more, each_true, both_empty}
use Rattle.architecture.proofs.Readings.{TypedReadsBelow, typed_reads}
use Rattle.architecture.proofs.States.{IsStateTyped, typed_state}

-- phases without a fault

first_none : (sites : List FaultSite) → first_of sites ≡ None → sites ≡ []
first_none [] e = refl
first_none (s ∷ sites) e = by (first_of sites) e
  where
    by : (o : Option FaultSite) → earlier_site (Some s) o ≡ None → s ∷ sites ≡ []
    by None h = cc
    by (Some t) h = cc

either_none : (o p : Option FaultSite) → option_or o p ≡ None → (o ≡ None) × (p ≡ None)
either_none None p e = (refl, e)
either_none (Some s) p e = cc

pub record IsClear (end : ℕ) (all : List Component) : Type 0 where
  pub no_names : names_faults end all ≡ []
  pub no_types : types_faults all ≡ []

pub clear_phases : (end : ℕ) (all : List Component) → tree_site end all ≡ None → IsClear end all
clear_phases end all e =
    let first = either_none (first_of (names_faults end all)) (option_or (first_of (types_faults all)) (first_of (limit_faults all))) e in
    let second = either_none (first_of (types_faults all)) (first_of (limit_faults all)) first.1 in
    record { no_names = first_none (names_faults end all) first.0; no_types = first_none (types_faults all) second.0 }

-- what each item of a refinement has

lacking_one : {A : Type 0} (kind : FaultKind) (means : A → Bool) (offset : A → ℕ) (x : A) → lacking kind means offset
    (x ∷ []) ≡ [] → means x ≡ true
lacking_one {A = A} kind means offset x e = by (means x) e
  where
    by : (b : Bool) → map (λ (y : A). site kind (offset y)) (cond (not b) (x ∷ []) []) ≡ [] → b ≡ true
    by true h = refl
    by false h = cc

told_true : (b : Bool) (offset : ℕ) → mismatch_unless b offset ≡ [] → b ≡ true
told_true true offset e = refl
told_true false offset e = cc

abbrev pub HasComponent : List Component → SubDeclaration → Type 0
HasComponent all sub = is_some (component_place all sub.component.text) ≡ true

-- the expression of a connection fits its target
abbrev pub IsFitting : List Component → Component → RefinementItemTree → Type 0
IsFitting all c (Sub name component) = Unit {0}
IsFitting all c (Connection t e) =
    admits_source (target_kind all c (target_meaning all c.interface (refinement_parts c) t)) (typed_of (connection_reading all c) e) ≡ true
IsFitting all c (Refined name listed) = Unit {0}

pub record IsSound (all : List Component) (c : Component) : Type 0 where
  pub subs : Each (HasComponent all) (sub_declarations (refinement_parts c))
  pub meant : Each (IsMeant all c) (refinement_parts c)
  pub fitting : Each (IsFitting all c) (refinement_parts c)

module _ (all : List Component) (c : Component) where
  subs_have : (parts : List RefinementItemTree)
      → Each (λ p. names.part_faults (part_tests all c.interface (refinement_parts c)) p ≡ []) parts → Each
      (HasComponent all) (sub_declarations parts)
  subs_have [] each = tt
  subs_have (Sub name component ∷ parts) each =
      (lacking_one F10 (part_tests all c.interface (refinement_parts c)).component start_of component each.0, subs_have parts each.1)
  subs_have (Connection target source ∷ parts) each = subs_have parts each.1
  subs_have (Refined name listed ∷ parts) each = subs_have parts each.1

  part_meant : (p : RefinementItemTree) → names.part_faults (part_tests all c.interface (refinement_parts c)) p ≡ []
      → IsMeant all c p
  part_meant (Sub name component) e = tt
  part_meant (Connection target source) e = lacking_one F14 (part_tests all c.interface (refinement_parts c)).target target_start target e
  part_meant (Refined name listed) e = tt

  part_fits : (p : RefinementItemTree) → types.refinement_item_faults all c (connection_reading all c) p ≡ []
      → IsFitting all c p
  part_fits (Sub name component) e = tt
  part_fits (Connection t source) e =
      let reading : ExpressionReading = connection_reading all c in
      let type : PortType = target_kind all c (target_meaning all c.interface (refinement_parts c) t) in
      let both = both_empty (expression_faults reading source) (mismatch_unless (admits_source type (typed_of reading source)) (expression_start source)) e in
      told_true (admits_source type (typed_of reading source)) (expression_start source) both.1
  part_fits (Refined name listed) e = tt

  pub sound_by : refinement_faults all c.interface (refinement_parts c) ≡ [] → connection_faults all c ≡ []
      → IsSound all c
  sound_by named typed =
      let parts : List RefinementItemTree = refinement_parts c in
      let tests = part_tests all c.interface parts in
      let first = both_empty _ _ named in
      let second = both_empty (flat_map (names.part_faults tests) parts) _ first.1 in
      let none = each_empty (names.part_faults tests) parts second.0 in
      record {
        subs = subs_have parts none;
        meant = each_more (λ p. names.part_faults tests p ≡ []) (IsMeant all c) part_meant parts none;
        fitting = each_more (λ p. types.refinement_item_faults all c (connection_reading all c) p ≡ []) (IsFitting all c) part_fits parts
            (each_empty (types.refinement_item_faults all c (connection_reading all c)) parts typed);
      }

-- the faults of all refinements and of containment

pub record IsUnrefined (all : List Component) : Type 0 where
  pub refinements : flat_map (λ (c : Component). refinement_faults all c.interface (refinement_parts c)) all ≡ []
  pub containment : containment_faults all ≡ []

pub names_empty : (end : ℕ) (all : List Component) → names_faults end all ≡ [] → IsUnrefined all
names_empty end all none =
    let one = both_empty (again F6 same_name start_of (map (λ (c : Component). c.name) all)) _ none in
    let two = both_empty (no_system end all) _ one.1 in
    let three = both_empty (past F8 (λ (span : Span). span.start) 1 (filter_map (λ (c : Component). c.system) all)) _ two.1 in
    let four = both_empty (flat_map (λ (c : Component). interface_faults c.interface) all) _ three.1 in
    let five = both_empty (flat_map (λ (c : Component). refinement_faults all c.interface (refinement_parts c)) all) (containment_faults all) four.1 in
    record { refinements = five.0; containment = five.1 }

types_empty : (all : List Component) → types_faults all ≡ [] → flat_map (connection_faults all) all ≡ []
types_empty all none =
    let one = both_empty (flat_map (λ (c : Component). range_faults_in c.interface) all) _ none in
    let two = both_empty (flat_map (λ (c : Component). contract_faults c.interface) all) (flat_map (connection_faults all) all) one.1 in
    two.1

pub sound_at : (end : ℕ) (all : List Component) → IsClear end all → (n : ℕ) (c : Component) → slice_get all n ≡ Some c
    → IsSound all c
sound_at end all clear n c at =
    sound_by all c
    (each_at (λ (k : Component). refinement_faults all k.interface (refinement_parts k) ≡ []) all
    (each_empty (λ (k : Component). refinement_faults all k.interface (refinement_parts k)) all (names_empty end all clear.no_names).refinements) n c at)
    (each_at (λ (k : Component). connection_faults all k ≡ []) all (each_empty (connection_faults all) all (types_empty all clear.no_types)) n c at)

-- sources, by what they mean

abbrev pub MeaningReadsBelow : ℕ → SourceMeaning → Type 0
MeaningReadsBelow n (TruthSource f) = ReadsBelow n f
MeaningReadsBelow n (NumberSource t) = NumberReadsBelow n t
MeaningReadsBelow n (ChoiceSource p) = ChoiceReadsBelow n p

abbrev pub IsStateMeaning : SourceMeaning → Type 0
IsStateMeaning (TruthSource f) = IsState f
IsStateMeaning (NumberSource t) = IsStateNumber t
IsStateMeaning (ChoiceSource p) = IsStateChoice p

abbrev pub IsMeaningOf : PortType → SourceMeaning → Type 0
IsMeaningOf kind.Bool (TruthSource f) = Unit {0}
IsMeaningOf (kind.Range lo hi) (NumberSource t) = Unit {0}
IsMeaningOf (kind.Enum names) (ChoiceSource p) = Unit {0}
IsMeaningOf _ _ = ⊥

source_reads : (n : ℕ) (t : Typed) → TypedReadsBelow n t → MeaningReadsBelow n (typed_source t)
source_reads n (Formula f) h = h
source_reads n (Term t values) h = h
source_reads n (Pick p names) h = h

source_state : (t : Typed) → IsStateTyped t → IsStateMeaning (typed_source t)
source_state (Formula f) h = h
source_state (Term t values) h = h
source_state (Pick p names) h = h

source_fits : (type : PortType) (t : Typed) → admits_source type t ≡ true → IsMeaningOf type (typed_source t)
source_fits kind.Bool (Formula f) h = tt
source_fits kind.Bool (Term t values) h = absurd (false≢true h)
source_fits kind.Bool (Pick p names) h = absurd (false≢true h)
source_fits (kind.Range lo hi) (Formula f) h = absurd (false≢true h)
source_fits (kind.Range lo hi) (Term t values) h = tt
source_fits (kind.Range lo hi) (Pick p names) h = absurd (false≢true h)
source_fits (kind.Enum others) (Formula f) h = absurd (false≢true h)
source_fits (kind.Enum others) (Term t values) h = absurd (false≢true h)
source_fits (kind.Enum others) (Pick p names) h = tt

-- connections, by what they mean

module _ (all : List Component) (c : Component) where
  -- the interface of a port
  abbrev pub interface_seen : Option SubId → List Item
  interface_seen None = c.interface
  interface_seen (Some sub) = interface_of all c sub.0

  kind_seen : (t : TargetTree) → is_some (target_meaning all c.interface (refinement_parts c) t) ≡ true
      → target_kind all c (target_meaning all c.interface (refinement_parts c) t)
      ≡ kind_at (interface_seen (tree_target all c t).sub) (tree_target all c t).port.0
  kind_seen (targets.Own port) h = by (directed_port false c.interface port.text) h
    where
      by : (o : Option ℕ) → is_some (option_map OwnMeaning o) ≡ true
          → target_kind all c (option_map OwnMeaning o)
          ≡ kind_at (interface_seen (target_of_meaning (option_map OwnMeaning o)).sub) (target_of_meaning (option_map OwnMeaning o)).port.0
      by None s = absurd (false≢true s)
      by (Some q) s = refl
  kind_seen (targets.OfSub sub port) h = by (sub_place (refinement_parts c) sub.text) h
    where
      inner : (s : ℕ) (o : Option ℕ) → is_some (option_map (SubPort s) o) ≡ true
          → target_kind all c (option_map (SubPort s) o)
          ≡ kind_at (interface_seen (target_of_meaning (option_map (SubPort s) o)).sub) (target_of_meaning (option_map (SubPort s) o)).port.0
      inner s None t = absurd (false≢true t)
      inner s (Some q) t = refl

      by : (o : Option ℕ)
          → is_some (option_and_then (λ (s : ℕ). option_map (SubPort s)
          (directed_port true (sub_interface_at all (refinement_parts c) s) port.text)) o) ≡ true
          → target_kind all c (option_and_then (λ (s : ℕ). option_map (SubPort s)
          (directed_port true (sub_interface_at all (refinement_parts c) s) port.text)) o)
          ≡ kind_at
          (interface_seen (target_of_meaning (option_and_then
          (λ (s : ℕ). option_map (SubPort s) (directed_port true (sub_interface_at all (refinement_parts c) s)
          port.text)) o)).sub)
          (target_of_meaning (option_and_then (λ (s : ℕ). option_map (SubPort s) (directed_port true (sub_interface_at all (refinement_parts c) s)
          port.text)) o)).port.0
      by None s = absurd (false≢true s)
      by (Some s) t = inner s (directed_port true (sub_interface_at all (refinement_parts c) s) port.text) t

  -- the port of a target is there, with its type
  pub record Seen (t : Target) (m : SourceMeaning) : Type 0 where
    pub port : OwnPort
    pub at : slice_get (own_ports (interface_seen t.sub)) t.port.0 ≡ Some port
    pub fits : IsMeaningOf port.kind m

  -- a port at this place admits the source
  abbrev pub AdmitsAt : List Item → ℕ → Typed → Type 0
  AdmitsAt interface place typed =
      (port : OwnPort) × (slice_get (own_ports interface) place ≡ Some port) × (admits_source port.kind typed ≡ true)

  admits_by : (input : Bool) (interface : List Item) (place : ℕ) (t : Typed) → points input interface place ≡ true
      → admits_source (kind_at interface place) t ≡ true → AdmitsAt interface place t
  admits_by input interface place t there admits =
      by (slice_get (port_declarations interface) place) there admits (slice_get-map typed_port (port_declarations interface) place)
    where
      by : (o : Option PortDeclaration) → option_map_or (has_direction input) o false ≡ true
          → admits_source (option_map_or (λ (port : PortDeclaration). type_of port.kind) o kind.Bool) t ≡ true
          → slice_get (own_ports interface) place ≡ option_map typed_port o → AdmitsAt interface place t
      by None h a e = absurd (false≢true h)
      by (Some d) h a e = (typed_port d, e, a)

  admits_any : (sub : Option SubId) (place : ℕ) (typed : Typed) → is_driven all c sub place ≡ true
      → admits_source (kind_at (interface_seen sub) place) typed ≡ true → AdmitsAt (interface_seen sub) place typed
  admits_any None place typed driven admits = admits_by false c.interface place typed driven admits
  admits_any (Some sub) place typed driven admits = admits_by true (interface_of all c sub.0) place typed driven admits

  -- the target of a connection that fits it admits its source
  pub target_admits : (t : TargetTree) (typed : Typed)
      → is_some (target_meaning all c.interface (refinement_parts c) t) ≡ true
      → admits_source (target_kind all c (target_meaning all c.interface (refinement_parts c) t)) typed ≡ true
      → AdmitsAt (interface_seen (tree_target all c t).sub) (tree_target all c t).port.0 typed
  target_admits t typed meant fits =
      admits_any (tree_target all c t).sub (tree_target all c t).port.0 typed (target_driven all c t meant)
      (subst (λ (type : PortType). admits_source type typed ≡ true) (kind_seen t meant) fits)

  seen_target : (t : Target) (typed : Typed) → AdmitsAt (interface_seen t.sub) t.port.0 typed
      → Seen t (typed_source typed)
  seen_target t typed found = record { port = found.0; at = found.1; fits = source_fits found.0.kind typed found.2 }

  module _ (sound : IsSound all c) where
    reads_one : (p : RefinementItemTree) (m : WireMeaning) → Unit {0} → tree_wire all c (connection_reading all c) p
        ≡ Some m
        → MeaningReadsBelow (length (free_order all c)) m.source
    reads_one (Sub name component) m u e = absurd (none-some m e)
    reads_one (Connection t source) m u e =
        subst (λ (w : WireMeaning). MeaningReadsBelow (length (free_order all c)) w.source) (same_Some _ m e)
        (source_reads (length (free_order all c)) (typed_of (connection_reading all c) source)
        (typed_reads (length (free_order all c)) (connection_reading all c) (connection_below all c sound.meant) source))
    reads_one (Refined name listed) m u e = absurd (none-some m e)

    pub wires_read : Each (λ (m : WireMeaning). MeaningReadsBelow (length (free_order all c)) m.source)
        (tree_wires all c)
    wires_read = each_kept (tree_wire all c (connection_reading all c)) (λ p. Unit {0})
        (λ (m : WireMeaning). MeaningReadsBelow (length (free_order all c)) m.source) reads_one (refinement_parts c) (each_true (refinement_parts c))

    fits_one : (p : RefinementItemTree) (m : WireMeaning) → IsMeant all c p × IsFitting all c p
        → tree_wire all c (connection_reading all c) p ≡ Some m → Seen m.target m.source
    fits_one (Sub name component) m h e = absurd (none-some m e)
    fits_one (Connection t source) m h e =
        subst (λ (w : WireMeaning). Seen w.target w.source) (same_Some _ m e)
        (seen_target (tree_target all c t) (typed_of (connection_reading all c) source)
        (target_admits t (typed_of (connection_reading all c) source) h.0 h.1))
    fits_one (Refined name listed) m h e = absurd (none-some m e)

    pub wires_fit : Each (λ (m : WireMeaning). Seen m.target m.source) (tree_wires all c)
    wires_fit = each_kept (tree_wire all c (connection_reading all c)) (λ p. IsMeant all c p × IsFitting all c p)
        (λ (m : WireMeaning). Seen m.target m.source) fits_one (refinement_parts c)
        (each_both (IsMeant all c) (IsFitting all c) (refinement_parts c) sound.meant sound.fitting)

  state_one : (p : RefinementItemTree) (m : WireMeaning) → HasStateSource p → tree_wire all c
      (connection_reading all c) p ≡ Some m
      → IsStateMeaning m.source
  state_one (Sub name component) m h e = absurd (none-some m e)
  state_one (Connection t source) m h e =
      subst (λ (w : WireMeaning). IsStateMeaning w.source) (same_Some _ m e)
      (source_state (typed_of (connection_reading all c) source) (typed_state (connection_reading all c) source h))
  state_one (Refined name listed) m h e = absurd (none-some m e)

  pub wires_state : Each HasStateSource (refinement_parts c) → Each (λ (m : WireMeaning). IsStateMeaning m.source)
      (tree_wires all c)
  wires_state each = each_kept (tree_wire all c (connection_reading all c)) HasStateSource (λ (m : WireMeaning). IsStateMeaning m.source) state_one
      (refinement_parts c) each
