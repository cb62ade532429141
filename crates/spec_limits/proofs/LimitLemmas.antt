-- Steps of the count of instances, and of the notes of faults of limits.
use Rattle.std.proofs.Common.{◌≡◌, ℕ, suc, ◌+◌, ◌-◌, ◌<◌, ◌≤◌, Bool, true, false, if◌then◌else◌, nat_lt, List, [], ◌∷◌, ◌++◌, length, map, flat_map, drop}
use Rattle.std.proofs.Common.{get_or, position, slice_get, Option, Some, None, is_some, option_map, Result, OnOk, refl, sym, ap, subst, ◌∙◌}
use Rattle.std.proofs.Common.{append_assoc, arith}
use Rattle.std.proofs.Math.ListN.{drop_of_length-le}
use Rattle.std.proofs.lemmas.Bool.{lt-ltb, le-ltb}
use Rattle.std.proofs.lemmas.List.{append-nil, get_or_default}
use Rattle.std.proofs.lemmas.List.Folds.{flat_map-map}
use Rattle.std.proofs.lemmas.List.Sums.{sum_by-cons, sum_by-append, sum_by_push}
use Rattle.std.proofs.lemmas.Option.{slice_get-map}
use Rattle.std.specs.List.{sum_by, cons_option}
use Rattle.std.specs.Option.{option_map_or}
use Rattle.oss_base.specs.Limits.{most_components, most_instances}
use Rattle.oss_base.specs.Sites.{earlier_site, first_of}
use Rattle.oss_base.specs.declared.fault.FaultKind.TheVariants.{F25, F26}
use Rattle.oss_base.specs.declared.sites.FaultSite.{FaultSite}
use Rattle.oss_syntax.specs.declared.component.TreeComponent.{TreeComponent}
use Rattle.oss_syntax.specs.declared.refinement.RefinementItem.{RefinementItem}
use Rattle.oss_syntax.specs.Trees.{Component, component_tree, component_trees, refinement_item_tree}
use Rattle.spec_names.specs.declared.refinements.RefinementTables.{RefinementTables}
use Rattle.spec_names.specs.NamesFaults.{site, start_of, one_site, past}
use Rattle.spec_names.specs.Noting.{noted}
use Rattle.spec_names.specs.Scopes.{refinement_parts}
use Rattle.spec_names.proofs.Lists.{drop_here, position-map}
use Rattle.spec_names.proofs.NotingFacts.{noted_two}
use Rattle.spec_names.proofs.WholeFacts.{first_noted}
use Rattle.spec_limits.specs.LimitFaults.{instances, instances_past, system_place, system_past, parts_past, limit_faults}
use Rattle.spec_limits.specs.Counting.{places_among, inner_at, IsSize, SaysWhetherPast, is_system, item_parts_past, component_parts_past}

-- What is known while instances are counted: those that wait and those that were counted are all of the root's.
pub record Counted (refinements : List RefinementTables) (root counted : ℕ) (waiting : List ℕ) : Type 0 where
  pub within : counted ≤ most_instances
  pub all : (size : ℕ → ℕ) → IsSize refinements size → size root ≡ counted + sum_by size waiting

least : (refinements : List RefinementTables) (size : ℕ → ℕ) → IsSize refinements size → (xs : List ℕ)
    → length xs ≤ sum_by size xs
least refinements size is [] = omega arith
least refinements size is (x ∷ xs) =
    let one = is x in
    let rest = least refinements size is xs in
    let all = sum_by-cons size x xs in
    let so : suc (length xs) ≤ sum_by size (x ∷ xs) = omega (arith, one, rest, all) in
    so

sum_of_none : (size : ℕ → ℕ) (xs : List ℕ) → length xs ≡ 0 → sum_by size xs ≡ 0
sum_of_none size [] none = refl
sum_of_none size (x ∷ xs) none = let more : suc (length xs) ≡ 0 = none in absurd (omega (arith, more))

module _ (refinements : List RefinementTables) (root : ℕ) where
  pub counted_start : Counted refinements root 0 (root ∷ [])
  counted_start = record {
    within = omega arith;
    all = λ size is. let one : sum_by size (root ∷ []) ≡ size root + 0 = sum_by-cons size root [] in omega (arith, one);
  }

  pub counted_more : (counted place : ℕ) (old rest new : List ℕ) → old ≡ rest ++ place ∷ []
      → length rest < most_instances - counted
      → new ≡ rest ++ inner_at refinements place
      → Counted refinements root counted old → Counted refinements root (counted + 1) new
  counted_more counted place old rest new popped room put so = record {
    within = omega (arith, room);
    all = λ size is.
        let before = so.all size is in
        let last = ap (sum_by size) popped ∙ sum_by_push size rest place in
        let inner = is place in
        let after = ap (sum_by size) put ∙ sum_by-append size rest (inner_at refinements place) in
        omega (arith, before, last, inner, after);
  }

  pub says_past : (counted place : ℕ) (old rest : List ℕ) → old ≡ rest ++ place ∷ []
      → most_instances - counted ≤ length rest
      → Counted refinements root counted old → SaysWhetherPast refinements root true
  says_past counted place old rest popped full so size is =
      let before = so.all size is in
      let last = ap (sum_by size) popped ∙ sum_by_push size rest place in
      let inner = is place in
      let many = least refinements size is rest in
      sym (lt-ltb most_instances (size root) (omega (arith, before, last, inner, many, full)))

  pub says_within : (counted : ℕ) (old : List ℕ) → length old ≡ 0 → Counted refinements root counted old
      → SaysWhetherPast refinements root false
  says_within counted old none so size is =
      let before = so.all size is in
      let empty : sum_by size old ≡ 0 = sum_of_none size old none in
      let within = so.within in
      sym (le-ltb most_instances (size root) (omega (arith, before, empty, within)))

-- places that wait, as they are put

put_option : (o : Option ℕ) (made rest : List ℕ) → (made ++ cons_option o []) ++ rest ≡ made ++ cons_option o rest
put_option None made rest = ap (λ list. list ++ rest) (append-nil made)
put_option (Some a) made rest = append_assoc made (a ∷ []) rest

pub put_step : (components : List (Option ℕ)) (i : ℕ) (other : Option ℕ) (old new whole : List ℕ)
    → i < length components → new ≡ old ++ cons_option (get_or components i other) []
    → old ++ places_among (drop i components) ≡ whole → new ++ places_among (drop (i + 1) components) ≡ whole
put_step components i other old new whole l put so =
    let c : Option ℕ = get_or components i other in
    let same : c ≡ get_or components i c = get_or_default components i other c l in
    ap (λ list. list ++ places_among (drop (i + 1) components)) put
    ∙ (put_option c old (places_among (drop (i + 1) components))
    ∙ (ap (λ list. old ++ places_among list) (sym (drop_here components i c l same)) ∙ so))

pub put_all : (components : List (Option ℕ)) (i : ℕ) (made whole : List ℕ) → length components ≤ i
    → made ++ places_among (drop i components) ≡ whole → made ≡ whole
put_all components i made whole past so =
    sym (append-nil made) ∙ (ap (λ list. made ++ places_among list) (sym (drop_of_length-le components past)) ∙ so)

-- faults, as they are noted

pub component_noted : (c : TreeComponent) (items : List RefinementItem) (first now : Option FaultSite)
    → map refinement_item_tree items ≡ refinement_parts (component_tree c)
    → now ≡ noted (flat_map item_parts_past items) first → now ≡ noted (component_parts_past c) first
component_noted c items first now same is =
    is ∙ ap (λ list. noted list first) (sym (flat_map-map parts_past refinement_item_tree items) ∙ ap (flat_map parts_past) same)

pub place_is : (components : List TreeComponent) → position is_system components ≡ system_place
    (component_trees components)
place_is components = sym (position-map (λ (c : Component). is_some c.system) component_tree components)

pub instances_noted : (components : List TreeComponent) (refinements : List RefinementTables) (place : ℕ)
    (c : TreeComponent) (is_past : Bool)
    (first now : Option FaultSite)
    → IsSize refinements (instances (component_trees components)) → slice_get components place ≡ Some c
    → SaysWhetherPast refinements place is_past
    → now ≡ noted (if is_past then site F26 (start_of c.name) ∷ [] else []) first
    → now ≡ noted (instances_past (component_trees components) place) first
instances_noted components refinements place c is_past first now size at says is =
    let all : List Component = component_trees components in
    let there : slice_get all place ≡ Some (component_tree c) = slice_get-map component_tree components place ∙ ap (option_map component_tree) at in
    is
    ∙ (ap (λ b. noted (if b then site F26 (start_of c.name) ∷ [] else []) first) (says (instances all) size)
    ∙ ap (λ o. noted (option_map_or (λ (k : Component).
    if nat_lt most_instances (instances all place) then site F26 (start_of k.name) ∷ [] else []) o []) first) (sym there))

pub none_noted : (components : List TreeComponent) (place : ℕ) (first : Option FaultSite) → slice_get components place
    ≡ None
    → first ≡ noted (instances_past (component_trees components) place) first
none_noted components place first at =
    let all : List Component = component_trees components in
    let none : slice_get all place ≡ None = slice_get-map component_tree components place ∙ ap (option_map component_tree) at in
    ap (λ o. noted (option_map_or (λ (k : Component).
    if nat_lt most_instances (instances all place) then site F26 (start_of k.name) ∷ [] else []) o []) first) (sym none)

-- the system's instances, by its place
system_at : (components : List TreeComponent) (found place : Option ℕ) → found ≡ position is_system components
    → found ≡ place → system_past (component_trees components)
    ≡ option_map_or (instances_past (component_trees components)) place []
system_at components found place at is =
    ap (λ o. option_map_or (instances_past (component_trees components)) o []) (sym (place_is components) ∙ (sym at ∙ is))

pub system_none : (components : List TreeComponent) (found : Option ℕ) (first : Option FaultSite)
    → found ≡ position is_system components → found ≡ None
    → first ≡ noted (system_past (component_trees components)) first
system_none components found first at none = ap (λ list. noted list first) (sym (system_at components found None at none))

pub system_noted : {X E : Type 0} (components : List TreeComponent) (found : Option ℕ) (place : ℕ)
    (first now : Option FaultSite) (result : Result X E)
    → found ≡ position is_system components → found ≡ Some place
    → OnOk result (now ≡ noted (instances_past (component_trees components) place) first)
    → OnOk result (now ≡ noted (system_past (component_trees components)) first)
system_noted components found place first now result at is so =
    subst (λ list. OnOk result (now ≡ noted list first)) (sym (system_at components found (Some place) at is)) so

-- all of them
pub all_noted : ((a b : List FaultSite) → first_of (a ++ b) ≡ earlier_site (first_of a) (first_of b))
    → (components : List TreeComponent) (start named counted last : Option FaultSite) → start ≡ None
    → named ≡ noted (past F25 (λ (c : TreeComponent). start_of c.name) most_components components) start
    → counted ≡ noted (system_past (component_trees components)) named
    → last ≡ noted (flat_map component_parts_past components) counted
    → last ≡ first_of (limit_faults (component_trees components))
all_noted law components start named counted last es en ec el =
    let all : List Component = component_trees components in
    let names : List FaultSite = past F25 (λ (c : Component). start_of c.name) most_components all in
    let parts : List FaultSite = flat_map (λ (c : Component). flat_map parts_past (refinement_parts c)) all in
    let named_is : named ≡ noted names None =
    en ∙ (λ j. noted (names_past components j) (es j)) in
    let parts_is : last ≡ noted parts counted =
    el ∙ ap (λ list. noted list counted)
    (sym (flat_map-map (λ (c : Component). flat_map parts_past (refinement_parts c)) component_tree components)) in
    noted_two names (system_past all ++ parts) None named last named_is (noted_two (system_past all) parts named counted last ec parts_is)
    ∙ first_noted law (limit_faults all)
  where
    of_option : (o : Option TreeComponent)
        → one_site (option_map (λ (c : TreeComponent). site F25 (start_of c.name)) o)
        ≡ one_site (option_map (λ (c : Component). site F25 (start_of c.name)) (option_map component_tree o))
    of_option None = refl
    of_option (Some c) = refl

    names_past : (cs : List TreeComponent)
        → past F25 (λ (c : TreeComponent). start_of c.name) most_components cs
        ≡ past F25 (λ (c : Component). start_of c.name) most_components (component_trees cs)
    names_past cs =
        of_option (slice_get cs most_components)
        ∙ ap (λ o. one_site (option_map (λ (c : Component). site F25 (start_of c.name)) o)) (sym (slice_get-map component_tree cs most_components))
