-- Containment of components told by ranks.
use Rattle.std.proofs.Common.{◌≡◌, ℕ, zero, suc, ◌+◌, ◌<◌, ◌≤◌, inl, inr, Bool, true, false, not, cond, ◌||◌, ◌&&◌, List, [], ◌∷◌, ◌++◌, length, map}
use Rattle.std.proofs.Common.{filter_map, flat_map, get_or, slice_get, Option, Some, None, option_and_then, nat_eq, refl, sym, ap, subst, ◌∙◌, arith}
use Rattle.std.proofs.Common.{append_assoc}
use Rattle.std.specs.Prelude.{Contains}
use Rattle.std.specs.List.{list_any}
use Rattle.std.specs.Option.{option_map_or}
use Rattle.std.proofs.lemmas.Bool.{false≢true, and_parts, and_from, or_cases, or_left, or_right, eqb-true, eq-eqb, cases_lt, cases_eq}
use Rattle.std.proofs.lemmas.List.{length-map, length-append}
use Rattle.std.proofs.lemmas.List.Elements.{Contains-append_right, Contains-append_cases}
use Rattle.std.proofs.Math.ListN.{get_or-eq_default}
use Rattle.std.proofs.lemmas.Option.{slice_get-get_or}
use Rattle.oss_base.specs.declared.sites.FaultSite.{FaultSite}
use Rattle.oss_base.specs.declared.fault.FaultKind.TheVariants.{F11}
use Rattle.oss_syntax.specs.declared.words.Word.{Word}
use Rattle.oss_syntax.specs.Trees.{RefinementItemTree, Sub, Connection, Refined, Component}
use Rattle.spec_names.specs.declared.refinements.RefinementTables.{RefinementTables}
use Rattle.spec_names.specs.Scopes.{is_named, component_place, refinement_parts, SubDeclaration, sub_declarations}
use Rattle.spec_names.specs.NamesFaults.{site, start_of, parts_at, is_sub_of, has_sub, contains_below, contains, leads_back, containment_of_part}
use Rattle.spec_names.specs.NamesFaults.{containment_from, containment_faults}
use Rattle.spec_names.specs.Containment.{inner_of, leads_word}
use Rattle.spec_names.specs.Directory.{AreRefinements, RanksFall}
use Rattle.strong_components.specs.Strong.{targets, HasEdge, IsInside, RunsThrough, LeadsTo, IsRanking}
use Rattle.spec_names.specs.Tables.{entry_place}
use Rattle.spec_names.proofs.Lists.{list_any-map, position_within}
use Rattle.strong_components.proofs.StrongFacts.{leads_edge, leads_on}

-- places among those that may be missing

contains_here : (x : ℕ) (xs : List ℕ) → Contains (x ∷ xs) x
contains_here x xs = (0, omega arith, refl)

places_have : (os : List (Option ℕ)) (v : ℕ) → list_any (λ o. option_map_or (nat_eq v) o false) os ≡ true
    → Contains (filter_map (λ o. o) os) v
places_have [] v h = absurd (false≢true h)
places_have (None ∷ os) v h = places_have os v h
places_have (Some x ∷ os) v h =
    elim (or_cases (nat_eq v x) (list_any (λ o. option_map_or (nat_eq v) o false) os) h) [
      | inl e ↦ subst (λ (y : ℕ). Contains (y ∷ filter_map (λ o. o) os) v) (eqb-true v x e) (contains_here v (filter_map (λ o. o) os))
      | inr more ↦ Contains-append_right (x ∷ []) (filter_map (λ o. o) os) v (places_have os v more)
    ]

only_one : (a b : ℕ) → Contains (b ∷ []) a → a ≡ b
only_one a b h =
    let zero_at : h.0 ≡ 0 = omega (arith, h.1) in
    sym h.2 ∙ ap (λ i. get_or (b ∷ []) i a) zero_at

places_are : (os : List (Option ℕ)) (v : ℕ) → Contains (filter_map (λ o. o) os) v
    → list_any (λ o. option_map_or (nat_eq v) o false) os ≡ true
places_are [] v h = absurd (omega (arith, h.1))
places_are (None ∷ os) v h = places_are os v h
places_are (Some x ∷ os) v h =
    elim (Contains-append_cases (x ∷ []) (filter_map (λ o. o) os) v h) [
      | inl one ↦ or_left (nat_eq v x) (list_any (λ o. option_map_or (nat_eq v) o false) os) (eq-eqb v x (only_one v x one))
      | inr more ↦ or_right (nat_eq v x) (list_any (λ o. option_map_or (nat_eq v) o false) os) (places_are os v more)
    ]

-- elements that pass a test

any_has : {X : Type 0} (p : X → Bool) (xs : List X) (x : X) → Contains xs x → p x ≡ true → list_any p xs ≡ true
any_has p [] x h e = absurd (omega (arith, h.1))
any_has {X = X} p (y ∷ xs) x h e =
    elim (Contains-append_cases (y ∷ []) xs x h) [
      | inl one ↦
          let zero_at : one.0 ≡ 0 = omega (arith, one.1) in
          let same : y ≡ x = sym (ap (λ i. get_or (y ∷ []) i x) zero_at) ∙ one.2 in
          or_left (p y) (list_any p xs) (subst (λ (z : X). p z ≡ true) (sym same) e)
      | inr more ↦ or_right (p y) (list_any p xs) (any_has p xs x more e)
    ]

any_found : {X : Type 0} (p : X → Bool) (xs : List X) → list_any p xs ≡ true → (x : X) × Contains xs x × (p x ≡ true)
any_found p [] h = absurd (false≢true h)
any_found p (y ∷ xs) h =
    elim (or_cases (p y) (list_any p xs) h) [
      | inl e ↦ (y, (0, omega arith, refl), e)
      | inr more ↦ let found = any_found p xs more in (found.0, Contains-append_right (y ∷ []) xs found.0 found.1, found.2)
    ]

-- lists of faults of containment

part_same : (a b : Bool) (c : Word) → a ≡ b → map (λ (w : Word). site F11 (start_of w)) (cond (not (not a)) (c ∷ []) [])
    ≡ map (λ (w : Word). site F11 (start_of w)) (cond (not (not b)) (c ∷ []) [])
part_same a b c e = ap (λ t. map (λ (w : Word). site F11 (start_of w)) (cond (not (not t)) (c ∷ []) [])) e

parts_same : (A B : Word → Bool) (ps : List RefinementItemTree)
    → ((sub : SubDeclaration) → Contains (sub_declarations ps) sub → A sub.component ≡ B sub.component)
    → flat_map (containment_of_part A) ps ≡ flat_map (containment_of_part B) ps
parts_same A B [] h = refl
parts_same A B (Sub name component ∷ ps) h =
    let sub : SubDeclaration = record { name = name; component = component } in
    let here = part_same (A component) (B component) component (h sub (0, omega arith, refl)) in
    let rest = parts_same A B ps (λ s has. h s (Contains-append_right (sub ∷ []) (sub_declarations ps) s has)) in
    λ j. here j ++ rest j
parts_same A B (Connection target source ∷ ps) h = parts_same A B ps h
parts_same A B (Refined name listed ∷ ps) h = parts_same A B ps h

pub append_empty : (xs ys : List FaultSite) → xs ++ ys ≡ [] → (xs ≡ []) × (ys ≡ [])
append_empty [] ys e = (refl, e)
append_empty (x ∷ xs) ys e = cc

part_none : (a : Bool) (c : Word) → map (λ (w : Word). site F11 (start_of w)) (cond (not (not a)) (c ∷ []) []) ≡ []
    → a ≡ false
part_none true c e = cc
part_none false c e = refl

parts_none : (A : Word → Bool) (ps : List RefinementItemTree) → flat_map (containment_of_part A) ps ≡ []
    → (sub : SubDeclaration) → Contains (sub_declarations ps) sub → A sub.component ≡ false
parts_none A [] none sub has = absurd (omega (arith, has.1))
parts_none A (Sub name component ∷ ps) none sub has =
    let first : SubDeclaration = record { name = name; component = component } in
    let both = append_empty (containment_of_part A (Sub name component)) (flat_map (containment_of_part A) ps) none in
    elim (Contains-append_cases (first ∷ []) (sub_declarations ps) sub has) [
      | inl one ↦
          let zero_at : one.0 ≡ 0 = omega (arith, one.1) in
          let same : first ≡ sub = sym (ap (λ i. get_or (first ∷ []) i sub) zero_at) ∙ one.2 in
          subst (λ (s : SubDeclaration). A s.component ≡ false) same (part_none (A component) component both.0)
      | inr more ↦ parts_none A ps both.1 sub more
    ]
parts_none A (Connection target source ∷ ps) none sub has = parts_none A ps none sub has
parts_none A (Refined name listed ∷ ps) none sub has = parts_none A ps none sub has

no_lead : (L : ℕ → Word → Bool) (cs : List Component) (place u : ℕ) → containment_from L place cs ≡ []
    → (sub : SubDeclaration) → Contains (sub_declarations (parts_at cs u)) sub → L (place + u) sub.component ≡ false
no_lead L [] place u none sub has = absurd (omega (arith, has.1))
no_lead L (c ∷ cs) place zero none sub has =
    let both = append_empty (flat_map (containment_of_part (L place)) (refinement_parts c)) (containment_from L (place + 1) cs) none in
    let at : place ≡ place + 0 = omega arith in
    subst (λ n. L n sub.component ≡ false) at (parts_none (L place) (refinement_parts c) both.0 sub has)
no_lead L (c ∷ cs) place (suc u) none sub has =
    let both = append_empty (flat_map (containment_of_part (L place)) (refinement_parts c)) (containment_from L (place + 1) cs) none in
    let at : (place + 1) + u ≡ place + suc u = omega arith in
    subst (λ n. L n sub.component ≡ false) at (no_lead L cs (place + 1) u both.1 sub has)

parts_seam : (pre : List Component) (c : Component) (cs : List Component)
    → parts_at (pre ++ c ∷ cs) (length pre) ≡ refinement_parts c
parts_seam [] c cs = refl
parts_seam (d ∷ pre) c cs = parts_seam pre c cs

-- the graph of the tables

targets_at : (all : List Component) (cs : List Component) (ts : List RefinementTables) (u : ℕ)
    → AreRefinements all cs ts
    → targets (map inner_of ts) u ≡ filter_map (λ o. o)
    (map (λ (sub : SubDeclaration). component_place all sub.component.text) (sub_declarations (parts_at cs u)))
targets_at all [] [] u are = refl
targets_at all [] (t ∷ ts) u are = absurd are
targets_at all (c ∷ cs) [] u are = absurd are
targets_at all (c ∷ cs) (t ∷ ts) zero are = ap (filter_map (λ o. o)) are.0.places
targets_at all (c ∷ cs) (t ∷ ts) (suc u) are = targets_at all cs ts u are.1

tables_length : (all : List Component) (cs : List Component) (ts : List RefinementTables) → AreRefinements all cs ts
    → length ts ≡ length cs
tables_length all [] [] are = refl
tables_length all [] (t ∷ ts) are = absurd are
tables_length all (c ∷ cs) [] are = absurd are
tables_length all (c ∷ cs) (t ∷ ts) are = ap suc (tables_length all cs ts are.1)

module _ (all : List Component) (ts : List RefinementTables) (are : AreRefinements all all ts) where
  abbrev graph : List (List ℕ)
  graph = map inner_of ts

  pub graph_length : length graph ≡ length all
  graph_length = length-map ts inner_of ∙ tables_length all all ts are

  subs_any : (u v : ℕ) → list_any (λ o. option_map_or (nat_eq v) o false)
      (map (λ (sub : SubDeclaration). component_place all sub.component.text) (sub_declarations (parts_at all u))) ≡
      has_sub all u v
  subs_any u v = list_any-map (λ o. option_map_or (nat_eq v) o false) (λ (sub : SubDeclaration). component_place all sub.component.text)
      (sub_declarations (parts_at all u))

  pub edge_is_sub : (u v : ℕ) → HasEdge graph u v → has_sub all u v ≡ true
  edge_is_sub u v e = sym (subs_any u v) ∙ places_are (map (λ (sub : SubDeclaration). component_place all sub.component.text)
      (sub_declarations (parts_at all u))) v (subst (λ list. Contains list v) (targets_at all all ts u are) e)

  pub sub_is_edge : (u v : ℕ) → has_sub all u v ≡ true → HasEdge graph u v
  sub_is_edge u v h = subst (λ list. Contains list v) (sym (targets_at all all ts u are))
      (places_have (map (λ (sub : SubDeclaration). component_place all sub.component.text) (sub_declarations (parts_at all u))) v (subs_any u v ∙ h))

  -- the component of a subcomponent that exists is one of the components
  sub_inside : (v : ℕ) (subs : List SubDeclaration) → list_any (is_sub_of all v) subs ≡ true → v < length all
  sub_inside v [] h = absurd (false≢true h)
  sub_inside v (sub ∷ subs) h =
      elim (or_cases (is_sub_of all v sub) (list_any (is_sub_of all v) subs) h) [
        | inl e ↦ within (component_place all sub.component.text) refl e
        | inr more ↦ sub_inside v subs more
      ]
    where
      within : (o : Option ℕ) → component_place all sub.component.text ≡ o → option_map_or (nat_eq v) o false ≡ true
          → v < length all
      within None e h = absurd (false≢true h)
      within (Some x) e h = subst (λ (y : ℕ). y < length all) (sym (eqb-true v x h))
          (position_within (λ (c : Component). is_named sub.component.text c.name) all x e)

  pub graph_inside : IsInside graph
  graph_inside u v e = subst (λ n. v < n) (sym graph_length) (sub_inside v (sub_declarations (parts_at all u)) (edge_is_sub u v e))

  -- containment is to lead along edges

  below_leads : (n u v : ℕ) → contains_below all n u v ≡ true → LeadsTo graph u v
  below_leads zero u v h = leads_edge graph u v (sub_is_edge u v h)
  below_leads (suc n) u v h =
      elim (or_cases (contains_below all n u v) (contains_below all n u n && contains_below all n n v) h) [
        | inl direct ↦ below_leads n u v direct
        | inr both ↦
            let parts = and_parts (contains_below all n u n) (contains_below all n n v) both in
            leads_on graph u n v (below_leads n u n parts.0) (below_leads n n v parts.1)
      ]

  direct_below : (n u v : ℕ) → has_sub all u v ≡ true → contains_below all n u v ≡ true
  direct_below zero u v h = h
  direct_below (suc n) u v h = or_left (contains_below all n u v) (contains_below all n u n && contains_below all n n v) (direct_below n u v h)

  -- through a node below n
  below_on : (n a x b : ℕ) → x < n → contains_below all n a x ≡ true → contains_below all n x b ≡ true
      → contains_below all n a b ≡ true
  below_on zero a x b l h k = absurd (omega arith)
  below_on (suc n) a x b l h k =
      elim (cases_eq x n) [
        | inl e ↦ through (at_left (subst (λ (y : ℕ). contains_below all (suc n) a y ≡ true) e h))
            (at_right (subst (λ (y : ℕ). contains_below all (suc n) y b ≡ true) e k))
        | inr d ↦
            let lx : x < n = omega (arith, l, d) in
            elim (or_cases (contains_below all n a x) (contains_below all n a n && contains_below all n n x) h) [
              | inl ax ↦ elim (or_cases (contains_below all n x b) (contains_below all n x n && contains_below all n n b) k) [
                | inl xb ↦ or_left (contains_below all n a b) (contains_below all n a n && contains_below all n n b) (below_on n a x b lx ax xb)
                | inr xnb ↦ let q = and_parts (contains_below all n x n) (contains_below all n n b) xnb in through (below_on n a x n lx ax q.0) q.1
              ]
              | inr anx ↦
                  let p = and_parts (contains_below all n a n) (contains_below all n n x) anx in
                  elim (or_cases (contains_below all n x b) (contains_below all n x n && contains_below all n n b) k) [
                    | inl xb ↦ through p.0 (below_on n n x b lx p.1 xb)
                    | inr xnb ↦ let q = and_parts (contains_below all n x n) (contains_below all n n b) xnb in through p.0 q.1
                  ]
            ]
      ]
    where
      through : contains_below all n a n ≡ true → contains_below all n n b ≡ true
          → contains_below all (suc n) a b ≡ true
      through p q = or_right (contains_below all n a b) (contains_below all n a n && contains_below all n n b)
          (and_from (contains_below all n a n) (contains_below all n n b) p q)

      at_left : contains_below all (suc n) a n ≡ true → contains_below all n a n ≡ true
      at_left p = elim (or_cases (contains_below all n a n) (contains_below all n a n && contains_below all n n n) p) [
        | inl q ↦ q
        | inr both ↦ (and_parts (contains_below all n a n) (contains_below all n n n) both).0
      ]

      at_right : contains_below all (suc n) n b ≡ true → contains_below all n n b ≡ true
      at_right p = elim (or_cases (contains_below all n n b) (contains_below all n n n && contains_below all n n b) p) [
        | inl q ↦ q
        | inr both ↦ (and_parts (contains_below all n n n) (contains_below all n n b) both).1
      ]

  runs_contains : (u x : ℕ) (xs : List ℕ) (v : ℕ) → HasEdge graph u x → RunsThrough graph x xs v
      → contains all u v ≡ true
  runs_contains u x [] v e same = subst (λ (y : ℕ). contains all u y ≡ true) same (direct_below (length all) u x (edge_is_sub u x e))
  runs_contains u x (y ∷ xs) v e run =
      below_on (length all) u x v (subst (λ n. x < n) graph_length (graph_inside u x e))
      (direct_below (length all) u x (edge_is_sub u x e)) (runs_contains x y xs v run.0 run.1)

  pub leads_contains : (u v : ℕ) → LeadsTo graph u v → (nat_eq u v || contains all u v) ≡ true
  leads_contains u v h = by h.0 h.1
    where
      by : (xs : List ℕ) → RunsThrough graph u xs v → (nat_eq u v || contains all u v) ≡ true
      by [] same = or_left (nat_eq u v) (contains all u v) (eq-eqb u v same)
      by (x ∷ xs) run = or_right (nat_eq u v) (contains all u v) (runs_contains u x xs v run.0 run.1)

  -- ranks

  module _ (ranks : List ℕ) (ranking : IsRanking graph ranks) where
    abbrev rank : ℕ → ℕ
    rank u = get_or ranks u 0

    edge_from : (u v : ℕ) → HasEdge graph u v → u < length graph
    edge_from u v e =
        elim (cases_lt u (length graph)) [
          | inl h ↦ h
          | inr past ↦ let none : targets graph u ≡ [] = get_or-eq_default graph [] past in let h : Contains [] v = subst (λ list. Contains list v) none e in
              absurd (omega (arith, h.1))
        ]

    runs_fall : (u : ℕ) (xs : List ℕ) (v : ℕ) → RunsThrough graph u xs v → rank v ≤ rank u
    runs_fall u [] v same = subst (λ (x : ℕ). rank x ≤ rank u) same (omega arith)
    runs_fall u (x ∷ xs) v run =
        let one = ranking.falls u x (edge_from u x run.0) run.0 in
        let rest = runs_fall x xs v run.1 in
        omega (arith, one, rest)

    leads_ranks : (own p : ℕ) → own < length all → HasEdge graph own p
        → nat_eq (rank p) (rank own) ≡ (nat_eq p own || contains all p own)
    leads_ranks own p lo e =
        same_tests (nat_eq (rank p) (rank own)) (nat_eq p own || contains all p own)
        (λ h. leads_contains p own (ranking.same p own (graph_inside own p e) (subst (λ n. own < n) (sym graph_length) lo) (eqb-true (rank p) (rank own) h)))
        (λ h.
        let down = ranking.falls own p (subst (λ n. own < n) (sym graph_length) lo) e in
        elim (or_cases (nat_eq p own) (contains all p own) h) [
          | inl same ↦ eq-eqb (rank p) (rank own) (ap rank (eqb-true p own same))
          | inr more ↦
              let lead = below_leads (length all) p own more in
              let up = runs_fall p lead.0 own lead.1 in
              eq-eqb (rank p) (rank own) (omega (arith, down, up))
        ])
      where
        same_tests : (a b : Bool) → (a ≡ true → b ≡ true) → (b ≡ true → a ≡ true) → a ≡ b
        same_tests true b f g = sym (f refl)
        same_tests false true f g = g refl
        same_tests false false f g = refl

    -- what is noted by ranks is what contains itself

    module _ (names : List (List ℕ × ℕ)) (tells : (text : List ℕ) → entry_place names text ≡ component_place all text)
      where
        by_place : (own : ℕ) (o : Option ℕ) → ((p : ℕ) → o ≡ Some p → HasEdge graph own p) → own < length all
            → option_map_or (λ r. nat_eq r (get_or ranks own 0)) (option_and_then (slice_get ranks) o) false ≡
            option_map_or (λ place. nat_eq place own || contains all place own) o false
        by_place own None edge lo = refl
        by_place own (Some p) edge lo =
            let e = edge p refl in
            let lp : p < length ranks = subst (λ n. p < n) (sym ranking.count) (graph_inside own p e) in
            ap (λ o. option_map_or (λ r. nat_eq r (get_or ranks own 0)) o false) (slice_get-get_or ranks p 0 lp) ∙ leads_ranks own p lo e

        word_leads : (own : ℕ) → own < length all → (sub : SubDeclaration)
            → Contains (sub_declarations (parts_at all own)) sub
            → leads_word names ranks own sub.component ≡ leads_back all own sub.component
        word_leads own lo sub has =
            ap (λ o. option_map_or (λ r. nat_eq r (get_or ranks own 0)) (option_and_then (slice_get ranks) o) false) (tells sub.component.text)
            ∙ by_place own (component_place all sub.component.text)
            (λ p at. sub_is_edge own p (any_has (is_sub_of all p) (sub_declarations (parts_at all own)) sub has
            (ap (λ o. option_map_or (nat_eq p) o false) at ∙ eq-eqb p p refl))) lo

        from_same : (pre cs : List Component) → all ≡ pre ++ cs
            → containment_from (leads_word names ranks) (length pre) cs ≡ containment_from (leads_back all) (length pre)
            cs
        from_same pre [] split = refl
        from_same pre (c ∷ cs) split =
            let lo : length pre < length all = subst (λ list. length pre < length list) (sym split)
            (subst (λ n. length pre < n) (sym (length-append pre (c ∷ cs))) (omega arith)) in
            let here : refinement_parts c ≡ parts_at all (length pre) = sym (ap (λ list. parts_at list (length pre)) split ∙ parts_seam pre c cs) in
            let more : length (pre ++ c ∷ []) ≡ length pre + 1 = length-append pre (c ∷ []) in
            let rest = from_same (pre ++ c ∷ []) cs (split ∙ sym (append_assoc pre (c ∷ []) cs)) in
            (λ j.
            parts_same (leads_word names ranks (length pre)) (leads_back all (length pre)) (refinement_parts c)
            (λ sub has. word_leads (length pre) lo sub (subst (λ ps. Contains (sub_declarations ps) sub) here has)) j
            ++ (subst (λ n. containment_from (leads_word names ranks) n cs ≡ containment_from (leads_back all) n cs) more rest) j)

        pub containment_is : containment_from (leads_word names ranks) 0 all ≡ containment_faults all
        containment_is = from_same [] all refl

    -- and where nothing does, ranks fall

    pub ranks_fall : containment_faults all ≡ [] → RanksFall all ranks
    ranks_fall none = record {
      count = ranking.count ∙ graph_length;
      falls = λ outer inner lo h.
          let found = any_found (is_sub_of all inner) (sub_declarations (parts_at all outer)) h in
          let e = sub_is_edge outer inner h in
          let apart : leads_back all (0 + outer) found.0.component ≡ false = no_lead (leads_back all) all 0 outer none found.0 found.1 in
          let same : nat_eq (rank inner) (rank outer) ≡ false =
          leads_ranks outer inner lo e
          ∙ (sym (place_test outer inner (component_place all found.0.component.text) found.2) ∙
          (ap (λ n. leads_back all n found.0.component) (plus_zero outer) ∙ apart)) in
          let down = ranking.falls outer inner (subst (λ n. outer < n) (sym graph_length) lo) e in
          elim (cases_lt (rank inner) (rank outer)) [
            | inl less ↦ less
            | inr upto ↦ absurd (false≢true (sym same ∙ eq-eqb (rank inner) (rank outer) (omega (arith, down, upto))))
          ];
    }
      where
        place_test : (own v : ℕ) (o : Option ℕ) → option_map_or (nat_eq v) o false ≡ true
            → option_map_or (λ place. nat_eq place own || contains all place own) o false ≡
            (nat_eq v own || contains all v own)
        place_test own v None h = absurd (false≢true h)
        place_test own v (Some x) h = ap (λ y. nat_eq y own || contains all y own) (sym (eqb-true v x h))

        plus_zero : (n : ℕ) → n ≡ 0 + n
        plus_zero n = omega arith
