-- Where no component contains itself, how many components each one contains falls along subcomponents.
use Rattle.std.proofs.Common.{◌≡◌, ℕ, zero, suc, ◌+◌, ◌<◌, ◌≤◌, inl, inr, Bool, true, false, not, cond, ◌||◌, ◌&&◌, List, [], ◌∷◌, length, map, nat_eq}
use Rattle.std.proofs.Common.{Option, Some, None, refl, sym, ap, subst, ◌∙◌, arith}
use Rattle.std.specs.Prelude.{flat_map}
use Rattle.std.specs.List.{list_any, count_by, range_with_len}
use Rattle.std.specs.Option.{option_map_or}
use Rattle.std.proofs.lemmas.Bool.{false≢true, and_parts, and_from, or_cases, or_left, or_right, eqb-true, eq-eqb, cases_eq}
use Rattle.std.proofs.lemmas.List.Sums.{sum_by-cons}
use Rattle.oss_base.specs.declared.fault.FaultKind.TheVariants.{F11}
use Rattle.oss_syntax.specs.Trees.{RefinementItemTree, Sub, Connection, Refined, Component}
use Rattle.oss_syntax.specs.declared.words.Word.{Word}
use Rattle.spec_names.specs.NamesFaults.{site, start_of, parts_at, is_sub_of, has_sub, contains_below, contains, leads_back, containment_of_part}
use Rattle.spec_names.specs.NamesFaults.{containment_from, containment_faults}
use Rattle.spec_names.specs.Scopes.{is_named, component_place, refinement_parts, SubDeclaration, sub_declarations}
use Rattle.spec_names.proofs.Lists.{position_within}
use Rattle.architecture.proofs.Listing.{Each, both_empty}

-- a test that no subcomponent passes

part_free : (a : Bool) (w : Word) → map (λ (v : Word). site F11 (start_of v)) (cond (not (not a)) (w ∷ []) []) ≡ [] → a
    ≡ false
part_free true w e = cc
part_free false w e = refl

parts_free : (leads : Word → Bool) (parts : List RefinementItemTree) → flat_map (containment_of_part leads) parts ≡ []
    → Each (λ (sub : SubDeclaration). leads sub.component ≡ false) (sub_declarations parts)
parts_free leads [] e = tt
parts_free leads (Sub name component ∷ parts) e =
    let both = both_empty (containment_of_part leads (Sub name component)) (flat_map (containment_of_part leads) parts) e in
    (part_free (leads component) component both.0, parts_free leads parts both.1)
parts_free leads (Connection target source ∷ parts) e = parts_free leads parts e
parts_free leads (Refined name listed ∷ parts) e = parts_free leads parts e

free_from : (leads : ℕ → Word → Bool) (cs : List Component) (place outer : ℕ) → containment_from leads place cs ≡ []
    → Each (λ (sub : SubDeclaration). leads (place + outer) sub.component ≡ false)
    (sub_declarations (parts_at cs outer))
free_from leads [] place zero e = tt
free_from leads [] place (suc outer) e = tt
free_from leads (c ∷ cs) place zero e =
    let both = both_empty (flat_map (containment_of_part (leads place)) (refinement_parts c)) (containment_from leads (place + 1) cs) e in
    let here : place ≡ place + 0 = omega arith in
    subst (λ (n : ℕ). Each (λ (sub : SubDeclaration). leads n sub.component ≡ false) (sub_declarations (refinement_parts c))) here
    (parts_free (leads place) (refinement_parts c) both.0)
free_from leads (c ∷ cs) place (suc outer) e =
    let both = both_empty (flat_map (containment_of_part (leads place)) (refinement_parts c)) (containment_from leads (place + 1) cs) e in
    let here : place + 1 + outer ≡ place + suc outer = omega arith in
    subst (λ (n : ℕ). Each (λ (sub : SubDeclaration). leads n sub.component ≡ false) (sub_declarations (parts_at cs outer))) here
    (free_from leads cs (place + 1) outer both.1)

-- how many pass, of two tests

abbrev bit : Bool → ℕ
bit b = cond b 1 0

one_le : (a b : Bool) → (a ≡ true → b ≡ true) → bit a ≤ bit b
one_le true b so = subst (λ (t : Bool). 1 ≤ bit t) (sym (so refl)) (omega arith)
one_le false b so = omega arith

count_le : (p q : ℕ → Bool) → ((n : ℕ) → p n ≡ true → q n ≡ true) → (xs : List ℕ) → count_by p xs ≤ count_by q xs
count_le p q so [] = omega arith
count_le p q so (x ∷ xs) =
    let one = one_le (p x) (q x) (so x) in
    let rest = count_le p q so xs in
    let a = sum_by-cons (λ (n : ℕ). bit (p n)) x xs in
    let b = sum_by-cons (λ (n : ℕ). bit (q n)) x xs in
    omega (arith, one, rest, a, b)

count_less : (p q : ℕ → Bool) → ((n : ℕ) → p n ≡ true → q n ≡ true) → (m : ℕ) → p m ≡ false → q m ≡ true
    → (start n : ℕ) → start ≤ m → m < start + n → count_by p (range_with_len start n) < count_by q
    (range_with_len start n)
count_less p q so m not_p is_q start zero low high = absurd (omega arith)
count_less p q so m not_p is_q start (suc n) low high =
    let a = sum_by-cons (λ (k : ℕ). bit (p k)) start (range_with_len (start + 1) n) in
    let b = sum_by-cons (λ (k : ℕ). bit (q k)) start (range_with_len (start + 1) n) in
    elim (cases_eq start m) [
      | inl e ↦
          let none : bit (p start) ≡ 0 = ap (λ (k : ℕ). bit (p k)) e ∙ ap bit not_p in
          let one : bit (q start) ≡ 1 = ap (λ (k : ℕ). bit (q k)) e ∙ ap bit is_q in
          let rest = count_le p q so (range_with_len (start + 1) n) in
          omega (arith, none, one, rest, a, b)
      | inr d ↦
          let one = one_le (p start) (q start) (so start) in
          let rest = count_less p q so m not_p is_q (start + 1) n (omega (arith, low, d)) (omega (arith, high)) in
          omega (arith, one, rest, a, b)
    ]

module _ (all : List Component) where
  -- the component of a subcomponent is one of the components
  inner_within : (inner : ℕ) (subs : List SubDeclaration) → list_any (is_sub_of all inner) subs ≡ true
      → inner < length all
  inner_within inner [] h = absurd (false≢true h)
  inner_within inner (sub ∷ subs) h =
      elim (or_cases (is_sub_of all inner sub) (list_any (is_sub_of all inner) subs) h) [
        | inl e ↦ within (component_place all sub.component.text) refl e
        | inr more ↦ inner_within inner subs more
      ]
    where
      within : (o : Option ℕ) → component_place all sub.component.text ≡ o → option_map_or (nat_eq inner) o false ≡ true
          → inner < length all
      within None e h = absurd (false≢true h)
      within (Some x) e h = subst (λ (y : ℕ). y < length all) (sym (eqb-true inner x h))
          (position_within (λ (c : Component). is_named sub.component.text c.name) all x e)

  -- what is contained, is through a subcomponent
  pub record First (n outer inner : ℕ) : Type 0 where
    pub sub : ℕ
    pub has : has_sub all outer sub ≡ true
    pub on : (nat_eq sub inner || contains_below all n sub inner) ≡ true

  first_step : (n outer inner : ℕ) → contains_below all n outer inner ≡ true → First n outer inner
  first_step zero outer inner h = record { sub = inner; has = h; on = or_left (nat_eq inner inner) (has_sub all inner inner) (eq-eqb inner inner refl) }
  first_step (suc n) outer inner h =
      elim (or_cases (contains_below all n outer inner) (contains_below all n outer n && contains_below all n n inner) h) [
        | inl direct ↦
            let f = first_step n outer inner direct in
            record {
              sub = f.sub;
              has = f.has;
              on = elim (or_cases (nat_eq f.sub inner) (contains_below all n f.sub inner) f.on) [
                | inl same ↦ or_left (nat_eq f.sub inner) (contains_below all (suc n) f.sub inner) same
                | inr more ↦ or_right (nat_eq f.sub inner) (contains_below all (suc n) f.sub inner)
                    (or_left (contains_below all n f.sub inner) (contains_below all n f.sub n && contains_below all n n inner) more)
              ];
            }
        | inr both ↦
            let parts = and_parts (contains_below all n outer n) (contains_below all n n inner) both in
            let f = first_step n outer n parts.0 in
            record {
              sub = f.sub;
              has = f.has;
              on = or_right (nat_eq f.sub inner) (contains_below all (suc n) f.sub inner)
                  (elim (or_cases (nat_eq f.sub n) (contains_below all n f.sub n) f.on) [
                    | inl same ↦ or_left (contains_below all n f.sub inner) (contains_below all n f.sub n && contains_below all n n inner)
                        (subst (λ (k : ℕ). contains_below all n k inner ≡ true) (sym (eqb-true f.sub n same)) parts.1)
                    | inr more ↦ or_right (contains_below all n f.sub inner) (contains_below all n f.sub n && contains_below all n n inner)
                        (and_from (contains_below all n f.sub n) (contains_below all n n inner) more parts.1)
                  ]);
            }
      ]

  direct : (n outer inner : ℕ) → has_sub all outer inner ≡ true → contains_below all n outer inner ≡ true
  direct zero outer inner h = h
  direct (suc n) outer inner h =
      or_left (contains_below all n outer inner) (contains_below all n outer n && contains_below all n n inner) (direct n outer inner h)

  -- through a component below n
  through_below : (n a x b : ℕ) → x < n → contains_below all n a x ≡ true → contains_below all n x b ≡ true
      → contains_below all n a b ≡ true
  through_below zero a x b l h k = absurd (omega arith)
  through_below (suc n) a x b l h k =
      elim (cases_eq x n) [
        | inl e ↦ join (to_last (subst (λ (y : ℕ). contains_below all (suc n) a y ≡ true) e h))
            (from_last (subst (λ (y : ℕ). contains_below all (suc n) y b ≡ true) e k))
        | inr d ↦
            let lx : x < n = omega (arith, l, d) in
            elim (or_cases (contains_below all n a x) (contains_below all n a n && contains_below all n n x) h) [
              | inl ax ↦ elim (or_cases (contains_below all n x b) (contains_below all n x n && contains_below all n n b) k) [
                | inl xb ↦ or_left (contains_below all n a b) (contains_below all n a n && contains_below all n n b) (through_below n a x b lx ax xb)
                | inr xnb ↦ let q = and_parts (contains_below all n x n) (contains_below all n n b) xnb in join (through_below n a x n lx ax q.0) q.1
              ]
              | inr anx ↦
                  let p = and_parts (contains_below all n a n) (contains_below all n n x) anx in
                  elim (or_cases (contains_below all n x b) (contains_below all n x n && contains_below all n n b) k) [
                    | inl xb ↦ join p.0 (through_below n n x b lx p.1 xb)
                    | inr xnb ↦ let q = and_parts (contains_below all n x n) (contains_below all n n b) xnb in join p.0 q.1
                  ]
            ]
      ]
    where
      join : contains_below all n a n ≡ true → contains_below all n n b ≡ true → contains_below all (suc n) a b ≡ true
      join p q = or_right (contains_below all n a b) (contains_below all n a n && contains_below all n n b)
          (and_from (contains_below all n a n) (contains_below all n n b) p q)

      to_last : contains_below all (suc n) a n ≡ true → contains_below all n a n ≡ true
      to_last p = elim (or_cases (contains_below all n a n) (contains_below all n a n && contains_below all n n n) p) [
        | inl q ↦ q
        | inr both ↦ (and_parts (contains_below all n a n) (contains_below all n n n) both).0
      ]

      from_last : contains_below all (suc n) n b ≡ true → contains_below all n n b ≡ true
      from_last p = elim (or_cases (contains_below all n n b) (contains_below all n n n && contains_below all n n b) p) [
        | inl q ↦ q
        | inr both ↦ (and_parts (contains_below all n n n) (contains_below all n n b) both).1
      ]

  -- how many components one contains
  abbrev pub contained : ℕ → ℕ
  contained place = count_by (contains all place) (range_with_len 0 (length all))

  module _ (none : containment_faults all ≡ []) where
    -- no subcomponent leads back
    none_back : (outer inner : ℕ) (subs : List SubDeclaration)
        → Each (λ (sub : SubDeclaration). leads_back all outer sub.component ≡ false) subs → list_any
        (is_sub_of all inner) subs ≡ true
        → (nat_eq inner outer || contains all inner outer) ≡ false
    none_back outer inner [] each h = absurd (false≢true h)
    none_back outer inner (sub ∷ subs) each h =
        elim (or_cases (is_sub_of all inner sub) (list_any (is_sub_of all inner) subs) h) [
          | inl here ↦ by (component_place all sub.component.text) each.0 here
          | inr more ↦ none_back outer inner subs each.1 more
        ]
      where
        by : (o : Option ℕ) → option_map_or (λ (place : ℕ). nat_eq place outer || contains all place outer) o false
            ≡ false
            → option_map_or (nat_eq inner) o false ≡ true → (nat_eq inner outer || contains all inner outer) ≡ false
        by None free is = absurd (false≢true is)
        by (Some x) free is = subst (λ (y : ℕ). (nat_eq y outer || contains all y outer) ≡ false) (sym (eqb-true inner x is)) free

    not_back : (outer inner : ℕ) → has_sub all outer inner ≡ true → (nat_eq inner outer || contains all inner outer)
        ≡ false
    not_back outer inner h =
        let here : 0 + outer ≡ outer = omega arith in
        none_back outer inner (sub_declarations (parts_at all outer))
        (subst (λ (n : ℕ). Each (λ (sub : SubDeclaration). leads_back all n sub.component ≡ false) (sub_declarations (parts_at all outer))) here
        (free_from (leads_back all) all 0 outer none)) h

    not_itself : (place : ℕ) (b : Bool) → contains all place place ≡ b → b ≡ false
    not_itself place false e = refl
    not_itself place true e =
        let f = first_step (length all) place place e in
        absurd (false≢true (sym (not_back place f.sub f.has) ∙ f.on))

    pub contained_falls : (outer inner : ℕ) → has_sub all outer inner ≡ true → contained inner < contained outer
    contained_falls outer inner h =
        let within = inner_within inner (sub_declarations (parts_at all outer)) h in
        let has = direct (length all) outer inner h in
        let free = not_itself inner (contains all inner inner) refl in
        count_less (contains all inner) (contains all outer)
        (λ n more. through_below (length all) outer inner n within has more)
        inner free has 0 (length all) (omega arith) (omega (arith, within))
