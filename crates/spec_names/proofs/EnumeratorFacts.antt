-- The index from enumerators to components tells what the tables of the interfaces tell.
use Rattle.std.proofs.Common.{◌≡◌, ℕ, zero, suc, ◌+◌, ◌<◌, ◌⊎◌, inl, inr, Bool, true, false, ◌||◌, ◌&&◌, cond, List, [], ◌∷◌, ◌++◌, length, map, take, get_or}
use Rattle.std.proofs.Common.{set, nat_eq, slice_get, Option, Some, None, is_some, option_and_then, bytes_eq, refl, sym, ap, subst, ◌∙◌, arith}
use Rattle.std.proofs.Math.Bool.{or-false}
use Rattle.std.proofs.Math.Dec.{eqb-suc-zero, eqb-suc-suc, eqb-zero-suc}
use Rattle.std.proofs.Math.ListN.{get_or-append}
use Rattle.std.proofs.Math.Seq.{get_or-append_seam}
use Rattle.std.proofs.lemmas.Bool.{cases_eq, false≢true, eqb-true}
use Rattle.std.proofs.lemmas.Cmp.{nat_eq_equiv}
use Rattle.std.proofs.lemmas.List.{length-append, length-map, length-set, length-take-le, get_or-set_same, get_or-set_other}
use Rattle.std.proofs.lemmas.List.Folds.{list_any-append, list_any_more, flat_map-map}
use Rattle.std.proofs.lemmas.Option.{none-some, slice_get-get_or}
use Rattle.std.proofs.lemmas.Slice.Eq.{bytes_eq-Decides}
use Rattle.std.specs.List.{list_any, flat_map}
use Rattle.std.specs.Option.{option_map_or, option_or}
use Rattle.indexmap.specs.IndexSet.{insert_key}
use Rattle.oss_syntax.specs.declared.component.TreeComponent.{TreeComponent}
use Rattle.oss_syntax.specs.declared.words.Word.{Word}
use Rattle.oss_syntax.specs.Trees.{Component, component_tree, component_trees, item_tree}
use Rattle.spec_names.specs.declared.enumerators.EnumeratorIndex.{EnumeratorIndex}
use Rattle.spec_names.specs.declared.interfaces.InterfaceTables.{InterfaceTables}
use Rattle.spec_names.specs.Directory.{AreInterfaces}
use Rattle.spec_names.specs.Enumerators.{declarers_in, declares, IsIndex, HasDeclarer, HasDeclarerOfAll, IsIndexOf, Indexes, is_at, HasPlacesOf, HasPlaceOf}
use Rattle.spec_names.specs.Enumerators.{KnowsVisible}
use Rattle.spec_names.specs.Refinements.{Around, interface_in, has_enumerator_in}
use Rattle.spec_names.specs.Scopes.{is_named, item_enumerators, is_enumerator, interface_at}
use Rattle.spec_names.specs.Tables.{entry_place, with_place}
use Rattle.spec_names.specs.Words.{enumerators_of_item}
use Rattle.spec_names.proofs.Lists.{list_any-same, map_taken}
use Rattle.spec_names.proofs.RefinementFacts.{interface_fits, enumerator_fits}
use Rattle.spec_names.proofs.TableLemmas.{entry_place-with}

-- truth values

or_true : (b : Bool) → (b || true) ≡ true
or_true true = refl
or_true false = refl

and_false : (b : Bool) → (b && false) ≡ false
and_false true = refl
and_false false = refl

and_true : (b : Bool) → (b && true) ≡ b
and_true true = refl
and_true false = refl

some_same : (k n : ℕ) → Some k ≡ Some n → k ≡ n
some_same k n e = ap (λ o. option_map_or (λ (m : ℕ). m) o 0) e

-- a name is not another that has another answer
differs : (a b : List ℕ) → (a ≡ b → ⊥) → bytes_eq a b ≡ false
differs a b other = by (bytes_eq a b) refl
  where
    by : (t : Bool) → bytes_eq a b ≡ t → bytes_eq a b ≡ false
    by true e = absurd (other ((bytes_eq-Decides a b).0 e))
    by false e = e

-- the places at a number that may be missing

abbrev places_at : List (List ℕ) → Option ℕ → List ℕ
places_at rows number = option_map_or (λ (places : List ℕ). places) (option_and_then (slice_get rows) number) []

row_at : (rows : List (List ℕ)) (k : ℕ) → k < length rows → places_at rows (Some k) ≡ get_or rows k []
row_at rows k l = ap (λ o. option_map_or (λ (places : List ℕ). places) o []) (slice_get-get_or rows k [] l)

one_more : (p place : ℕ) (row : List ℕ)
    → list_any (nat_eq p) (row ++ place ∷ []) ≡ (list_any (nat_eq p) row || nat_eq p place)
one_more p place row =
    list_any-append (nat_eq p) row (place ∷ []) ∙ ap (λ b. list_any (nat_eq p) row || b) (or-false (nat_eq p place))

-- no names

pub empty_index : (index : EnumeratorIndex) → index.numbers ≡ [] → IsIndex index
empty_index index none = record {
  within = λ text k e. absurd (none-some k (sym (ap (λ t. entry_place t text) none) ∙ e));
  own = λ a b k e f. absurd (none-some k (sym (ap (λ t. entry_place t a) none) ∙ e));
}

pub empty_declares : (index : EnumeratorIndex) → index.numbers ≡ [] → (text : List ℕ) (p : ℕ) → declares index text p ≡ false
empty_declares index none text p = ap (λ t. list_any (nat_eq p) (places_at index.declarers.items (entry_place t text))) none

-- a name that has a number

module _ (old new : EnumeratorIndex) (name : List ℕ) (place g : ℕ) (index : IsIndex old) (at : entry_place old.numbers name ≡ Some g)
    (numbers : new.numbers ≡ old.numbers)
    (rows : new.declarers.items ≡ set old.declarers.items g (get_or old.declarers.items g [] ++ place ∷ [])) where
  pub found_index : IsIndex new
  found_index = record {
    within = λ text k e.
        let l = index.within text k (ap (λ t. entry_place t text) (sym numbers) ∙ e) in
        let n : length new.declarers.items ≡ length old.declarers.items = ap length rows ∙ length-set old.declarers.items g _ in
        subst (λ m. k < m) (sym n) l;
    own = λ a b k ea eb. index.own a b k (ap (λ t. entry_place t a) (sym numbers) ∙ ea) (ap (λ t. entry_place t b) (sym numbers) ∙ eb);
  }

  found_row : (text : List ℕ) (p k : ℕ) → entry_place old.numbers text ≡ Some k → (k ≡ g) ⊎ (k ≡ g → ⊥)
      → list_any (nat_eq p) (places_at (set old.declarers.items g (get_or old.declarers.items g [] ++ place ∷ []))
      (Some k))
      ≡ (list_any (nat_eq p) (places_at old.declarers.items (Some k)) || (bytes_eq text name && nat_eq p place))
  found_row text p k e (inl same) =
      let all = old.declarers.items in
      let row = get_or all g [] in
      let l : g < length all = index.within name g at in
      let named : bytes_eq text name ≡ true = (bytes_eq-Decides text name).1
      (index.own text name g (subst (λ n. entry_place old.numbers text ≡ Some n) same e) at) in
      let m : g < length (set all g (row ++ place ∷ [])) = subst (λ n. g < n) (sym (length-set all g (row ++ place ∷ []))) l in
      ap (λ n. list_any (nat_eq p) (places_at (set all g (row ++ place ∷ [])) (Some n))) same
      ∙ (ap (list_any (nat_eq p)) (row_at (set all g (row ++ place ∷ [])) g m ∙ get_or-set_same all g (row ++ place ∷ []) [] l)
      ∙ (one_more p place row
      ∙ (λ j. list_any (nat_eq p) (sym (ap (λ n. places_at all (Some n)) same ∙ row_at all g l) j) || (sym named j && nat_eq p place))))
  found_row text p k e (inr other) =
      let all = old.declarers.items in
      let row = get_or all g [] in
      let l : k < length all = index.within text k e in
      let m : k < length (set all g (row ++ place ∷ [])) = subst (λ n. k < n) (sym (length-set all g (row ++ place ∷ []))) l in
      let unnamed = differs text name (λ same. other (some_same k g (sym e ∙ (ap (entry_place old.numbers) same ∙ at)))) in
      ap (list_any (nat_eq p)) (row_at (set all g (row ++ place ∷ [])) k m ∙ (get_or-set_other all g k (row ++ place ∷ []) [] other ∙ sym (row_at all k l)))
      ∙ (sym (or-false (list_any (nat_eq p) (places_at all (Some k))))
      ∙ ap (λ b. list_any (nat_eq p) (places_at all (Some k)) || (b && nat_eq p place)) (sym unnamed))

  found_by : (text : List ℕ) (p : ℕ) (o : Option ℕ) → entry_place old.numbers text ≡ o
      → list_any (nat_eq p) (places_at (set old.declarers.items g (get_or old.declarers.items g [] ++ place ∷ [])) o)
      ≡ (list_any (nat_eq p) (places_at old.declarers.items o) || (bytes_eq text name && nat_eq p place))
  found_by text p None e =
      let unnamed = differs text name (λ same. none-some g (sym e ∙ (ap (entry_place old.numbers) same ∙ at))) in
      ap (λ b. b && nat_eq p place) (sym unnamed)
  found_by text p (Some k) e = found_row text p k e (cases_eq k g)

  pub found_declarer : HasDeclarer old new name place
  found_declarer text p =
      (λ j. list_any (nat_eq p) (places_at (rows j) (entry_place (numbers j) text))) ∙ found_by text p (entry_place old.numbers text) refl

-- a new name

absent_is : (o : Option ℕ) → is_some o ≡ false → o ≡ None
absent_is None e = refl
absent_is (Some k) e = absurd (false≢true (sym e))

module _ (old new : EnumeratorIndex) (name : List ℕ) (place : ℕ) (index : IsIndex old) (absent : is_some (entry_place old.numbers name) ≡ false)
    (numbers : new.numbers ≡ with_place old.numbers name (length old.declarers.items))
    (rows : new.declarers.items ≡ old.declarers.items ++ (place ∷ []) ∷ []) where
  abbrev n : ℕ
  n = length old.declarers.items

  none : entry_place old.numbers name ≡ None
  none = absent_is (entry_place old.numbers name) absent

  looked : (text : List ℕ) → entry_place new.numbers text ≡ option_or (entry_place old.numbers text)
      (cond (bytes_eq text name) (Some n) None)
  looked text = ap (λ t. entry_place t text) numbers ∙ entry_place-with old.numbers name text n

  longer : length new.declarers.items ≡ n + 1
  longer = ap length rows ∙ length-append old.declarers.items ((place ∷ []) ∷ [])

  -- where a number comes from: the old table, or the new name
  from : (text : List ℕ) (k : ℕ) (o : Option ℕ) (b : Bool) → entry_place old.numbers text ≡ o → bytes_eq text name ≡ b
      → option_or o (cond b (Some n) None) ≡ Some k
      → ((entry_place old.numbers text ≡ Some k) × (k < n)) ⊎ ((text ≡ name) × (k ≡ n))
  from text k None true e b at = inr ((bytes_eq-Decides text name).0 b, some_same k n (sym at))
  from text k None false e b at = absurd (none-some k at)
  from text k (Some q) b e t at =
      let found : entry_place old.numbers text ≡ Some k = e ∙ at in
      inl (found, index.within text k found)

  numbered : (text : List ℕ) (k : ℕ) → entry_place new.numbers text ≡ Some k
      → ((entry_place old.numbers text ≡ Some k) × (k < n)) ⊎ ((text ≡ name) × (k ≡ n))
  numbered text k at =
      from text k (entry_place old.numbers text) (bytes_eq text name) refl refl (sym (looked text) ∙ at)

  below : (text : List ℕ) (k : ℕ) → ((entry_place old.numbers text ≡ Some k) × (k < n)) ⊎ ((text ≡ name) × (k ≡ n))
      → k < length new.declarers.items
  below text k (inl (e, l)) = let m = longer in omega (arith, m, l)
  below text k (inr (e, l)) = let m = longer in omega (arith, m, l)

  same_name_of : (a b : List ℕ) (k : ℕ) → ((entry_place old.numbers a ≡ Some k) × (k < n)) ⊎ ((a ≡ name) × (k ≡ n))
      → ((entry_place old.numbers b ≡ Some k) × (k < n)) ⊎ ((b ≡ name) × (k ≡ n)) → a ≡ b
  same_name_of a b k (inl (ea, la)) (inl (eb, lb)) = index.own a b k ea eb
  same_name_of a b k (inl (ea, la)) (inr (eb, lb)) = absurd (omega (arith, la, lb))
  same_name_of a b k (inr (ea, la)) (inl (eb, lb)) = absurd (omega (arith, la, lb))
  same_name_of a b k (inr (ea, la)) (inr (eb, lb)) = ea ∙ sym eb

  pub new_index : IsIndex new
  new_index = record {
    within = λ text k e. below text k (numbered text k e);
    own = λ a b k ea eb. same_name_of a b k (numbered a k ea) (numbered b k eb);
  }

  new_by : (text : List ℕ) (p : ℕ) (o : Option ℕ) (b : Bool) → entry_place old.numbers text ≡ o → bytes_eq text name ≡ b
      → list_any (nat_eq p) (places_at (old.declarers.items ++ (place ∷ []) ∷ []) (option_or o (cond b (Some n) None)))
      ≡ (list_any (nat_eq p) (places_at old.declarers.items o) || (b && nat_eq p place))
  new_by text p None true e t =
      let all = old.declarers.items in
      let m : n < length (all ++ (place ∷ []) ∷ []) = let k = length-append all ((place ∷ []) ∷ []) in omega (arith, k) in
      ap (list_any (nat_eq p)) (row_at (all ++ (place ∷ []) ∷ []) n m ∙ get_or-append_seam all (place ∷ []) [] [])
      ∙ or-false (nat_eq p place)
  new_by text p None false e t = refl
  new_by text p (Some k) true e t =
      absurd (none-some k (sym none ∙ (ap (entry_place old.numbers) (sym ((bytes_eq-Decides text name).0 t)) ∙ e)))
  new_by text p (Some k) false e t =
      let all = old.declarers.items in
      let l : k < length all = index.within text k e in
      let m : k < length (all ++ (place ∷ []) ∷ []) = let h = length-append all ((place ∷ []) ∷ []) in omega (arith, h, l) in
      ap (list_any (nat_eq p)) (row_at (all ++ (place ∷ []) ∷ []) k m ∙ (get_or-append all ((place ∷ []) ∷ []) [] k l ∙ sym (row_at all k l)))
      ∙ sym (or-false (list_any (nat_eq p) (places_at all (Some k))))

  pub new_declarer : HasDeclarer old new name place
  new_declarer text p =
      (λ j. list_any (nat_eq p) (places_at (rows j) (looked text j)))
      ∙ new_by text p (entry_place old.numbers text) (bytes_eq text name) refl refl

-- several names

all_step : (s a b n : Bool) → ((s || (a && n)) || (b && n)) ≡ (s || ((a || b) && n))
all_step true a b n = refl
all_step false true true true = refl
all_step false true true false = refl
all_step false true false true = refl
all_step false true false false = refl
all_step false false b n = refl

pub all_start : (start : EnumeratorIndex) (place : ℕ) → HasDeclarerOfAll start start (λ text. false) place
all_start start place = λ text p. sym (or-false (declares start text p))

pub all_more : {W : Type 0} (f : W → Word) (words : List W) (i : ℕ) (w : W) (start old new : EnumeratorIndex)
    (name : List ℕ) (place : ℕ)
    → i < length words → w ≡ get_or words i w → name ≡ (f w).text
    → HasDeclarerOfAll start old (λ text. list_any (is_named text) (map f (take i words))) place
    → HasDeclarer old new name place
    → HasDeclarerOfAll start new (λ text. list_any (is_named text) (map f (take (i + 1) words))) place
all_more f words i w start old new name place l e named so more = λ text p.
    let before = list_any (is_named text) (map f (take i words)) in
    let taken : list_any (is_named text) (map f (take (i + 1) words)) ≡ (before || bytes_eq text (f w).text) =
    ap (list_any (is_named text)) (map_taken f words i w l e)
    ∙ (list_any-append (is_named text) (map f (take i words)) (f w ∷ []) ∙ ap (λ b. before || b) (or-false (bytes_eq text (f w).text))) in
    more text p
    ∙ ((λ j. so text p j || (bytes_eq text (named j) && nat_eq p place))
    ∙ (all_step (declares start text p) before (bytes_eq text (f w).text) (nat_eq p place)
    ∙ ap (λ b. declares start text p || (b && nat_eq p place)) (sym taken)))

-- one component more

interface_push : (components : List Component) (c : Component) (text : List ℕ) (p : ℕ)
    → (is_enumerator (interface_at components p) text ||
    (is_enumerator c.interface text && nat_eq p (length components)))
    ≡ is_enumerator (interface_at (components ++ c ∷ []) p) text
interface_push [] c text zero = and_true (is_enumerator c.interface text)
interface_push [] c text (suc p) =
    ap (λ b. is_enumerator c.interface text && b) (eqb-suc-zero p) ∙ and_false (is_enumerator c.interface text)
interface_push (d ∷ components) c text zero =
    ap (λ b. is_enumerator d.interface text || (is_enumerator c.interface text && b)) (eqb-zero-suc (length components))
    ∙ (ap (λ b. is_enumerator d.interface text || b) (and_false (is_enumerator c.interface text)) ∙ or-false (is_enumerator d.interface text))
interface_push (d ∷ components) c text (suc p) =
    ap (λ b. is_enumerator (interface_at components p) text || (is_enumerator c.interface text && b)) (eqb-suc-suc p (length components))
    ∙ interface_push components c text p

pub index_more : (comps : List TreeComponent) (i : ℕ) (c : TreeComponent) (old new : EnumeratorIndex)
    (words : List Word)
    → i < length comps → c ≡ get_or comps i c → words ≡ flat_map enumerators_of_item c.interface
    → IsIndexOf (component_trees (take i comps)) old → HasDeclarerOfAll old new
    (λ text. list_any (is_named text) words) i
    → IsIndexOf (component_trees (take (i + 1) comps)) new
index_more comps i c old new words l e names so more = λ text p.
    let cs : List Component = component_trees (take i comps) in
    let count : length cs ≡ i = length-map (take i comps) component_tree ∙ length-take-le i comps (omega (arith, l)) in
    let declared : list_any (is_named text) words ≡ is_enumerator (component_tree c).interface text =
    ap (list_any (is_named text)) (names ∙ sym (flat_map-map item_enumerators item_tree c.interface)) in
    more text p
    ∙ ((λ j. so text p j || (declared j && nat_eq p (sym count j)))
    ∙ (interface_push cs (component_tree c) text p ∙ ap (λ list. is_enumerator (interface_at list p) text) (sym (map_taken component_tree comps i c l e))))

-- the index tells what the tables of the interfaces tell
pub indexes : (components : List Component) (interfaces : List InterfaceTables) (index : EnumeratorIndex)
    → AreInterfaces components interfaces → IsIndexOf components index → Indexes interfaces index
indexes components interfaces index are is = λ text p.
    is text p ∙ sym (enumerator_fits (interface_at components p) (slice_get interfaces p) text (interface_fits components interfaces p are))

-- sets of places

pub place_put : (old new : List ℕ) (component : Option ℕ) (place : ℕ) → component ≡ Some place → new ≡ insert_key nat_eq old place
    → HasPlaceOf old new component
place_put old new component place at is = λ p.
    ap (list_any (nat_eq p)) is
    ∙ (by p (list_any (nat_eq place) old) refl ∙ ap (λ o. list_any (nat_eq p) old || is_at p o) (sym at))
  where
    there : (p : ℕ) (b : Bool) → nat_eq p place ≡ b → list_any (nat_eq place) old ≡ true
        → list_any (nat_eq p) old ≡ (list_any (nat_eq p) old || b)
    there p true e has = (ap (λ q. list_any (nat_eq q) old) (eqb-true p place e) ∙ has) ∙ sym (or_true (list_any (nat_eq p) old))
    there p false e has = sym (or-false (list_any (nat_eq p) old))

    by : (p : ℕ) (b : Bool) → list_any (nat_eq place) old ≡ b
        → list_any (nat_eq p) (insert_key nat_eq old place) ≡ (list_any (nat_eq p) old || nat_eq p place)
    by p true e = ap (λ t. list_any (nat_eq p) (cond t old (old ++ place ∷ []))) e ∙ there p (nat_eq p place) refl e
    by p false e = ap (λ t. list_any (nat_eq p) (cond t old (old ++ place ∷ []))) e ∙ one_more p place old

pub place_none : (old : List ℕ) (component : Option ℕ) → component ≡ None → HasPlaceOf old old component
place_none old component none = λ p. sym (ap (λ o. list_any (nat_eq p) old || is_at p o) none ∙ or-false (list_any (nat_eq p) old))

pub places_more : (components : List (Option ℕ)) (i : ℕ) (other : Option ℕ) (old new : List ℕ) → i < length components
    → HasPlacesOf (take i components) old → HasPlaceOf old new (get_or components i other)
    → HasPlacesOf (take (i + 1) components) new
places_more components i other old new l so more = λ p.
    more p
    ∙ (ap (λ b. b || is_at p (get_or components i other)) (so p) ∙ sym (list_any_more (is_at p) components i other l))

-- what a refinement sees, by the components that declare an enumerator of a name

or_any : {X : Type 0} (p q : X → Bool) (xs : List X) → list_any (λ x. p x || q x) xs ≡ (list_any p xs || list_any q xs)
or_any p q [] = refl
or_any p q (x ∷ xs) = ap (λ b. (p x || q x) || b) (or_any p q xs) ∙ mixed (p x) (q x) (list_any p xs) (list_any q xs)
  where
    mixed : (a b c d : Bool) → ((a || b) || (c || d)) ≡ ((a || c) || (b || d))
    mixed true b c d = refl
    mixed false true true d = refl
    mixed false true false d = refl
    mixed false false c d = refl

none_any : {X : Type 0} (xs : List X) → list_any (λ x. false) xs ≡ false
none_any [] = refl
none_any (x ∷ xs) = none_any xs

any_swap : {X Y : Type 0} (r : X → Y → Bool) (xs : List X) (ys : List Y)
    → list_any (λ y. list_any (λ x. r x y) xs) ys ≡ list_any (λ x. list_any (r x) ys) xs
any_swap r [] ys = none_any ys
any_swap r (x ∷ xs) ys = or_any (r x) (λ y. list_any (λ z. r z y) xs) ys ∙ ap (λ b. list_any (r x) ys || b) (any_swap r xs ys)

pub seen_by_index : (a : Around) (index : EnumeratorIndex) (places : List ℕ) (text : List ℕ)
    → KnowsVisible a index places
    → list_any (λ place. list_any (nat_eq place) places) (declarers_in index text)
    ≡ list_any (λ component. has_enumerator_in text (interface_in a component)) a.subs.components.items
seen_by_index a index places text knows =
    list_any-same (λ place. list_any (nat_eq place) places) (λ place. list_any (is_at place) a.subs.components.items) knows.places (declarers_in index text)
    ∙ (any_swap (λ component place. is_at place component) a.subs.components.items (declarers_in index text)
    ∙ list_any-same (λ component. list_any (λ place. is_at place component) (declarers_in index text))
    (λ component. has_enumerator_in text (interface_in a component)) here a.subs.components.items)
  where
    here : (component : Option ℕ) → list_any (λ place. is_at place component) (declarers_in index text)
        ≡ has_enumerator_in text (interface_in a component)
    here None = none_any (declarers_in index text)
    here (Some q) =
        list_any-same (λ place. nat_eq place q) (nat_eq q) (λ place. nat_eq_equiv.symm place q) (declarers_in index text)
        ∙ knows.index text q
