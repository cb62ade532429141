-- Tables from names to places.
use Rattle.std.proofs.Common.{◌≡◌, ℕ, Bool, true, false, cond, List, [], ◌∷◌, ◌++◌, length, map, take, get_or, ◌+◌, ◌<◌, arith, Option, Some, None, is_some}
use Rattle.std.proofs.Common.{position, bytes_eq, refl, sym, ap, ◌∙◌, Vec}
use Rattle.std.proofs.lemmas.Bool.{false≢true}
use Rattle.std.proofs.lemmas.List.{map-append, take_more, length-take-le}
use Rattle.std.proofs.lemmas.Slice.Eq.{bytes_eq-Decides}
use Rattle.std.specs.Cmp.Lexicographic.{pointwise}
use Rattle.std.proofs.Common.{nat_eq}
use Rattle.std.specs.Map.{lookup}
use Rattle.std.specs.Option.{option_or}
use Rattle.std.specs.Global.{Global}
use Rattle.indexmap.specs.IndexMap.{IndexMap, insert_entry}
use Rattle.indexmap.proofs.CallerLemmas.{insert_entry-new}
use Rattle.replay.specs.Reading.{key_and_place, place_by_key, with_key, TellsPlaces}
use Rattle.replay.proofs.Positions.{position-push}

abbrev pub same_bytes : Vec ℕ Global → Vec ℕ Global → Bool
same_bytes a b = pointwise nat_eq a.items b.items

-- a look-up in the map is one among the entries as they are seen
pub lookup_bytes : (key : List ℕ) (es : List (Vec ℕ Global × ℕ))
    → lookup (λ k. pointwise nat_eq key k.items) es ≡ place_by_key (map key_and_place es) key
lookup_bytes key [] = refl
lookup_bytes key (e ∷ es) = ap (cond (bytes_eq key e.0.items) (Some e.1)) (lookup_bytes key es)

-- a new name, put into the map
pub put_new : {S : Type 0} (m : IndexMap (Vec ℕ Global) ℕ S) (new : List (Vec ℕ Global × ℕ)) (k : Vec ℕ Global) (place : ℕ)
    (old : List (List ℕ × ℕ)) (name : List ℕ)
    → map key_and_place m.entries ≡ old → k.items ≡ name → is_some (place_by_key old name) ≡ false
    → new ≡ insert_entry same_bytes m.entries k place
    → map key_and_place new ≡ with_key old name place
put_new m new k place old name view key absent is =
    let none : lookup (same_bytes k) m.entries ≡ None =
    lookup_bytes k.items m.entries ∙ ((λ j. place_by_key (view j) (key j)) ∙ is_none_from (place_by_key old name) absent) in
    ap (map key_and_place) (is ∙ insert_entry-new same_bytes m k place none)
    ∙ (map-append key_and_place m.entries ((k, place) ∷ [])
    ∙ ((λ j. view j ++ (key j, place) ∷ []) ∙ sym (by (place_by_key old name) absent)))
  where
    is_none_from : (o : Option ℕ) → is_some o ≡ false → o ≡ None
    is_none_from None e = refl
    is_none_from (Some x) e = absurd (false≢true (sym e))

    by : (o : Option ℕ) → is_some o ≡ false → (cond (is_some o) old (old ++ (name, place) ∷ [])) ≡ old ++ (name, place) ∷ []
    by None e = refl
    by (Some x) e = absurd (false≢true (sym e))

-- a look-up after that

place_push_step : (b : Bool) (x : ℕ) (rest more : Option ℕ) (last : Option ℕ) → rest ≡ option_or more last
    → cond b (Some x) rest ≡ option_or (cond b (Some x) more) last
place_push_step true x rest more last e = refl
place_push_step false x rest more last e = e

place_by_key-push : (es : List (List ℕ × ℕ)) (name key : List ℕ) (place : ℕ)
    → place_by_key (es ++ (name, place) ∷ []) key ≡ option_or (place_by_key es key) (cond (bytes_eq key name) (Some place) None)
place_by_key-push [] name key place = refl
place_by_key-push (e ∷ es) name key place =
    place_push_step (bytes_eq key e.0) e.1 (place_by_key (es ++ (name, place) ∷ []) key) (place_by_key es key)
    (cond (bytes_eq key name) (Some place) None) (place_by_key-push es name key place)

or_none : (o : Option ℕ) → o ≡ option_or o None
or_none None = refl
or_none (Some x) = refl

place_by_key-with : (es : List (List ℕ × ℕ)) (name key : List ℕ) (place : ℕ)
    → place_by_key (with_key es name place) key ≡ option_or (place_by_key es key) (cond (bytes_eq key name) (Some place) None)
place_by_key-with es name key place = by (place_by_key es name) refl
  where
    there : (q : ℕ) (b : Bool) → bytes_eq key name ≡ b → place_by_key es name ≡ Some q
        → place_by_key es key ≡ option_or (place_by_key es key) (cond b (Some place) None)
    there q true e at =
        let same : key ≡ name = (bytes_eq-Decides key name).0 e in
        let found : place_by_key es key ≡ Some q = ap (place_by_key es) same ∙ at in
        found ∙ ap (λ o. option_or o (Some place)) (sym found)
    there q false e at = or_none (place_by_key es key)

    by : (o : Option ℕ) → place_by_key es name ≡ o
        → place_by_key (cond (is_some o) es (es ++ (name, place) ∷ [])) key ≡ option_or (place_by_key es key)
        (cond (bytes_eq key name) (Some place) None)
    by None e = place_by_key-push es name key place
    by (Some q) e = there q (bytes_eq key name) refl e

-- a table of names, with one more of them
pub tells_more : (names : List (List ℕ)) (i : ℕ) (name : List ℕ) (table new : List (List ℕ × ℕ)) → i < length names
    → name ≡ get_or names i name → new ≡ with_key table name i → TellsPlaces (take i names) table
    → TellsPlaces (take (i + 1) names) new
tells_more names i name table new l e put so = λ key.
    ap (λ t. place_by_key t key) put
    ∙ (place_by_key-with table name key i
    ∙ ((λ j. option_or (so key j) (cond (bytes_eq key name) (Some (sym (length-take-le i names (omega arith)) j)) None))
    ∙ (sym (position-push (bytes_eq key) (take i names) name)
    ∙ ap (position (bytes_eq key)) (ap (λ n. take i names ++ n ∷ []) e ∙ sym (take_more names i name l)))))
