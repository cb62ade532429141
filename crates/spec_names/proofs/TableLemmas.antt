-- Tables of names and places.
use Rattle.std.proofs.Common.{◌≡◌, ℕ, Bool, true, false, cond, List, [], ◌∷◌, ◌++◌, length, map, take, get_or, ◌+◌, ◌<◌, arith, Option, Some, None, is_some}
use Rattle.std.proofs.Common.{position, bytes_eq, refl, sym, ap, ◌∙◌, String, string_bytes}
use Rattle.std.proofs.lemmas.Bool.{false≢true}
use Rattle.std.proofs.lemmas.List.{map-append, length-map, length-take-le}
use Rattle.std.proofs.lemmas.Slice.Eq.{bytes_eq-Decides}
use Rattle.std.specs.Map.{lookup}
use Rattle.std.specs.Option.{option_or}
use Rattle.std.specs.String.{string_eq}
use Rattle.indexmap.specs.IndexMap.{IndexMap, insert_entry}
use Rattle.indexmap.proofs.CallerLemmas.{insert_entry-new}
use Rattle.oss_syntax.specs.declared.words.Word.{Word}
use Rattle.spec_names.specs.Scopes.{is_named}
use Rattle.spec_names.specs.Tables.{bytes_of_entry, entry_place, with_place, IsPlaceTable}
use Rattle.spec_names.proofs.Lists.{position-push, map_taken}

-- a look-up in the map is one among the entries as they are seen
pub lookup_text : {A : Type 0} (text : List ℕ) (es : List (String A × ℕ))
    → lookup (λ k. bytes_eq text (string_bytes k)) es ≡ entry_place (map bytes_of_entry es) text
lookup_text text [] = refl
lookup_text text (e ∷ es) = ap (cond (bytes_eq text (string_bytes e.0)) (Some e.1)) (lookup_text text es)

-- a new name, put into the map
pub put_new : {A S : Type 0} (m : IndexMap (String A) ℕ S) (new : List (String A × ℕ)) (k : String A) (place : ℕ)
    (old : List (List ℕ × ℕ)) (name : List ℕ)
    → map bytes_of_entry m.entries ≡ old → string_bytes k ≡ name → is_some (entry_place old name) ≡ false
    → new ≡ insert_entry string_eq m.entries k place
    → map bytes_of_entry new ≡ with_place old name place
put_new m new k place old name view key absent is =
    let none : lookup (string_eq k) m.entries ≡ None =
    lookup_text (string_bytes k) m.entries ∙ ((λ j. entry_place (view j) (key j)) ∙ is_none_from (entry_place old name) absent) in
    ap (map bytes_of_entry) (is ∙ insert_entry-new string_eq m k place none)
    ∙ (map-append bytes_of_entry m.entries ((k, place) ∷ [])
    ∙ ((λ j. view j ++ (key j, place) ∷ []) ∙ sym (by (entry_place old name) absent)))
  where
    is_none_from : (o : Option ℕ) → is_some o ≡ false → o ≡ None
    is_none_from None e = refl
    is_none_from (Some x) e = absurd (false≢true (sym e))

    by : (o : Option ℕ) → is_some o ≡ false → (cond (is_some o) old (old ++ (name, place) ∷ [])) ≡ old ++ (name, place)
        ∷ []
    by None e = refl
    by (Some x) e = absurd (false≢true (sym e))

-- a look-up after that

place_push_step : (b : Bool) (x : ℕ) (rest more : Option ℕ) (last : Option ℕ) → rest ≡ option_or more last
    → cond b (Some x) rest ≡ option_or (cond b (Some x) more) last
place_push_step true x rest more last e = refl
place_push_step false x rest more last e = e

entry_place-push : (es : List (List ℕ × ℕ)) (name text : List ℕ) (place : ℕ)
    → entry_place (es ++ (name, place) ∷ []) text ≡ option_or (entry_place es text)
    (cond (bytes_eq text name) (Some place) None)
entry_place-push [] name text place = refl
entry_place-push (e ∷ es) name text place =
    place_push_step (bytes_eq text e.0) e.1 (entry_place (es ++ (name, place) ∷ []) text) (entry_place es text) (cond (bytes_eq text name) (Some place) None)
    (entry_place-push es name text place)

or_none : (o : Option ℕ) → o ≡ option_or o None
or_none None = refl
or_none (Some x) = refl

pub entry_place-with : (es : List (List ℕ × ℕ)) (name text : List ℕ) (place : ℕ)
    → entry_place (with_place es name place) text ≡ option_or (entry_place es text)
    (cond (bytes_eq text name) (Some place) None)
entry_place-with es name text place = by (entry_place es name) refl
  where
    there : (q : ℕ) (b : Bool) → bytes_eq text name ≡ b → entry_place es name ≡ Some q
        → entry_place es text ≡ option_or (entry_place es text) (cond b (Some place) None)
    there q true e at =
        let same : text ≡ name = (bytes_eq-Decides text name).0 e in
        let found : entry_place es text ≡ Some q = ap (entry_place es) same ∙ at in
        found ∙ ap (λ o. option_or o (Some place)) (sym found)
    there q false e at = or_none (entry_place es text)

    by : (o : Option ℕ) → entry_place es name ≡ o
        → entry_place (cond (is_some o) es (es ++ (name, place) ∷ [])) text ≡ option_or (entry_place es text)
        (cond (bytes_eq text name) (Some place) None)
    by None e = entry_place-push es name text place
    by (Some q) e = there q (bytes_eq text name) refl e

-- a table of words, with one more of them
pub table_start : IsPlaceTable [] []
table_start text = refl

pub table_more : (words : List Word) (table : List (List ℕ × ℕ)) (w : Word) (place : ℕ) → place ≡ length words
    → IsPlaceTable words table
    → IsPlaceTable (words ++ w ∷ []) (with_place table w.text place)
table_more words table w place at so = λ text.
    entry_place-with table w.text text place
    ∙ ((λ j. option_or (so text j) (cond (is_named text w) (Some (at j)) None)) ∙ sym (position-push (is_named text) words w))

-- the same in a loop over what f makes of its elements
pub table_step : {W : Type 0} (f : W → Word) (xs : List W) (i : ℕ) (x : W) (table new : List (List ℕ × ℕ))
    (name : List ℕ)
    → i < length xs → x ≡ get_or xs i x → name ≡ (f x).text → new ≡ with_place table name i
    → IsPlaceTable (map f (take i xs)) table → IsPlaceTable (map f (take (i + 1) xs)) new
table_step f xs i x table new name l e named put so =
    let taken : length (map f (take i xs)) ≡ i = length-map (take i xs) f ∙ length-take-le i xs (omega arith) in
    let more : IsPlaceTable (map f (take i xs) ++ f x ∷ []) (with_place table (f x).text i) = table_more (map f (take i xs)) table (f x) i (sym taken) so in
    λ text. (λ j. entry_place (put j) text) ∙ ((λ j. entry_place (with_place table (named j) i) text)
    ∙ (more text ∙ ap (position (is_named text)) (sym (map_taken f xs i x l e))))

pub table_along : (ws vs : List Word) (table : List (List ℕ × ℕ)) → ws ≡ vs → IsPlaceTable ws table → IsPlaceTable vs table
table_along ws vs table e tells = λ text. tells text ∙ ap (position (is_named text)) e
