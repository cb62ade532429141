-- A table of names tells which names there are.

use Rattle.std.proofs.Common.{◌≡◌, ℕ, ◌+◌, ◌<◌, ◌≤◌, Bool, true, false, ◌||◌, ◌&&◌, List, [], ◌∷◌, ◌++◌, length, take, get_or, Some, None, is_some, bytes_eq}
use Rattle.std.proofs.Common.{refl, sym, ap, subst, ◌∙◌, if◌then◌else◌}
use Rattle.std.proofs.lemmas.Bool.{false≢true}
use Rattle.std.proofs.lemmas.List.{take_more, take_all}
use Rattle.std.proofs.lemmas.List.Folds.{list_any-append, list_all_more}
use Rattle.std.proofs.lemmas.Slice.Eq.{bytes_eq-Decides}
use Rattle.std.specs.List.{list_any, list_all}
use Rattle.spec_names.specs.Tables.{entry_place, with_place}
use Rattle.spec_types.specs.TypeFaults.{is_name_of, share_name, are_names_of}
use Rattle.spec_types.specs.NameTables.{is_entry, IsNameTable}

added_last : (entries : List (List ℕ × ℕ)) (name text : List ℕ) (place : ℕ)
    → is_entry (entries ++ (name, place) ∷ []) text ≡ (is_entry entries text || bytes_eq text name)
added_last [] name text place = by (bytes_eq text name) where
  by : (b : Bool) → is_some (if b then Some place else None) ≡ b
  by true = refl
  by false = refl
added_last (entry ∷ entries) name text place = by (bytes_eq text entry.0) (added_last entries name text place) where
  by : (b : Bool)
      → is_entry (entries ++ (name, place) ∷ []) text ≡ (is_entry entries text || bytes_eq text name)
      → is_some (if b then Some entry.1 else entry_place (entries ++ (name, place) ∷ []) text)
      ≡ (is_some (if b then Some entry.1 else entry_place entries text) || bytes_eq text name)
  by true rest = refl
  by false rest = rest

absorbed : (a b : Bool) → (b ≡ true → a ≡ true) → a ≡ (a || b)
absorbed true b f = refl
absorbed false true f = absurd (false≢true (f refl))
absorbed false false f = refl

table_by : (entries : List (List ℕ × ℕ)) (name text : List ℕ) (place : ℕ) (there : Bool)
    → is_some (entry_place entries name) ≡ there
    → is_entry (if there then entries else entries ++ (name, place) ∷ []) text
    ≡ (is_entry entries text || bytes_eq text name)
table_by entries name text place true t =
    absorbed (is_entry entries text) (bytes_eq text name)
    (λ h. ap (λ x. is_entry entries x) ((bytes_eq-Decides text name).0 h) ∙ t)
table_by entries name text place false t = added_last entries name text place

pub table_with : (entries new : List (List ℕ × ℕ)) (name text : List ℕ) (place : ℕ)
    → new ≡ with_place entries name place
    → is_entry new text ≡ (is_entry entries text || bytes_eq text name)
table_with entries new name text place put =
    ap (λ list. is_entry list text) put ∙ table_by entries name text place (is_some (entry_place entries name)) refl

or_false : (a b : Bool) → (a || b) ≡ (a || (b || false))
or_false true b = refl
or_false false true = refl
or_false false false = refl

pub name_table_more : (names : List (List ℕ)) (i : ℕ) (x : List ℕ) (old new : List (List ℕ × ℕ)) → i < length names
    → x ≡ get_or names i x
    → ((text : List ℕ) → is_entry new text ≡ (is_entry old text || bytes_eq text x))
    → IsNameTable (take i names) old
    → IsNameTable (take (i + 1) names) new
name_table_more names i x old new within is put so text =
    put text
    ∙ (ap (λ b. b || bytes_eq text x) (so text)
    ∙ (or_false (is_name_of (take i names) text) (bytes_eq text x)
    ∙ (sym (list_any-append (bytes_eq text) (take i names) (x ∷ []))
    ∙ ap (λ list. is_name_of list text) (ap (λ y. take i names ++ y ∷ []) is ∙ sym (take_more names i x within)))))

pub name_table_all : (names : List (List ℕ)) (i : ℕ) (table : List (List ℕ × ℕ)) → length names ≤ i
    → IsNameTable (take i names) table → IsNameTable names table
name_table_all names i table past so = subst (λ list. IsNameTable list table) (take_all i names past) so

pub shared_by : (table : List (List ℕ × ℕ)) (names others : List (List ℕ)) (share : Bool) → IsNameTable others table
    → share ≡ list_any (is_entry table) names → share ≡ share_name names others
shared_by table names others share tells is = is ∙ ap (λ (p : List ℕ → Bool). list_any p names) (λ j text. tells text j)

pub names_by : (table : List (List ℕ × ℕ)) (names others : List (List ℕ)) (are : Bool) → IsNameTable others table
    → are ≡ list_all (is_entry table) names → are ≡ are_names_of others names
names_by table names others are tells is = is ∙ ap (λ (p : List ℕ → Bool). list_all p names) (λ j text. tells text j)

-- names that are looked at one after the other

pub within_more : (names others : List (List ℕ)) (i : ℕ) (x : List ℕ) → i < length names → x ≡ get_or names i x
    → are_names_of others (take i names) ≡ true → is_name_of others x ≡ true → are_names_of others (take (i + 1) names) ≡ true
within_more names others i x within is so more =
    list_all_more (is_name_of others) names i x within ∙ (λ j. so j && (ap (is_name_of others) (sym is) ∙ more) j)

pub within_all : (names others : List (List ℕ)) (i : ℕ) → length names ≤ i → are_names_of others (take i names) ≡ true
    → are_names_of others names ≡ true
within_all names others i past so = ap (are_names_of others) (sym (take_all i names past)) ∙ so
