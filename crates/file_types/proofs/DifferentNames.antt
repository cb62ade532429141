-- Words of which none stands again are different.
use Rattle.std.proofs.Common.{◌≡◌, ◌≢◌, ℕ, zero, suc, ◌<◌, Bool, true, false, ◌||◌, if◌then◌else◌, List, [], ◌∷◌, ◌++◌, length, map, slice_get, get_or}
use Rattle.std.proofs.Common.{Some, refl, sym, subst, ◌∙◌, arith}
use Rattle.std.specs.Prelude.{AllPairs}
use Rattle.std.specs.List.{list_any}
use Rattle.std.proofs.lemmas.Bool.{false≢true}
use Rattle.std.proofs.lemmas.List.{length-map, get_or-map}
use Rattle.std.proofs.lemmas.List.Folds.{list_any-append}
use Rattle.std.proofs.lemmas.Option.{none-some, same_Some, slice_get-get_or}
use Rattle.std.proofs.lemmas.Slice.Eq.{bytes_eq-Decides}
use Rattle.oss_base.specs.declared.fault.FaultKind.{FaultKind}
use Rattle.oss_base.specs.declared.sites.FaultSite.{FaultSite}
use Rattle.oss_syntax.specs.declared.words.Word.{Word}
use Rattle.spec_names.specs.NamesFaults.{site, again, again_after, same_name, start_of}
use Rattle.architecture.proofs.Listing.{both_empty}

not_there : (b : Bool) (s : FaultSite) → (if b then s ∷ [] else []) ≡ [] → b ≡ false
not_there true s e = cc
not_there false s e = refl

neither : (a b : Bool) → (a || (b || false)) ≡ false → (a ≡ false) × (b ≡ false)
neither true b e = absurd (false≢true (sym e))
neither false true e = absurd (false≢true (sym e))
neither false false e = (refl, refl)

no_word : Word
no_word = record { text = []; span = record { start = 0; end = 0 } }

module _ (kind : FaultKind) where
  first_and_rest : (before xs : List Word) (x : Word) → again_after kind same_name start_of before (x ∷ xs) ≡ []
      → (list_any (same_name x) before ≡ false) × (again_after kind same_name start_of (before ++ x ∷ []) xs ≡ [])
  first_and_rest before xs x e =
      let parts = both_empty (if list_any (same_name x) before then site kind (start_of x) ∷ [] else [])
      (again_after kind same_name start_of (before ++ x ∷ []) xs) e in
      (not_there (list_any (same_name x) before) (site kind (start_of x)) parts.0, parts.1)

  -- a word is none of those that stood before, nor the one after these
  none_before : (before xs : List Word) → again_after kind same_name start_of before xs ≡ [] → (j : ℕ) (y : Word)
      → slice_get xs j ≡ Some y → list_any (same_name y) before ≡ false
  none_before before [] e j y at = absurd (none-some y at)
  none_before before (x ∷ xs) e zero y at =
      subst (λ (w : Word). list_any (same_name w) before ≡ false) (same_Some x y at) (first_and_rest before xs x e).0
  none_before before (x ∷ xs) e (suc j) y at =
      let later = none_before (before ++ x ∷ []) xs (first_and_rest before xs x e).1 j y at in
      (neither (list_any (same_name y) before) (same_name y x) (sym (list_any-append (same_name y) before (x ∷ [])) ∙ later)).0

  after_differs : (before xs : List Word) (x : Word) → again_after kind same_name start_of before (x ∷ xs) ≡ []
      → (j : ℕ) (y : Word) → slice_get xs j ≡ Some y → same_name y x ≡ false
  after_differs before xs x e j y at =
      let later = none_before (before ++ x ∷ []) xs (first_and_rest before xs x e).1 j y at in
      (neither (list_any (same_name y) before) (same_name y x) (sym (list_any-append (same_name y) before (x ∷ [])) ∙ later)).1

  later_differs : (before xs : List Word) → again_after kind same_name start_of before xs ≡ [] → (i j : ℕ) (x y : Word)
      → i < j → slice_get xs i ≡ Some x → slice_get xs j ≡ Some y → same_name y x ≡ false
  later_differs before [] e i j x y l at there = absurd (none-some x at)
  later_differs before (w ∷ xs) e i zero x y l at there = absurd (omega (arith, l))
  later_differs before (w ∷ xs) e zero (suc j) x y l at there =
      subst (λ (z : Word). same_name y z ≡ false) (same_Some w x at) (after_differs before xs w e j y there)
  later_differs before (w ∷ xs) e (suc i) (suc j) x y l at there =
      later_differs (before ++ w ∷ []) xs (first_and_rest before xs w e).1 i j x y (omega (arith, l)) at there

  pub names_differ : (words : List Word) → again kind same_name start_of words ≡ []
      → AllPairs (λ (a b : List ℕ). a ≢ b) (map (λ (w : Word). w.text) words)
  names_differ words e i j d l m same =
      let n : j < length words = subst (λ (size : ℕ). j < size) (length-map words (λ (w : Word). w.text)) m in
      let k : i < length words = omega (arith, l, n) in
      let x : Word = get_or words i no_word in
      let y : Word = get_or words j no_word in
      let differ = later_differs [] words e i j x y l (slice_get-get_or words i no_word k) (slice_get-get_or words j no_word n) in
      let text : y.text ≡ x.text = sym (get_or-map (λ (w : Word). w.text) words j no_word d n)
      ∙ (sym same ∙ get_or-map (λ (w : Word). w.text) words i no_word d k) in
      false≢true (sym differ ∙ (bytes_eq-Decides y.text x.text).1 text)
