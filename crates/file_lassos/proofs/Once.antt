-- Names that stand once: what no fault of repeated names says.
use Rattle.std.proofs.Common.{◌≡◌, ◌≢◌, ℕ, zero, suc, ◌+◌, ◌<◌, Bool, true, false, ◌||◌, if◌then◌else◌, List, [], ◌∷◌, ◌++◌, length, map, slice_get}
use Rattle.std.proofs.Common.{get_or, Some, option_map, position, bytes_eq, refl, sym, ap, ◌∙◌, arith}
use Rattle.std.specs.List.{list_any}
use Rattle.std.proofs.lemmas.Bool.{false≢true, false_from_ne_true}
use Rattle.std.proofs.lemmas.List.Folds.{list_any-append}
use Rattle.std.proofs.lemmas.Option.{none-some, same_Some, slice_get-map, slice_get-get_or, slice_get_within, get_or_from_slice_get}
use Rattle.std.proofs.lemmas.Slice.Eq.{bytes_eq-Decides}
use Rattle.oss_base.specs.declared.fault.FaultKind.{FaultKind}
use Rattle.oss_base.specs.declared.sites.FaultSite.{FaultSite}
use Rattle.oss_syntax.specs.declared.words.Word.{Word}
use Rattle.spec_names.specs.NamesFaults.{site, again, again_after, same_name, start_of}
use Rattle.architecture.proofs.Listing.{Each, each_more, both_empty}
use Rattle.replay.proofs.Positions.{position_here}

-- one name at one place alone
abbrev pub StandOnce : List (List ℕ) → Type 0
StandOnce names = (i j : ℕ) (name : List ℕ) → slice_get names i ≡ Some name → slice_get names j ≡ Some name → i ≡ j

-- each element and each later one
abbrev pub Apart : {X : Type 0} → (X → X → Type 0) → List X → Type 0
Apart R [] = Unit {0}
Apart R (x ∷ xs) = Each (R x) xs × Apart R xs

not_before : (b : Bool) (s : FaultSite) → (if b then s ∷ [] else []) ≡ [] → b ≡ false
not_before true s e = cc
not_before false s e = refl

neither : (a b : Bool) → (a || (b || false)) ≡ false → (a ≡ false) × (b ≡ false)
neither true b e = absurd (false≢true (sym e))
neither false true e = absurd (false≢true (sym e))
neither false false e = (refl, refl)

again_apart : {X : Type 0} (kind : FaultKind) (same : X → X → Bool) (offset : X → ℕ) (before xs : List X)
    → again_after kind same offset before xs ≡ []
    → Each (λ x. list_any (same x) before ≡ false) xs × Apart (λ x y. same y x ≡ false) xs
again_apart kind same offset before [] e = (tt, tt)
again_apart kind same offset before (x ∷ xs) e =
    let parts = both_empty (if list_any (same x) before then site kind (offset x) ∷ [] else [])
    (again_after kind same offset (before ++ x ∷ []) xs) e in
    let more = again_apart kind same offset (before ++ x ∷ []) xs parts.1 in
    let split = each_more (λ y. list_any (same y) (before ++ x ∷ []) ≡ false) (λ y. (list_any (same y) before ≡ false) × (same y x ≡ false))
    (λ y h. neither (list_any (same y) before) (same y x) (sym (list_any-append (same y) before (x ∷ [])) ∙ h)) xs more.0 in (
      (
        not_before (list_any (same x) before) (site kind (offset x)) parts.0,
        each_more (λ y. (list_any (same y) before ≡ false) × (same y x ≡ false)) (λ y. list_any (same y) before ≡ false) (λ y h. h.0) xs split,
      ),
      (each_more (λ y. (list_any (same y) before ≡ false) × (same y x ≡ false)) (λ y. same y x ≡ false) (λ y h. h.1) xs split, more.1),
    )

differs : (words : List Word) (x : Word) → Each (λ y. same_name y x ≡ false) words → (j : ℕ) (name : List ℕ) → x.text ≡ name
    → slice_get (map (λ (w : Word). w.text) words) j ≡ Some name → ⊥
differs [] x each j name here at = none-some name at
differs (y ∷ words) x each zero name here at =
    false≢true (sym each.0 ∙ (bytes_eq-Decides y.text x.text).1 (same_Some y.text name at ∙ sym here))
differs (y ∷ words) x each (suc j) name here at = differs words x each.1 j name here at

once_apart : (words : List Word) → Apart (λ x y. same_name y x ≡ false) words → StandOnce (map (λ (w : Word). w.text) words)
once_apart [] apart i j name at there = absurd (none-some name at)
once_apart (x ∷ words) apart zero zero name at there = refl
once_apart (x ∷ words) apart zero (suc j) name at there = absurd (differs words x apart.0 j name (same_Some x.text name at) there)
once_apart (x ∷ words) apart (suc i) zero name at there = absurd (differs words x apart.0 i name (same_Some x.text name there) at)
once_apart (x ∷ words) apart (suc i) (suc j) name at there = ap suc (once_apart words apart.1 i j name at there)

-- words of which none stands again stand once
pub words_once : (kind : FaultKind) (words : List Word) → again kind same_name start_of words ≡ []
    → StandOnce (map (λ (w : Word). w.text) words)
words_once kind words none = once_apart words (again_apart kind same_name start_of [] words none).1

-- what has one name stands at one place
pub one_place : {X : Type 0} (name : X → List ℕ) (xs : List X) → StandOnce (map name xs) → (i j : ℕ) (x y : X)
    → slice_get xs i ≡ Some x → slice_get xs j ≡ Some y → name x ≡ name y → i ≡ j
one_place name xs once i j x y at there e =
    once i j (name y) (slice_get-map name xs i ∙ (ap (option_map name) at ∙ ap Some e)) (slice_get-map name xs j ∙ ap (option_map name) there)

-- what has a name stands at the first place of the name
pub first_place : {X : Type 0} (name : X → List ℕ) (xs : List X) → StandOnce (map name xs) → (i : ℕ) (x : X)
    → slice_get xs i ≡ Some x → position (λ (y : X). bytes_eq (name x) (name y)) xs ≡ Some i
first_place name xs once i x at =
    let l : i < length xs = slice_get_within xs i x at in
    position_here (λ y. bytes_eq (name x) (name y)) xs i x l
    (λ k m. false_from_ne_true (bytes_eq (name x) (name (get_or xs k x))) (λ e.
    let same : k ≡ i = one_place name xs once k i (get_or xs k x) x (slice_get-get_or xs k x (omega (arith, l, m))) at
    (sym ((bytes_eq-Decides (name x) (name (get_or xs k x))).0 e)) in
    absurd (omega (arith, same, m))))
    ((bytes_eq-Decides (name x) (name (get_or xs i x))).1 (ap name (sym (get_or_from_slice_get xs i x x at))))
