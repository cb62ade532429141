-- Sets of pairs of names.
use Rattle.std.proofs.Common.{◌≡◌, ℕ, ◌+◌, Bool, true, false, not, ◌||◌, ◌&&◌, cond, List, [], ◌∷◌, ◌++◌, map, take, drop, Option}
use Rattle.std.proofs.Common.{bytes_eq, String, refl, sym, ap, ◌∙◌}
use Rattle.std.proofs.lemmas.Bool.{and_parts}
use Rattle.std.proofs.lemmas.List.{map-append}
use Rattle.std.proofs.lemmas.List.Folds.{list_any-append}
use Rattle.std.proofs.lemmas.Slice.Eq.{bytes_eq-Decides}
use Rattle.std.specs.List.{list_any}
use Rattle.indexmap.specs.IndexSet.{insert_key}
use Rattle.oss_base.specs.declared.fault.FaultKind.{FaultKind}
use Rattle.oss_syntax.specs.declared.words.Word.{Word}
use Rattle.oss_base.specs.declared.sites.FaultSite.{FaultSite}
use Rattle.spec_names.specs.NamesFaults.{site, again_after, same_dotted, dotted_start}
use Rattle.spec_names.specs.Pairs.{same_texts, has_texts, pair_bytes, HasOneMore, HasAllOf}
use Rattle.spec_names.specs.Noting.{noted, none_if}
use Rattle.spec_names.proofs.Lists.{IsItemAt, mapped_within, mapped_at, taken_one, list_any-map}
use Rattle.spec_names.proofs.NotingFacts.{noted_step, again_here}

-- what the set of keys has, as it is seen
seen_keys : {A : Type 0} (keys : List (String A × String A)) (k : String A × String A) (old : List (List ℕ × List ℕ))
    (v : List ℕ × List ℕ)
    → map pair_bytes keys ≡ old → pair_bytes k ≡ v
    → list_any (λ x. same_texts (pair_bytes k) (pair_bytes x)) keys ≡ has_texts old v
seen_keys keys k old v view key = sym (list_any-map (same_texts (pair_bytes k)) pair_bytes keys) ∙ (λ j. has_texts (view j) (key j))

pub pair_added : {A : Type 0} (keys : List (String A × String A)) (k : String A × String A)
    (old : List (List ℕ × List ℕ)) (v : List ℕ × List ℕ)
    (added : Bool)
    → map pair_bytes keys ≡ old → pair_bytes k ≡ v
    → added ≡ not (list_any (λ x. same_texts (pair_bytes k) (pair_bytes x)) keys)
    → added ≡ not (has_texts old v)
pair_added keys k old v added view key is = is ∙ ap not (seen_keys keys k old v view key)

same_is : (a b : List ℕ × List ℕ) → same_texts a b ≡ true → a ≡ b
same_is a b e =
    let parts = and_parts (bytes_eq a.0 b.0) (bytes_eq a.1 b.1) e in
    λ j. ((bytes_eq-Decides a.0 b.0).0 parts.0 j, (bytes_eq-Decides a.1 b.1).0 parts.1 j)

pub pair_put : {A : Type 0} (keys new : List (String A × String A)) (k : String A × String A)
    (old : List (List ℕ × List ℕ)) (v : List ℕ × List ℕ)
    → map pair_bytes keys ≡ old → pair_bytes k ≡ v
    → new ≡ insert_key (λ x y. same_texts (pair_bytes x) (pair_bytes y)) keys k
    → HasOneMore old (map pair_bytes new) v
pair_put keys new k old v view key is = λ q. by q (list_any (λ x. same_texts (pair_bytes k) (pair_bytes x)) keys) refl
  where
    or_false : (b : Bool) → b ≡ (b || false)
    or_false true = refl
    or_false false = refl

    or_true : (b : Bool) → (b || true) ≡ true
    or_true true = refl
    or_true false = refl

    there : (q : List ℕ × List ℕ) (b : Bool) → same_texts q v ≡ b → has_texts old v ≡ true
        → has_texts old q ≡ (has_texts old q || b)
    there q true e has = (ap (has_texts old) (same_is q v e) ∙ has) ∙ sym (or_true (has_texts old q))
    there q false e has = or_false (has_texts old q)

    by : (q : List ℕ × List ℕ) (b : Bool) → list_any (λ x. same_texts (pair_bytes k) (pair_bytes x)) keys ≡ b
        → has_texts (map pair_bytes new) q ≡ (has_texts old q || same_texts q v)
    by q true e =
        ap (λ ks. has_texts (map pair_bytes ks) q) (is ∙ ap (λ t. cond t keys (keys ++ k ∷ [])) e)
        ∙ (ap (λ ps. has_texts ps q) view ∙ there q (same_texts q v) refl (sym (seen_keys keys k old v view key) ∙ e))
    by q false e =
        ap (λ ks. has_texts (map pair_bytes ks) q) (is ∙ ap (λ t. cond t keys (keys ++ k ∷ [])) e)
        ∙ (ap (λ ps. has_texts ps q) (map-append pair_bytes keys (k ∷ []))
        ∙ (list_any-append (same_texts q) (map pair_bytes keys) (pair_bytes k ∷ [])
        ∙ ((λ j. has_texts (view j) q || (same_texts q (key j) || false)) ∙ ap (λ b. has_texts old q || b) (sym (or_false (same_texts q v))))))

-- the set after one more of the pairs
pub set_step : {W : Type 0} (f : W → Word × Word) (xs : List W) (i : ℕ) (x : W) (set new : List (List ℕ × List ℕ))
    (a b : List ℕ)
    → IsItemAt xs i x → a ≡ (f x).0.text → b ≡ (f x).1.text → HasOneMore set new (a, b)
    → HasAllOf (take i (map f xs)) set → HasAllOf (take (i + 1) (map f xs)) new
set_step f xs i x set new a b at ea eb more has = λ pair.
    more (pair.0.text, pair.1.text)
    ∙ ((λ j. has pair j || (bytes_eq pair.0.text (ea j) && bytes_eq pair.1.text (eb j)))
    ∙ (or_one (list_any (same_dotted pair) (take i (map f xs))) (same_dotted pair (f x))
    ∙ (sym (list_any-append (same_dotted pair) (take i (map f xs)) (f x ∷ []))
    ∙ ap (list_any (same_dotted pair)) (sym (taken_one f xs i x at.within at.same)))))
  where
    or_one : (p q : Bool) → (p || q) ≡ (p || (q || false))
    or_one true q = refl
    or_one false true = refl
    or_one false false = refl

-- a pair is new where none of those before has its names
pub pair_is_new : (before : List (Word × Word)) (pair : Word × Word) (set : List (List ℕ × List ℕ)) (a b : List ℕ)
    (is_new : Bool)
    → a ≡ pair.0.text → b ≡ pair.1.text → is_new ≡ not (has_texts set (a, b)) → HasAllOf before set
    → is_new ≡ not (list_any (same_dotted pair) before)
pair_is_new before pair set a b is_new ea eb tells has = tells ∙ ((λ j. not (has_texts set (ea j, eb j))) ∙ ap not (has pair))

-- one step of a loop that notes the pairs that stood before
pub pairs_step : {W : Type 0} (kind : FaultKind) (f : W → Word × Word) (xs : List W) (i : ℕ) (x : W) (is_new : Bool)
    (first now whole : Option FaultSite)
    → IsItemAt xs i x → is_new ≡ not (list_any (same_dotted (f x)) (take i (map f xs)))
    → now ≡ noted (none_if is_new (site kind (dotted_start (f x)))) first
    → noted (again_after kind same_dotted dotted_start (take i (map f xs)) (drop i (map f xs))) first ≡ whole
    → noted (again_after kind same_dotted dotted_start (take (i + 1) (map f xs)) (drop (i + 1) (map f xs))) now ≡ whole
pairs_step kind f xs i x is_new first now whole at before is so =
    noted_step (again_after kind same_dotted dotted_start (take i (map f xs)) (drop i (map f xs)))
    (none_if (not (list_any (same_dotted (f x)) (take i (map f xs)))) (site kind (dotted_start (f x))))
    (again_after kind same_dotted dotted_start (take (i + 1) (map f xs)) (drop (i + 1) (map f xs))) first now whole
    (again_here kind same_dotted dotted_start (map f xs) i (f x) (mapped_within f xs i at.within) (mapped_at f xs i x at.within at.same))
    (is ∙ ap (λ well. noted (none_if well (site kind (dotted_start (f x)))) first) before) so
