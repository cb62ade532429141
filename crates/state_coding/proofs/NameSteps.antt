-- what the code of names has at each exit
use Rattle.std.proofs.Common.{◌≡◌, ◌≢◌, ◌+◌, ◌<◌, ◌≤◌, ℕ, zero, suc, Bool, true, false, ◌||◌, ◌&&◌, List, [], ◌∷◌, ◌++◌, length, take, drop, get_or}
use Rattle.std.proofs.Common.{cond, ltb, refl, sym, ◌∙◌, ap, subst, add-one, arith, append_assoc}
use Rattle.std.specs.Prelude.{map, not, Some, None, position, if◌then◌else◌}
use Rattle.std.specs.Bool.{Decides}
use Rattle.std.specs.Str.{bytes_eq}
use Rattle.std.specs.Cmp.Lexicographic.{pointwise}
use Rattle.std.specs.List.{AllPairs, list_any, prefix_len}
use Rattle.std.proofs.Math.Seq.{drop-cons, take-suc}
use Rattle.std.proofs.lemmas.List.{length-map}
use Rattle.std.proofs.lemmas.Bool.{false≢true}
use Rattle.std.proofs.lemmas.Slice.Eq.{bytes_eq-Decides}
use Rattle.cnf.specs.declared.lit.Lit.{Lit}
use Rattle.cnf.specs.Gates.{literal, all_clauses}
use Rattle.cnf.proofs.ModelLaws.{append_nil}
use Rattle.indexmap.specs.IndexSet.{insert_key}
use Rattle.state_coding.specs.States.{var_row}
use Rattle.state_coding.specs.Coded.{CommonAdded}
use Rattle.state_coding.specs.Atoms.{place_lits, common_place, common_lits, each_all_clauses}

-- ---- a table of names

list_any-map : {A : Type 0} (p : List ℕ → Bool) (f : A → List ℕ) (xs : List A)
    → list_any p (map f xs) ≡ list_any (λ x. p (f x)) xs
list_any-map p f [] = refl
list_any-map p f (x ∷ xs) = ap (λ t. p (f x) || t) (list_any-map p f xs)

prefix_len-map : {A : Type 0} (p : List ℕ → Bool) (f : A → List ℕ) (xs : List A)
    → prefix_len p (map f xs) ≡ prefix_len (λ x. p (f x)) xs
prefix_len-map p f [] = refl
prefix_len-map p f (x ∷ xs) = ap (λ n. cond (p (f x)) (1 + n) 0) (prefix_len-map p f xs)

pub position-map : {A : Type 0} (p : List ℕ → Bool) (f : A → List ℕ) (xs : List A)
    → position p (map f xs) ≡ position (λ x. p (f x)) xs
position-map p f xs =
    ap (λ n. cond (ltb n (length (map f xs))) (Some n) None) (prefix_len-map (λ y. not (p y)) f xs)
    ∙ ap (λ m. cond (ltb (prefix_len (λ x. not (p (f x))) xs) m) (Some (prefix_len (λ x. not (p (f x))) xs)) None) (length-map xs f)

map-append : {A : Type 0} (f : A → List ℕ) (xs ys : List A) → map f (xs ++ ys) ≡ map f xs ++ map f ys
map-append f [] ys = refl
map-append f (x ∷ xs) ys = ap (λ l. f x ∷ l) (map-append f xs ys)

-- a name differs from all before it
differs : (x y : List ℕ) (b : Bool) → Decides b (x ≡ y) → (y ≢ x) → b ≡ false
differs x y true d ne = absurd (ne (sym (d.0 refl)))
differs x y false d ne = refl

not_before : (names : List (List ℕ)) (i : ℕ) (d : List ℕ) → AllPairs (λ a b. a ≢ b) names → i < length names
    → list_any (bytes_eq (get_or names i d)) (take i names) ≡ false
not_before [] i d apart h = absurd (omega arith)
not_before (x ∷ names) zero d apart h = refl
not_before (x ∷ names) (suc i) d apart h =
    let y = get_or names i d in
    ap (λ t. t || list_any (bytes_eq y) (take i names)) (differs y x (bytes_eq y x) (bytes_eq-Decides y x) (apart 0 (suc i) d (omega arith) h))
    ∙ not_before names i d (λ j k e less within. apart (suc j) (suc k) e (omega arith) (omega arith)) (omega arith)

-- one more name in a table that has those before it
pub table_goes_on : {A : Type 0} (bytes : A → List ℕ) (names : List (List ℕ)) (i : ℕ) (keys newer : List A) (key : A)
    (d : List ℕ) → AllPairs (λ a b. a ≢ b) names → i < length names → bytes key ≡ get_or names i d
    → newer ≡ insert_key (λ a b. bytes_eq (bytes a) (bytes b)) keys key → map bytes keys ≡ take i names
    → map bytes newer ≡ take (i + 1) names
table_goes_on bytes names i keys newer key d apart within named en h =
    let new : list_any (λ x. bytes_eq (bytes key) (bytes x)) keys ≡ false =
    sym (list_any-map (bytes_eq (bytes key)) bytes keys) ∙ (λ j. list_any (bytes_eq (named j)) (h j)) ∙ not_before names i d apart within in
    ap (map bytes) (en ∙ ap (λ t. if t then keys else (keys ++ key ∷ [])) new)
    ∙ map-append bytes keys (key ∷ [])
    ∙ (λ j. h j ++ named j ∷ [])
    ∙ sym (rw (add-one i) (take-suc names i d within))

-- ---- common names

name_at : (names : List (List ℕ)) (i : ℕ) (d : List ℕ) → i < length names
    → drop i names ≡ get_or names i d ∷ drop (i + 1) names
name_at names i d h = rw (add-one i) (drop-cons names i d h)

-- what is left of the common names from place i on
abbrev pub common_left : List Lit → List Lit → ℕ → List (List ℕ) → List (List ℕ) → List (List Lit)
common_left a b i names others = common_lits a b i (drop i names) others

left_is : (a b : List Lit) (i : ℕ) (names others : List (List ℕ)) (d : List ℕ) → i < length names
    → common_left a b i names others
    ≡ common_place a b i (position (bytes_eq (get_or names i d)) others) ++ common_left a b (i + 1) names others
left_is a b i names others d h = ap (λ l. common_lits a b i l others) (name_at names i d h)

pub common_none : (a b : List Lit) (i : ℕ) (names others : List (List ℕ)) (d : List ℕ) → i < length names
    → position (bytes_eq (get_or names i d)) others ≡ None
    → common_left a b i names others ≡ common_left a b (i + 1) names others
common_none a b i names others d h e =
    left_is a b i names others d h ∙ ap (λ p. common_place a b i p ++ common_left a b (i + 1) names others) e

pub common_some : (a b : List Lit) (i j : ℕ) (names others : List (List ℕ)) (d : List ℕ) → i < length names
    → position (bytes_eq (get_or names i d)) others ≡ Some j
    → common_left a b i names others ≡ (place_lits a i ++ place_lits b j) ∷ common_left a b (i + 1) names others
common_some a b i j names others d h e =
    left_is a b i names others d h ∙ ap (λ p. common_place a b i p ++ common_left a b (i + 1) names others) e

drop_past : (n : ℕ) (xs : List (List ℕ)) → length xs ≤ n → drop n xs ≡ []
drop_past zero [] h = refl
drop_past zero (x ∷ xs) h = absurd (omega arith)
drop_past (suc n) [] h = refl
drop_past (suc n) (x ∷ xs) h = drop_past n xs (omega arith)

pub common_ends : (a b : List Lit) (i : ℕ) (names others : List (List ℕ)) → length names ≤ i
    → common_left a b i names others ≡ []
common_ends a b i names others h = ap (λ l. common_lits a b i l others) (drop_past i names h)

-- what the loop over the names keeps: with what is left, the variables, literals and clauses are those of all
pub record CommonSoFar (n m : ℕ) (older newer : List (List Lit)) (answer : List Lit)
    (left all : List (List Lit)) : Type 0 where
  pub vars : m + length left ≡ n + length all
  pub lits : answer ++ var_row m (length left) ≡ var_row n (length all)
  pub clauses : newer ++ each_all_clauses m left ≡ older ++ each_all_clauses n all

pub common_goes_on : (n m k : ℕ) (older mid newer : List (List Lit)) (lits lits' : List Lit) (lit : Lit)
    (head : List Lit) (left rest all : List (List Lit)) → left ≡ head ∷ rest → k ≡ m + 1
    → newer ≡ mid ++ all_clauses m head → lit ≡ literal m → lits' ≡ lits ++ lit ∷ []
    → CommonSoFar n m older mid lits left all → CommonSoFar n k older newer lits' rest all
common_goes_on n m k older mid newer lits lits' lit head left rest all el ek en ei er h = record {
  vars = let v : m + length (head ∷ rest) ≡ n + length all = (rw el at h.vars) in omega arith;
  lits = rw (er, ei, ek) (append_assoc lits _ _ ∙ (rw el at h.lits));
  clauses = rw (en, ek) (append_assoc mid _ _ ∙ (rw el at h.clauses));
}

pub common_goes_past : (n m : ℕ) (older mid : List (List Lit)) (lits : List Lit) (left rest all : List (List Lit))
    → left ≡ rest → CommonSoFar n m older mid lits left all → CommonSoFar n m older mid lits rest all
common_goes_past n m older mid lits left rest all e h = subst (λ l. CommonSoFar n m older mid lits l all) e h

-- all common names were coded
pub common_added : (n m : ℕ) (older newer : List (List Lit)) (lits : List Lit) (left all : List (List Lit)) → left ≡ []
    → CommonSoFar n m older newer lits left all → CommonAdded n m older newer lits all
common_added n m older newer lits left all e h = record {
  vars = let v : m + 0 ≡ n + length all = (rw e at h.vars) in omega arith;
  lits = sym (append_nil lits) ∙ (rw e at h.lits);
  clauses = sym (append_nil newer) ∙ (rw e at h.clauses);
}

-- ---- the same names in the same order

pub equal_names : (a b a' b' : List ℕ) → a ≡ a' → b ≡ b' → false ≡ not (bytes_eq a b) → bytes_eq a' b' ≡ true
equal_names a b a' b' ea eb h = (λ j. bytes_eq (sym ea j) (sym eb j)) ∙ is_true (bytes_eq a b) h
  where
    is_true : (t : Bool) → false ≡ not t → t ≡ true
    is_true true h = refl
    is_true false h = absurd (false≢true h)

pub names_compared : (names others : List (List ℕ)) (i : ℕ) (d e : List ℕ) (b total : Bool) → i < length names
    → i < length others → bytes_eq (get_or names i d) (get_or others i e) ≡ b
    → total ≡ pointwise bytes_eq (drop i names) (drop i others)
    → total ≡ (b && pointwise bytes_eq (drop (i + 1) names) (drop (i + 1) others))
names_compared names others i d e b total within within' eb h =
    h ∙ (λ j. pointwise bytes_eq (name_at names i d within j) (name_at others i e within' j))
    ∙ ap (λ t. t && pointwise bytes_eq (drop (i + 1) names) (drop (i + 1) others)) eb

pub names_ended : (names others : List (List ℕ)) (i : ℕ) (total : Bool) → length names ≤ i → length others ≤ i
    → total ≡ pointwise bytes_eq (drop i names) (drop i others) → total ≡ true
names_ended names others i total past past' h =
    h ∙ (λ j. pointwise bytes_eq (drop_past i names past j) (drop_past i others past' j))
