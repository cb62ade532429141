-- The neighbours after a link is written.
use Rattle.std.proofs.Common.{◌≡◌, ◌≢◌, ◌<◌, ◌+◌, ◌⊎◌, ℕ, List, [], ◌∷◌, ◌++◌, length, get_or, set, Option, Some, None, refl, sym, ◌∙◌, ap, subst, inl}
use Rattle.std.proofs.Common.{inr, arith, length-set}
use Rattle.std.specs.Option.{ForSome}
use Rattle.std.proofs.lemmas.Bool.{cases_eq}
use Rattle.std.proofs.lemmas.List.{get_or-set_same, get_or-set_other}
use Rattle.decision_queue.specs.declared.neighbours.Neighbours.{Neighbours}
use Rattle.decision_queue.specs.Neighbours.{no_neighbours, neighbours_at, after_at, before_at, with_after, with_before, joined_pair, with_first}

-- a reading of the neighbours that the written ones share stays
read-set : (read : Neighbours → Option ℕ) (links : List Neighbours) (x : ℕ) (new : Neighbours) (y : ℕ)
    → x < length links
    → read new ≡ read (neighbours_at links x)
    → read (neighbours_at (set links x new) y) ≡ read (neighbours_at links y)
read-set read links x new y within same =
    elim (cases_eq y x) [
      | inl e ↦
          ap (λ (v : ℕ). read (neighbours_at (set links x new) v)) e ∙ ap read (get_or-set_same links x new no_neighbours within) ∙ same
          ∙ ap (λ (v : ℕ). read (neighbours_at links v)) (sym e)
      | inr n ↦ ap read (get_or-set_other links x y new no_neighbours n)
    ]

pub after-with_after : (links : List Neighbours) (x : ℕ) (a : Option ℕ) → x < length links
    → after_at (with_after links x a) x ≡ a
after-with_after links x a within =
    ap (λ (n : Neighbours). n.after) (get_or-set_same links x (record { before = before_at links x; after = a }) no_neighbours within)

pub after-with_after_other : (links : List Neighbours) (x : ℕ) (a : Option ℕ) (y : ℕ) → y ≢ x
    → after_at (with_after links x a) y ≡ after_at links y
after-with_after_other links x a y n =
    ap (λ (n : Neighbours). n.after) (get_or-set_other links x y (record { before = before_at links x; after = a }) no_neighbours n)

pub before-with_after : (links : List Neighbours) (x : ℕ) (a : Option ℕ) (y : ℕ) → x < length links
    → before_at (with_after links x a) y ≡ before_at links y
before-with_after links x a y within = read-set (λ (n : Neighbours). n.before) links x (record { before = before_at links x; after = a }) y within refl

pub before-with_before : (links : List Neighbours) (x : ℕ) (b : Option ℕ) → x < length links
    → before_at (with_before links x b) x ≡ b
before-with_before links x b within =
    ap (λ (n : Neighbours). n.before) (get_or-set_same links x (record { before = b; after = after_at links x }) no_neighbours within)

pub before-with_before_other : (links : List Neighbours) (x : ℕ) (b : Option ℕ) (y : ℕ) → y ≢ x
    → before_at (with_before links x b) y ≡ before_at links y
before-with_before_other links x b y n =
    ap (λ (n : Neighbours). n.before) (get_or-set_other links x y (record { before = b; after = after_at links x }) no_neighbours n)

pub after-with_before : (links : List Neighbours) (x : ℕ) (b : Option ℕ) (y : ℕ) → x < length links
    → after_at (with_before links x b) y ≡ after_at links y
after-with_before links x b y within = read-set (λ (n : Neighbours). n.after) links x (record { before = b; after = after_at links x }) y within refl

pub length-with_after : (links : List Neighbours) (x : ℕ) (a : Option ℕ) → length (with_after links x a) ≡ length links
length-with_after links x a = length-set links x (record { before = before_at links x; after = a })

pub length-with_before : (links : List Neighbours) (x : ℕ) (b : Option ℕ) → length (with_before links x b)
    ≡ length links
length-with_before links x b = length-set links x (record { before = b; after = after_at links x })

-- ---- two neighbours

pub length-joined_pair : (links : List Neighbours) (before : ℕ) (a : Option ℕ) → length (joined_pair links before a)
    ≡ length links
length-joined_pair links before None = length-with_after links before None
length-joined_pair links before (Some a) =
    length-with_before (with_after links before (Some a)) a (Some before) ∙ length-with_after links before (Some a)

pub after-joined_pair : (links : List Neighbours) (before : ℕ) (a : Option ℕ) → before < length links
    → ForSome a (λ v. v < length links)
    → after_at (joined_pair links before a) before ≡ a
after-joined_pair links before None within far = after-with_after links before None within
after-joined_pair links before (Some a) within far =
    after-with_before (with_after links before (Some a)) a (Some before) before
    (subst (λ (n : ℕ). a < n) (sym (length-with_after links before (Some a))) (far a refl))
    ∙ after-with_after links before (Some a) within

pub after-joined_pair_other : (links : List Neighbours) (before : ℕ) (a : Option ℕ) (y : ℕ)
    → ForSome a (λ v. v < length links) → y ≢ before
    → after_at (joined_pair links before a) y ≡ after_at links y
after-joined_pair_other links before None y far n = after-with_after_other links before None y n
after-joined_pair_other links before (Some a) y far n =
    after-with_before (with_after links before (Some a)) a (Some before) y
    (subst (λ (n : ℕ). a < n) (sym (length-with_after links before (Some a))) (far a refl))
    ∙ after-with_after_other links before (Some a) y n

pub before-joined_end : (links : List Neighbours) (before : ℕ) (y : ℕ) → before < length links
    → before_at (joined_pair links before None) y ≡ before_at links y
before-joined_end links before y within = before-with_after links before None y within

pub before-joined_pair : (links : List Neighbours) (before a : ℕ) → a < length links
    → before_at (joined_pair links before (Some a)) a ≡ Some before
before-joined_pair links before a far =
    before-with_before (with_after links before (Some a)) a (Some before) (subst (λ (n : ℕ). a < n) (sym (length-with_after links before (Some a))) far)

pub before-joined_pair_other : (links : List Neighbours) (before a : ℕ) (y : ℕ) → before < length links → y ≢ a
    → before_at (joined_pair links before (Some a)) y ≡ before_at links y
before-joined_pair_other links before a y within n =
    before-with_before_other (with_after links before (Some a)) a (Some before) y n ∙ before-with_after links before (Some a) y within

-- ---- a new first one

pub length-with_first : (links : List Neighbours) (var first : ℕ) → length (with_first links var first) ≡ length links
length-with_first links var first =
    length-set (with_before links first (Some var)) var (record { before = None; after = Some first }) ∙ length-with_before links first (Some var)

pub after-with_first : (links : List Neighbours) (var first : ℕ) → var < length links
    → after_at (with_first links var first) var ≡ Some first
after-with_first links var first within =
    ap (λ (n : Neighbours). n.after) (get_or-set_same (with_before links first (Some var)) var (record { before = None; after = Some first }) no_neighbours
    (subst (λ (n : ℕ). var < n) (sym (length-with_before links first (Some var))) within))

pub after-with_first_other : (links : List Neighbours) (var first y : ℕ) → first < length links → y ≢ var
    → after_at (with_first links var first) y ≡ after_at links y
after-with_first_other links var first y within n =
    ap (λ (n : Neighbours). n.after)
    (get_or-set_other (with_before links first (Some var)) var y (record { before = None; after = Some first }) no_neighbours n)
    ∙ after-with_before links first (Some var) y within

pub before-with_first : (links : List Neighbours) (var first : ℕ) → var < length links
    → before_at (with_first links var first) var ≡ None
before-with_first links var first within =
    ap (λ (n : Neighbours). n.before) (get_or-set_same (with_before links first (Some var)) var (record { before = None; after = Some first }) no_neighbours
    (subst (λ (n : ℕ). var < n) (sym (length-with_before links first (Some var))) within))

pub before-with_first_old : (links : List Neighbours) (var first : ℕ) → first < length links → first ≢ var
    → before_at (with_first links var first) first ≡ Some var
before-with_first_old links var first within n =
    ap (λ (n : Neighbours). n.before)
    (get_or-set_other (with_before links first (Some var)) var first (record { before = None; after = Some first }) no_neighbours n)
    ∙ before-with_before links first (Some var) within

pub before-with_first_other : (links : List Neighbours) (var first y : ℕ) → y ≢ var → y ≢ first
    → before_at (with_first links var first) y ≡ before_at links y
before-with_first_other links var first y n m =
    ap (λ (n : Neighbours). n.before)
    (get_or-set_other (with_before links first (Some var)) var y (record { before = None; after = Some first }) no_neighbours n)
    ∙ before-with_before_other links first (Some var) y m
