-- marks: what a change of one does, how many are set, and the list of the members
use Rattle.std.proofs.Common.{◌≡◌, ◌<◌, ◌≤◌, ◌+◌, ◌*◌, ℕ, zero, suc, Bool, true, false, cond, List, [], ◌∷◌, ◌++◌, length, get_or, set}
use Rattle.std.proofs.Common.{refl, sym, ◌∙◌, ap, subst, inl, inr, arith}
use Rattle.std.specs.List.{Contains, sum_by}
use Rattle.std.proofs.lemmas.Bool.{false≢true, cases_lt, cases_eq}
use Rattle.std.proofs.lemmas.List.{get_or_past, get_or-set_same, get_or-set_other}
use Rattle.std.proofs.lemmas.List.Sums.{sum_by-set, sum_by-cons}
use Rattle.std.proofs.lemmas.List.Elements.{Contains-append_left, Contains-append_right, Contains-append_cases}
use Rattle.cnf.specs.declared.lit.Lit.{Lit}
use Rattle.clause_log.specs.declared.lit_set.Signs.{Signs}
use Rattle.clause_log.specs.Marks.{sign_mark, with_mark, no_marks, mark_of, mark_count, signs_count}
use Rattle.clause_log.specs.Members.{if_marked, members_below, marked_lits}
use Rattle.clause_log.proofs.Lits.{lit_same, no_member, has_head, has_cases}

-- what is mark_of has its variable below the bound
none_marked : (sign : Bool) → sign_mark no_marks sign ≡ false
none_marked true = refl
none_marked false = refl

pub marked_known : (marks : List Signs) (lit : Lit) → mark_of marks lit ≡ true → lit.var < length marks
marked_known marks lit h =
    elim (cases_lt lit.var (length marks)) [
      | inl low ↦ low
      | inr high ↦ absurd (false≢true (sym (ap (λ (s : Signs). sign_mark s lit.positive) (get_or_past marks lit.var no_marks high) ∙ none_marked lit.positive)
          ∙ h))
    ]

-- ---- one mark is changed

mark_here : (signs : Signs) (sign mark : Bool) → sign_mark (with_mark signs sign mark) sign ≡ mark
mark_here signs true mark = refl
mark_here signs false mark = refl

mark_there : (signs : Signs) (sign other mark : Bool) → (other ≡ sign → ⊥)
    → sign_mark (with_mark signs sign mark) other ≡ sign_mark signs other
mark_there signs true true mark n = absurd (n refl)
mark_there signs true false mark n = refl
mark_there signs false true mark n = refl
mark_there signs false false mark n = absurd (n refl)

pub put_here : (marks : List Signs) (lit : Lit) (signs : Signs) (mark : Bool) → lit.var < length marks
    → mark_of (set marks lit.var (with_mark signs lit.positive mark)) lit ≡ mark
put_here marks lit signs mark h =
    ap (λ (s : Signs). sign_mark s lit.positive) (get_or-set_same marks lit.var (with_mark signs lit.positive mark) no_marks h)
    ∙ mark_here signs lit.positive mark

pub put_there : (marks : List Signs) (lit other : Lit) (signs : Signs) (mark : Bool) → lit.var < length marks
    → signs ≡ get_or marks lit.var no_marks → (other ≡ lit → ⊥)
    → mark_of (set marks lit.var (with_mark signs lit.positive mark)) other ≡ mark_of marks other
put_there marks lit other signs mark h e n =
    elim (cases_eq other.var lit.var) [
      | inl same ↦
          ap (λ (v : ℕ). sign_mark (get_or (set marks lit.var (with_mark signs lit.positive mark)) v no_marks) other.positive) same
          ∙ ap (λ (s : Signs). sign_mark s other.positive) (get_or-set_same marks lit.var (with_mark signs lit.positive mark) no_marks h)
          ∙ mark_there signs lit.positive other.positive mark (λ p. n (lit_same other lit same p))
          ∙ ap (λ (s : Signs). sign_mark s other.positive) e
          ∙ sym (ap (λ (v : ℕ). sign_mark (get_or marks v no_marks) other.positive) same)
      | inr apart ↦ ap (λ (s : Signs). sign_mark s other.positive) (get_or-set_other marks lit.var other.var (with_mark signs lit.positive mark) no_marks apart)
    ]

-- ---- how many are set

count_changed : (signs : Signs) (sign mark : Bool)
    → signs_count (with_mark signs sign mark) + mark_count (sign_mark signs sign) ≡ signs_count signs + mark_count mark
count_changed signs true mark = omega arith
count_changed signs false mark = omega arith

count_le : (b : Bool) → mark_count b ≤ 1
count_le true = omega arith
count_le false = omega arith

pub counted : (marks : List Signs) (v : ℕ) (signs : Signs) (sign mark : Bool) (d : Signs) → v < length marks
    → signs ≡ get_or marks v d
    → sum_by signs_count (set marks v (with_mark signs sign mark)) + mark_count (sign_mark signs sign) ≡ sum_by
    signs_count marks + mark_count mark
counted marks v signs sign mark d h e =
    let all : sum_by signs_count (set marks v (with_mark signs sign mark)) + signs_count (get_or marks v d) ≡ sum_by signs_count marks + signs_count
    (with_mark signs sign mark) = sum_by-set signs_count marks v (with_mark signs sign mark) d h in
    let one = count_changed signs sign mark in
    let here : signs_count (get_or marks v d) ≡ signs_count signs = ap signs_count (sym e) in
    omega arith

pub count_le_one : (b : Bool) → mark_count b ≤ 1
count_le_one b = count_le b

pub sum_bounded : (marks : List Signs) → sum_by signs_count marks ≤ 2 * length marks
sum_bounded [] = omega arith
sum_bounded (s ∷ rest) = let e = sum_by-cons signs_count s rest in omega (arith, e, sum_bounded rest, count_le s.positive, count_le s.negative)

count_zero : (b : Bool) → mark_count b ≡ 0 → b ≡ false
count_zero true e = absurd (omega arith)
count_zero false e = refl

count_none : (b : Bool) → b ≡ false → mark_count b ≡ 0
count_none b e = ap mark_count e

none_by_sign : (s : Signs) (sign : Bool) → signs_count s ≡ 0 → sign_mark s sign ≡ false
none_by_sign s true e = count_zero s.positive (omega arith)
none_by_sign s false e = count_zero s.negative (omega arith)

none_at : (marks : List Signs) (v : ℕ) (sign : Bool) → sum_by signs_count marks ≡ 0
    → sign_mark (get_or marks v no_marks) sign ≡ false
none_at [] v sign e = none_marked sign
none_at (s ∷ rest) zero sign e = let c = sum_by-cons signs_count s rest in none_by_sign s sign (omega arith)
none_at (s ∷ rest) (suc v) sign e = let c = sum_by-cons signs_count s rest in none_at rest v sign (omega arith)

pub none_if_zero : (marks : List Signs) → sum_by signs_count marks ≡ 0 → (lit : Lit) → mark_of marks lit ≡ false
none_if_zero marks e lit = none_at marks lit.var lit.positive e

pub zero_if_none : (marks : List Signs) → ((lit : Lit) → mark_of marks lit ≡ false) → sum_by signs_count marks ≡ 0
zero_if_none [] h = refl
zero_if_none (s ∷ rest) h =
    let yes : mark_count s.positive ≡ 0 = count_none s.positive (h (record { var = 0; positive = true })) in
    let no : mark_count s.negative ≡ 0 = count_none s.negative (h (record { var = 0; positive = false })) in
    let more : sum_by signs_count rest ≡ 0 = zero_if_none rest (λ lit. h (record { var = suc lit.var; positive = lit.positive })) in
    let c = sum_by-cons signs_count s rest in
    omega arith

-- ---- the members

if_marked_has : (marks : List Signs) (lit : Lit) → mark_of marks lit ≡ true → Contains (if_marked marks lit) lit
if_marked_has marks lit h = rw h (has_head lit [])

kept_only : (b : Bool) (lit other : Lit) → Contains (cond b (lit ∷ []) []) other → (lit ≡ other) × (b ≡ true)
kept_only true lit other h = (elim (has_cases lit [] other h) [ inl e ↦ e | inr none ↦ absurd (no_member other none) ], refl)
kept_only false lit other h = absurd (no_member other h)

if_marked_only : (marks : List Signs) (lit other : Lit) → Contains (if_marked marks lit) other
    → mark_of marks other ≡ true
if_marked_only marks lit other h =
    let both = kept_only (mark_of marks lit) lit other h in
    subst (λ (l : Lit). mark_of marks l ≡ true) both.0 both.1

pair_has : (marks : List Signs) (var : ℕ) (sign : Bool) → mark_of marks (record { var = var; positive = sign }) ≡ true
    → Contains (if_marked marks (record { var = var; positive = true }) ++ if_marked marks
    (record { var = var; positive = false })) (record { var = var; positive = sign })
pair_has marks var true h = Contains-append_left (if_marked marks (record { var = var; positive = true }))
    (if_marked marks (record { var = var; positive = false })) (record { var = var; positive = true })
    (if_marked_has marks (record { var = var; positive = true }) h)
pair_has marks var false h = Contains-append_right (if_marked marks (record { var = var; positive = true }))
    (if_marked marks (record { var = var; positive = false })) (record { var = var; positive = false })
    (if_marked_has marks (record { var = var; positive = false }) h)

members_have : (marks : List Signs) (bound : ℕ) (lit : Lit) → lit.var < bound → mark_of marks lit ≡ true
    → Contains (members_below marks bound) lit
members_have marks zero lit low h = absurd (omega arith)
members_have marks (suc var) lit low h =
    elim (cases_eq lit.var var) [
      | inl e ↦
          let same : lit ≡ record { var = var; positive = lit.positive } = lit_same lit (record { var = var; positive = lit.positive }) e refl in
          Contains-append_left (if_marked marks (record { var = var; positive = true }) ++ if_marked marks (record { var = var; positive = false }))
          (members_below marks var) lit
          (subst (λ (l : Lit). Contains (if_marked marks (record { var = var; positive = true }) ++ if_marked marks (record { var = var; positive = false })) l)
          (sym same)
          (pair_has marks var lit.positive (subst (λ (l : Lit). mark_of marks l ≡ true) same h)))
      | inr n ↦ Contains-append_right (if_marked marks (record { var = var; positive = true }) ++ if_marked marks (record { var = var; positive = false }))
          (members_below marks var) lit (members_have marks var lit (omega arith) h)
    ]

members_only : (marks : List Signs) (bound : ℕ) (lit : Lit) → Contains (members_below marks bound) lit
    → mark_of marks lit ≡ true
members_only marks zero lit h = absurd (no_member lit h)
members_only marks (suc var) lit h =
    elim (Contains-append_cases (if_marked marks (record { var = var; positive = true }) ++ if_marked marks (record { var = var; positive = false }))
    (members_below marks var) lit h) [
      | inl here ↦ elim (Contains-append_cases (if_marked marks (record { var = var; positive = true }))
          (if_marked marks (record { var = var; positive = false })) lit here) [
            | inl plus ↦ if_marked_only marks (record { var = var; positive = true }) lit plus
            | inr minus ↦ if_marked_only marks (record { var = var; positive = false }) lit minus
          ]
      | inr there ↦ members_only marks var lit there
    ]

pub marked_member : (marks : List Signs) (lit : Lit) → mark_of marks lit ≡ true → Contains (marked_lits marks) lit
marked_member marks lit h = members_have marks (length marks) lit (marked_known marks lit h) h

pub member_marked : (marks : List Signs) (lit : Lit) → Contains (marked_lits marks) lit → mark_of marks lit ≡ true
member_marked marks lit h = members_only marks (length marks) lit h
