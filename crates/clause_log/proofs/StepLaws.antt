-- what marks that were changed say of the literals that they stand for
use Rattle.std.proofs.Common.{◌≡◌, ◌≢◌, ◌<◌, ◌≤◌, ◌+◌, ◌⊎◌, ◌↔◌, ℕ, zero, suc, Bool, true, false, List, [], ◌∷◌, length, take, drop, get_or}
use Rattle.std.proofs.Common.{Some, slice_get, refl, sym, ◌∙◌, ap, subst, inl, inr, arith, add-one}
use Rattle.std.specs.List.{Contains, All}
use Rattle.std.proofs.lemmas.Bool.{false≢true, false_from_ne_true, cases_lt}
use Rattle.std.proofs.lemmas.List.{take_all}
use Rattle.std.proofs.Math.Seq.{drop-cons}
use Rattle.std.proofs.lemmas.Option.{slice_get_within, get_or_from_slice_get}
use Rattle.std.proofs.lemmas.List.Elements.{All-contains, Contains-get_or}
use Rattle.cnf.specs.declared.lit.Lit.{Lit}
use Rattle.cnf.specs.Clauses.{opposite}
use Rattle.clause_log.specs.declared.lit_set.Signs.{Signs}
use Rattle.clause_log.specs.declared.chain.Pivot.{Pivot}
use Rattle.clause_log.specs.declared.chain.Chain.{Chain}
use Rattle.clause_log.specs.Marks.{mark_of, SetsMark, SetsMarks}
use Rattle.clause_log.specs.Members.{marked_lits}
use Rattle.clause_log.specs.Derivations.{SameLits, Resolves, Leads, Follows, clauses_before, EachFollows}
use Rattle.clause_log.proofs.Lits.{lit_cases, taken_cases, taken_old, taken_new, no_member, same_var, opposite-opposite, opposite_differs, has_or_not}
use Rattle.clause_log.proofs.SetLaws.{marked_known, marked_member, member_marked}

-- the four changes of a resolution: the pivot goes, the clause comes, and the opposite of the pivot
-- gets the mark that it had before the clause came
pub resolved : (old a b new : List Signs) (clause : List Lit) (pivot : Lit) (stays : Bool)
    → mark_of old pivot ≡ true → Contains clause (opposite pivot)
    → SetsMark old pivot false a → stays ≡ mark_of a (opposite pivot) → SetsMarks a clause true b
    → SetsMark b (opposite pivot) stays new
    → Resolves (marked_lits old) clause pivot (marked_lits new)
resolved old a b new clause pivot stays on has first was second third = record {
  on_left = marked_member old pivot on;
  on_right = has;
  resolvent = λ lit. (to lit, from lit);
}
  where
    opposite_was : stays ≡ mark_of old (opposite pivot)
    opposite_was = was ∙ first.others (opposite pivot) (λ e. opposite_differs pivot (sym e))

    to : (lit : Lit) → Contains (marked_lits new) lit
        → (Contains (marked_lits old) lit × (lit ≢ pivot)) ⊎ (Contains clause lit × (lit ≢ opposite pivot))
    to lit c =
        let is : mark_of new lit ≡ true = member_marked new lit c in
        elim (lit_cases lit (opposite pivot)) [
          | inl e ↦
              let at : mark_of new (opposite pivot) ≡ true = subst (λ (l : Lit). mark_of new l ≡ true) e is in
              inl (
                subst (λ (l : Lit). Contains (marked_lits old) l) (sym e)
                    (marked_member old (opposite pivot) (sym opposite_was ∙ sym third.here ∙ at)),
                λ q. opposite_differs pivot (sym q ∙ e),
              )
          | inr n ↦
              let mid : mark_of b lit ≡ true = sym (third.others lit n) ∙ is in
              elim (has_or_not clause lit) [
                | inl there ↦ inr (there, n)
                | inr none ↦
                    let left : mark_of a lit ≡ true = sym (second.others lit none) ∙ mid in
                    elim (lit_cases lit pivot) [
                      | inl e ↦ absurd (false≢true (sym first.here ∙ subst (λ (l : Lit). mark_of a l ≡ true) e left))
                      | inr m ↦ inl (marked_member old lit (sym (first.others lit m) ∙ left), m)
                    ]
              ]
        ]

    from : (lit : Lit) → (Contains (marked_lits old) lit × (lit ≢ pivot)) ⊎ (Contains clause lit × (lit ≢ opposite pivot))
        → Contains (marked_lits new) lit
    from lit (inl left) =
        let was_on : mark_of old lit ≡ true = member_marked old lit left.0 in
        marked_member new lit (elim (lit_cases lit (opposite pivot)) [
          | inl e ↦ ap (λ (l : Lit). mark_of new l) e ∙ third.here ∙ opposite_was ∙ sym (ap (λ (l : Lit). mark_of old l) e) ∙ was_on
          | inr n ↦ third.others lit n ∙ elim (has_or_not clause lit) [
            | inl there ↦ second.here lit there
            | inr none ↦ second.others lit none ∙ first.others lit left.1 ∙ was_on
          ]
        ])
    from lit (inr right) = marked_member new lit (third.others lit right.1 ∙ second.here lit right.0)

-- ---- the literals that a row of steps leads to

pub leads_same : (before : List (List Lit)) (xs ys : List Lit) (steps : List Pivot) (clause : List Lit) → SameLits xs ys
    → Leads before xs steps clause → Leads before ys steps clause
leads_same before xs ys [] clause same h = λ lit. (λ c. (h lit).0 ((same lit).1 c), λ c. (same lit).0 ((h lit).1 c))
leads_same before xs ys (step ∷ steps) clause same h = (
  h.0,
  (
    h.1.0,
    h.1.1,
    h.1.2,
    record {
      on_left = (same h.1.0).0 h.1.3.on_left;
      on_right = h.1.3.on_right;
      resolvent = λ lit. (
        λ c. elim ((h.1.3.resolvent lit).0 c) [
          | inl left ↦ inl ((same lit).0 left.0, left.1)
          | inr right ↦ inr right
        ],
        λ c. elim c [
          | inl left ↦ (h.1.3.resolvent lit).1 (inl ((same lit).1 left.0, left.1))
          | inr right ↦ (h.1.3.resolvent lit).1 (inr right)
        ],
      );
    },
    h.1.4,
  ),
)

-- two resolvents on the same pivot
same_pivot : (left right a b : List Lit) (p : Lit) → Resolves left right p a → Resolves left right p b → SameLits a b
same_pivot left right a b p g h lit = (λ c. (h.resolvent lit).1 ((g.resolvent lit).0 c), λ c. (g.resolvent lit).1 ((h.resolvent lit).0 c))

-- two resolvents on opposite pivots: then both sides have both
opposite_pivots : (left right a b : List Lit) (p : Lit) → Resolves left right p a → Resolves left right (opposite p) b
    → (lit : Lit) → Contains a lit → Contains b lit
opposite_pivots left right a b p g h lit c =
    elim ((g.resolvent lit).0 c) [
      | inl x ↦ elim (lit_cases lit (opposite p)) [
        | inl e ↦ (h.resolvent lit).1 (inr (subst (λ (l : Lit). Contains right l) (sym e) g.on_right, λ q. opposite_differs (opposite p) (sym e ∙ q)))
        | inr n ↦ (h.resolvent lit).1 (inl (x.0, n))
      ]
      | inr x ↦ elim (lit_cases lit p) [
        | inl e ↦ (h.resolvent lit).1 (inl (subst (λ (l : Lit). Contains left l) (sym e) g.on_left, λ q. opposite_differs p (sym e ∙ q)))
        | inr n ↦ (h.resolvent lit).1 (inr (x.0, λ q. n (q ∙ opposite-opposite p)))
      ]
    ]

pub same_resolvent : (left right a b : List Lit) (p q : Lit) → p.var ≡ q.var → Resolves left right p a
    → Resolves left right q b → SameLits a b
same_resolvent left right a b p q e g h =
    elim (same_var q p (sym e)) [
      | inl same ↦ same_pivot left right a b p g (subst (λ (l : Lit). Resolves left right l b) same h)
      | inr other ↦
          let h' : Resolves left right (opposite p) b = subst (λ (l : Lit). Resolves left right l b) other h in
          let g' : Resolves left right (opposite (opposite p)) a = subst (λ (l : Lit). Resolves left right l a) (sym (opposite-opposite p)) g in
          λ lit. (opposite_pivots left right a b p g h' lit, opposite_pivots left right b a (opposite p) h' g' lit)
    ]

-- after a step that can be taken
pub step_taken : (before : List (List Lit)) (left after : List Lit) (step : Pivot) (steps : List Pivot) (pivot : Lit)
    (clause : List Lit) → step.clause < length before → pivot.var ≡ step.var
    → Resolves left (get_or before step.clause []) pivot after
    → Leads before left (step ∷ steps) clause ↔ Leads before after steps clause
step_taken before left after step steps pivot clause known at is = (
  λ h. leads_same before h.1.1 after steps clause (same_resolvent left (get_or before step.clause []) h.1.1 after h.1.0 pivot (h.1.2 ∙ sym at) h.1.3 is) h.1.4,
  λ h. (known, (pivot, after, at, is, h)),
)

-- ---- the loops

pub puts_none : (old : List Signs) (lits : List Lit) (mark : Bool) → SetsMarks old (take 0 lits) mark old
puts_none old lits mark = record {
  here = λ lit c. absurd (no_member lit c);
  others = λ lit none. refl;
}

pub puts_more : (old mid new : List Signs) (lits : List Lit) (i : ℕ) (d : Lit) (mark : Bool) → i < length lits
    → SetsMarks old (take i lits) mark mid → SetsMark mid (get_or lits i d) mark new
    → SetsMarks old (take (i + 1) lits) mark new
puts_more old mid new lits i d mark low was is = record {
  here = λ lit c. elim (lit_cases lit (get_or lits i d)) [
    | inl e ↦ ap (λ (l : Lit). mark_of new l) e ∙ is.here
    | inr n ↦ is.others lit n ∙ elim (taken_cases lits i d lit low c) [
      | inl before ↦ was.here lit before
      | inr e ↦ absurd (n (sym e))
    ]
  ];
  others = λ lit none.
      is.others lit (λ e. none (subst (λ (l : Lit). Contains (take (i + 1) lits) l) (sym e) (taken_new lits i d low)))
      ∙ was.others lit (λ before. none (taken_old lits i d lit low before));
}

pub puts_all : (old new : List Signs) (lits : List Lit) (i : ℕ) (mark : Bool) → length lits ≤ i
    → SetsMarks old (take i lits) mark new → SetsMarks old lits mark new
puts_all old new lits i mark past is = subst (λ (l : List Lit). SetsMarks old l mark new) (take_all i lits past) is

pub pivot_more : (marks : List Signs) (clause : List Lit) (i v : ℕ) (d : Lit) → i < length clause
    → ((get_or clause i d).var ≡ v → mark_of marks (opposite (get_or clause i d)) ≡ true → ⊥)
    → ((pivot : Lit) → pivot.var ≡ v → mark_of marks pivot ≡ true → Contains (take i clause) (opposite pivot) → ⊥)
    → (pivot : Lit) → pivot.var ≡ v → mark_of marks pivot ≡ true → Contains (take (i + 1) clause) (opposite pivot) → ⊥
pivot_more marks clause i v d low here before pivot at on c =
    elim (taken_cases clause i d (opposite pivot) low c) [
      | inl old ↦ before pivot at on old
      | inr e ↦
          let same : opposite (get_or clause i d) ≡ pivot = ap opposite e ∙ opposite-opposite pivot in
          here (ap (λ (l : Lit). l.var) e ∙ at) (subst (λ (l : Lit). mark_of marks l ≡ true) (sym same) on)
    ]

pub known_at : (n m : ℕ) (clauses : List (List Lit)) (k : ℕ) (clause : List Lit) → m ≡ n
    → All (All (λ lit. lit.var < n)) clauses → k < length clauses → clause ≡ get_or clauses k []
    → All (λ lit. lit.var < m) clause
known_at n m clauses k clause e all low is = rw (is, e) (all k [] low)

pub known_later : (n m : ℕ) (clauses : List (List Lit)) → m ≡ n → All (All (λ lit. lit.var < n)) clauses
    → All (All (λ lit. lit.var < m)) clauses
known_later n m clauses e all = rw e all

-- ---- a chain from its first clause to its last test

pub began : (old new : List Signs) (lits : List Lit) → ((lit : Lit) → mark_of old lit ≡ false)
    → SetsMarks old lits true new → SameLits lits (marked_lits new)
began old new lits none is lit = (
  λ c. marked_member new lit (is.here lit c),
  λ m. elim (has_or_not lits lit) [
    | inl there ↦ there
    | inr absent ↦ absurd (false≢true (sym (none lit) ∙ sym (is.others lit absent) ∙ member_marked new lit m))
  ],
)

pub same_back : (xs ys : List Lit) → SameLits xs ys → SameLits ys xs
same_back xs ys h lit = ((h lit).1, (h lit).0)

pub all_marked : (marks : List Signs) (lits : List Lit) → SameLits (marked_lits marks) lits
    → All (λ lit. mark_of marks lit ≡ true) lits
all_marked marks lits same k d low = member_marked marks (get_or lits k d) ((same (get_or lits k d)).1 (Contains-get_or lits k d low))

pub all_known : (marks : List Signs) (lits : List Lit) → All (λ lit. mark_of marks lit ≡ true) lits
    → All (λ lit. lit.var < length marks) lits
all_known marks lits all k d low = marked_known marks (get_or lits k d) (all k d low)

pub exactly : (old new : List Signs) (lits : List Lit) → All (λ lit. mark_of old lit ≡ true) lits
    → SetsMarks old lits false new → ((lit : Lit) → mark_of new lit ≡ false) ↔ SameLits (marked_lits old) lits
exactly old new lits all is = (
  λ none lit. (
    λ m. elim (has_or_not lits lit) [
      | inl there ↦ there
      | inr absent ↦ absurd (false≢true (sym (none lit) ∙ is.others lit absent ∙ member_marked old lit m))
    ],
    λ c. marked_member old lit (All-contains (λ (l : Lit). mark_of old l ≡ true) lits lit all c),
  ),
  λ same lit. elim (has_or_not lits lit) [
    | inl there ↦ is.here lit there
    | inr absent ↦ is.others lit absent ∙ false_from_ne_true (mark_of old lit) (λ on. absent ((same lit).0 (marked_member old lit on)))
  ],
)

abbrev pub no_pivot : Pivot
no_pivot = record { var = 0; clause = 0 }

drop_past : {A : Type 0} (n : ℕ) (xs : List A) → length xs ≤ n → drop n xs ≡ []
drop_past zero [] h = refl
drop_past zero (x ∷ xs) h = absurd (omega arith)
drop_past (suc n) [] h = refl
drop_past (suc n) (x ∷ xs) h = drop_past n xs (omega arith)

pub rest_at : (steps : List Pivot) (i : ℕ) (d : Pivot) → i < length steps
    → drop i steps ≡ get_or steps i d ∷ drop (i + 1) steps
rest_at steps i d h = rw (add-one i) (drop-cons steps i d h)

pub step_refused : (before : List (List Lit)) (left named : List Lit) (all steps : List Pivot) (step : Pivot)
    (clause : List Lit) → all ≡ step ∷ steps → named ≡ get_or before step.clause []
    → ((pivot : Lit) → pivot.var ≡ step.var → Contains left pivot → Contains named (opposite pivot) → ⊥)
    → Leads before left all clause → ⊥
step_refused before left named all steps step clause e is none leads =
    let h : Leads before left (step ∷ steps) clause = subst (λ (l : List Pivot). Leads before left l clause) e leads in
    none h.1.0 h.1.2 h.1.3.on_left (subst (λ (l : List Lit). Contains l (opposite h.1.0)) (sym is) h.1.3.on_right)

pub step_goes_on : (before : List (List Lit)) (start left after named : List Lit) (whole all steps : List Pivot)
    (step : Pivot) (clause : List Lit) → all ≡ step ∷ steps → step.clause < length before
    → named ≡ get_or before step.clause []
    → (pivot : Lit) × (pivot.var ≡ step.var) × Resolves left named pivot after
    → Leads before start whole clause ↔ Leads before left all clause
    → Leads before start whole clause ↔ Leads before after steps clause
step_goes_on before start left after named whole all steps step clause e known is taken so_far =
    let is' : Resolves left (get_or before step.clause []) taken.0 after = subst (λ (l : List Lit). Resolves left l taken.0 after) is taken.2 in
    let one = step_taken before left after step steps taken.0 clause known taken.1 is' in (
      λ h. one.0 (subst (λ (l : List Pivot). Leads before left l clause) e (so_far.0 h)),
      λ h. so_far.1 (subst (λ (l : List Pivot). Leads before left l clause) (sym e) (one.1 h)),
    )

pub steps_done : (before : List (List Lit)) (start left : List Lit) (steps : List Pivot) (i : ℕ) (clause : List Lit)
    → length steps ≤ i → Leads before start steps clause ↔ Leads before left (drop i steps) clause
    → Leads before start steps clause ↔ SameLits left clause
steps_done before start left steps i clause past h =
    let e : drop i steps ≡ [] = drop_past i steps past in
    (λ g. subst (λ (l : List Pivot). Leads before left l clause) e (h.0 g), λ g. h.1 (subst (λ (l : List Pivot). Leads before left l clause) (sym e) g))

pub not_led : (before : List (List Lit)) (chain : Chain) (first : List Lit) (marks : List Signs) (steps : List Pivot)
    → first ≡ get_or before chain.first [] → SameLits first (marked_lits marks) → steps ≡ chain.rest
    → ((clause : List Lit) → Leads before (marked_lits marks) steps clause → ⊥) → Follows before chain → ⊥
not_led before chain first marks steps is same e none follows =
    none chain.clause (subst (λ (l : List Pivot). Leads before (marked_lits marks) l chain.clause) (sym e)
    (leads_same before first (marked_lits marks) chain.rest chain.clause same
    (subst (λ (l : List Lit). Leads before l chain.rest chain.clause) (sym is) follows.1)))

pub led : (before : List (List Lit)) (chain : Chain) (first lits : List Lit) (marks after : List Signs)
    (steps : List Pivot) (result : Bool) → (chain.first < length before) × (first ≡ get_or before chain.first [])
    → SameLits first (marked_lits marks) → steps ≡ chain.rest → lits ≡ chain.clause
    → ((clause : List Lit) → Leads before (marked_lits marks) steps clause ↔ SameLits (marked_lits after) clause)
    → (result ≡ true) ↔ SameLits (marked_lits after) lits → (result ≡ true) ↔ Follows before chain
led before chain first lits marks after steps result (known, is) same es el leads exact = (
  λ r.
      let reached : Leads before (marked_lits marks) steps lits = (leads lits).1 (exact.0 r) in
      let reached' : Leads before (marked_lits marks) chain.rest chain.clause = subst (λ (l : List Lit). Leads before (marked_lits marks) chain.rest l) el
      (subst (λ (l : List Pivot). Leads before (marked_lits marks) l lits) es reached) in (
        known,
        subst (λ (l : List Lit). Leads before l chain.rest chain.clause) is
            (leads_same before (marked_lits marks) first chain.rest chain.clause (same_back first (marked_lits marks) same) reached'),
      ),
  λ f.
      let begun : Leads before (marked_lits marks) chain.rest chain.clause = leads_same before first (marked_lits marks) chain.rest chain.clause same
      (subst (λ (l : List Lit). Leads before l chain.rest chain.clause) (sym is) f.1) in
      let begun' : Leads before (marked_lits marks) steps lits = subst (λ (l : List Lit). Leads before (marked_lits marks) steps l) (sym el)
      (subst (λ (l : List Pivot). Leads before (marked_lits marks) l chain.clause) (sym es) begun) in
      exact.1 ((leads lits).0 begun'),
)

pub clear_more : (old mid new : List Signs) (v : ℕ) (plus minus : Lit) → plus ≡ record { var = v; positive = true }
    → minus ≡ opposite plus → ((lit : Lit) → lit.var < v → mark_of old lit ≡ false) → SetsMark old plus false mid
    → SetsMark mid minus false new → (lit : Lit) → lit.var < v + 1 → mark_of new lit ≡ false
clear_more old mid new v plus minus ey en before first second lit low =
    elim (lit_cases lit minus) [
      | inl e ↦ ap (λ (l : Lit). mark_of new l) e ∙ second.here
      | inr n ↦ second.others lit n ∙ elim (lit_cases lit plus) [
        | inl e ↦ ap (λ (l : Lit). mark_of mid l) e ∙ first.here
        | inr m ↦ first.others lit m ∙ before lit (below (λ e. elim
            (same_var lit plus (e ∙ sym (ap (λ (l : Lit). l.var) ey))) [ inl same ↦ m same | inr other ↦ n (other ∙ sym en) ]))
      ]
    ]
  where
    below : (lit.var ≡ v → ⊥) → lit.var < v
    below apart = omega arith

pub clear_whole : (marks : List Signs) (v : ℕ) → length marks ≤ v
    → ((lit : Lit) → lit.var < v → mark_of marks lit ≡ false) → (lit : Lit) → mark_of marks lit ≡ false
clear_whole marks v past below lit = false_from_ne_true (mark_of marks lit)
    (λ on. let k : lit.var < length marks = marked_known marks lit on in false≢true (sym (below lit (omega arith)) ∙ on))

-- the chains before an index follow, and with the one there those before the next
pub each_more : (cnf : List (List Lit)) (log : List Chain) (i : ℕ) (d : Chain) → i < length log
    → ((k : ℕ) (chain : Chain) → k < i → slice_get log k ≡ Some chain → Follows (clauses_before cnf log k) chain)
    → Follows (clauses_before cnf log i) (get_or log i d)
    → (k : ℕ) (chain : Chain) → k < i + 1 → slice_get log k ≡ Some chain → Follows (clauses_before cnf log k) chain
each_more cnf log i d low before here k chain below at =
    elim (cases_lt k i) [
      | inl less ↦ before k chain less at
      | inr more ↦
          let e : k ≡ i = omega arith in
          let is : get_or log i d ≡ chain = ap (λ (j : ℕ). get_or log j d) (sym e) ∙ get_or_from_slice_get log k chain d at in
          subst (λ (j : ℕ). Follows (clauses_before cnf log j) chain) (sym e)
          (subst (λ (c : Chain). Follows (clauses_before cnf log i) c) is here)
    ]

-- past the end they all follow
pub each_whole : (cnf : List (List Lit)) (log : List Chain) (i : ℕ) → length log ≤ i
    → ((k : ℕ) (chain : Chain) → k < i → slice_get log k ≡ Some chain → Follows (clauses_before cnf log k) chain)
    → EachFollows cnf log
each_whole cnf log i past before k chain at =
    let low : k < length log = slice_get_within log k chain at in before k chain (omega arith) at
