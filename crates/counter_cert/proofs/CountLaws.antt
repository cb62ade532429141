-- What the clauses of the counting say of a model, and that they fit: progress is a row of truth values that falls.
use Rattle.std.proofs.Common.{◌≡◌, ℕ, zero, suc, ◌+◌, ◌<◌, ◌≤◌, ◌%◌, Bool, true, false, not, ◌&&◌, ◌||◌, List, [], ◌∷◌, ◌++◌, length, get_or}
use Rattle.std.proofs.Common.{Option, Some, None, inl, inr, refl, sym, ap, ◌∙◌, subst, arith}
use Rattle.std.specs.Prelude.{All, nat_lt, nat_le, if◌then◌else◌}
use Rattle.std.proofs.lemmas.Bool.{and_parts, and_from, cases_Bool, cases_lt, lt-ltb, le-ltb, le-leb, ltb-true, true≢false}
use Rattle.std.proofs.lemmas.Nat.{mod_below}
use Rattle.std.proofs.Math.Nat.{mod-eq_of_lt}
use Rattle.cnf.specs.declared.lit.Lit.{Lit}
use Rattle.cnf.specs.Clauses.{opposite, lit_holds, clause_holds, clauses_hold}
use Rattle.cnf.specs.Gates.{literal}
use Rattle.cnf.proofs.ModelLaws.{lit_holds-opposite}
use Rattle.cnf.proofs.ListLaws.{same_where_met, met_where_same}
use Rattle.state_coding.proofs.StateLaws.{parts_hold, both_hold}
use Rattle.counter_cert.specs.StepClauses.{falling_clauses, each_below, beyond_first_clauses, beyond_clauses}
use Rattle.counter_cert.specs.StepClauses.{progress_clauses}

-- ---- gates over truth values

-- one value is the other, as clauses say it
abbrev pub same_value : Bool → Bool → Bool
same_value v f = (not v || f) && (v || not f)

beyond_values : (h g b c : Bool)
    → ((not h || (g || (b || false))) && ((not h || (g || (c || false))) && ((h || (not g || false))
    && ((h || (not b || (not c || false))) && true)))) ≡ same_value h (g || (b && c))
beyond_values true true true true = refl
beyond_values true true true false = refl
beyond_values true true false true = refl
beyond_values true true false false = refl
beyond_values true false true true = refl
beyond_values true false true false = refl
beyond_values true false false true = refl
beyond_values true false false false = refl
beyond_values false true true true = refl
beyond_values false true true false = refl
beyond_values false true false true = refl
beyond_values false true false false = refl
beyond_values false false true true = refl
beyond_values false false true false = refl
beyond_values false false false true = refl
beyond_values false false false false = refl

beyond_first_values : (h g c : Bool)
    → ((not h || (g || (c || false))) && ((h || (not g || false)) && ((h || (not c || false)) && true))) ≡ same_value h (g || c)
beyond_first_values true true true = refl
beyond_first_values true true false = refl
beyond_first_values true false true = refl
beyond_first_values true false false = refl
beyond_first_values false true true = refl
beyond_first_values false true false = refl
beyond_first_values false false true = refl
beyond_first_values false false false = refl

condition_values : (c u r : Bool)
    → ((not c || (not u || (r || false))) && ((c || (u || false)) && ((c || (not r || false)) && true))) ≡ same_value c (not u || r)
condition_values true true true = refl
condition_values true true false = refl
condition_values true false true = refl
condition_values true false false = refl
condition_values false true true = refl
condition_values false true false = refl
condition_values false false true = refl
condition_values false false false = refl

-- ---- the gates in a model

beyond_is : (model : List Bool) (g before c h : Lit) → g.var < length model → before.var < length model → c.var < length model
    → h.var < length model → clauses_hold model (beyond_clauses g before c h)
    ≡ same_value (lit_holds model h) (lit_holds model g || (lit_holds model before && lit_holds model c))
beyond_is model g before c h kg kb kc kh =
    let vh = lit_holds model h in
    let vg = lit_holds model g in
    let vb = lit_holds model before in
    let vc = lit_holds model c in
    let nh = lit_holds-opposite model h kh in
    let ng = lit_holds-opposite model g kg in
    let nb = lit_holds-opposite model before kb in
    let nc = lit_holds-opposite model c kc in
    (λ j. (nh j || (vg || (vb || false))) && ((nh j || (vg || (vc || false))) && ((vh || (ng j || false)) && ((vh || (nb j || (nc j || false))) && true))))
    ∙ beyond_values vh vg vb vc

beyond_first_is : (model : List Bool) (g c h : Lit) → g.var < length model → c.var < length model
    → h.var < length model → clauses_hold model (beyond_first_clauses g c h)
    ≡ same_value (lit_holds model h) (lit_holds model g || lit_holds model c)
beyond_first_is model g c h kg kc kh =
    let vh = lit_holds model h in
    let vg = lit_holds model g in
    let vc = lit_holds model c in
    let nh = lit_holds-opposite model h kh in
    let ng = lit_holds-opposite model g kg in
    let nc = lit_holds-opposite model c kc in
    (λ j. (nh j || (vg || (vc || false))) && ((vh || (ng j || false)) && ((vh || (nc j || false)) && true)))
    ∙ beyond_first_values vh vg vc

pub gate_is : (model : List Bool) (c u r : Lit) → c.var < length model → u.var < length model → r.var < length model
    → clauses_hold model ((opposite c ∷ opposite u ∷ r ∷ []) ∷ (c ∷ u ∷ []) ∷ (c ∷ opposite r ∷ []) ∷ [])
    ≡ same_value (lit_holds model c) (not (lit_holds model u) || lit_holds model r)
gate_is model c u r kc ku kr =
    let vc = lit_holds model c in
    let vu = lit_holds model u in
    let vr = lit_holds model r in
    let nc = lit_holds-opposite model c kc in
    let nu = lit_holds-opposite model u ku in
    let nr = lit_holds-opposite model r kr in
    (λ j. (nc j || (nu j || (vr || false))) && ((vc || (vu || false)) && ((vc || (nr j || false)) && true)))
    ∙ condition_values vc vu vr

-- ---- lists of the numbers below one

pub each_says : (model : List Bool) (f : ℕ → List (List Lit)) (k : ℕ) → clauses_hold model (each_below f k) ≡ true
    → (i : ℕ) → i < k → clauses_hold model (f i) ≡ true
each_says model f zero h i lt = absurd (omega (arith, lt))
each_says model f (suc k) h i lt =
    let parts = parts_hold model (each_below f k) (f k) h in
    elim (cases_lt i k) [
      | inl less ↦ each_says model f k parts.0 i less
      | inr ge ↦
          let same : k ≡ i = omega (arith, lt, ge) in
          subst (λ (j : ℕ). clauses_hold model (f j) ≡ true) same parts.1
    ]

pub each_fits : (model : List Bool) (f : ℕ → List (List Lit)) (k : ℕ) → ((i : ℕ) → i < k → clauses_hold model (f i) ≡ true)
    → clauses_hold model (each_below f k) ≡ true
each_fits model f zero h = refl
each_fits model f (suc k) h =
    both_hold model (each_below f k) (f k) (each_fits model f k (λ i lt. h i (omega (arith, lt)))) (h k (omega arith))

-- ---- a row that falls is a number

-- the number of the values that are true, which stand first
pub record IsThreshold (most : ℕ) (f : ℕ → Bool) : Type 0 where
  pub number : ℕ
  pub few : number ≤ most + 1
  pub is : (b : ℕ) → b ≤ most → f b ≡ nat_lt b number

at_zero : (f : ℕ → Bool) (v : Bool) → f 0 ≡ v → IsThreshold 0 f
at_zero f true e = record {
  number = 1;
  few = omega arith;
  is = λ b le.
      let none : 0 ≡ b = omega (arith, le) in
      subst (λ (i : ℕ). f i ≡ nat_lt i 1) none e;
}
at_zero f false e = record {
  number = 0;
  few = omega arith;
  is = λ b le.
      let none : 0 ≡ b = omega (arith, le) in
      subst (λ (i : ℕ). f i ≡ nat_lt i 0) none e;
}

one_further : (k : ℕ) (f : ℕ → Bool) (v : Bool) → f (k + 1) ≡ v → (f (k + 1) ≡ true → f k ≡ true) → IsThreshold k f
    → IsThreshold (suc k) f
one_further k f true e falls t =
    let all : k < t.number = ltb-true k t.number (sym (t.is k (omega arith)) ∙ falls e) in
    record {
      number = suc k + 1;
      few = omega arith;
      is = λ b le. elim (cases_lt k b) [
        | inl last ↦
            let same : k + 1 ≡ b = omega (arith, le, last) in
            subst (λ (i : ℕ). f i ≡ nat_lt i (suc k + 1)) same (e ∙ sym (lt-ltb (k + 1) (suc k + 1) (omega arith)))
        | inr older ↦ t.is b older ∙ (lt-ltb b t.number (omega (arith, older, all)) ∙ sym (lt-ltb b (suc k + 1) (omega (arith, older))))
      ];
    }
one_further k f false e falls t =
    let few : t.number ≤ k + 1 = t.few in
    record {
      number = t.number;
      few = omega (arith, few);
      is = λ b le. elim (cases_lt k b) [
        | inl last ↦
            let same : k + 1 ≡ b = omega (arith, le, last) in
            subst (λ (i : ℕ). f i ≡ nat_lt i t.number) same (e ∙ sym (le-ltb (k + 1) t.number few))
        | inr older ↦ t.is b older
      ];
    }

pub threshold : (most : ℕ) (f : ℕ → Bool) → ((b : ℕ) → b < most → f (b + 1) ≡ true → f b ≡ true) → IsThreshold most f
threshold zero f falls = at_zero f (f 0) refl
threshold (suc k) f falls =
    one_further k f (f (k + 1)) refl (falls k (omega arith)) (threshold k f (λ b lt. falls b (omega (arith, lt))))

-- ---- counting

-- whether progress is beyond the number before, which there is none of before 0
abbrev pub beyond_before : ℕ → ℕ → Bool
beyond_before p zero = true
beyond_before p (suc b) = nat_lt b p

-- the progress after, by the turn's truth
abbrev pub counted : ℕ → Bool → ℕ
counted p turn = if turn then p + 1 else p

at_turn : (p : ℕ) (x : Bool) → nat_lt p (counted p x) ≡ x
at_turn p true = lt-ltb p (p + 1) (omega arith)
at_turn p false = le-ltb p p (omega arith)

below_turn : (b p : ℕ) (x : Bool) → b < p → nat_lt b (counted p x) ≡ true
below_turn b p true h = lt-ltb b (p + 1) (omega (arith, h))
below_turn b p false h = lt-ltb b p h

above_turn : (b p : ℕ) (x : Bool) → p < b → nat_lt b (counted p x) ≡ false
above_turn b p true h = le-ltb b (p + 1) (omega (arith, h))
above_turn b p false h = le-ltb b p (omega (arith, h))

before_at : (p : ℕ) → beyond_before p p ≡ true
before_at zero = refl
before_at (suc b) = lt-ltb b (suc b) (omega arith)

before_above : (b p : ℕ) → p < b → beyond_before p b ≡ false
before_above zero p h = absurd (omega (arith, h))
before_above (suc b) p h = le-ltb b p (omega (arith, h))

first_or : (a b r : Bool) → a ≡ true → r ≡ true → (a || b) ≡ r
first_or a b r e h = rw (e, h) refl

neither_or : (a b c r : Bool) → a ≡ false → b ≡ false → r ≡ false → (a || (b && c)) ≡ r
neither_or a b c r ea eb er = rw (ea, eb, er) refl

second_or : (a b c r : Bool) → a ≡ false → b ≡ true → r ≡ c → (a || (b && c)) ≡ r
second_or a b c r ea eb er = rw (ea, eb, er) refl

counts_at : (most p : ℕ) (turn : ℕ → Bool) → p ≤ most
    → (nat_lt p p || (beyond_before p p && turn p)) ≡ nat_lt p (counted p (nat_le p most && turn p))
counts_at most p turn le =
    second_or (nat_lt p p) (beyond_before p p) (turn p) (nat_lt p (counted p (nat_le p most && turn p)))
    (le-ltb p p (omega arith)) (before_at p)
    (at_turn p (nat_le p most && turn p) ∙ ap (λ (x : Bool). x && turn p) (le-leb p most le))

-- the progress after is beyond b where progress is, or is beyond the number before and the turn's condition is met
pub counts : (most p b : ℕ) (turn : ℕ → Bool) → b ≤ most
    → (nat_lt b p || (beyond_before p b && turn b)) ≡ nat_lt b (counted p (nat_le p most && turn p))
counts most p b turn le = elim (cases_lt b p) [
  | inl lt ↦ first_or (nat_lt b p) (beyond_before p b && turn b) (nat_lt b (counted p (nat_le p most && turn p))) (lt-ltb b p lt)
      (below_turn b p (nat_le p most && turn p) lt)
  | inr ge ↦ elim (cases_lt p b) [
    | inl above ↦ neither_or (nat_lt b p) (beyond_before p b) (turn b) (nat_lt b (counted p (nat_le p most && turn p))) (le-ltb b p ge)
        (before_above b p above) (above_turn b p (nat_le p most && turn p) above)
    | inr at ↦
        let same : p ≡ b = omega (arith, ge, at) in
        subst (λ (i : ℕ). (nat_lt i p || (beyond_before p i && turn i)) ≡ nat_lt i (counted p (nat_le p most && turn p))) same
        (counts_at most p turn (omega (arith, le, at)))
  ]
]

-- ---- rows of variables

-- so many variables from n on have the values of a function
abbrev pub IsRow : List Bool → ℕ → ℕ → (ℕ → Bool) → Type 0
IsRow model n count f = (i : ℕ) → i < count → lit_holds model (literal (n + i)) ≡ f i

-- progress is the number in the row from g on, the row from c on has the turns, and that from h on the progress after
pub record Counts (model : List Bool) (m most : ℕ) (met : ℕ → Bool) (g c h p : ℕ) : Type 0 where
  pub over : IsRow model g (most + 1) (λ b. nat_lt b p)
  pub turns : IsRow model c m met
  pub next : IsRow model h (most + 1) (λ b. nat_lt b (counted p (nat_le p most && met (p % m))))

-- the variables are there
pub record AreThere (model : List Bool) (m most g c h : ℕ) : Type 0 where
  pub over : g + most < length model
  pub turns : c + m ≤ length model
  pub next : h + most < length model
  pub some : 0 < m

falls_value : (x y nx : Bool) → nx ≡ not x → ((nx || (y || false)) && true) ≡ true → x ≡ true → y ≡ true
falls_value true true nx e h on = refl
falls_value true false nx e h on = absurd (true≢false (sym h ∙ ap (λ (z : Bool). (z || false) && true) e))
falls_value false y nx e h on = absurd (true≢false (sym on))

falls_fit : (x y nx : Bool) → nx ≡ not x → (x ≡ true → y ≡ true) → ((nx || (y || false)) && true) ≡ true
falls_fit true true nx e h = rw (e) refl
falls_fit true false nx e h = absurd (true≢false (sym (h refl)))
falls_fit false y nx e h = rw (e) refl

module _ (model : List Bool) (m most g c h : ℕ) (there : AreThere model m most g c h) where
  over_falls : clauses_hold model (each_below (falling_clauses g) most) ≡ true
      → (b : ℕ) → b < most → lit_holds model (literal (g + (b + 1))) ≡ true → lit_holds model (literal (g + b)) ≡ true
  over_falls holds b lt on =
      falls_value (lit_holds model (literal (g + (b + 1)))) (lit_holds model (literal (g + b))) _
      (lit_holds-opposite model (literal (g + (b + 1))) (omega (arith, lt, there.over)))
      (each_says model (falling_clauses g) most holds b lt) on

  falling_fit : (p : ℕ) → IsRow model g (most + 1) (λ b. nat_lt b p) → clauses_hold model (each_below (falling_clauses g) most) ≡ true
  falling_fit p row =
      each_fits model (falling_clauses g) most (λ b lt.
      falls_fit (lit_holds model (literal (g + (b + 1)))) (lit_holds model (literal (g + b))) _
      (lit_holds-opposite model (literal (g + (b + 1))) (omega (arith, lt, there.over)))
      (λ on.
      let far : b + 1 < p = ltb-true (b + 1) p (sym (row (b + 1) (omega (arith, lt))) ∙ on) in
      row b (omega (arith, lt)) ∙ lt-ltb b p (omega (arith, far))))

  same_var : (n : ℕ) → lit_holds model (literal n) ≡ lit_holds model (literal (n + 0))
  same_var n =
      let same : n ≡ n + 0 = omega arith in
      ap (λ (i : ℕ). lit_holds model (literal i)) same

  turn_known : (i : ℕ) → c + i % m < length model
  turn_known i =
      let less : i % m < m = mod_below i m there.some in
      let all = there.turns in
      omega (arith, less, all)

  -- the gate of the variable against one number
  progress_is : (p : ℕ) (met : ℕ → Bool) → IsRow model g (most + 1) (λ b. nat_lt b p) → IsRow model c m met → (b : ℕ) → b ≤ most
      → clauses_hold model (progress_clauses m g c h b)
      ≡ same_value (lit_holds model (literal (h + b))) (nat_lt b p || (beyond_before p b && met (b % m)))
  progress_is p met over turns zero le =
      let some = there.some in
      let first : 0 % m ≡ 0 = mod-eq_of_lt some in
      let at_h = same_var h in
      let at_g = same_var g ∙ over 0 (omega arith) in
      let at_c = same_var c ∙ (turns 0 some ∙ ap met (sym first)) in
      beyond_first_is model (literal g) (literal c) (literal h) (omega (arith, there.over)) (omega (arith, there.turns, some))
      (omega (arith, there.next)) ∙ (λ j. same_value (at_h j) (at_g j || at_c j))
  progress_is p met over turns (suc b) le =
      let at_g = over (suc b) (omega (arith, le)) in
      let at_b = over b (omega (arith, le)) in
      let at_c = turns (suc b % m) (mod_below (suc b) m there.some) in
      beyond_is model (literal (g + suc b)) (literal (g + b)) (literal (c + suc b % m)) (literal (h + suc b))
      (omega (arith, le, there.over)) (omega (arith, le, there.over)) (turn_known (suc b)) (omega (arith, le, there.next))
      ∙ (λ j. same_value (lit_holds model (literal (h + suc b))) (at_g j || (at_b j && at_c j)))

  pub counting_says : (met : ℕ → Bool) → clauses_hold model (each_below (falling_clauses g) most) ≡ true → IsRow model c m met
      → clauses_hold model (each_below (progress_clauses m g c h) (most + 1)) ≡ true
      → (p : ℕ) × Counts model m most met g c h p
  counting_says met falls turns holds =
      let t = threshold most (λ (b : ℕ). lit_holds model (literal (g + b))) (over_falls falls) in
      let over = λ (b : ℕ) (lt : b < most + 1). t.is b (omega (arith, lt)) in (
        t.number,
        record {
          over = over;
          turns = turns;
          next = λ b lt.
              same_where_met _ _ _ (progress_is t.number met over turns b (omega (arith, lt)))
              (each_says model (progress_clauses m g c h) (most + 1) holds b lt)
              ∙ counts most t.number b (λ (i : ℕ). met (i % m)) (omega (arith, lt));
        },
      )

  pub counting_fit : (met : ℕ → Bool) (p : ℕ) → Counts model m most met g c h p
      → (clauses_hold model (each_below (falling_clauses g) most) ≡ true)
      × (clauses_hold model (each_below (progress_clauses m g c h) (most + 1)) ≡ true)
  counting_fit met p is = (
    falling_fit p is.over,
    each_fits model (progress_clauses m g c h) (most + 1) (λ b lt.
        met_where_same _ _ _ (progress_is p met is.over is.turns b (omega (arith, lt)))
        (is.next b lt ∙ sym (counts most p b (λ (i : ℕ). met (i % m)) (omega (arith, lt))))),
  )
