-- Bits that are fixed one after the other, each to the least value that is left.
use Rattle.std.proofs.Common.{◌≡◌, ℕ, ◌+◌, ◌<◌, ◌≤◌, Bool, true, false, not, cond, ◌&&◌, ◌||◌, List, [], ◌∷◌, ◌++◌, map, length, refl, sym, ap, ◌∙◌}
use Rattle.std.proofs.Common.{take, get_or}
use Rattle.std.specs.Prelude.{All}
use Rattle.std.proofs.Common.{subst, subst₂, append_assoc, arith, inl, inr}
use Rattle.std.proofs.lemmas.Bool.{and_from, or_left, cases_Bool}
use Rattle.std.proofs.lemmas.List.{length-map, map_push, take_more, take_all}
use Rattle.cnf.specs.declared.lit.Lit.{Lit}
use Rattle.cnf.specs.Clauses.{opposite, lit_holds, clauses_hold, HasNoModel}
use Rattle.cnf.proofs.ModelLaws.{lit_holds-opposite}
use Rattle.state_coding.proofs.StateLaws.{both_hold, parts_hold}
use Rattle.sat_core.specs.Search.{unit_clause}
use Rattle.first_lasso.proofs.Order.{NotAfter, by_cases, after_front, same_fronts}
use Rattle.lasso_search.specs.LeastModels.{IsModelUnder, bit_numbers, IsLeastBy}

abbrev bit : List Bool → Lit → ℕ
bit model lit = cond (lit_holds model lit) 1 0

-- ---- one more literal that is known

sole : (b : Bool) → ((b || false) && true) ≡ true → b ≡ true
sole true h = refl
sole false h = h

known_part : (n : ℕ) (clauses : List (List Lit)) (known : List Lit) (lit : Lit) (model : List Bool)
    → IsModelUnder n clauses (known ++ lit ∷ []) model → IsModelUnder n clauses known model × (lit_holds model lit ≡ true)
known_part n clauses known lit model h =
    let whole : clauses ++ map unit_clause (known ++ lit ∷ []) ≡ (clauses ++ map unit_clause known) ++ unit_clause lit ∷ [] =
    ap (λ xs. clauses ++ xs) (map_push unit_clause known lit) ∙ sym (append_assoc clauses (map unit_clause known) (unit_clause lit ∷ [])) in
    let parts = parts_hold model (clauses ++ map unit_clause known) (unit_clause lit ∷ []) (sym (ap (clauses_hold model) whole) ∙ h.holds) in
    (record { vars = h.vars; holds = parts.0 }, sole (lit_holds model lit) parts.1)

pub known_more : (n : ℕ) (clauses : List (List Lit)) (known : List Lit) (lit : Lit) (model : List Bool)
    → IsModelUnder n clauses known model → lit_holds model lit ≡ true → IsModelUnder n clauses (known ++ lit ∷ []) model
known_more n clauses known lit model h on =
    let whole : clauses ++ map unit_clause (known ++ lit ∷ []) ≡ (clauses ++ map unit_clause known) ++ unit_clause lit ∷ [] =
    ap (λ xs. clauses ++ xs) (map_push unit_clause known lit) ∙ sym (append_assoc clauses (map unit_clause known) (unit_clause lit ∷ [])) in
    let last : clauses_hold model (unit_clause lit ∷ []) ≡ true =
    and_from (lit_holds model lit || false) true (or_left (lit_holds model lit) false on) refl in record {
      vars = h.vars;
      holds = ap (clauses_hold model) whole ∙ both_hold model (clauses ++ map unit_clause known) (unit_clause lit ∷ []) h.holds last;
    }

-- ---- the literal that fixes a bit as a model has it

abbrev pub fixing : Lit → Bool → Lit
fixing lit value = cond value lit (opposite lit)

not_true : (b : Bool) → not b ≡ true → b ≡ false
not_true true e = sym e
not_true false e = refl

fixing_says : (model : List Bool) (lit : Lit) (value : Bool) → lit.var < length model → lit_holds model (fixing lit value) ≡ true
    → lit_holds model lit ≡ value
fixing_says model lit true known h = h
fixing_says model lit false known h = not_true (lit_holds model lit) (sym (lit_holds-opposite model lit known) ∙ h)

fixing_fits : (model : List Bool) (lit : Lit) (value : Bool) → lit.var < length model → lit_holds model lit ≡ value
    → lit_holds model (fixing lit value) ≡ true
fixing_fits model lit true known h = h
fixing_fits model lit false known h = lit_holds-opposite model lit known ∙ ap not h

abbrev digit : Bool → ℕ
digit b = cond b 1 0

same_bit : (a b : Bool) → digit a ≡ digit b → a ≡ b
same_bit true true e = refl
same_bit true false e = absurd (omega (arith, e))
same_bit false true e = absurd (omega (arith, e))
same_bit false false e = refl

least_bit : (a b : Bool) → (a ≡ true → b ≡ true) → cond a 1 0 ≤ cond b 1 0
least_bit false b h = omega arith
least_bit true b h = subst (λ (c : Bool). 1 ≤ cond c 1 0) (sym (h refl)) (omega arith)

-- ---- one bit

pub low_bit : (n : ℕ) (clauses : List (List Lit)) (known : List Lit) (lit : Lit) (model : List Bool) → lit.var < n
    → IsModelUnder n clauses (known ++ opposite lit ∷ []) model → lit_holds model lit ≡ false
low_bit n clauses known lit model inside h =
    let long : lit.var < length model = omega (arith, inside, h.vars) in
    not_true (lit_holds model lit) (sym (lit_holds-opposite model lit long) ∙ (known_part n clauses known (opposite lit) model h).1)

pub low_more : (n : ℕ) (clauses : List (List Lit)) (known : List Lit) (lit : Lit) (model : List Bool) → lit.var < n
    → IsModelUnder n clauses known model → lit_holds model lit ≡ false → IsModelUnder n clauses (known ++ opposite lit ∷ []) model
low_more n clauses known lit model inside h low =
    let long : lit.var < length model = omega (arith, inside, h.vars) in
    known_more n clauses known (opposite lit) model h (lit_holds-opposite model lit long ∙ ap not low)

pub forced_bit : (n : ℕ) (clauses : List (List Lit)) (known : List Lit) (lit : Lit) (model : List Bool) → lit.var < n
    → HasNoModel n (clauses ++ map unit_clause (known ++ opposite lit ∷ [])) → IsModelUnder n clauses known model → lit_holds model lit ≡ true
forced_bit n clauses known lit model inside none h =
    elim (cases_Bool (lit_holds model lit)) [
      | inl on ↦ on
      | inr off ↦ absurd (none model (low_more n clauses known lit model inside h off))
    ]

-- ---- what is fixed so far

-- The model has the least of the first bits among the models of what was known at the start, and what is known now is
-- that and these bits.
pub record IsFixed (n : ℕ) (clauses : List (List Lit)) (start known bits : List Lit) (best : List Bool) : Type 0 where
  pub model : IsModelUnder n clauses known best
  pub from_start : (other : List Bool) → IsModelUnder n clauses known other → IsModelUnder n clauses start other
  pub agree : (other : List Bool) → IsModelUnder n clauses known other → bit_numbers best bits ≡ bit_numbers other bits
  pub back : (other : List Bool) → IsModelUnder n clauses start other → bit_numbers best bits ≡ bit_numbers other bits
      → IsModelUnder n clauses known other
  pub least : (other : List Bool) → IsModelUnder n clauses start other → NotAfter (bit_numbers best bits) (bit_numbers other bits)

pub fixed_none : (n : ℕ) (clauses : List (List Lit)) (start : List Lit) (best : List Bool) → IsModelUnder n clauses start best
    → IsFixed n clauses start start [] best
fixed_none n clauses start best h = record {
  model = h;
  from_start = λ other o. o;
  agree = λ other o. refl;
  back = λ other o e. o;
  least = λ other o. tt;
}

-- What fixing one more bit says.
pub record FixesBit (n : ℕ) (clauses : List (List Lit)) (known now : List Lit) (lit : Lit) (best : List Bool) : Type 0 where
  pub known_lit : lit.var < n
  pub grown : now ≡ known ++ fixing lit (lit_holds best lit) ∷ []
  pub model : IsModelUnder n clauses now best
  pub least : (other : List Bool) → IsModelUnder n clauses known other → lit_holds best lit ≡ true → lit_holds other lit ≡ true

module _ (n : ℕ) (clauses : List (List Lit)) (start known now bits : List Lit) (lit : Lit) (old best : List Bool)
    (is : IsFixed n clauses start known bits old) (fixes : FixesBit n clauses known now lit best) where
  long : (model : List Bool) (some : List Lit) → IsModelUnder n clauses some model → lit.var < length model
  long model some h = omega (arith, h.vars, fixes.known_lit)

  split : (other : List Bool) → IsModelUnder n clauses now other
      → IsModelUnder n clauses known other × (lit_holds other (fixing lit (lit_holds best lit)) ≡ true)
  split other h =
      known_part n clauses known (fixing lit (lit_holds best lit)) other (subst (λ ls. IsModelUnder n clauses ls other) fixes.grown h)

  same_front : bit_numbers best bits ≡ bit_numbers old bits
  same_front = sym (is.agree best (split best fixes.model).0)

  pushed : (model : List Bool) → bit_numbers model (bits ++ lit ∷ []) ≡ bit_numbers model bits ++ bit model lit ∷ []
  pushed model = map_push (bit model) bits lit

  as_many : (a b : List Bool) → length (bit_numbers a bits) ≡ length (bit_numbers b bits)
  as_many a b = length-map bits (bit a) ∙ sym (length-map bits (bit b))

  agree_now : (other : List Bool) → IsModelUnder n clauses now other → bit_numbers best (bits ++ lit ∷ []) ≡ bit_numbers other (bits ++ lit ∷ [])
  agree_now other h =
      let parts = split other h in
      let front : bit_numbers best bits ≡ bit_numbers other bits = same_front ∙ is.agree other parts.0 in
      let value : lit_holds best lit ≡ lit_holds other lit =
      sym (fixing_says other lit (lit_holds best lit) (long other now h) parts.1) in
      pushed best ∙ ((λ j. front j ++ cond (value j) 1 0 ∷ []) ∙ sym (pushed other))

  back_now : (other : List Bool) → IsModelUnder n clauses start other
      → bit_numbers best (bits ++ lit ∷ []) ≡ bit_numbers other (bits ++ lit ∷ []) → IsModelUnder n clauses now other
  back_now other h e =
      let parts = same_fronts (bit_numbers best bits) (bit_numbers other bits) (bit best lit ∷ []) (bit other lit ∷ []) (as_many best other)
      (sym (pushed best) ∙ (e ∙ pushed other)) in
      let under = is.back other h (sym same_front ∙ parts.0) in
      let value : lit_holds other lit ≡ lit_holds best lit = sym (same_bit (lit_holds best lit) (lit_holds other lit) (ap head_of parts.1)) in
      subst (λ ls. IsModelUnder n clauses ls other) (sym fixes.grown)
      (known_more n clauses known (fixing lit (lit_holds best lit)) other under
      (fixing_fits other lit (lit_holds best lit) (long other known under) value))
    where
      head_of : List ℕ → ℕ
      head_of [] = 0
      head_of (x ∷ xs) = x

  least_now : (other : List Bool) → IsModelUnder n clauses start other
      → NotAfter (bit_numbers best (bits ++ lit ∷ [])) (bit_numbers other (bits ++ lit ∷ []))
  least_now other h =
      let front : NotAfter (bit_numbers best bits) (bit_numbers other bits) =
      subst (λ xs. NotAfter xs (bit_numbers other bits)) (sym same_front) (is.least other h) in
      subst₂ NotAfter (sym (pushed best)) (sym (pushed other))
      (after_front (bit_numbers best bits) (bit_numbers other bits) (bit best lit ∷ []) (bit other lit ∷ []) (as_many best other) front (λ e.
      let under = is.back other h (sym same_front ∙ e) in
      (least_bit (lit_holds best lit) (lit_holds other lit) (fixes.least other under), λ same. tt)))

  pub fixed_more : IsFixed n clauses start now (bits ++ lit ∷ []) best
  fixed_more = record {
    model = fixes.model;
    from_start = λ other h. is.from_start other (split other h).0;
    agree = agree_now;
    back = back_now;
    least = least_now;
  }

pub least_from_fixed : (n : ℕ) (clauses : List (List Lit)) (start known bits : List Lit) (best : List Bool)
    → IsFixed n clauses start known bits best → IsLeastBy n clauses start bits best
least_from_fixed n clauses start known bits best h = record {
  model = h.from_start best h.model;
  least_bits = λ other o. by_cases (bit_numbers best bits) (bit_numbers other bits) (h.least other o);
}

-- ---- the bits of a list, one after the other

-- What the call says that fixes one bit of the list, on a solver with these m variables and these clauses.
pub record FixedBy (n m : ℕ) (clauses here : List (List Lit)) (known now : List Lit) (lit : Lit) (best : List Bool) : Type 0 where
  pub vars : m ≡ n
  pub same : here ≡ clauses
  pub grown : now ≡ known ++ fixing lit (lit_holds best lit) ∷ []
  pub model : IsModelUnder m here now best
  pub least : (other : List Bool) → IsModelUnder m here known other → lit_holds best lit ≡ true → lit_holds other lit ≡ true

pub fixed_on : (n m : ℕ) (clauses here : List (List Lit)) (start known now bits : List Lit) (i : ℕ) (d : Lit) (old best : List Bool)
    → All (λ lit. lit.var < n) bits → i < length bits → IsFixed n clauses start known (take i bits) old
    → FixedBy n m clauses here known now (get_or bits i d) best → IsFixed n clauses start now (take (i + 1) bits) best
fixed_on n m clauses here start known now bits i d old best all lt is by =
    subst (λ bs. IsFixed n clauses start now bs best) (sym (take_more bits i d lt))
    (fixed_more n clauses start known now (take i bits) (get_or bits i d) old best is (record {
      known_lit = all i d lt;
      grown = by.grown;
      model = subst₂ (λ (a : ℕ) (b : List (List Lit)). IsModelUnder a b now best) by.vars by.same by.model;
      least = λ other h on.
          by.least other (subst₂ (λ (a : ℕ) (b : List (List Lit)). IsModelUnder a b known other) (sym by.vars) (sym by.same) h) on;
    }))

pub least_of_all : (n : ℕ) (clauses : List (List Lit)) (start known bits : List Lit) (i : ℕ) (best : List Bool) → length bits ≤ i
    → IsFixed n clauses start known (take i bits) best → IsLeastBy n clauses start bits best
least_of_all n clauses start known bits i best le h =
    least_from_fixed n clauses start known bits best (subst (λ bs. IsFixed n clauses start known bs best) (take_all i bits le) h)
