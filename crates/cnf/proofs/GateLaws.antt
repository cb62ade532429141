-- each gate's clauses: in a model of them the new variable has the function's value, and that value
-- meets them
use Rattle.std.proofs.Common.{◌≡◌, ◌+◌, ◌<◌, ℕ, Bool, true, false, not, ◌&&◌, ◌||◌, List, [], ◌∷◌, ◌++◌, length, refl, sym, ◌∙◌, ap, arith, length-append}
use Rattle.std.proofs.lemmas.Bool.{false≢true}
use Rattle.cnf.specs.declared.lit.Lit.{Lit}
use Rattle.cnf.specs.Clauses.{opposite, lit_holds, clauses_hold}
use Rattle.cnf.specs.Gates.{literal, xor, majority, and_clauses, xor_clauses, majority_clauses}
use Rattle.cnf.proofs.ModelLaws.{lit_holds-opposite, lit_holds-append, lit_holds-last}

and_only : (x a b : Bool)
    → ((not x || (a || false)) && ((not x || (b || false)) && ((x || (not a || (not b || false))) && true))) ≡ true
    → x ≡ (a && b)
and_only true true true h = refl
and_only true true false h = absurd (false≢true h)
and_only true false true h = absurd (false≢true h)
and_only true false false h = absurd (false≢true h)
and_only false true true h = absurd (false≢true h)
and_only false true false h = refl
and_only false false true h = refl
and_only false false false h = refl

and_met : (a b : Bool)
    → ((not (a && b) || (a || false)) && ((not (a && b) || (b || false)) && (((a && b) || (not a || (not b || false))) && true))) ≡ true
and_met true true = refl
and_met true false = refl
and_met false true = refl
and_met false false = refl

and_only_at : (x nx a na b nb : Bool) → nx ≡ not x → na ≡ not a → nb ≡ not b
    → ((nx || (a || false)) && ((nx || (b || false)) && ((x || (na || (nb || false))) && true))) ≡ true → x ≡ (a && b)
and_only_at x nx a na b nb ex ea eb h = and_only x a b (rw (ex, ea, eb) at h)

and_met_at : (x nx a na b nb : Bool) → nx ≡ not x → na ≡ not a → nb ≡ not b → x ≡ (a && b)
    → ((nx || (a || false)) && ((nx || (b || false)) && ((x || (na || (nb || false))) && true))) ≡ true
and_met_at x nx a na b nb ex ea eb e = rw (ex, ea, eb, e) (and_met a b)

-- in a model of the clauses the new variable is the function
pub and_means : (model : List Bool) (n : ℕ) (a b : Lit) → n < length model → a.var < length model
    → b.var < length model → clauses_hold model (and_clauses n a b) ≡ true
    → lit_holds model (literal n) ≡ (lit_holds model a && lit_holds model b)
and_means model n a b ln la lb h =
    and_only_at (lit_holds model (literal n)) (lit_holds model (opposite (literal n))) (lit_holds model a) (lit_holds model (opposite a))
    (lit_holds model b) (lit_holds model (opposite b))
    (lit_holds-opposite model (literal n) ln) (lit_holds-opposite model a la) (lit_holds-opposite model b lb) h

-- each model of the older variables has a value of the new one that meets the clauses
pub and_fits : (n : ℕ) (a b : Lit) → a.var < n → b.var < n → (model : List Bool) → length model ≡ n
    → (value : Bool) × (clauses_hold (model ++ value ∷ []) (and_clauses n a b) ≡ true)
and_fits n a b la lb model e =
    let value : Bool = (lit_holds model a && lit_holds model b) in
    let more : List Bool = model ++ value ∷ [] in
    let wide : length more ≡ n + 1 = length-append model (value ∷ []) ∙ ap (λ k. k + 1) e in
    let same_a : lit_holds more a ≡ lit_holds model a = lit_holds-append model (value ∷ []) a (omega arith) in
    let same_b : lit_holds more b ≡ lit_holds model b = lit_holds-append model (value ∷ []) b (omega arith) in
    let last : lit_holds more (literal n) ≡ (lit_holds more a && lit_holds more b) = lit_holds-last model value n e ∙ sym (rw (same_a, same_b) refl) in (
      value,
      and_met_at (lit_holds more (literal n)) (lit_holds more (opposite (literal n))) (lit_holds more a) (lit_holds more (opposite a))
          (lit_holds more b) (lit_holds more (opposite b))
          (lit_holds-opposite more (literal n) (omega arith)) (lit_holds-opposite more a (omega arith)) (lit_holds-opposite more b (omega arith)) last,
    )

xor_only : (x a b : Bool)
    → ((not x || (a || (b || false))) && ((not x || (not a || (not b || false))) &&
    ((x || (not a || (b || false))) && ((x || (a || (not b || false))) && true)))) ≡ true → x ≡ xor a b
xor_only true true true h = absurd (false≢true h)
xor_only true true false h = refl
xor_only true false true h = refl
xor_only true false false h = absurd (false≢true h)
xor_only false true true h = refl
xor_only false true false h = absurd (false≢true h)
xor_only false false true h = absurd (false≢true h)
xor_only false false false h = refl

xor_met : (a b : Bool)
    → ((not (xor a b) || (a || (b || false))) && ((not (xor a b) || (not a || (not b || false))) &&
    (((xor a b) || (not a || (b || false))) && (((xor a b) || (a || (not b || false))) && true)))) ≡ true
xor_met true true = refl
xor_met true false = refl
xor_met false true = refl
xor_met false false = refl

xor_only_at : (x nx a na b nb : Bool) → nx ≡ not x → na ≡ not a → nb ≡ not b
    → ((nx || (a || (b || false))) && ((nx || (na || (nb || false))) && ((x || (na || (b || false))) && ((x || (a || (nb || false))) && true))))
    ≡ true → x ≡ xor a b
xor_only_at x nx a na b nb ex ea eb h = xor_only x a b (rw (ex, ea, eb) at h)

xor_met_at : (x nx a na b nb : Bool) → nx ≡ not x → na ≡ not a → nb ≡ not b → x ≡ xor a b
    → ((nx || (a || (b || false))) && ((nx || (na || (nb || false))) && ((x || (na || (b || false))) && ((x || (a || (nb || false))) && true)))) ≡ true
xor_met_at x nx a na b nb ex ea eb e = rw (ex, ea, eb, e) (xor_met a b)

-- in a model of the clauses the new variable is the function
pub xor_means : (model : List Bool) (n : ℕ) (a b : Lit) → n < length model → a.var < length model
    → b.var < length model → clauses_hold model (xor_clauses n a b) ≡ true
    → lit_holds model (literal n) ≡ xor (lit_holds model a) (lit_holds model b)
xor_means model n a b ln la lb h =
    xor_only_at (lit_holds model (literal n)) (lit_holds model (opposite (literal n))) (lit_holds model a) (lit_holds model (opposite a))
    (lit_holds model b) (lit_holds model (opposite b))
    (lit_holds-opposite model (literal n) ln) (lit_holds-opposite model a la) (lit_holds-opposite model b lb) h

-- each model of the older variables has a value of the new one that meets the clauses
pub xor_fits : (n : ℕ) (a b : Lit) → a.var < n → b.var < n → (model : List Bool) → length model ≡ n
    → (value : Bool) × (clauses_hold (model ++ value ∷ []) (xor_clauses n a b) ≡ true)
xor_fits n a b la lb model e =
    let value : Bool = xor (lit_holds model a) (lit_holds model b) in
    let more : List Bool = model ++ value ∷ [] in
    let wide : length more ≡ n + 1 = length-append model (value ∷ []) ∙ ap (λ k. k + 1) e in
    let same_a : lit_holds more a ≡ lit_holds model a = lit_holds-append model (value ∷ []) a (omega arith) in
    let same_b : lit_holds more b ≡ lit_holds model b = lit_holds-append model (value ∷ []) b (omega arith) in
    let last : lit_holds more (literal n) ≡ xor (lit_holds more a) (lit_holds more b) = lit_holds-last model value n e ∙ sym (rw (same_a, same_b) refl) in (
      value,
      xor_met_at (lit_holds more (literal n)) (lit_holds more (opposite (literal n))) (lit_holds more a) (lit_holds more (opposite a))
          (lit_holds more b) (lit_holds more (opposite b))
          (lit_holds-opposite more (literal n) (omega arith)) (lit_holds-opposite more a (omega arith)) (lit_holds-opposite more b (omega arith)) last,
    )

majority_only : (x a b c : Bool)
    → ((not x || (a || (b || false))) && ((not x || (a || (c || false))) && ((not x || (b || (c || false))) &&
    ((x || (not a || (not b || false))) && ((x || (not a || (not c || false))) && ((x || (not b || (not c || false))) && true)))))) ≡ true
    → x ≡ majority a b c
majority_only true true true true h = refl
majority_only true true true false h = refl
majority_only true true false true h = refl
majority_only true true false false h = absurd (false≢true h)
majority_only true false true true h = refl
majority_only true false true false h = absurd (false≢true h)
majority_only true false false true h = absurd (false≢true h)
majority_only true false false false h = absurd (false≢true h)
majority_only false true true true h = absurd (false≢true h)
majority_only false true true false h = absurd (false≢true h)
majority_only false true false true h = absurd (false≢true h)
majority_only false true false false h = refl
majority_only false false true true h = absurd (false≢true h)
majority_only false false true false h = refl
majority_only false false false true h = refl
majority_only false false false false h = refl

majority_met : (a b c : Bool)
    → ((not (majority a b c) || (a || (b || false))) && ((not (majority a b c) || (a || (c || false))) &&
    ((not (majority a b c) || (b || (c || false))) && (((majority a b c) || (not a || (not b || false))) &&
    (((majority a b c) || (not a || (not c || false))) && (((majority a b c) || (not b || (not c || false))) && true)))))) ≡ true
majority_met true true true = refl
majority_met true true false = refl
majority_met true false true = refl
majority_met true false false = refl
majority_met false true true = refl
majority_met false true false = refl
majority_met false false true = refl
majority_met false false false = refl

majority_only_at : (x nx a na b nb c nc : Bool) → nx ≡ not x → na ≡ not a → nb ≡ not b → nc ≡ not c
    → ((nx || (a || (b || false))) && ((nx || (a || (c || false))) && ((nx || (b || (c || false))) &&
    ((x || (na || (nb || false))) && ((x || (na || (nc || false))) && ((x || (nb || (nc || false))) && true)))))) ≡ true → x ≡ majority a b c
majority_only_at x nx a na b nb c nc ex ea eb ec h = majority_only x a b c (rw (ex, ea, eb, ec) at h)

majority_met_at : (x nx a na b nb c nc : Bool) → nx ≡ not x → na ≡ not a → nb ≡ not b → nc ≡ not c
    → x ≡ majority a b c
    → ((nx || (a || (b || false))) && ((nx || (a || (c || false))) && ((nx || (b || (c || false))) &&
    ((x || (na || (nb || false))) && ((x || (na || (nc || false))) && ((x || (nb || (nc || false))) && true)))))) ≡ true
majority_met_at x nx a na b nb c nc ex ea eb ec e = rw (ex, ea, eb, ec, e) (majority_met a b c)

-- in a model of the clauses the new variable is the function
pub majority_means : (model : List Bool) (n : ℕ) (a b c : Lit) → n < length model → a.var < length model
    → b.var < length model → c.var < length model → clauses_hold model (majority_clauses n a b c) ≡ true
    → lit_holds model (literal n) ≡ majority (lit_holds model a) (lit_holds model b) (lit_holds model c)
majority_means model n a b c ln la lb lc h =
    majority_only_at (lit_holds model (literal n)) (lit_holds model (opposite (literal n))) (lit_holds model a) (lit_holds model (opposite a))
    (lit_holds model b) (lit_holds model (opposite b)) (lit_holds model c) (lit_holds model (opposite c))
    (lit_holds-opposite model (literal n) ln) (lit_holds-opposite model a la) (lit_holds-opposite model b lb) (lit_holds-opposite model c lc) h

-- each model of the older variables has a value of the new one that meets the clauses
pub majority_fits : (n : ℕ) (a b c : Lit) → a.var < n → b.var < n → c.var < n → (model : List Bool) → length model ≡ n
    → (value : Bool) × (clauses_hold (model ++ value ∷ []) (majority_clauses n a b c) ≡ true)
majority_fits n a b c la lb lc model e =
    let value : Bool = majority (lit_holds model a) (lit_holds model b) (lit_holds model c) in
    let more : List Bool = model ++ value ∷ [] in
    let wide : length more ≡ n + 1 = length-append model (value ∷ []) ∙ ap (λ k. k + 1) e in
    let same_a : lit_holds more a ≡ lit_holds model a = lit_holds-append model (value ∷ []) a (omega arith) in
    let same_b : lit_holds more b ≡ lit_holds model b = lit_holds-append model (value ∷ []) b (omega arith) in
    let same_c : lit_holds more c ≡ lit_holds model c = lit_holds-append model (value ∷ []) c (omega arith) in
    let last : lit_holds more (literal n) ≡ majority (lit_holds more a) (lit_holds more b) (lit_holds more c) = lit_holds-last model value n e ∙ sym
    (rw (same_a, same_b, same_c) refl) in (
      value,
      majority_met_at (lit_holds more (literal n)) (lit_holds more (opposite (literal n))) (lit_holds more a) (lit_holds more (opposite a))
          (lit_holds more b) (lit_holds more (opposite b)) (lit_holds more c) (lit_holds more (opposite c))
          (lit_holds-opposite more (literal n) (omega arith)) (lit_holds-opposite more a (omega arith)) (lit_holds-opposite more b (omega arith))
          (lit_holds-opposite more c (omega arith)) last,
    )
