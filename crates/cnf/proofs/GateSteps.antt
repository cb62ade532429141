-- what a gate's code has at each exit, from the equations that say how far it came
use Rattle.std.proofs.Common.{◌≡◌, ◌+◌, ◌<◌, ◌≤◌, ◌-◌, ◌*◌, ℕ, zero, suc, Bool, true, false, not, ◌&&◌, List, [], ◌∷◌, ◌++◌, length, take, drop, get_or}
use Rattle.std.proofs.Common.{refl, sym, ◌∙◌, ap, arith, add-one, append_assoc}
use Rattle.std.specs.List.{All}
use Rattle.std.proofs.lemmas.Bool.{and_parts}
use Rattle.std.proofs.lemmas.List.Elements.{All-nil, All-cons, All-weaker}
use Rattle.cnf.specs.declared.lit.Lit.{Lit}
use Rattle.cnf.specs.Clauses.{opposite, lit_values, lit_holds, clauses_hold, IsModel, Represents, IsConservative}
use Rattle.std.proofs.Math.Seq.{drop-cons}
use Rattle.std.specs.Prelude.{◌+ℤ◌, int_le}
use Rattle.cnf.specs.Gates.{literal, xor, majority, and_clauses, xor_clauses, majority_clauses}
use Rattle.cnf.specs.Arithmetic.{signed_number, comparison_pairs, later_greater_clauses, le_clauses, le_literal, later_sum_clauses, sum_clauses}
use Rattle.cnf.specs.Arithmetic.{later_sum_bits, sum_bits}
use Rattle.cnf.proofs.ModelLaws.{clauses_hold-append, clauses_hold-take, lit_holds-opposite, IsConservative_refl, IsConservative-defined, IsConservative-all}
use Rattle.cnf.proofs.GateLaws.{and_means, and_fits, xor_means, xor_fits, majority_means, majority_fits}
use Rattle.cnf.proofs.NumberLaws.{greater_compares, at_least, sum_adds}

-- ---- facts that the lemmas share

-- an input of a gate: a literal within the variables, and its opposite
pub record IsInput (n : ℕ) (lit negation : Lit) : Type 0 where
  pub known : lit.var < n
  pub negated : negation ≡ opposite lit

-- a gate of which no clause has come yet: its variable is the next, and the opposite of its literal is at hand
pub record IsGateBegun (n m v : ℕ) (older mid : List (List Lit)) (negation : Lit) : Type 0 where
  pub vars : m ≡ n + 1
  pub next : v ≡ n
  pub negated : negation ≡ opposite (literal v)
  pub clauses : mid ≡ older

-- a gate that has come whole: one variable more, its literal and all of its clauses
pub record IsGateAdded (n m : ℕ) (older newer gate : List (List Lit)) (answer : Lit) : Type 0 where
  pub vars : m ≡ n + 1
  pub is_next : answer ≡ literal n
  pub clauses : newer ≡ older ++ gate

-- two rows of bits within the variables, of one length and not empty
pub record AreRows (n : ℕ) (a b : List Lit) : Type 0 where
  pub same : length a ≡ length b
  pub some : 0 < length a
  pub left : All (λ lit. lit.var < n) a
  pub right : All (λ lit. lit.var < n) b

-- the lowest places of two rows, and the places above them
pub record AreLowest (a b : List Lit) (x y : Lit) (left right : List Lit) : Type 0 where
  pub first : a ≡ x ∷ left
  pub second : b ≡ y ∷ right

-- ---- gates

pub IsConservative_same : (n m : ℕ) (older newer : List (List Lit)) → m ≡ n → newer ≡ older
    → IsConservative n older m newer
IsConservative_same n m older newer e f = rw (e, f) (IsConservative_refl n older)

-- the clauses of a gate hold in a model of the list that ends with them
pub last_hold : (model : List Bool) (older gate newer : List (List Lit)) → newer ≡ older ++ gate
    → clauses_hold model newer ≡ true → clauses_hold model gate ≡ true
last_hold model older gate newer e h = (and_parts (clauses_hold model older) (clauses_hold model gate)
    (sym (clauses_hold-append model older gate) ∙ (rw e at h))).1

pub and_gate_means : (n m : ℕ) (older newer : List (List Lit)) (a b c : Lit) → a.var < n → b.var < n → m ≡ n + 1
    → newer ≡ older ++ and_clauses n a b → c ≡ literal n
    → Represents m newer c (λ model. lit_holds model a && lit_holds model b)
and_gate_means n m older newer a b c la lb em en ec =
    λ model is. ap (lit_holds model) ec ∙ and_means model n a b (let w = is.vars in omega arith) (let w = is.vars in omega arith)
    (let w = is.vars in omega arith) (last_hold model older (and_clauses n a b) newer en is.holds)

-- after a part of the first two clauses
pub and_gate_begins : (n m v k : ℕ) (older mid newer : List (List Lit)) (a b na nb nv : Lit) → IsInput n a na
    → IsInput n b nb → IsGateBegun n m v older mid nv → newer ≡ mid ++ take k ((nv ∷ a ∷ []) ∷ (nv ∷ b ∷ []) ∷ [])
    → IsConservative n older m newer
and_gate_begins n m v k older mid newer a b na nb nv left right begun en =
    rw (begun.vars, en, begun.clauses, begun.negated, begun.next) (IsConservative-defined n older (take 2 (and_clauses n a b)) k
    (λ model e.
    let fit = and_fits n a b left.known right.known model e in (fit.0, clauses_hold-take (model ++ fit.0 ∷ []) 2 (and_clauses n a b) fit.1)))

pub and_gate_whole : (n m v : ℕ) (older mid then newer : List (List Lit)) (a b na nb nv : Lit) → IsInput n a na
    → IsInput n b nb → IsGateBegun n m v older mid nv → then ≡ mid ++ (nv ∷ a ∷ []) ∷ (nv ∷ b ∷ []) ∷ []
    → newer ≡ then ++ (literal v ∷ na ∷ nb ∷ []) ∷ [] → newer ≡ older ++ and_clauses n a b
and_gate_whole n m v older mid then newer a b na nb nv left right begun et en =
    en ∙ rw (et, begun.clauses, begun.negated, left.negated, right.negated, begun.next) (append_assoc older _ _)

pub gate_grows_whole : (n m : ℕ) (older newer gate : List (List Lit))
    → ((model : List Bool) → length model ≡ n → (value : Bool) × (clauses_hold (model ++ value ∷ []) gate ≡ true))
    → m ≡ n + 1 → newer ≡ older ++ gate → IsConservative n older m newer
gate_grows_whole n m older newer gate fits em en = rw (em, en) (IsConservative-all n older gate fits)

pub xor_gate_means : (n m : ℕ) (older newer : List (List Lit)) (a b c : Lit) → a.var < n → b.var < n → m ≡ n + 1
    → newer ≡ older ++ xor_clauses n a b → c ≡ literal n
    → Represents m newer c (λ model. xor (lit_holds model a) (lit_holds model b))
xor_gate_means n m older newer a b c la lb em en ec =
    λ model is. ap (lit_holds model) ec ∙ xor_means model n a b (let w = is.vars in omega arith) (let w = is.vars in omega arith)
    (let w = is.vars in omega arith) (last_hold model older (xor_clauses n a b) newer en is.holds)

-- after a part of the clauses
pub xor_gate_begins : (n m v k : ℕ) (older mid newer : List (List Lit)) (a b na nb nv : Lit) → IsInput n a na
    → IsInput n b nb → IsGateBegun n m v older mid nv
    → newer ≡ mid ++ take k ((nv ∷ a ∷ b ∷ []) ∷ (nv ∷ na ∷ nb ∷ []) ∷ (literal v ∷ na ∷ b ∷ []) ∷
    (literal v ∷ a ∷ nb ∷ []) ∷ [])
    → IsConservative n older m newer
xor_gate_begins n m v k older mid newer a b na nb nv left right begun en =
    rw (begun.vars, en, begun.clauses, begun.negated, left.negated, right.negated, begun.next)
    (IsConservative-defined n older (xor_clauses n a b) k (xor_fits n a b left.known right.known))

pub xor_gate_whole : (n m v : ℕ) (older mid newer : List (List Lit)) (a b na nb nv : Lit) → IsInput n a na
    → IsInput n b nb → IsGateBegun n m v older mid nv
    → newer ≡ mid ++ (nv ∷ a ∷ b ∷ []) ∷ (nv ∷ na ∷ nb ∷ []) ∷ (literal v ∷ na ∷ b ∷ []) ∷
    (literal v ∷ a ∷ nb ∷ []) ∷ [] → newer ≡ older ++ xor_clauses n a b
xor_gate_whole n m v older mid newer a b na nb nv left right begun en =
    en ∙ rw (begun.clauses, begun.negated, left.negated, right.negated, begun.next) refl

-- after a part of the clauses
pub majority_gate_begins : (n m v k : ℕ) (older mid newer : List (List Lit)) (a b c na nb nc nv : Lit) → IsInput n a na
    → IsInput n b nb → IsInput n c nc → IsGateBegun n m v older mid nv
    → newer ≡ mid ++ take k ((nv ∷ a ∷ b ∷ []) ∷ (nv ∷ a ∷ c ∷ []) ∷ (nv ∷ b ∷ c ∷ []) ∷
    (literal v ∷ na ∷ nb ∷ []) ∷ (literal v ∷ na ∷ nc ∷ []) ∷ (literal v ∷ nb ∷ nc ∷ []) ∷ [])
    → IsConservative n older m newer
majority_gate_begins n m v k older mid newer a b c na nb nc nv first second third begun en =
    rw (begun.vars, en, begun.clauses, begun.negated, first.negated, second.negated, third.negated, begun.next)
    (IsConservative-defined n older (majority_clauses n a b c) k (majority_fits n a b c first.known second.known third.known))

pub majority_gate_whole : (n m v : ℕ) (older mid newer : List (List Lit)) (a b c na nb nc nv : Lit) → IsInput n a na
    → IsInput n b nb → IsInput n c nc → IsGateBegun n m v older mid nv
    → newer ≡ mid ++ (nv ∷ a ∷ b ∷ []) ∷ (nv ∷ a ∷ c ∷ []) ∷ (nv ∷ b ∷ c ∷ []) ∷
    (literal v ∷ na ∷ nb ∷ []) ∷ (literal v ∷ na ∷ nc ∷ []) ∷ (literal v ∷ nb ∷ nc ∷ []) ∷ []
    → newer ≡ older ++ majority_clauses n a b c
majority_gate_whole n m v older mid newer a b c na nb nc nv first second third begun en =
    en ∙ rw (begun.clauses, begun.negated, first.negated, second.negated, third.negated, begun.next) refl

-- two and three literals within the variables
pub within_two : (m : ℕ) (x y : Lit) → x.var < m → y.var < m → All (λ lit. lit.var < m) (x ∷ y ∷ [])
within_two m x y hx hy = All-cons (λ lit. lit.var < m) x (y ∷ []) hx (All-cons (λ lit. lit.var < m) y [] hy (All-nil (λ lit. lit.var < m)))

pub within_three : (m : ℕ) (x y z : Lit) → x.var < m → y.var < m → z.var < m → All (λ lit. lit.var < m) (x ∷ y ∷ z ∷ [])
within_three m x y z hx hy hz = All-cons (λ lit. lit.var < m) x (y ∷ z ∷ []) hx (within_two m y z hy hz)

abbrev pub Within : ℕ → List (List Lit) → Type 0
Within m clauses = All (All (λ lit. lit.var < m)) clauses

pub Within-nil : (m : ℕ) → Within m []
Within-nil m = All-nil (All (λ lit. lit.var < m))

pub Within-cons : (m : ℕ) (c : List Lit) (cs : List (List Lit)) → All (λ lit. lit.var < m) c → Within m cs
    → Within m (c ∷ cs)
Within-cons m c cs h hs = All-cons (All (λ lit. lit.var < m)) c cs h hs

-- ---- comparisons

pub pairs_at_sign : (a b : List Lit) (i : ℕ) (d e : Lit) → length a ≡ length b → i + 1 ≡ length a
    → drop i (comparison_pairs a b) ≡ (get_or b i e, get_or a i d) ∷ drop (suc i) (comparison_pairs a b)
pairs_at_sign [] b i d e same at = absurd (omega arith)
pairs_at_sign (x ∷ left) [] i d e same at = absurd (omega arith)
pairs_at_sign (x ∷ []) (y ∷ right) zero d e same at = refl
pairs_at_sign (x ∷ []) (y ∷ right) (suc i) d e same at = absurd (omega arith)
pairs_at_sign (x ∷ x' ∷ left) (y ∷ right) zero d e same at = absurd (omega arith)
pairs_at_sign (x ∷ x' ∷ left) (y ∷ right) (suc i) d e same at = pairs_at_sign (x' ∷ left) right i d e (omega arith) (omega arith)

pub pairs_before_sign : (a b : List Lit) (i : ℕ) (d e : Lit) → length a ≡ length b → i + 1 < length a
    → drop i (comparison_pairs a b) ≡ (get_or a i d, get_or b i e) ∷ drop (suc i) (comparison_pairs a b)
pairs_before_sign [] b i d e same at = absurd (omega arith)
pairs_before_sign (x ∷ left) [] i d e same at = absurd (omega arith)
pairs_before_sign (x ∷ []) (y ∷ right) i d e same at = absurd (omega arith)
pairs_before_sign (x ∷ x' ∷ left) (y ∷ right) zero d e same at = refl
pairs_before_sign (x ∷ x' ∷ left) (y ∷ right) (suc i) d e same at = pairs_before_sign (x' ∷ left) right i d e (omega arith) (omega arith)

pub length-pairs : (a b : List Lit) → length a ≡ length b → length (comparison_pairs a b) ≡ length a
length-pairs [] b same = refl
length-pairs (x ∷ left) [] same = absurd (omega arith)
length-pairs (x ∷ []) (y ∷ right) same = refl
length-pairs (x ∷ x' ∷ left) (y ∷ right) same = ap suc (length-pairs (x' ∷ left) right (omega arith))

-- one more place
pub le_goes_on : (m m' : ℕ) (now later total : List (List Lit)) (ps rest : List (Lit × Lit)) (x y ny greater greater' : Lit) → ps ≡ (x, y) ∷ rest
    → ny ≡ opposite y → m' ≡ m + 1 → greater' ≡ literal m → later ≡ now ++ majority_clauses m x ny greater
    → now ++ later_greater_clauses m greater ps ≡ total → later ++ later_greater_clauses m' greater' rest ≡ total
le_goes_on m m' now later total ps rest x y ny greater greater' ed ey em eg en et = rw (en, em, eg, ey) (append_assoc now _ _ ∙ (rw ed at et))

pub le_says : (model : List Bool) (n : ℕ) (a b : List Lit) → 0 < length a → length a ≡ length b
    → n + length a ≤ length model → All (λ lit. lit.var < length model) a → All (λ lit. lit.var < length model) b
    → clauses_hold model (le_clauses n a b) ≡ true
    → lit_holds model (le_literal n a) ≡ int_le (signed_number (lit_values model a)) (signed_number (lit_values model b))
le_says model n [] b some same room la lb h = absurd (omega arith)
le_says model n (x ∷ left) [] some same room la lb h = absurd (omega arith)
le_says model n (x ∷ left) (y ∷ right) some same room la lb h =
    let k : ℕ = n + length (x ∷ left) - 1 in
    lit_holds-opposite model (literal k) (omega arith)
    ∙ ap not (greater_compares model n k x left y right (omega arith) (omega arith) (omega arith) la lb h)
    ∙ at_least (signed_number (lit_values model (x ∷ left))) (signed_number (lit_values model (y ∷ right)))

pub le_means : (n m : ℕ) (older newer : List (List Lit)) (a b : List Lit) (answer greater : Lit) → AreRows n a b
    → m ≡ n + length a → greater ≡ literal (n + length a - 1) → answer ≡ opposite greater
    → newer ≡ older ++ le_clauses n a b
    → Represents m newer answer (λ model. int_le (signed_number (lit_values model a)) (signed_number (lit_values model b)))
le_means n m older newer a b answer greater rows em eg ea en =
    λ model is.
    let wide : length model ≡ n + length a = is.vars ∙ em in
    ap (lit_holds model) (ea ∙ ap opposite eg)
    ∙ le_says model n a b rows.some rows.same (omega arith)
    (All-weaker (λ lit. lit.var < n) (λ lit. lit.var < length model) (λ lit h. omega arith) a rows.left)
    (All-weaker (λ lit. lit.var < n) (λ lit. lit.var < length model) (λ lit h. omega arith) b rows.right)
    (last_hold model older (le_clauses n a b) newer en is.holds)

-- ---- sums

pub sum_begins : (n v m : ℕ) (older now then : List (List Lit)) (a b : List Lit) (x y either carry : Lit)
    (left right : List Lit) → AreLowest a b x y left right → IsGateAdded n v older then (xor_clauses n x y) either
    → IsGateAdded v m then now (and_clauses v x y) carry
    → now ++ later_sum_clauses m either carry left right ≡ older ++ sum_clauses n a b
sum_begins n v m older now then a b x y either carry left right lowest differ both =
    let ev : v ≡ n + 1 = differ.vars in
    let em : m ≡ v + 1 = both.vars in
    let wide : m ≡ n + 2 = omega arith in
    rw (both.clauses, differ.clauses, lowest.first, lowest.second, wide, differ.is_next, both.is_next, ev)
    (ap (λ l. l ++ later_sum_clauses (n + 2) (literal n) (literal (n + 1)) left right) (append_assoc older _ _) ∙ append_assoc older _ _)

pub sum_goes_on : (m m' : ℕ) (now later total : List (List Lit)) (a b left right : List Lit)
    (x y either carry either' carry' : Lit) → AreLowest a b x y left right → m' ≡ m + 3
    → either' ≡ literal m → carry' ≡ literal (m + 2)
    → later ≡ now ++ (xor_clauses m x y ++ xor_clauses (m + 1) (literal m) carry ++ majority_clauses (m + 2) x y carry)
    → now ++ later_sum_clauses m either carry a b ≡ total → later ++ later_sum_clauses m' either' carry' left right ≡ total
sum_goes_on m m' now later total a b left right x y either carry either' carry' lowest em ee ec en et = rw (en, em, ee, ec)
    (append_assoc now _ _ ∙ (rw (lowest.first, lowest.second) at et))

pub sum_bits_go_on : (m m' : ℕ) (bits bits' total a left : List Lit) (x s : Lit) → a ≡ x ∷ left → m' ≡ m + 3
    → s ≡ literal (m + 1) → bits' ≡ bits ++ s ∷ [] → bits ++ later_sum_bits m a ≡ total
    → bits' ++ later_sum_bits m' left ≡ total
sum_bits_go_on m m' bits bits' total a left x s ea em es eb et = rw (eb, em, es) (append_assoc bits _ _ ∙ (rw ea at et))

pub sum_bits_within : (m n : ℕ) (a : List Lit) → n + 3 * length a < m → All (λ lit. lit.var < m) (later_sum_bits n a)
sum_bits_within m n [] h = All-cons (λ lit. lit.var < m) (literal n) [] (omega arith) (All-nil (λ lit. lit.var < m))
sum_bits_within m n (x ∷ left) h = All-cons (λ lit. lit.var < m) (literal (n + 1)) (later_sum_bits (n + 3) left) (omega arith)
    (sum_bits_within m (n + 3) left (omega arith))

pub sum_within : (m n : ℕ) (a : List Lit) → n + 3 * length a ≤ m → All (λ lit. lit.var < m) (sum_bits n a)
sum_within m n [] h = All-nil (λ lit. lit.var < m)
sum_within m n (x ∷ left) h = All-cons (λ lit. lit.var < m) (literal n) (later_sum_bits (n + 2) left) (omega arith)
    (sum_bits_within m (n + 2) left (omega arith))

pub length-sum_bits_on : (n : ℕ) (a : List Lit) → length (later_sum_bits n a) ≡ length a + 1
length-sum_bits_on n [] = refl
length-sum_bits_on n (x ∷ left) = let e : length (later_sum_bits (n + 3) left) ≡ length left + 1 = length-sum_bits_on (n + 3) left in omega arith

pub pairs_last : (a b : List Lit) (i : ℕ) (d e : Lit) → length a ≡ length b → i < length a → i ≡ length a - 1
    → drop i (comparison_pairs a b) ≡ (get_or b i e, get_or a i d) ∷ drop (i + 1) (comparison_pairs a b)
pairs_last a b i d e same within at = rw (add-one i) (pairs_at_sign a b i d e same (omega arith))

pub pairs_front : (a b : List Lit) (i : ℕ) (d e : Lit) → length a ≡ length b → i < length a → (i ≡ length a - 1 → ⊥)
    → drop i (comparison_pairs a b) ≡ (get_or a i d, get_or b i e) ∷ drop (i + 1) (comparison_pairs a b)
pairs_front a b i d e same within at = rw (add-one i) (pairs_before_sign a b i d e same (omega arith))

pub All_later : (n m : ℕ) (row : List Lit) → n ≤ m → All (λ lit. lit.var < n) row → All (λ lit. lit.var < m) row
All_later n m row le h = All-weaker (λ lit. lit.var < n) (λ lit. lit.var < m) (λ lit below. omega arith) row h

drop_past : {A : Type 0} (n : ℕ) (xs : List A) → length xs ≤ n → drop n xs ≡ []
drop_past zero [] h = refl
drop_past zero (x ∷ xs) h = absurd (omega arith)
drop_past (suc n) [] h = refl
drop_past (suc n) (x ∷ xs) h = drop_past n xs (omega arith)

append_none : {A : Type 0} (xs : List A) → xs ++ [] ≡ xs
append_none [] = refl
append_none (x ∷ xs) = ap (λ ys. x ∷ ys) (append_none xs)

pub le_ends : (m place : ℕ) (now total : List (List Lit)) (greater : Lit) (a b : List Lit) → length a ≡ length b
    → length a ≤ place → now ++ later_greater_clauses m greater (drop place (comparison_pairs a b)) ≡ total
    → now ≡ total
le_ends m place now total greater a b same past h =
    let none : drop place (comparison_pairs a b) ≡ [] = drop_past place (comparison_pairs a b)
    (let e : length (comparison_pairs a b) ≡ length a = length-pairs a b same in omega arith) in
    sym (append_none now) ∙ (rw none at h)

pub positive_at : (w : ℕ) (greater : Lit) → greater ≡ literal greater.var → greater.var ≡ w → greater ≡ literal w
positive_at w greater is e = is ∙ ap literal e

pub majority_gate_means : (n m : ℕ) (older newer : List (List Lit)) (a b c v : Lit) → a.var < n → b.var < n
    → c.var < n → m ≡ n + 1 → newer ≡ older ++ majority_clauses n a b c → v ≡ literal n
    → Represents m newer v (λ model. majority (lit_holds model a) (lit_holds model b) (lit_holds model c))
majority_gate_means n m older newer a b c v la lb lc em en ev =
    λ model is. ap (lit_holds model) ev ∙ majority_means model n a b c (let w = is.vars in omega arith) (let w = is.vars in omega arith)
    (let w = is.vars in omega arith) (let w = is.vars in omega arith) (last_hold model older (majority_clauses n a b c) newer en is.holds)

-- the three gates of a full adder
pub place_clauses : (n v1 v2 : ℕ) (c0 c1 c2 c3 : List (List Lit)) (a b carry either : Lit)
    → c1 ≡ c0 ++ xor_clauses n a b → v1 ≡ n + 1 → either ≡ literal n → c2 ≡ c1 ++ xor_clauses v1 either carry
    → v2 ≡ v1 + 1 → c3 ≡ c2 ++ majority_clauses v2 a b carry
    → c3 ≡ c0 ++ (xor_clauses n a b ++ xor_clauses (n + 1) (literal n) carry ++ majority_clauses (n + 2) a b carry)
place_clauses n v1 v2 c0 c1 c2 c3 a b carry either e1 f1 ee e2 f2 e3 =
    let f : v2 ≡ n + 2 = omega arith in
    e3 ∙ rw (e2, e1, f, f1, ee) (ap (λ l. l ++ majority_clauses (n + 2) a b carry) (append_assoc c0 _ _) ∙ append_assoc c0 _ _)

abbrev pub no_lit : Lit
no_lit = record { var = 0; positive = false }

pub lit_below : (k m : ℕ) (lit : Lit) → lit ≡ literal k → k < m → lit.var < m
lit_below k m lit e h = rw e h

pub first_of : (a : List Lit) (d : Lit) → 0 < length a → a ≡ get_or a 0 d ∷ drop 1 a
first_of [] d h = absurd (omega arith)
first_of (x ∷ left) d h = refl

pub place_of : (a : List Lit) (i : ℕ) (d : Lit) → i < length a → drop i a ≡ get_or a i d ∷ drop (i + 1) a
place_of a i d h = rw (add-one i) (drop-cons a i d h)

pub sum_bits_begin : (n m : ℕ) (bits bits' a left : List Lit) (x s : Lit) → a ≡ x ∷ left → m ≡ n + 2 → s ≡ literal n
    → bits ≡ [] → bits' ≡ bits ++ s ∷ [] → bits' ++ later_sum_bits m left ≡ sum_bits n a
sum_bits_begin n m bits bits' a left x s ea em es eb eb' = rw (eb', eb, ea, em, es) refl

pub sum_ends : (m i : ℕ) (now newer total : List (List Lit)) (either carry : Lit) (a b : List Lit) → length a ≤ i
    → length b ≤ i → newer ≡ now ++ xor_clauses m either carry
    → now ++ later_sum_clauses m either carry (drop i a) (drop i b) ≡ total → newer ≡ total
sum_ends m i now newer total either carry a b pa pb en h = en ∙ (rw (drop_past i a pa) at h)

pub sum_bits_end : (m i : ℕ) (bits bits' total a : List Lit) (s : Lit) → length a ≤ i → s ≡ literal m
    → bits' ≡ bits ++ s ∷ [] → bits ++ later_sum_bits m (drop i a) ≡ total → bits' ≡ total
sum_bits_end m i bits bits' total a s pa es eb h = eb ∙ ap (λ l. bits ++ l ∷ []) es ∙ (rw (drop_past i a pa) at h)

pub sum_means : (n m : ℕ) (older newer : List (List Lit)) (a b sum : List Lit) → AreRows n a b
    → m ≡ n + 3 * length a → sum ≡ sum_bits n a → newer ≡ older ++ sum_clauses n a b → (model : List Bool)
    → IsModel m newer model
    → signed_number (lit_values model sum) ≡ signed_number (lit_values model a) +ℤ signed_number (lit_values model b)
sum_means n m older newer a b sum rows em es en model is =
    let wide : length model ≡ n + 3 * length a = is.vars ∙ em in
    ap (λ row. signed_number (lit_values model row)) es
    ∙ sum_adds model n a b rows.same rows.some (omega arith)
    (All_later n (length model) a (omega arith) rows.left) (All_later n (length model) b (omega arith) rows.right)
    (last_hold model older (sum_clauses n a b) newer en is.holds)

pub length-sum_bits : (n : ℕ) (a : List Lit) → 0 < length a → length (sum_bits n a) ≡ length a + 1
length-sum_bits n [] h = absurd (omega arith)
length-sum_bits n (x ∷ left) h = let e : length (later_sum_bits (n + 2) left) ≡ length left + 1 = length-sum_bits_on (n + 2) left in omega arith

pub known_bits : (n m : ℕ) (a sum : List Lit) → sum ≡ sum_bits n a → m ≡ n + 3 * length a → All (λ lit. lit.var < m) sum
known_bits n m a sum e h = rw e (sum_within m n a (omega arith))
