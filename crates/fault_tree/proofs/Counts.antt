-- Numbers of unions, counted up to one more than the limit.
use Rattle.std.proofs.Common.{◌≡◌, ℕ, zero, suc, ◌+◌, ◌*◌, ◌<◌, ◌≤◌, inl, inr, min, List, [], map, drop, length, get_or, refl, sym, ap, ◌∙◌, arith}
use Rattle.std.proofs.Math.Seq.{drop-cons}
use Rattle.std.proofs.lemmas.Bool.{cases_lt}
use Rattle.std.proofs.lemmas.Nat.{mul-le}
use Rattle.std.proofs.lemmas.List.Sums.{sum_by-cons}
use Rattle.fault_tree.specs.Trees.{product, width}

at_cap : (n : ℕ) → 65537 ≤ n → min n 65537 ≡ 65537
at_cap n past = omega arith

below_cap : (n : ℕ) → n < 65537 → min n 65537 ≡ n
below_cap n low = omega arith

both_past : (a b m n : ℕ) → 65537 ≤ a * b → 65537 ≤ m * n → min (a * b) 65537 ≡ min (m * n) 65537
both_past a b m n first second = at_cap (a * b) first ∙ sym (at_cap (m * n) second)

times_none : (a : ℕ) → a * 0 ≡ 0
times_none a = omega arith

none_times : (a : ℕ) → 0 * a ≡ 0
none_times a = omega arith

-- caps of factors: a is past the cap
past_left : (a b c : ℕ) → 65537 ≤ a → (c ≡ 0 → b ≡ 0) → (b ≡ 0 → c ≡ 0) → min (65537 * c) 65537 ≡ min (a * b) 65537
past_left a zero c past none none' = ap (λ (m : ℕ). min (65537 * m) 65537) (none' refl) ∙ ap (λ (m : ℕ). min m 65537) (sym (times_none a))
past_left a (suc b) zero past none none' = absurd (omega (arith, none refl))
past_left a (suc b) (suc c) past none none' =
    both_past 65537 (suc c) a (suc b) (omega (arith, mul-le 65537 1 65537 (suc c) (omega arith) (omega arith)))
    (omega (arith, mul-le 65537 1 a (suc b) past (omega arith)))

-- caps of factors: a is below the cap, and b past it
past_right : (a b : ℕ) → 65537 ≤ b → min (a * 65537) 65537 ≡ min (a * b) 65537
past_right zero b past = ap (λ (m : ℕ). min m 65537) (none_times 65537 ∙ sym (none_times b))
past_right (suc a) b past =
    both_past (suc a) 65537 (suc a) b (omega (arith, mul-le 1 65537 (suc a) 65537 (omega arith) (omega arith)))
    (omega (arith, mul-le 1 65537 (suc a) b (omega arith) past))

cap_mul : (a b : ℕ) → min (min a 65537 * min b 65537) 65537 ≡ min (a * b) 65537
cap_mul a b =
    elim (cases_lt a 65537) [
      | inl low ↦ ap (λ (m : ℕ). min (m * min b 65537) 65537) (below_cap a low) ∙ elim (cases_lt b 65537) [
        | inl low' ↦ ap (λ (m : ℕ). min (a * m) 65537) (below_cap b low')
        | inr past ↦ ap (λ (m : ℕ). min (a * m) 65537) (at_cap b past) ∙ past_right a b past
      ]
      | inr past ↦ ap (λ (m : ℕ). min (m * min b 65537) 65537) (at_cap a past)
          ∙ past_left a b (min b 65537) past (λ e. omega (arith, e)) (λ e. omega (arith, e))
    ]

-- one member more, from the end
pub cut_step : (sets : ℕ → List (List ℕ)) (cut : List ℕ) (i j size count : ℕ) → i < length cut → suc i ≡ j
    → size ≡ length (sets (get_or cut i 0))
    → count ≡ min (product (map (λ member. length (sets member)) (drop j cut))) 65537
    → min (min size 65537 * count) 65537 ≡ min (product (map (λ member. length (sets member)) (drop i cut))) 65537
cut_step sets cut i j size count low after e is =
    let rest : ℕ = product (map (λ member. length (sets member)) (drop (suc i) cut)) in
    let f : ℕ → ℕ = λ member. length (sets member) in
    ap (λ (m : ℕ). min (min size 65537 * m) 65537) (is ∙ ap (λ (k : ℕ). min (product (map f (drop k cut))) 65537) (sym after))
    ∙ cap_mul size rest ∙ ap (λ (m : ℕ). min (m * rest) 65537) e
    ∙ ap (λ (l : List ℕ). min (product (map f l)) 65537) (sym (drop-cons cut i 0 low))

-- one cut more, from the end
pub cuts_step : (sets : ℕ → List (List ℕ)) (cuts : List (List ℕ)) (i j of_cut count : ℕ) → i < length cuts → suc i ≡ j
    → of_cut ≡ min (product (map (λ member. length (sets member)) (get_or cuts i []))) 65537
    → count ≡ min (width sets (drop j cuts)) 65537
    → min (of_cut + count) 65537 ≡ min (width sets (drop i cuts)) 65537
cuts_step sets cuts i j of_cut count low after e is =
    let f : List ℕ → ℕ = λ cut. product (map (λ member. length (sets member)) cut) in
    let rest : ℕ = width sets (drop (suc i) cuts) in
    let is' : count ≡ min rest 65537 = is ∙ ap (λ (k : ℕ). min (width sets (drop k cuts)) 65537) (sym after) in
    let whole : width sets (drop i cuts) ≡ f (get_or cuts i []) + rest =
    ap (width sets) (drop-cons cuts i [] low) ∙ sum_by-cons f (get_or cuts i []) (drop (suc i) cuts) in
    omega (arith, e, is', whole)
