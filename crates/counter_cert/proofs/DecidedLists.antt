-- Of finitely many propositions it is never false that a list of truth values tells which of them hold.
use Rattle.std.proofs.Common.{◌≡◌, ℕ, zero, suc, ◌<◌, ◌↔◌, Bool, true, false, List, [], ◌∷◌, length, get_or, refl, sym, ap, arith}
use Rattle.std.proofs.lemmas.Bool.{true≢false}

-- the list tells the propositions below n: each is so exactly where its truth value is true
pub record Tells (P : ℕ → Type 0) (n : ℕ) (bits : List Bool) : Type 0 where
  pub count : length bits ≡ n
  pub truth : (k : ℕ) → k < n → (get_or bits k false ≡ true) ↔ P k

later_told : (P : ℕ → Type 0) (n : ℕ) (b : Bool) (bits : List Bool) → Tells (λ k. P (suc k)) n bits → (b ≡ true) ↔ P 0
    → (k : ℕ) → k < suc n → (get_or (b ∷ bits) k false ≡ true) ↔ P k
later_told P n b bits rest first zero h = first
later_told P n b bits rest first (suc k) h = rest.truth k (omega arith)

with_first : (P : ℕ → Type 0) (n : ℕ) (b : Bool) (bits : List Bool) → Tells (λ k. P (suc k)) n bits → (b ≡ true) ↔ P 0
    → Tells P (suc n) (b ∷ bits)
with_first P n b bits rest first =
    record { count = ap suc rest.count; truth = later_told P n b bits rest first }

pub some_list_tells : (P : ℕ → Type 0) (n : ℕ) → ((bits : List Bool) → Tells P n bits → ⊥) → ⊥
some_list_tells P zero none = none [] (record { count = refl; truth = λ k h. absurd (omega arith) })
some_list_tells P (suc n) none =
    some_list_tells (λ k. P (suc k)) n (λ bits rest.
    let fails : P 0 → ⊥ = λ p. none (true ∷ bits) (with_first P n true bits rest (λ e. p, λ q. refl)) in
    none (false ∷ bits) (with_first P n false bits rest (λ e. absurd (true≢false (sym e)), λ p. absurd (fails p))))
