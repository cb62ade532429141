use Rattle.std.proofs.Common.{◌≡◌, ℕ, Bool, true, false, not, ◌&&◌, ◌||◌, cond, refl}
use Rattle.std.proofs.lemmas.Bool.{false≢true}
use Rattle.typed_ltl.specs.Truth.{Either, HoldsUntil, HoldsReleased, Sometime}

-- a truth value tells whether a fact holds
abbrev pub Tells : Bool → Type 0 → Type 0
Tells b P = (P → b ≡ true) × (b ≡ true → P)

pub tells_not : (b : Bool) (P : Type 0) → Tells b P → Tells (not b) (P → ⊥)
tells_not true P h = (λ n. absurd (n (h.1 refl)), λ e p. false≢true e)
tells_not false P h = (λ n. refl, λ e p. false≢true (h.0 p))

pub tells_and : (b c : Bool) (P Q : Type 0) → Tells b P → Tells c Q → Tells (b && c) (P × Q)
tells_and true true P Q h k = (λ p. refl, λ e. (h.1 refl, k.1 refl))
tells_and true false P Q h k = (λ p. k.0 p.1, λ e. absurd (false≢true e))
tells_and false c P Q h k = (λ p. h.0 p.0, λ e. absurd (false≢true e))

pub tells_or : (b c : Bool) (P Q : Type 0) → Tells b P → Tells c Q → Tells (b || c) (Either P Q)
tells_or true c P Q h k = (λ x. refl, λ e n m. n (h.1 refl))
tells_or false true P Q h k = (λ x. refl, λ e n m. m (k.1 refl))
tells_or false false P Q h k = (λ x. absurd (x (λ p. false≢true (h.0 p)) (λ q. false≢true (k.0 q))), λ e. absurd (false≢true e))

pub tells_implies : (b c : Bool) (P Q : Type 0) → Tells b P → Tells c Q → Tells (not b || c) (P → Q)
tells_implies true true P Q h k = (λ x. refl, λ e p. k.1 refl)
tells_implies true false P Q h k = (λ x. k.0 (x (h.1 refl)), λ e. absurd (false≢true e))
tells_implies false c P Q h k = (λ x. refl, λ e p. absurd (false≢true (h.0 p)))

pub tells_iff : (b c : Bool) (P Q : Type 0) → Tells b P → Tells c Q → Tells (cond b c (not c)) ((P → Q) × (Q → P))
tells_iff true true P Q h k = (λ x. refl, λ e. (λ p. k.1 refl, λ q. h.1 refl))
tells_iff true false P Q h k = (λ x. k.0 (x.0 (h.1 refl)), λ e. absurd (false≢true e))
tells_iff false true P Q h k = (λ x. h.0 (x.1 (k.1 refl)), λ e. absurd (false≢true e))
tells_iff false false P Q h k = (λ x. refl, λ e. (λ p. absurd (false≢true (h.0 p)), λ q. absurd (false≢true (k.0 q))))

-- a fact is carried along where its parts are
pub either_along : (P Q R S : Type 0) → (P → R) → (Q → S) → Either P Q → Either R S
either_along P Q R S f g h = λ n m. h (λ p. n (f p)) (λ q. m (g q))

pub reaches_along : (P Q R S : ℕ → Type 0) → ((j : ℕ) → P j → R j) → ((j : ℕ) → Q j → S j) → (i : ℕ)
    → HoldsUntil P Q i → HoldsUntil R S i
reaches_along P Q R S f g i h = λ n. h (λ j le q t. n j le (g j q) (λ k a b. f k (t k a b)))

pub released_along : (P Q R S : ℕ → Type 0) → ((j : ℕ) → P j → R j) → ((j : ℕ) → Q j → S j) → (i : ℕ)
    → HoldsReleased P Q i → HoldsReleased R S i
released_along P Q R S f g i h = λ j le n t. h j le (λ q. n (g j q)) (λ k a b p. t k a b (f k p))

pub sometime_along : (P R : ℕ → Type 0) → ((j : ℕ) → P j → R j) → (i : ℕ) → Sometime P i → Sometime R i
sometime_along P R f i h = λ n. h (λ j le p. n j le (f j p))
