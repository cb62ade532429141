-- There is at most one first lasso, and one where some lasso has the property. What lassos have may be anything: nothing
-- is decided, and no lasso is listed.
use Rattle.std.proofs.Common.{◌≡◌, ℕ, zero, suc, ◌+◌, ◌-◌, ◌<◌, ◌≤◌, ◌↔◌, List, [], ◌∷◌, length, Option, Some, None}
use Rattle.std.proofs.Common.{refl, sym, ap, ◌∙◌, subst, inl, inr, arith, le_antisymm}
use Rattle.std.specs.Coded.{le_prop}
use Rattle.std.proofs.lemmas.Bool.{cases_lt}
use Rattle.port_types.specs.declared.types.PortType.{PortType}
use Rattle.port_types.specs.declared.types.Value.{Value}
use Rattle.typed_ltl.specs.declared.lasso.Lasso.{Lasso}
use Rattle.first_lasso.specs.Lassos.{IsLassoOver}
use Rattle.first_lasso.specs.FirstLassos.{lasso_ranks, IsWitness, IsFirstLasso, HasNoneUpTo, IsFirstIfAny}
use Rattle.first_lasso.proofs.Order.{NotAfter, by_cases, to_cases, both_ways}
use Rattle.first_lasso.proofs.Ranks.{one_list, as_many_ranks}

-- ---- lassos are equal by their states and their loop

pub lasso_of : (states : List (List Value)) (loop_at : ℕ) → loop_at < length states → Lasso
lasso_of states loop_at within = record { states = states; loop_at = loop_at; in_range = within }

same_fits : (m n : ℕ) → IsProp (m < n)
same_fits m n = le_prop

lasso_path : (s t : List (List Value)) (m n : ℕ) (within : m < length s) (fits : n < length t) → s ≡ t → m ≡ n
    → lasso_of s m within ≡ lasso_of t n fits
lasso_path s t m n within fits e f =
    subst (λ (x : List (List Value)). (b : n < length x) → lasso_of s m within ≡ lasso_of x n b) e
    (subst (λ (k : ℕ). (b : k < length s) → lasso_of s m within ≡ lasso_of s k b) f (λ b. ap (lasso_of s m) (same_fits m (length s) within b))) fits

pub same_lasso : (a b : Lasso) → a.states ≡ b.states → a.loop_at ≡ b.loop_at → a ≡ b
unfolding lasso_of
same_lasso a b e f = lasso_path a.states b.states a.loop_at b.loop_at a.in_range b.in_range e f

-- ---- at most one

pub first_lasso_unique : (ports : List PortType) (has : Lasso → Type 0) (k : ℕ) (a b : Lasso)
    → IsFirstLasso ports has k a → IsFirstLasso ports has k b → a ≡ b
first_lasso_unique ports has k a b f g =
    let size : length a.states ≡ length b.states = le_antisymm (f.fewest b g.witness) (g.fewest a f.witness) in
    let loop : a.loop_at ≡ b.loop_at = le_antisymm (g.greatest a f.witness size) (f.greatest b g.witness (sym size)) in
    let least : NotAfter (lasso_ranks ports a) (lasso_ranks ports b) =
    to_cases (lasso_ranks ports a) (lasso_ranks ports b) (f.least b g.witness (sym size) (sym loop)) in
    let other : NotAfter (lasso_ranks ports b) (lasso_ranks ports a) =
    to_cases (lasso_ranks ports b) (lasso_ranks ports a) (g.least a f.witness size loop) in
    let ranks : lasso_ranks ports a ≡ lasso_ranks ports b = both_ways (lasso_ranks ports a) (lasso_ranks ports b) least other in
    same_lasso a b (one_list ports a.states b.states f.witness.typed g.witness.typed size ranks) loop

pub first_if_any_unique : (ports : List PortType) (has : Lasso → Type 0) (k : ℕ) (a b : Option Lasso)
    → IsFirstIfAny ports has k a → IsFirstIfAny ports has k b → a ≡ b
first_if_any_unique ports has k (Some a) (Some b) f g = ap Some (first_lasso_unique ports has k a b f g)
first_if_any_unique ports has k (Some a) None f g = absurd (omega (arith, f.short, g a f.witness))
first_if_any_unique ports has k None (Some b) f g = absurd (omega (arith, g.short, f b g.witness))
first_if_any_unique ports has k None None f g = refl

-- ---- two properties that the same lassos have

pub witness_same : (ports : List PortType) (has other : Lasso → Type 0)
    → ((lasso : Lasso) → IsLassoOver ports lasso → has lasso ↔ other lasso)
    → (lasso : Lasso) → IsWitness ports has lasso → IsWitness ports other lasso
witness_same ports has other same lasso w = record { typed = w.typed; holds = (same lasso w.typed).0 w.holds }

turned : (ports : List PortType) (has other : Lasso → Type 0)
    → ((lasso : Lasso) → IsLassoOver ports lasso → has lasso ↔ other lasso)
    → (lasso : Lasso) → IsLassoOver ports lasso → other lasso ↔ has lasso
turned ports has other same lasso h = ((same lasso h).1, (same lasso h).0)

pub first_lasso_same : (ports : List PortType) (has other : Lasso → Type 0) (k : ℕ)
    → ((lasso : Lasso) → IsLassoOver ports lasso → has lasso ↔ other lasso)
    → (lasso : Lasso) → IsFirstLasso ports has k lasso → IsFirstLasso ports other k lasso
first_lasso_same ports has other k same lasso f =
    let back = witness_same ports other has (turned ports has other same) in
    record {
      witness = witness_same ports has other same lasso f.witness;
      short = f.short;
      fewest = λ b w. f.fewest b (back b w);
      greatest = λ b w e. f.greatest b (back b w) e;
      least = λ b w e l. f.least b (back b w) e l;
    }

pub none_up_to_same : (ports : List PortType) (has other : Lasso → Type 0) (k : ℕ)
    → ((lasso : Lasso) → IsLassoOver ports lasso → has lasso ↔ other lasso)
    → HasNoneUpTo ports has k → HasNoneUpTo ports other k
none_up_to_same ports has other k same none lasso w = none lasso (witness_same ports other has (turned ports has other same) lasso w)

-- ---- there is one: least numbers and least lists, through a double negation

-- no number below b is one
none_below : (P : ℕ → Type 0) → ((m : ℕ) → P m → ((n : ℕ) → P n → m ≤ n) → ⊥) → (b n : ℕ) → n < b → P n → ⊥
none_below P none zero n lt p = absurd (omega (arith, lt))
none_below P none (suc b) n lt p = none n p (λ m q. elim (cases_lt m n) [
  | inl less ↦ absurd (none_below P none b m (omega (arith, less, lt)) q)
  | inr more ↦ more
])

pub least_number : (P : ℕ → Type 0) (n : ℕ) → P n → ((m : ℕ) → P m → ((k : ℕ) → P k → m ≤ k) → ⊥) → ⊥
least_number P n p none = none_below P none (suc n) n (omega arith) p

-- each list that is one has n numbers
abbrev pub HasLength : (List ℕ → Type 0) → ℕ → Type 0
HasLength P n = (xs : List ℕ) → P xs → length xs ≡ n

list_from : (P : List ℕ → Type 0) (n : ℕ) → HasLength P (suc n) → (m : ℕ) (ys : List ℕ)
    → ((k : ℕ) → ((zs : List ℕ) × P (k ∷ zs)) → m ≤ k) → ((zs : List ℕ) → P (m ∷ zs) → NotAfter ys zs)
    → (zs : List ℕ) → P zs → NotAfter (m ∷ ys) zs
list_from P n long m ys first rest [] p = absurd (omega (arith, long [] p))
list_from P n long m ys first rest (z ∷ zs) p =
    (first z (zs, p), λ e. rest zs (subst (λ (k : ℕ). P (k ∷ zs)) (sym e) p))

shorter : (P : List ℕ → Type 0) (n m : ℕ) → HasLength P (suc n) → HasLength (λ ys. P (m ∷ ys)) n
shorter P n m long ys p = let e : length (m ∷ ys) ≡ suc n = long (m ∷ ys) p in omega (arith, e)

pub least_list : (n : ℕ) (P : List ℕ → Type 0) → HasLength P n → (xs : List ℕ) → P xs
    → ((ys : List ℕ) → P ys → ((zs : List ℕ) → P zs → NotAfter ys zs) → ⊥) → ⊥
least_list zero P long [] p none = none [] p (λ zs q. tt)
least_list zero P long (x ∷ xs) p none = absurd (omega (arith, long (x ∷ xs) p))
least_list (suc n) P long [] p none = absurd (omega (arith, long [] p))
least_list (suc n) P long (x ∷ xs) p none =
    least_number (λ (m : ℕ). (ys : List ℕ) × P (m ∷ ys)) x (xs, p) (λ m q first.
    least_list n (λ (ys : List ℕ). P (m ∷ ys)) (shorter P n m long) q.0 q.1 (λ ys r rest.
    none (m ∷ ys) r (list_from P n long m ys first rest)))

-- ---- first lassos

-- a witness of this size
pub record OfSize (ports : List PortType) (has : Lasso → Type 0) (n : ℕ) : Type 0 where
  pub lasso : Lasso
  pub witness : IsWitness ports has lasso
  pub size : length lasso.states ≡ n

-- of this size, and with its loop so far before its end
pub record OfShape (ports : List PortType) (has : Lasso → Type 0) (n d : ℕ) : Type 0 where
  pub lasso : Lasso
  pub witness : IsWitness ports has lasso
  pub size : length lasso.states ≡ n
  pub loop : lasso.loop_at + d ≡ n

-- of this shape, and with these ranks
pub record OfRanks (ports : List PortType) (has : Lasso → Type 0) (n d : ℕ) (ranks : List ℕ) : Type 0 where
  pub shape : OfShape ports has n d
  pub ranked : lasso_ranks ports shape.lasso ≡ ranks

sized : (ports : List PortType) (has : Lasso → Type 0) (lasso : Lasso) → IsWitness ports has lasso → OfSize ports has (length lasso.states)
sized ports has lasso w = record { lasso = lasso; witness = w; size = refl }

shaped : (ports : List PortType) (has : Lasso → Type 0) (n : ℕ) (lasso : Lasso) → IsWitness ports has lasso → length lasso.states ≡ n
    → OfShape ports has n (n - lasso.loop_at)
shaped ports has n lasso w e =
    let loop : lasso.loop_at + (n - lasso.loop_at) ≡ n = omega (arith, lasso.in_range, e) in
    record { lasso = lasso; witness = w; size = e; loop = loop }

same_length : (ports : List PortType) (has : Lasso → Type 0) (n d : ℕ) (a b : OfShape ports has n d)
    → length (lasso_ranks ports b.lasso) ≡ length (lasso_ranks ports a.lasso)
same_length ports has n d a b =
    as_many_ranks ports b.lasso.states a.lasso.states b.witness.typed a.witness.typed (b.size ∙ sym a.size)

made : (ports : List PortType) (has : Lasso → Type 0) (k n d : ℕ) (ys : List ℕ) → n ≤ k
    → ((m : ℕ) → OfSize ports has m → n ≤ m) → ((e : ℕ) → OfShape ports has n e → d ≤ e)
    → (r : OfRanks ports has n d ys) → ((zs : List ℕ) → OfRanks ports has n d zs → NotAfter ys zs)
    → IsFirstLasso ports has k r.shape.lasso
made ports has k n d ys bound fewest latest r least =
    let b = r.shape.lasso in
    record {
      witness = r.shape.witness;
      short = omega (arith, bound, r.shape.size);
      fewest = λ other w. omega (arith, r.shape.size, fewest (length other.states) (sized ports has other w));
      greatest = λ other w e.
          let size : length other.states ≡ n = e ∙ r.shape.size in
          omega (arith, r.shape.loop, other.in_range, size, latest (n - other.loop_at) (shaped ports has n other w size));
      least = λ other w e l.
          let size : length other.states ≡ n = e ∙ r.shape.size in
          let loop : other.loop_at + d ≡ n = ap (λ (m : ℕ). m + d) l ∙ r.shape.loop in
          let of_other : OfRanks ports has n d (lasso_ranks ports other) =
          record { shape = record { lasso = other; witness = w; size = size; loop = loop }; ranked = refl } in
          by_cases (lasso_ranks ports b) (lasso_ranks ports other)
          (subst (λ (xs : List ℕ). NotAfter xs (lasso_ranks ports other)) (sym r.ranked) (least (lasso_ranks ports other) of_other));
    }

pub first_lasso_exists : (ports : List PortType) (has : Lasso → Type 0) (k : ℕ) (lasso : Lasso) → IsWitness ports has lasso
    → length lasso.states ≤ k → ((first : Lasso) → IsFirstLasso ports has k first → ⊥) → ⊥
first_lasso_exists ports has k lasso w short none =
    least_number (OfSize ports has) (length lasso.states) (sized ports has lasso w) (λ n s fewest.
    let bound : n ≤ k = omega (arith, short, fewest (length lasso.states) (sized ports has lasso w)) in
    least_number (OfShape ports has n) (n - s.lasso.loop_at) (shaped ports has n s.lasso s.witness s.size) (λ d a latest.
    least_list (length (lasso_ranks ports a.lasso)) (OfRanks ports has n d)
    (λ xs r. ap length (sym r.ranked) ∙ same_length ports has n d a r.shape) (lasso_ranks ports a.lasso) (record { shape = a; ranked = refl })
    (λ ys r least. none r.shape.lasso (made ports has k n d ys bound fewest latest r least))))

-- there is no first lasso exactly where no lasso of at most k states has the property
pub no_first_lasso : (ports : List PortType) (has : Lasso → Type 0) (k : ℕ)
    → ((first : Lasso) → IsFirstLasso ports has k first → ⊥) ↔ HasNoneUpTo ports has k
no_first_lasso ports has k = (
  λ none lasso w. elim (cases_lt k (length lasso.states)) [
    | inl more ↦ more
    | inr short ↦ absurd (first_lasso_exists ports has k lasso w short none)
  ],
  λ none first f. omega (arith, f.short, none first f.witness),
)
