-- what the code of sums has at each exit
use Rattle.std.proofs.Common.{◌≡◌, ◌+◌, ◌<◌, ◌≤◌, ◌-◌, ◌*◌, ℕ, suc, List, [], ◌∷◌, ◌++◌, length, get_or}
use Rattle.std.proofs.Common.{refl, sym, ◌∙◌, ap, subst, arith, append_assoc}
use Rattle.std.specs.Prelude.{replicate}
use Rattle.std.specs.List.{All}
use Rattle.std.proofs.Math.ListN.{set}
use Rattle.std.proofs.Math.Nat.{le-max_left, le-max_right}
use Rattle.cnf.specs.declared.lit.Lit.{Lit}
use Rattle.cnf.specs.Clauses.{opposite}
use Rattle.cnf.specs.Arithmetic.{sum_clauses, sum_bits}
use Rattle.state_coding.specs.Coded.{AtCommonPlaces, AreAdded}
use Rattle.state_coding.specs.Numbers.{signed_row, repeat_top, widen}
use Rattle.state_coding.specs.Numbers.{common_places}
use Rattle.state_coding.proofs.RowLaws.{length-widen, repeat-within}

-- ---- ports

-- the signed row is the row with its last literal turned
pub signed_set : (x : Lit) (row : List Lit) (d : Lit)
    → set (x ∷ row) (length row) (opposite (get_or (x ∷ row) (length row) d)) ≡ signed_row (x ∷ row)
signed_set x [] d = refl
signed_set x (y ∷ row) d = ap (λ l. x ∷ l) (signed_set y row d)

pub signed_end : (row items : List Lit) (d lit : Lit) → (length row ≡ 0 → ⊥) → items ≡ row
    → lit ≡ opposite (get_or row (length row - 1) d) → set items (length row - 1) lit ≡ signed_row row
signed_end [] items d lit some ei el = absurd (some refl)
signed_end (x ∷ row) items d lit some ei el =
    let at : length (x ∷ row) - 1 ≡ length row = omega arith in
    (λ j. set (ei j) (at j) (el j)) ∙ ap (λ k. set (x ∷ row) (length row) (opposite (get_or (x ∷ row) k d))) at ∙ signed_set x row d

-- ---- wider rows

repeated : (more : ℕ) (x : Lit) (row : List Lit) (d : Lit)
    → repeat_top more (x ∷ row) ≡ (x ∷ row) ++ replicate more (get_or (x ∷ row) (length row) d)
repeated more x [] d = refl
repeated more x (y ∷ row) d = ap (λ l. x ∷ l) (repeated more y row d)

pub widened : (row : List Lit) (places top : ℕ) (d : Lit) → 0 < length row → top ≡ length row - 1
    → row ++ replicate (places - length row) (get_or row top d) ≡ widen places row
widened [] places top d some e = absurd (omega arith)
widened (x ∷ row) places top d some e = let at : top ≡ length row = omega arith in rw at (sym (repeated (places - length (x ∷ row)) x row d))

pub top_goes_on : (left left' : ℕ) (wide wide' total : List Lit) (top : Lit) → left ≡ suc left'
    → wide' ≡ wide ++ top ∷ [] → wide ++ replicate left top ≡ total → wide' ++ replicate left' top ≡ total
top_goes_on left left' wide wide' total top el ew et = rw ew (append_assoc wide _ _ ∙ (rw el at et))

-- ---- sums

-- rows at the places at which they meet can be added and compared
pub record WideRows (n : ℕ) (a b wide_a wide_b : List Lit) : Type 0 where
  pub width : length wide_a ≡ common_places a b
  pub some : 0 < length wide_a
  pub same : length wide_a ≡ length wide_b
  pub left : All (λ lit. lit.var < n) wide_a
  pub right : All (λ lit. lit.var < n) wide_b

pub wide_rows : (n : ℕ) (a b wa wb : List Lit) → AtCommonPlaces a b wa wb → 0 < length a → 0 < length b
    → All (λ lit. lit.var < n) a → All (λ lit. lit.var < n) b → WideRows n a b wa wb
wide_rows n a b wa wb wide some other la lb =
    let low : length a ≤ common_places a b = le-max_left (length a) (length b) in
    let high : length b ≤ common_places a b = le-max_right (length a) (length b) in
    let first : length wa ≡ common_places a b = ap length wide.left ∙ length-widen (common_places a b) a some low in
    let second : length wb ≡ common_places a b = ap length wide.right ∙ length-widen (common_places a b) b other high in
    record {
      width = first;
      some = omega arith;
      same = first ∙ sym second;
      left = subst (All (λ lit. lit.var < n)) (sym wide.left) (repeat-within n (common_places a b - length a) a la);
      right = subst (All (λ lit. lit.var < n)) (sym wide.right) (repeat-within n (common_places a b - length b) b lb);
    }

-- the same of rows that equal these
pub places_at : (a b a' b' wa wb xs ys : List Lit) → AtCommonPlaces a b wa wb → a ≡ a' → b ≡ b' → xs ≡ wa → ys ≡ wb
    → AtCommonPlaces a' b' xs ys
places_at a b a' b' wa wb xs ys wide ea eb ex ey = record {
  left = ex ∙ wide.left ∙ (λ j. widen (common_places (ea j) (eb j)) (ea j));
  right = ey ∙ wide.right ∙ (λ j. widen (common_places (ea j) (eb j)) (eb j));
}

pub both_added : (n m : ℕ) (older newer : List (List Lit)) (a b wa wb sum : List Lit) → 0 < length a
    → 0 < length b → AtCommonPlaces a b wa wb → sum ≡ sum_bits n wa → m ≡ n + 3 * common_places a b
    → newer ≡ older ++ sum_clauses n wa wb → AreAdded n m older newer a b sum
both_added n m older newer [] b wa wb sum sa sb wide es em en = absurd (omega arith)
both_added n m older newer (x ∷ a) [] wa wb sum sa sb wide es em en = absurd (omega arith)
both_added n m older newer (x ∷ a) (y ∷ b) wa wb sum sa sb wide es em en = record {
  rows = es ∙ ap (sum_bits n) wide.left;
  vars = em;
  clauses = en ∙ (λ j. older ++ sum_clauses n (wide.left j) (wide.right j));
}
