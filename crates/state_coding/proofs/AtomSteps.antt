-- what the code of terms and atoms has at each exit, from what its calls answered
use Rattle.std.proofs.Common.{◌≡◌, ◌+◌, ◌<◌, ◌≤◌, ℕ, zero, suc, Bool, true, false, ◌&&◌, List, [], ◌∷◌, ◌++◌, length, drop, get_or}
use Rattle.std.proofs.Common.{refl, sym, ◌∙◌, ap, add-one, arith, append_assoc}
use Rattle.std.specs.Prelude.{map, nat_lt, if◌then◌else◌}
use Rattle.std.specs.Ordering.{int_eq}
use Rattle.std.specs.List.{All}
use Rattle.std.proofs.lemmas.Bool.{and_parts, false≢true}
use Rattle.std.proofs.Math.Seq.{drop-cons}
use Rattle.std.proofs.lemmas.List.Elements.{All-weaker}
use Rattle.cnf.specs.declared.lit.Lit.{Lit}
use Rattle.cnf.specs.Clauses.{opposite}
use Rattle.cnf.proofs.ModelLaws.{append_nil}
use Rattle.cnf.specs.Gates.{literal, xor_clauses, all_clauses}
use Rattle.state_coding.specs.Coded.{IsCoded, IsTermCoded}
use Rattle.state_coding.specs.States.{var_row}
use Rattle.state_coding.specs.Numbers.{OffsetRow, TermCoding, plus_row_coding, plus_coding}
use Rattle.state_coding.specs.Atoms

-- ---- extensions

pub known_later : (n m : ℕ) (row : List Lit) → n ≤ m → All (λ lit. lit.var < n) row → All (λ lit. lit.var < m) row
known_later n m row le h = All-weaker (λ lit. lit.var < n) (λ lit. lit.var < m) (λ lit below. omega arith) row h

-- ---- codings

pub place_at : (row : List Lit) (i : ℕ) (d : Lit) → i < length row → drop i row ≡ get_or row i d ∷ drop (i + 1) row
place_at row i d h = rw (add-one i) (drop-cons row i d h)

-- ---- rows with the same bits

pub differ_go_on : (n m : ℕ) (now newer total : List (List Lit)) (a b left right : List Lit) (x y : Lit)
    → a ≡ x ∷ left → b ≡ y ∷ right → m ≡ n + 1 → newer ≡ now ++ xor_clauses n x y
    → now ++ Atoms.differ_clauses n a b ≡ total
    → newer ++ Atoms.differ_clauses m left right ≡ total
differ_go_on n m now newer total a b left right x y ea eb em en h = rw (en, em) (append_assoc now _ _ ∙ (rw (ea, eb) at h))

pub alike_go_on : (n m left left' : ℕ) (alike alike' total : List Lit) (lit d : Lit) → left ≡ suc left'
    → alike' ≡ alike ++ lit ∷ [] → lit ≡ opposite d → d ≡ literal n → m ≡ n + 1
    → alike ++ map opposite (var_row n left) ≡ total
    → alike' ++ map opposite (var_row m left') ≡ total
alike_go_on n m left left' alike alike' total lit d el ea eo ed em h = rw (ea, eo, ed, em) (append_assoc alike _ _ ∙ (rw el at h))

drop_past : (n : ℕ) (xs : List Lit) → length xs ≤ n → drop n xs ≡ []
drop_past zero [] h = refl
drop_past zero (x ∷ xs) h = absurd (omega arith)
drop_past (suc n) [] h = refl
drop_past (suc n) (x ∷ xs) h = drop_past n xs (omega arith)

pub differ_end : (n i : ℕ) (now total : List (List Lit)) (a b : List Lit) → length a ≤ i
    → now ++ Atoms.differ_clauses n (drop i a) (drop i b) ≡ total → now ≡ total
differ_end n i now total a b past h = sym (append_nil now) ∙ (rw (drop_past i a past) at h)

pub alike_end : (n left : ℕ) (alike total : List Lit) → left ≡ 0 → alike ++ map opposite (var_row n left) ≡ total
    → alike ≡ total
alike_end n left alike total e h = sym (append_nil alike) ∙ (rw e at h)

pub same_rows_coded : (n m k : ℕ) (older now newer : List (List Lit)) (a b alike : List Lit) (lit : Lit)
    → k ≡ n + length a → now ≡ older ++ Atoms.differ_clauses n a b → alike ≡ map opposite (var_row n (length a))
    → m ≡ k + 1
    → newer ≡ now ++ all_clauses k alike → lit ≡ literal k → IsCoded older m newer lit (Atoms.same_rows_coding n a b)
same_rows_coded n m k older now newer a b alike lit ek en ea em ew el = record {
  vars = em ∙ ap (λ j. j + 1) ek;
  clauses = ew ∙ rw (en, ea, ek) (append_assoc older _ _);
  answer = el ∙ ap literal ek;
}

-- ---- comparisons

pub rows_some : (x y : OffsetRow) → Atoms.compares_rows x y ≡ true → (0 < length x.row) × (0 < length y.row)
rows_some x y h =
    let all = and_parts (nat_lt 0 (length x.row) && nat_lt 0 (length y.row)) (int_eq x.offset y.offset) h in
    let rows = and_parts (nat_lt 0 (length x.row)) (nat_lt 0 (length y.row)) all.0 in
    (some (length x.row) rows.0, some (length y.row) rows.1)
  where
    some : (n : ℕ) → nat_lt 0 n ≡ true → 0 < n
    some zero h = absurd (false≢true h)
    some (suc n) h = omega arith

-- two terms, and then their comparison
pub compared_coded : (compare : ℕ → OffsetRow → OffsetRow → Atoms.AtomCoding) (older mid last newer : List (List Lit))
    (m k j : ℕ) (x y : OffsetRow) (tx : TermCoding) (ty : ℕ → TermCoding) (lit : Lit)
    → IsTermCoded older m mid x tx → IsTermCoded mid k last y (ty m) → IsCoded last j newer lit (compare k x y)
    → IsCoded older j newer lit (Atoms.compared_coding compare tx (ty tx.vars))
compared_coded compare older mid last newer m k j x y tx ty lit hx hy h =
    let same : ty m ≡ ty tx.vars = ap ty hx.vars in
    let e : compare k x y ≡ compare (ty tx.vars).vars tx.sum (ty tx.vars).sum = rw (hy.vars, hy.sum, hx.sum, same) refl in
    record {
      vars = h.vars ∙ ap (λ (z : Atoms.AtomCoding). z.vars) e;
      clauses = h.clauses ∙ ap (λ l. l ++ (compare k x y).clauses)
          (hy.clauses ∙ ap (λ l. l ++ (ty m).clauses) hx.clauses ∙ append_assoc older tx.clauses (ty m).clauses)
          ∙ append_assoc older (tx.clauses ++ (ty m).clauses) (compare k x y).clauses
          ∙ ap (λ (z : TermCoding). older ++ ((tx.clauses ++ z.clauses) ++ (compare k x y).clauses)) same
          ∙ ap (λ (z : Atoms.AtomCoding). older ++ ((tx.clauses ++ (ty tx.vars).clauses) ++ z.clauses)) e;
      answer = h.answer ∙ ap (λ (z : Atoms.AtomCoding). z.lit) e;
    }

-- ---- terms

pub plus_coded : (older mid last newer : List (List Lit)) (m k j : ℕ) (x y answer : OffsetRow) (tx : TermCoding)
    (ty : ℕ → TermCoding)
    → IsTermCoded older m mid x tx → IsTermCoded mid k last y (ty m)
    → IsTermCoded last j newer answer (plus_row_coding k x y)
    → IsTermCoded older j newer answer (plus_coding tx (ty tx.vars))
plus_coded older mid last newer m k j x y answer tx ty hx hy h =
    let same : ty m ≡ ty tx.vars = ap ty hx.vars in
    let e : plus_row_coding k x y ≡ plus_row_coding (ty tx.vars).vars tx.sum (ty tx.vars).sum = rw (hy.vars, hy.sum, hx.sum, same) refl in
    record {
      vars = h.vars ∙ ap (λ (z : TermCoding). z.vars) e;
      clauses = h.clauses ∙ ap (λ l. l ++ (plus_row_coding k x y).clauses)
          (hy.clauses ∙ ap (λ l. l ++ (ty m).clauses) hx.clauses ∙ append_assoc older tx.clauses (ty m).clauses)
          ∙ append_assoc older (tx.clauses ++ (ty m).clauses) (plus_row_coding k x y).clauses
          ∙ ap (λ (z : TermCoding). older ++ ((tx.clauses ++ z.clauses) ++ (plus_row_coding k x y).clauses)) same
          ∙ ap (λ (z : TermCoding). older ++ ((tx.clauses ++ (ty tx.vars).clauses) ++ z.clauses)) e;
      sum = h.sum ∙ ap (λ (z : TermCoding). z.sum) e;
    }

-- ---- truth values

pub truth_true : (older newer : List (List Lit)) (n m : ℕ) (lit : Lit) (truth : Bool) → truth ≡ true → m ≡ n + 1
    → newer ≡ older ++ all_clauses n [] → lit ≡ literal n → IsCoded older m newer lit (Atoms.truth_coding n truth)
truth_true older newer n m lit truth et em en el = record {
  vars = em;
  clauses = en;
  answer = el ∙ sym
      (ap (λ t. if t then literal n else opposite (literal n)) et);
}

pub truth_false : (older newer : List (List Lit)) (n m : ℕ) (lit lit' : Lit) (truth : Bool) → truth ≡ false
    → m ≡ n + 1 → newer ≡ older ++ all_clauses n [] → lit ≡ literal n → lit' ≡ opposite lit
    → IsCoded older m newer lit' (Atoms.truth_coding n truth)
truth_false older newer n m lit lit' truth et em en el eo =
    record { vars = em; clauses = en; answer = eo ∙ ap opposite el ∙ sym (ap (λ t. if t then literal n else opposite (literal n)) et) }

-- ---- matches

bits_at : (bits : List Bool) (i : ℕ) (d : Bool) → i < length bits → drop i bits ≡ get_or bits i d ∷ drop (i + 1) bits
bits_at bits i d h = rw (add-one i) (drop-cons bits i d h)

pub match_goes_on : (row lits lits' total : List Lit) (bits : List Bool) (i : ℕ) (d lit : Lit) (e : Bool)
    → length row ≡ length bits → i < length row
    → ((r : List Lit) (b : List Bool) → Atoms.match_lits (get_or row i d ∷ r) (get_or bits i e ∷ b) ≡ lit ∷ Atoms.match_lits r b) → lits' ≡ lits ++ lit ∷ []
    → lits ++ Atoms.match_lits (drop i row) (drop i bits) ≡ total
    → lits' ++ Atoms.match_lits (drop (i + 1) row) (drop (i + 1) bits) ≡ total
match_goes_on row lits lits' total bits i d lit e same within step ew et =
    rw ew (append_assoc lits _ _ ∙ ap (λ l. lits ++ l) (sym (step (drop (i + 1) row) (drop (i + 1) bits)))
    ∙ (rw (place_at row i d within, bits_at bits i e (omega arith)) at et))

pub match_ends : (row lits total : List Lit) (bits : List Bool) (i : ℕ) → length row ≤ i
    → lits ++ Atoms.match_lits (drop i row) (drop i bits) ≡ total → lits ≡ total
match_ends row lits total bits i past et = sym (append_nil lits) ∙ (rw (drop_past i row past) at et)
