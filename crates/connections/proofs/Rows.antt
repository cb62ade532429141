use Rattle.std.proofs.Common.{◌≡◌, ℕ, zero, suc, ◌+◌, ◌<◌, ◌≤◌, List, [], ◌∷◌, ◌++◌, length, take, get_or, set, slice_get, Option, Some, None, refl, sym}
use Rattle.std.proofs.Common.{ap, ◌∙◌, arith}
use Rattle.std.proofs.lemmas.List.{take_more, length-take-le}
use Rattle.spec_model.specs.declared.wire.Wire.{Wire}
use Rattle.connections.specs.declared.driving.Driver.TheVariants as driver
use Rattle.connections.specs.Tables.{row_of, row_with_wire, rows_with_wire, rows_with_wires, vacant, drivers_of_row, drivers_of_rows, vacant_rows}

-- The tables of drivers, one more element at a time.

pub noted_wires_push : (rows : List (List (Option ℕ))) (first : ℕ) (wires : List Wire) (wire : Wire)
    → rows_with_wires rows first (wires ++ wire ∷ []) ≡ rows_with_wire (rows_with_wires rows first wires) (row_of wire.target.sub) wire.target.port.0
    (first + length wires)
noted_wires_push rows first [] wire =
    let e : first + 0 ≡ first = omega arith in
    rw e refl
noted_wires_push rows first (w ∷ wires) wire =
    let e : first + 1 + length wires ≡ first + suc (length wires) = omega arith in
    rw (← e) (noted_wires_push (rows_with_wire rows (row_of w.target.sub) w.target.port.0 first) (first + 1) wires wire)

pub vacant_push_some : (row : List (Option ℕ)) (wire : ℕ) → vacant (row ++ Some wire ∷ []) ≡ vacant row
vacant_push_some [] wire = refl
vacant_push_some (None ∷ row) wire = ap (λ n. 1 + n) (vacant_push_some row wire)
vacant_push_some (Some x ∷ row) wire = vacant_push_some row wire

pub vacant_push_none : (row : List (Option ℕ)) → vacant (row ++ None ∷ []) ≡ vacant row + 1
vacant_push_none [] = refl
vacant_push_none (None ∷ row) = let e = vacant_push_none row in omega arith
vacant_push_none (Some x ∷ row) = vacant_push_none row

pub numbered_push_some : (next : ℕ) (row : List (Option ℕ)) (wire : ℕ)
    → drivers_of_row next (row ++ Some wire ∷ []) ≡ drivers_of_row next row ++ driver.Wired wire ∷ []
numbered_push_some next [] wire = refl
numbered_push_some next (None ∷ row) wire = ap (λ r. driver.Free next ∷ r) (numbered_push_some (next + 1) row wire)
numbered_push_some next (Some x ∷ row) wire = ap (λ r. driver.Wired x ∷ r) (numbered_push_some next row wire)

pub numbered_push_none : (next : ℕ) (row : List (Option ℕ))
    → drivers_of_row next (row ++ None ∷ []) ≡ drivers_of_row next row ++ driver.Free (next + vacant row) ∷ []
numbered_push_none next [] = let e : next + 0 ≡ next = omega arith in rw e refl
numbered_push_none next (None ∷ row) =
    let e : next + 1 + vacant row ≡ next + (1 + vacant row) = omega arith in
    rw (← e) (ap (λ r. driver.Free next ∷ r) (numbered_push_none (next + 1) row))
numbered_push_none next (Some x ∷ row) = ap (λ r. driver.Wired x ∷ r) (numbered_push_none next row)

pub vacant_rows_push : (rows : List (List (Option ℕ))) (row : List (Option ℕ))
    → vacant_rows (rows ++ row ∷ []) ≡ vacant_rows rows + vacant row
vacant_rows_push [] row = omega arith
vacant_rows_push (r ∷ rows) row = let e = vacant_rows_push rows row in omega arith

pub numbered_rows_push : (next : ℕ) (rows : List (List (Option ℕ))) (row : List (Option ℕ))
    → drivers_of_rows next (rows ++ row ∷ []) ≡ drivers_of_rows next rows ++ drivers_of_row (next + vacant_rows rows) row ∷ []
numbered_rows_push next [] row = let e : next + 0 ≡ next = omega arith in rw e refl
numbered_rows_push next (r ∷ rows) row =
    let e : next + vacant r + vacant_rows rows ≡ next + (vacant r + vacant_rows rows) = omega arith in
    rw (← e) (ap (λ d. drivers_of_row next r ∷ d) (numbered_rows_push (next + vacant r) rows row))

pub noted_past : (row : List (Option ℕ)) (port wire : ℕ) → slice_get row port ≡ None → row_with_wire row port wire ≡ row
noted_past [] port wire h = refl
noted_past (cell ∷ row) zero wire h = cc
noted_past (cell ∷ row) (suc port) wire h = ap (λ r. cell ∷ r) (noted_past row port wire h)

pub noted_taken : (row : List (Option ℕ)) (port wire first : ℕ) → slice_get row port ≡ Some (Some first)
    → row_with_wire row port wire ≡ row
noted_taken [] port wire first e = cc
noted_taken (cell ∷ row) zero wire first e = let f : cell ≡ Some first = cc in rw f refl
noted_taken (cell ∷ row) (suc port) wire first e = ap (λ r. cell ∷ r) (noted_taken row port wire first e)

pub noted_vacant : (row : List (Option ℕ)) (port wire : ℕ) → slice_get row port ≡ Some None
    → row_with_wire row port wire ≡ set row port (Some wire)
noted_vacant [] port wire e = cc
noted_vacant (cell ∷ row) zero wire e = let f : cell ≡ None = cc in rw f refl
noted_vacant (cell ∷ row) (suc port) wire e = ap (λ r. cell ∷ r) (noted_vacant row port wire e)

pub noted_rows_past : (rows : List (List (Option ℕ))) (at port wire : ℕ) → length rows ≤ at
    → rows_with_wire rows at port wire ≡ rows
noted_rows_past [] at port wire h = refl
noted_rows_past (row ∷ rows) zero port wire h = absurd (omega arith)
noted_rows_past (row ∷ rows) (suc at) port wire h = ap (λ r. row ∷ r) (noted_rows_past rows at port wire (omega arith))

pub noted_rows_within : (rows : List (List (Option ℕ))) (at port wire : ℕ) (row : List (Option ℕ)) → at < length rows
    → row ≡ get_or rows at row
    → rows_with_wire rows at port wire ≡ set rows at (row_with_wire row port wire)
noted_rows_within [] at port wire row h e = absurd (omega arith)
noted_rows_within (r ∷ rows) zero port wire row h e = let f : row ≡ r = e in rw f refl
noted_rows_within (r ∷ rows) (suc at) port wire row h e = ap (λ x. r ∷ x) (noted_rows_within rows at port wire row (omega arith) e)

-- the step of a loop over connections, cells or rows

pub noted_wires_more : (rows : List (List (Option ℕ))) (wires : List Wire) (i : ℕ) (wire : Wire) → i < length wires
    → wire ≡ get_or wires i wire
    → rows_with_wires rows 0 (take (i + 1) wires) ≡ rows_with_wire (rows_with_wires rows 0 (take i wires)) (row_of wire.target.sub) wire.target.port.0 i
noted_wires_more rows wires i wire h e =
    let t : take (i + 1) wires ≡ take i wires ++ wire ∷ [] = take_more wires i wire h ∙ ap (λ (w : Wire). take i wires ++ w ∷ []) (sym e) in
    let l : 0 + length (take i wires) ≡ i = omega (arith, length-take-le i wires (omega arith)) in
    ap (rows_with_wires rows 0) t ∙ noted_wires_push rows 0 (take i wires) wire
    ∙ ap (λ (n : ℕ). rows_with_wire (rows_with_wires rows 0 (take i wires)) (row_of wire.target.sub) wire.target.port.0 n) l

pub taken_more : {X : Type 0} (xs : List X) (i : ℕ) (x d : X) → i < length xs → get_or xs i d ≡ x
    → take (i + 1) xs ≡ take i xs ++ x ∷ []
taken_more xs i x d h e = take_more xs i d h ∙ ap (λ y. take i xs ++ y ∷ []) e
