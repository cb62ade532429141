-- what the code of states has at each exit
use Rattle.std.proofs.Common.{◌≡◌, ◌+◌, ◌<◌, ◌≤◌, ◌-◌, ℕ, zero, suc, Bool, true, false, List, [], ◌∷◌, ◌++◌, length, drop, get_or, Option}
use Rattle.std.proofs.Common.{refl, sym, ◌∙◌, ap, subst, add-one, arith, append_assoc, length-append}
use Rattle.std.specs.Prelude.{replicate, ℤ, pos, Some, slice_get}
use Rattle.std.specs.List.{All, Contains}
use Rattle.std.proofs.lemmas.Nat.{pow_pos}
use Rattle.std.proofs.lemmas.List.{length-replicate}
use Rattle.std.proofs.Math.Seq.{drop-cons}
use Rattle.port_types.specs.declared.types.PortType.{PortType}
use Rattle.port_types.specs.declared.types.PortType.TheVariants as kind
use Rattle.port_types.specs.declared.types.Value.{Value}
use Rattle.port_types.specs.Types.{values}
use Rattle.cnf.specs.declared.lit.Lit.{Lit}
use Rattle.cnf.specs.Clauses.{clauses_hold, lit_values, IsModel, IsConservative}
use Rattle.cnf.specs.Gates.{literal}
use Rattle.cnf.specs.Bounds.{binary_digits, binary_number, constant_bits, limit_clauses}
use Rattle.cnf.specs.Laws.{GatesAreRight}
use Rattle.cnf.proofs.ModelLaws.{append_nil, clauses_hold-more}
use Rattle.state_coding.specs.Codes.{IsCodable, type_bits, value_at, code_clauses}
use Rattle.state_coding.specs.States.{var_row, state_bits, state_width, state_clauses, state_values, IsValuation, HasBits, IsCodedState}
use Rattle.state_coding.proofs.CodeLaws.{length-binary_digits, digits_number, length-var_row, var_row-within, row_reads, code_holds, code_below}
use Rattle.state_coding.proofs.CodeLaws.{code_is_place, value_typed}
use Rattle.state_coding.proofs.AtomLaws.{length-constant_bits}
use Rattle.state_coding.proofs.TermLaws.{PortRow, port_row}
use Rattle.state_coding.proofs.StateLaws.{codable_few, parts_hold, both_hold, state_extends, state_has_bits, state_typed}

pub row_goes_on : (n m left left' : ℕ) (row row' total : List Lit) (lit : Lit) → left ≡ suc left'
    → row' ≡ row ++ lit ∷ [] → lit ≡ literal n → m ≡ n + 1 → row ++ var_row n left ≡ total
    → row' ++ var_row m left' ≡ total
row_goes_on n m left left' row row' total lit el er ei em h = rw (er, ei, em) (append_assoc row _ _ ∙ (rw el at h))

-- more variables alone
pub variables_extend : (n m : ℕ) (older newer : List (List Lit)) → n ≤ m → newer ≡ older
    → IsConservative n older m newer
variables_extend n m older newer le e = rw e (record {
  vars = le;
  clauses = ([], sym (append_nil older));
  extends = λ model is. (
    replicate (m - n) false,
    record {
      vars = length-append model (replicate (m - n) false)
          ∙ (let w : length (replicate (m - n) false) ≡ m - n = length-replicate (m - n) false in let v : length model ≡ n = is.vars in omega arith);
      holds = clauses_hold-more model (replicate (m - n) false) older is.holds;
    },
  );
})

-- a new port and a front of its clauses: the first code meets them
pub port_extends : (g : GatesAreRight) (kind : PortType) (n m : ℕ)
    (older newer : List (List Lit)) (row : List Lit) (added rest : List (List Lit)) → IsCodable kind
    → row ≡ var_row n (type_bits kind) → m ≡ n + type_bits kind
    → newer ≡ older ++ added → added ++ rest ≡ code_clauses kind row → IsConservative n older m newer
port_extends g kind n m older newer row added rest codable er em en ea = record {
  vars = omega arith;
  clauses = (added, en);
  extends = λ model is.
      let digits : List Bool = binary_digits (type_bits kind) 0 in
      let wide : length digits ≡ type_bits kind = length-binary_digits (type_bits kind) 0 in
      let total : length (model ++ digits) ≡ n + type_bits kind = length-append model digits ∙ (let v : length model ≡ n = is.vars in omega arith) in
      let whole : model ++ (digits ++ []) ≡ model ++ digits = ap (λ l. model ++ l) (append_nil digits) in
      let reads : lit_values (model ++ digits) row ≡ digits =
      ap (lit_values (model ++ digits)) (er ∙ ap (var_row n) (sym wide)) ∙ ap (λ l. lit_values l (var_row n (length digits))) (sym whole)
      ∙ row_reads model digits [] n (sym is.vars) in
      let known : All (λ lit. lit.var < length (model ++ digits)) row = rw er
      (var_row-within (length (model ++ digits)) n (type_bits kind) (omega arith)) in
      let holds : clauses_hold (model ++ digits) (code_clauses kind row) ≡ true =
      code_holds g (model ++ digits) kind row 0 (ap length er ∙ length-var_row n (type_bits kind)) known (codable_few kind codable)
      (ap binary_number reads ∙ digits_number (type_bits kind) 0 (pow_pos (type_bits kind))) codable.1 in (
        digits,
        record {
          vars = total ∙ sym em;
          holds = ap (clauses_hold (model ++ digits)) en
              ∙ both_hold (model ++ digits) older added (clauses_hold-more model digits older is.holds)
              (parts_hold (model ++ digits) added rest (ap (clauses_hold (model ++ digits)) ea ∙ holds)).0;
        },
      );
}

-- ---- a state

pub place_of : (ports : List PortType) (i : ℕ) (d : PortType) → i < length ports
    → drop i ports ≡ get_or ports i d ∷ drop (i + 1) ports
place_of ports i d h = rw (add-one i) (drop-cons ports i d h)

pub width_goes_on : (n m total : ℕ) (left rest : List PortType) (kind : PortType) → left ≡ kind ∷ rest
    → m ≡ n + type_bits kind → n + state_width left ≡ total → m + state_width rest ≡ total
width_goes_on n m total left rest kind el em h = let k : n + state_width (kind ∷ rest) ≡ total = (rw el at h) in omega arith

pub bits_go_on : (n m : ℕ) (bits bits' total : List (List Lit)) (left rest : List PortType) (kind : PortType)
    (row : List Lit) → left ≡ kind ∷ rest → m ≡ n + type_bits kind → row ≡ var_row n (type_bits kind)
    → bits' ≡ bits ++ row ∷ []
    → bits ++ state_bits n left ≡ total → bits' ++ state_bits m rest ≡ total
bits_go_on n m bits bits' total left rest kind row el em er eb h = rw (eb, er, em) (append_assoc bits _ _ ∙ (rw el at h))

pub clauses_go_on : (n m : ℕ) (now newer total : List (List Lit)) (left rest : List PortType) (kind : PortType)
    (row : List Lit) → left ≡ kind ∷ rest → m ≡ n + type_bits kind → row ≡ var_row n (type_bits kind)
    → newer ≡ now ++ code_clauses kind row
    → now ++ state_clauses left (state_bits n left) ≡ total → newer ++ state_clauses rest (state_bits m rest) ≡ total
clauses_go_on n m now newer total left rest kind row el em er en h = rw (en, er, em) (append_assoc now _ _ ∙ (rw el at h))

drop_past : (n : ℕ) (xs : List PortType) → length xs ≤ n → drop n xs ≡ []
drop_past zero [] h = refl
drop_past zero (x ∷ xs) h = absurd (omega arith)
drop_past (suc n) [] h = refl
drop_past (suc n) (x ∷ xs) h = drop_past n xs (omega arith)

pub width_ends : (i n total : ℕ) (ports : List PortType) → length ports ≤ i → n + state_width (drop i ports) ≡ total
    → n ≡ total
width_ends i n total ports past h = let k : n + state_width [] ≡ total = (rw (drop_past i ports past) at h) in omega arith

pub bits_end : (i n : ℕ) (bits total : List (List Lit)) (ports : List PortType) → length ports ≤ i
    → bits ++ state_bits n (drop i ports) ≡ total → bits ≡ total
bits_end i n bits total ports past h = sym (append_nil bits) ∙ (rw (drop_past i ports past) at h)

pub clauses_end : (i n : ℕ) (now total : List (List Lit)) (ports : List PortType) → length ports ≤ i
    → now ++ state_clauses (drop i ports) (state_bits n (drop i ports)) ≡ total → now ≡ total
clauses_end i n now total ports past h = sym (append_nil now) ∙ (rw (drop_past i ports past) at h)

-- what was added, and how
pub record StateAdded (n m : ℕ) (older newer : List (List Lit)) (ports : List PortType)
    (bits : List (List Lit)) : Type 0 where
  pub vars : m ≡ n + state_width ports
  pub rows : bits ≡ state_bits n ports
  pub clauses : newer ≡ older ++ state_clauses ports bits

pub added_has_bits : (n m : ℕ) (older newer : List (List Lit)) (ports : List PortType) (bits : List (List Lit))
    → StateAdded n m older newer ports bits → HasBits m ports bits
added_has_bits n m older newer ports bits a = rw a.rows (state_has_bits n m ports (let e : m ≡ n + state_width ports = a.vars in omega arith))

added_holds : (n m : ℕ) (older newer : List (List Lit)) (ports : List PortType) (bits : List (List Lit))
    → StateAdded n m older newer ports bits → (model : List Bool) → clauses_hold model newer ≡ true
    → clauses_hold model (state_clauses ports bits) ≡ true
added_holds n m older newer ports bits a model h = (parts_hold model older (state_clauses ports bits) (ap (clauses_hold model) (sym a.clauses) ∙ h)).1

pub added_is_state : (n m : ℕ) (older newer : List (List Lit)) (ports : List PortType) (bits : List (List Lit))
    → StateAdded n m older newer ports bits → IsCodedState m newer ports bits
added_is_state n m older newer ports bits a = record {
  shape = added_has_bits n m older newer ports bits a;
  holds = added_holds n m older newer ports bits a;
}

pub added_typed : (g : GatesAreRight) (n m : ℕ) (older newer : List (List Lit)) (ports : List PortType)
    (bits : List (List Lit)) → StateAdded n m older newer ports bits → All IsCodable ports
    → (model : List Bool) → IsModel m newer model → IsValuation ports (state_values model ports bits)
added_typed g n m older newer ports bits a codable model is =
    state_typed g model ports bits codable (subst (λ k. HasBits k ports bits) (sym is.vars) (added_has_bits n m older newer ports bits a))
    (added_holds n m older newer ports bits a model is.holds)

pub added_every : (g : GatesAreRight) (n m : ℕ) (older newer : List (List Lit))
    (ports : List PortType) (bits : List (List Lit)) → StateAdded n m older newer ports bits → All IsCodable ports
    → (model : List Bool) → IsModel n older model → (valuation : List Value) → IsValuation ports valuation
    → (added : List Bool) × IsModel m newer (model ++ added) × (state_values (model ++ added) ports bits ≡ valuation)
added_every g n m older newer ports bits a codable model is valuation typed =
    let e = state_extends g ports n model valuation codable (sym is.vars) typed in (
      e.more,
      record {
        vars = length-append model e.more ∙ (let w : length e.more ≡ state_width ports = e.width in let v : length model ≡ n =
            is.vars in let t : m ≡ n + state_width ports = a.vars in omega arith);
        holds = ap (clauses_hold (model ++ e.more)) a.clauses
            ∙ both_hold (model ++ e.more) older (state_clauses ports bits) (clauses_hold-more model e.more older is.holds)
            (ap (λ b. clauses_hold (model ++ e.more) (state_clauses ports b)) a.rows ∙ e.holds);
      },
      ap (state_values (model ++ e.more) ports) a.rows ∙ e.reads,
    )

pub port_limit : (kind : PortType) (row slice : List Lit) (lits bound : List Bool) (n : ℕ) (z : ℤ) (count : ℕ)
    → slice ≡ row → lits ≡ bound → bound ≡ constant_bits n z → n ≡ length row → z ≡ pos (count - 1)
    → count ≡ length (values kind)
    → limit_clauses slice lits ≡ code_clauses kind row
port_limit kind row slice lits bound n z count es el eb en ez ec = rw (es, el, eb, en, ez, ec) refl

pub bound_length : (row slice : List Lit) (lits bound : List Bool) (n : ℕ) (z : ℤ) → slice ≡ row → lits ≡ bound
    → bound ≡ constant_bits n z → n ≡ length row → length slice ≡ length lits
bound_length row slice lits bound n z es el eb en = ap length es ∙ sym en ∙ sym (length-constant_bits n z) ∙ ap length (sym eb ∙ sym el)

pub row_known : (n m width : ℕ) (row slice : List Lit) → slice ≡ row → row ≡ var_row n width → m ≡ n + width
    → All (λ lit. lit.var < m) slice
row_known n m width row slice es er em = rw (es, er) (var_row-within m n width (omega arith))

pub unwrapped : (o : Option Value) (r v : Value) → o ≡ Some r → o ≡ Some v → r ≡ v
unwrapped o r v e f = cc

pub value_found : (g : GatesAreRight) (model : List Bool) (kind : PortType) (row : List Lit) → IsCodable kind
    → length row ≡ type_bits kind → All (λ lit. lit.var < length model) row
    → clauses_hold model (code_clauses kind row) ≡ true
    → slice_get (values kind) (binary_number (lit_values model row)) ≡ Some (value_at kind (lit_values model row))
value_found g model kind row codable wide known h = code_is_place kind (lit_values model row)
    (code_below g model kind row wide known codable.1 (codable_few kind codable) h)

pub found_typed : (g : GatesAreRight) (model : List Bool) (kind : PortType) (row : List Lit) → IsCodable kind
    → length row ≡ type_bits kind → All (λ lit. lit.var < length model) row
    → clauses_hold model (code_clauses kind row) ≡ true
    → Contains (values kind) (value_at kind (lit_values model row))
found_typed g model kind row codable wide known h = value_typed kind (lit_values model row)
    (code_below g model kind row wide known codable.1 (codable_few kind codable) h)

bits_length : (n : ℕ) (ports : List PortType) (bits : List (List Lit)) → HasBits n ports bits
    → length bits ≡ length ports
bits_length n [] [] has = refl
bits_length n [] (row ∷ bits) has = absurd has
bits_length n (kind ∷ ports) [] has = absurd has
bits_length n (kind ∷ ports) (row ∷ bits) has = ap suc (bits_length n ports bits has.2)

-- what the loop over the ports has at its end
pub state_added : (n m i : ℕ) (older newer : List (List Lit)) (ports : List PortType) (bits : List (List Lit))
    → length ports ≤ i → m + state_width (drop i ports) ≡ n + state_width ports
    → bits ++ state_bits m (drop i ports) ≡ state_bits n ports
    → newer ++ state_clauses (drop i ports) (state_bits m (drop i ports)) ≡ older ++ state_clauses ports
    (state_bits n ports) → StateAdded n m older newer ports bits
state_added n m i older newer ports bits past ev eb ec =
    let rows : bits ≡ state_bits n ports = bits_end i m bits (state_bits n ports) ports past eb in
    record {
      vars = width_ends i m (n + state_width ports) ports past ev;
      rows = rows;
      clauses = clauses_end i m newer (older ++ state_clauses ports (state_bits n ports)) ports past ec ∙ ap (λ b. older ++ state_clauses ports b)
          (sym rows);
    }

-- one more port of a valuation
pub values_go_on : (model : List Bool) (ports : List PortType) (bits : List (List Lit)) (i : ℕ)
    (now newer total : List Value) (value : Value) (d : PortType) → HasBits (length model) ports bits
    → i < length ports
    → value ≡ value_at (get_or ports i d) (lit_values model (get_or bits i [])) → newer ≡ now ++ value ∷ []
    → now ++ state_values model (drop i ports) (drop i bits) ≡ total
    → newer ++ state_values model (drop (i + 1) ports) (drop (i + 1) bits) ≡ total
values_go_on model ports bits i now newer total value d has h ev en et =
    let more : i < length bits = (let e : length bits ≡ length ports = bits_length (length model) ports bits has in omega arith) in
    rw (en, ev) (append_assoc now _ _ ∙ (rw (place_of ports i d h, row_at bits i more) at et))
  where
    row_at : (rows : List (List Lit)) (k : ℕ) → k < length rows → drop k rows ≡ get_or rows k [] ∷ drop (k + 1) rows
    row_at rows k less = rw (add-one k) (drop-cons rows k [] less)

pub values_end : (model : List Bool) (ports : List PortType) (bits : List (List Lit)) (i : ℕ) (now total : List Value)
    → length ports ≤ i → now ++ state_values model (drop i ports) (drop i bits) ≡ total → now ≡ total
values_end model ports bits i now total past et = sym (append_nil now) ∙ (rw (drop_past i ports past) at et)

any_port : (ports : List PortType) (i : ℕ) (d e : PortType) → i < length ports → get_or ports i d ≡ get_or ports i e
any_port [] i d e h = absurd (omega arith)
any_port (x ∷ xs) zero d e h = refl
any_port (x ∷ xs) (suc i) d e h = any_port xs i d e (omega arith)

-- a port that was read from the list
pub element_row : (model : List Bool) (ports : List PortType) (bits : List (List Lit)) (i : ℕ) (element : PortType)
    → element ≡ get_or ports i element → i < length ports → All IsCodable ports → HasBits (length model) ports bits
    → clauses_hold model (state_clauses ports bits) ≡ true → PortRow model element (get_or bits i [])
element_row model ports bits i element is h codable has holds =
    subst (λ k. PortRow model k (get_or bits i [])) (any_port ports i kind.Bool element h ∙ sym is) (port_row model ports bits i codable has holds h)

pub element_codable : (ports : List PortType) (i : ℕ) (element : PortType) → element ≡ get_or ports i element
    → i < length ports → All IsCodable ports → IsCodable element
element_codable ports i element is h codable = subst IsCodable (sym is) (codable i element h)

pub element_at : (ports : List PortType) (i : ℕ) (element : PortType) → element ≡ get_or ports i element
    → i < length ports → drop i ports ≡ element ∷ drop (i + 1) ports
element_at ports i element is h = place_of ports i element h ∙ ap (λ k. k ∷ drop (i + 1) ports) (sym is)

-- an element of a slice is one of the list that the slice is of
pub listed : (slice ports : List PortType) (i : ℕ) (element : PortType) → slice ≡ ports
    → element ≡ get_or slice i element → element ≡ get_or ports i element
listed slice ports i element e h = h ∙ ap (λ l. get_or l i element) e
