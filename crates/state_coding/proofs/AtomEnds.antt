-- what `code_atom` promises follows from the atom's coding
use Rattle.std.proofs.Common.{◌≡◌, ℕ, ◌≤◌, List, length, sym, ◌∙◌, ap, arith}
use Rattle.std.specs.List.{All}
use Rattle.port_types.specs.declared.types.PortType.{PortType}
use Rattle.typed_ltl.specs.Formulas.{Proposition}
use Rattle.typed_ltl.specs.Traces.{assignment}
use Rattle.typed_ltl.specs.Truth.{proposition_truth}
use Rattle.cnf.specs.declared.lit.Lit.{Lit}
use Rattle.cnf.specs.Clauses.{clauses_hold, lit_holds, Represents}
use Rattle.state_coding.specs.Coded.{IsCoded}
use Rattle.state_coding.specs.Codes.{IsCodable}
use Rattle.state_coding.specs.States.{IsCodedState, state_values}
use Rattle.state_coding.specs.Atoms.{atom_coding}
use Rattle.state_coding.specs.Laws.{AtomsAreRight}
use Rattle.state_coding.specs.Reads.{ReadsPorts}
use Rattle.state_coding.proofs.StateLaws.{parts_hold, bits_later}

-- two states and an atom over them
pub record AtomAdded (n m : ℕ) (older newer : List (List Lit)) (ports : List PortType) (now next : List (List Lit))
    (p : Proposition) (lit : Lit) : Type 0 where
  pub codable : All IsCodable ports
  pub first : IsCodedState n older ports now
  pub second : IsCodedState n older ports next
  pub reads : ReadsPorts ports p
  pub more : n ≤ m
  pub coded : IsCoded older m newer lit (atom_coding ports now next n p)

pub atom_value : (right : AtomsAreRight) (n m : ℕ) (older newer : List (List Lit)) (ports : List PortType)
    (now next : List (List Lit)) (p : Proposition) (lit : Lit) → AtomAdded n m older newer ports now next p lit
    → Represents m newer lit (λ model. proposition_truth (assignment (state_values model ports now))
    (assignment (state_values model ports next)) p)
atom_value right n m older newer ports now next p lit h = λ model is.
    let parts = parts_hold model older (atom_coding ports now next n p).clauses (ap (clauses_hold model) (sym h.coded.clauses) ∙ is.holds) in
    let wide : n ≤ length model = (let e : length model ≡ m = is.vars in let l : n ≤ m = h.more in omega arith) in
    let fits : (atom_coding ports now next n p).vars ≤ length model =
    (let e : length model ≡ m = is.vars in let f : m ≡ (atom_coding ports now next n p).vars = h.coded.vars in omega arith) in
    ap (lit_holds model) h.coded.answer
    ∙ right model ports now next n p
    (record {
      codable = h.codable;
      now_bits = bits_later n (length model) ports now wide h.first.shape;
      next_bits = bits_later n (length model) ports next wide h.second.shape;
      now_holds = h.first.holds model parts.0;
      next_holds = h.second.holds model parts.0;
    })
    h.first.shape h.second.shape h.reads fits parts.1
