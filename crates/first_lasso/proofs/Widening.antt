-- Unused ports change nothing, for every property that reads the used ones alone.
use Rattle.std.proofs.Common.{◌≡◌, ℕ, ◌<◌, ◌↔◌, List, map, length, get_or, flat_map, nat_eq, cond, All, Contains}
use Rattle.std.proofs.Common.{refl, sym, ap, ◌∙◌, subst, arith}
use Rattle.std.specs.List.{list_any}
use Rattle.std.proofs.lemmas.Bool.{cond-true}
use Rattle.std.proofs.lemmas.List.{length-map, get_or-map}
use Rattle.std.proofs.lemmas.List.Elements.{All-map, All-weaker, All-contains}
use Rattle.port_types.specs.declared.types.PortType.{PortType}
use Rattle.port_types.specs.declared.types.PortType.TheVariants as kind
use Rattle.port_types.specs.declared.types.Value.{Value}
use Rattle.port_types.specs.Types.{IsOfType}
use Rattle.typed_ltl.specs.declared.lasso.Lasso.{Lasso}
use Rattle.typed_ltl.specs.Formulas.{Ltl}
use Rattle.typed_ltl.specs.Traces.{Trace, IsOver}
use Rattle.first_lasso.specs.Lassos.{IsStateOver, IsLassoOver, WordHas, HasTraceOver, Satisfies}
use Rattle.first_lasso.specs.FirstLassos.{state_ranks, lasso_ranks, IsWitness, IsFirstLasso, HasNoneUpTo}
use Rattle.first_lasso.specs.FormulaPorts.{formula_ports, seen_through}
use Rattle.first_lasso.specs.UsedPorts.{AreUsed, types_at, used_place, first_value, HasValue, widened_state, IsWidened, IsNarrowed}
use Rattle.first_lasso.specs.Laws.{ReadPortsDecide, RenamingKeepsTruth, over_used}
use Rattle.first_lasso.proofs.Order.{NotAfter, by_cases, to_cases}
use Rattle.first_lasso.proofs.Narrowing.{narrowed_lasso, narrowed_lasso_over, narrowed_holds, narrowed_state, widened_holds, widened_over}
use Rattle.first_lasso.proofs.Narrowing.{ByKind, widened_typed, is_listed, used_read, length_types}
use Rattle.first_lasso.proofs.RankedStates.{lists_not_after}

-- the used ones of some ports, each of which has a type with a value
pub record AreFilled (ports : List PortType) (used : List ℕ) : Type 0 where
  pub by_kind : ByKind
  pub used_ports : AreUsed ports used
  pub some : All HasValue ports

pub narrowed_witness : (ports : List PortType) (used : List ℕ) (wide narrow : Trace → Type 0) → IsNarrowed used wide narrow
    → All (λ p. p < length ports) used
    → (lasso : Lasso) → IsWitness ports (WordHas wide) lasso → IsWitness (types_at ports used) (WordHas narrow) (narrowed_lasso used lasso)
narrowed_witness ports used wide narrow n below lasso w = record {
  typed = narrowed_lasso_over ports used below lasso w.typed;
  holds = narrowed_holds used wide narrow n lasso w.holds;
}

widened_lasso_over : (ports : List PortType) (used : List ℕ) → AreFilled ports used
    → (lasso big : Lasso) → IsWidened ports used lasso big → IsLassoOver (types_at ports used) lasso → IsLassoOver ports big
widened_lasso_over ports used f lasso big h typed =
    subst (λ (states : List (List Value)). All (IsStateOver ports) states) (sym h.states)
    (All-map (IsStateOver ports) (widened_state ports used) lasso.states
    (All-weaker (IsStateOver (types_at ports used)) (λ s. IsStateOver ports (widened_state ports used s))
    (widened_over ports used f.by_kind f.some) lasso.states typed))

pub widened_witness : (ports : List PortType) (used : List ℕ) (wide narrow : Trace → Type 0) → AreFilled ports used
    → IsNarrowed used wide narrow
    → (lasso big : Lasso) → IsWidened ports used lasso big → IsWitness (types_at ports used) (WordHas narrow) lasso
    → IsWitness ports (WordHas wide) big
widened_witness ports used wide narrow f n lasso big h w = record {
  typed = widened_lasso_over ports used f lasso big h w.typed;
  holds = (widened_holds ports used wide narrow n f.used_ports.below lasso big h).0 w.holds;
}

widened_size : (ports : List PortType) (used : List ℕ) (lasso big : Lasso) → IsWidened ports used lasso big
    → length big.states ≡ length lasso.states
widened_size ports used lasso big h =
    ap (λ (states : List (List Value)). length states) h.states ∙ length-map lasso.states (widened_state ports used)

pub narrowed_size : (used : List ℕ) (lasso : Lasso) → length (narrowed_lasso used lasso).states ≡ length lasso.states
narrowed_size used lasso = length-map lasso.states (narrowed_state used)

widened_ranks : (ports : List PortType) (used : List ℕ) → AreFilled ports used
    → (lasso big other : Lasso) → IsWidened ports used lasso big → IsLassoOver (types_at ports used) lasso → IsLassoOver ports other
    → length other.states ≡ length lasso.states
    → NotAfter (lasso_ranks (types_at ports used) lasso) (lasso_ranks (types_at ports used) (narrowed_lasso used other))
    → NotAfter (lasso_ranks ports big) (lasso_ranks ports other)
widened_ranks ports used f lasso big other h typed over e least =
    subst (λ (states : List (List Value)). NotAfter (flat_map (state_ranks ports) states) (lasso_ranks ports other)) (sym h.states)
    (lists_not_after ports used lasso.states other.states (record {
      used_ports = f.used_ports;
      narrow = typed;
      wide = over;
      filled = widened_over ports used f.by_kind f.some;
      as_many = sym e;
    }) least)

-- The first lasso of the used ports, widened, is the first lasso of all ports.
pub first_lasso_widens : (ports : List PortType) (used : List ℕ) (wide narrow : Trace → Type 0) (k : ℕ) → AreFilled ports used
    → IsNarrowed used wide narrow
    → (lasso big : Lasso) → IsFirstLasso (types_at ports used) (WordHas narrow) k lasso → IsWidened ports used lasso big
    → IsFirstLasso ports (WordHas wide) k big
first_lasso_widens ports used wide narrow k f n lasso big first h =
    let size = widened_size ports used lasso big h in
    let small = narrowed_witness ports used wide narrow n f.used_ports.below in
    record {
      witness = widened_witness ports used wide narrow f n lasso big h first.witness;
      short = omega (arith, size, first.short);
      fewest = λ other w. omega (arith, size, narrowed_size used other, first.fewest (narrowed_lasso used other) (small other w));
      greatest = λ other w e.
          omega (arith, h.loop_at, first.greatest (narrowed_lasso used other) (small other w) (narrowed_size used other ∙ (e ∙ size)));
      least = λ other w e l.
          by_cases (lasso_ranks ports big) (lasso_ranks ports other)
          (widened_ranks ports used f lasso big other h first.witness.typed w.typed (e ∙ size)
          (to_cases (lasso_ranks (types_at ports used) lasso) (lasso_ranks (types_at ports used) (narrowed_lasso used other))
          (first.least (narrowed_lasso used other) (small other w) (narrowed_size used other ∙ (e ∙ size)) (l ∙ h.loop_at))));
    }

pub widened_loop : (ports : List PortType) (used : List ℕ) (lasso : Lasso) → lasso.loop_at < length (map (widened_state ports used) lasso.states)
widened_loop ports used lasso =
    subst (λ (n : ℕ). lasso.loop_at < n) (sym (length-map lasso.states (widened_state ports used))) lasso.in_range

abbrev pub widened_lasso : List PortType → List ℕ → Lasso → Lasso
widened_lasso ports used lasso =
    record { states = map (widened_state ports used) lasso.states; loop_at = lasso.loop_at; in_range = widened_loop ports used lasso }

pub none_widens : (ports : List PortType) (used : List ℕ) (wide narrow : Trace → Type 0) (k : ℕ) → AreFilled ports used
    → IsNarrowed used wide narrow → HasNoneUpTo (types_at ports used) (WordHas narrow) k ↔ HasNoneUpTo ports (WordHas wide) k
none_widens ports used wide narrow k f n = (
  λ none lasso w.
      omega (arith, narrowed_size used lasso, none (narrowed_lasso used lasso) (narrowed_witness ports used wide narrow n f.used_ports.below lasso w)),
  λ none lasso w.
      let big : Lasso = widened_lasso ports used lasso in
      omega (
        arith,
        length-map lasso.states (widened_state ports used),
        none big (widened_witness ports used wide narrow f n lasso big (record { states = refl; loop_at = refl }) w),
      ),
)

-- A trace of the used ports has the property exactly where a trace of all ports has.
pub traces_widen : (ports : List PortType) (used : List ℕ) (wide narrow : Trace → Type 0) → AreFilled ports used
    → IsNarrowed used wide narrow → HasTraceOver (types_at ports used) narrow ↔ HasTraceOver ports wide
traces_widen ports used wide narrow f n = (
  λ h.
      let w : Trace = h.0 in
      let v : Trace = λ i p. cond (list_any (nat_eq p) used) (w i (used_place used p)) (first_value (get_or ports p kind.Bool)) in (
        v,
        λ i p lt. widened_typed ports used (w i) f.by_kind f.some (h.1 i) p lt,
        n.reads (seen_through (used_place used) w) v (λ i p c.
            sym (cond-true (list_any (nat_eq p) used) (w i (used_place used p)) (first_value (get_or ports p kind.Bool)) (is_listed used p c)))
            ((n.same w).0 h.2),
      ),
  λ h.
      let w : Trace = h.0 in
      let v : Trace = λ i k. w i (get_or used k 0) in (
        v,
        narrowed_trace_over ports used f.used_ports.below w h.1,
        (n.same v).1 (n.reads w (seen_through (used_place used) v) (λ i p c. ap (w i) (sym (used_read used p 0 c))) h.2),
      ),
)
  where
    narrowed_trace_over : (ports : List PortType) (used : List ℕ) → All (λ p. p < length ports) used → (w : Trace) → IsOver ports w
        → IsOver (types_at ports used) (λ i k. w i (get_or used k 0))
    narrowed_trace_over ports used below w over i k lt =
        let within : k < length used = omega (arith, lt, length_types ports used) in
        subst (λ (t : PortType). IsOfType t (w i (get_or used k 0))) (sym (get_or-map (λ (q : ℕ). get_or ports q kind.Bool) used k 0 kind.Bool within))
        (over i (get_or used k 0) (below k 0 within))

-- ---- how properties are narrowed

pub formula_narrows : ReadPortsDecide → RenamingKeepsTruth → (used : List ℕ) (f : Ltl) → All (Contains used) (formula_ports f)
    → IsNarrowed used (Satisfies f) (Satisfies (over_used used f))
formula_narrows decide renaming used f reads = record {
  reads = λ w v h t. decide f w v (λ i p c. h i p (All-contains (Contains used) (formula_ports f) p reads c)) 0 t;
  same = λ w. renaming (used_place used) w f 0;
}

-- what has the same traces
pub narrows_along : (used : List ℕ) (wide narrow other : Trace → Type 0) → ((w : Trace) → other w ↔ narrow w)
    → IsNarrowed used wide narrow → IsNarrowed used wide other
narrows_along used wide narrow other e n = record {
  reads = n.reads;
  same = λ w. (λ t. (n.same w).0 ((e w).0 t), λ t. (e w).1 ((n.same w).1 t));
}

pub all_narrow : (used : List ℕ) → IsNarrowed used (λ w. Unit {0}) (λ w. Unit {0})
all_narrow used = record { reads = λ w v h t. t; same = λ w. (λ t. t, λ t. t) }

pub not_narrows : (used : List ℕ) (wide narrow : Trace → Type 0) → IsNarrowed used wide narrow
    → IsNarrowed used (λ w. wide w → ⊥) (λ w. narrow w → ⊥)
not_narrows used wide narrow n = record {
  reads = λ w v h t u. t (n.reads v w (λ i p c. sym (h i p c)) u);
  same = λ w. (λ t u. t ((n.same w).1 u), λ t u. t ((n.same w).0 u));
}

pub and_narrows : (used : List ℕ) (wide narrow more rest : Trace → Type 0) → IsNarrowed used wide narrow → IsNarrowed used more rest
    → IsNarrowed used (λ w. wide w × more w) (λ w. narrow w × rest w)
and_narrows used wide narrow more rest n m = record {
  reads = λ w v h t. (n.reads w v h t.0, m.reads w v h t.1);
  same = λ w. (λ t. ((n.same w).0 t.0, (m.same w).0 t.1), λ t. ((n.same w).1 t.0, (m.same w).1 t.1));
}
