-- The first lasso as a search finds it: no fewer states, no later loop, and then value by value the least that is left.
use Rattle.std.proofs.Common.{◌≡◌, ℕ, zero, suc, ◌<◌, ◌≤◌, List, [], ◌∷◌, length, get_or, All, flat_map, sym, ◌∙◌, inl, inr, arith}
use Rattle.std.proofs.lemmas.Bool.{cases_lt}
use Rattle.std.proofs.lemmas.List.Elements.{All-head, All-tail}
use Rattle.port_types.specs.declared.types.PortType.{PortType}
use Rattle.port_types.specs.declared.types.PortType.TheVariants as kind
use Rattle.port_types.specs.declared.types.Value.{Value}
use Rattle.typed_ltl.specs.declared.lasso.Lasso.{Lasso}
use Rattle.typed_ltl.specs.Traces.{assignment}
use Rattle.first_lasso.specs.Lassos.{IsStateOver}
use Rattle.first_lasso.specs.FirstLassos.{value_rank, state_ranks, lasso_ranks, IsWitness, IsFirstLasso}
use Rattle.first_lasso.proofs.Order.{NotAfter, by_cases, after_front, from_places}
use Rattle.first_lasso.proofs.Ranks.{length_ranks, one_value, one_state}
use Rattle.first_lasso.proofs.Words.{value_over}
use Rattle.first_lasso.proofs.RankedStates.{rank_at}

-- two lists of states are the same before state i, and the two states there before port p
pub record SameBefore (ss os : List (List Value)) (i p : ℕ) : Type 0 where
  pub states : (j : ℕ) → j < i → get_or ss j [] ≡ get_or os j []
  pub values : (q : ℕ) → q < p → assignment (get_or ss i []) q ≡ assignment (get_or os i []) q

-- At the first place where they differ the first list has the value of lesser rank.
abbrev pub DiffersDownwards : List PortType → List (List Value) → List (List Value) → Type 0
DiffersDownwards ports ss os = (i p : ℕ) → i < length ss → p < length ports → SameBefore ss os i p
    → value_rank (get_or ports p kind.Bool) (assignment (get_or ss i []) p)
    ≤ value_rank (get_or ports p kind.Bool) (assignment (get_or os i []) p)

same_value : (ports : List PortType) (s o : List Value) (p : ℕ) → IsStateOver ports s → IsStateOver ports o → p < length ports
    → get_or (state_ranks ports s) p 0 ≡ get_or (state_ranks ports o) p 0
    → assignment s p ≡ assignment o p
same_value ports s o p h k lt e =
    one_value (get_or ports p kind.Bool) (assignment s p) (assignment o p) (value_over ports s p h lt) (value_over ports o p k lt)
    (sym (rank_at ports s p h lt) ∙ (e ∙ rank_at ports o p k lt))

same_before_more : (s o : List Value) (ss os : List (List Value)) (i p : ℕ) → s ≡ o → SameBefore ss os i p
    → SameBefore (s ∷ ss) (o ∷ os) (suc i) p
same_before_more s o ss os i p e h = record { states = shifted; values = h.values }
  where
    shifted : (j : ℕ) → j < suc i → get_or (s ∷ ss) j [] ≡ get_or (o ∷ os) j []
    shifted zero lt = e
    shifted (suc j) lt = h.states j (omega (arith, lt))

head_not_after : (ports : List PortType) (s o : List Value) (ss os : List (List Value)) → IsStateOver ports s → IsStateOver ports o
    → DiffersDownwards ports (s ∷ ss) (o ∷ os) → NotAfter (state_ranks ports s) (state_ranks ports o)
head_not_after ports s o ss os h k down =
    from_places (state_ranks ports s) (state_ranks ports o) (length_ranks ports s h ∙ sym (length_ranks ports o k)) (λ p lt agree.
    let within : p < length ports = omega (arith, lt, length_ranks ports s h) in
    let before : SameBefore (s ∷ ss) (o ∷ os) 0 p = record {
      states = λ j below. absurd (omega (arith, below));
      values = λ q below. same_value ports s o q h k (omega (arith, below, within)) (agree q below);
    } in
    omega (arith, rank_at ports s p h within, rank_at ports o p k within, down 0 p (omega arith) within before))

pub lists_downwards : (ports : List PortType) (ss os : List (List Value)) → All (IsStateOver ports) ss → All (IsStateOver ports) os
    → length ss ≡ length os → DiffersDownwards ports ss os
    → NotAfter (flat_map (state_ranks ports) ss) (flat_map (state_ranks ports) os)
lists_downwards ports [] os h k n down = tt
lists_downwards ports (s ∷ ss) [] h k n down = absurd (omega (arith, n))
lists_downwards ports (s ∷ ss) (o ∷ os) h k n down =
    let a = All-head (IsStateOver ports) s ss h in
    let b = All-head (IsStateOver ports) o os k in
    after_front (state_ranks ports s) (state_ranks ports o) (flat_map (state_ranks ports) ss) (flat_map (state_ranks ports) os)
    (length_ranks ports s a ∙ sym (length_ranks ports o b)) (head_not_after ports s o ss os a b down) (λ e.
    lists_downwards ports ss os (All-tail (IsStateOver ports) s ss h) (All-tail (IsStateOver ports) o os k) (omega (arith, n))
    (λ i p lt within before. down (suc i) p (omega (arith, lt)) within (same_before_more s o ss os i p (one_state ports s o a b e) before)))

-- What a search finds: of these lassos none has fewer states, none of as many has a later loop, and of those of its shape
-- none has, at the first place where they differ, a value of lesser rank.
pub record IsFoundByStages (ports : List PortType) (has : Lasso → Type 0) (lasso : Lasso) : Type 0 where
  pub witness : IsWitness ports has lasso
  pub no_shorter : (other : Lasso) → IsWitness ports has other → length other.states < length lasso.states → ⊥
  pub no_later : (other : Lasso) → IsWitness ports has other → length other.states ≡ length lasso.states
      → lasso.loop_at < other.loop_at → ⊥
  pub downwards : (other : Lasso) → IsWitness ports has other → length other.states ≡ length lasso.states
      → other.loop_at ≡ lasso.loop_at → DiffersDownwards ports lasso.states other.states

pub first_by_stages : (ports : List PortType) (has : Lasso → Type 0) (k : ℕ) (lasso : Lasso) → IsFoundByStages ports has lasso
    → length lasso.states ≤ k → IsFirstLasso ports has k lasso
first_by_stages ports has k lasso f short = record {
  witness = f.witness;
  short = short;
  fewest = λ other w. elim (cases_lt (length other.states) (length lasso.states)) [
    | inl lt ↦ absurd (f.no_shorter other w lt)
    | inr le ↦ le
  ];
  greatest = λ other w e. elim (cases_lt lasso.loop_at other.loop_at) [
    | inl lt ↦ absurd (f.no_later other w e lt)
    | inr le ↦ le
  ];
  least = λ other w e l.
      by_cases (lasso_ranks ports lasso) (lasso_ranks ports other)
      (lists_downwards ports lasso.states other.states f.witness.typed w.typed (sym e) (f.downwards other w e l));
}
