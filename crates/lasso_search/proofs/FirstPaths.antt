-- The best loop of the fewest states is the first lasso, and where no loop is found there is none.
use Rattle.std.proofs.Common.{◌≡◌, ℕ, ◌+◌, ◌<◌, ◌≤◌, List, length, inl, inr, sym, ap, ◌∙◌, subst, arith}
use Rattle.std.proofs.lemmas.Bool.{cases_lt}
use Rattle.std.proofs.lemmas.List.{length-map}
use Rattle.port_types.specs.declared.types.Value.{Value}
use Rattle.typed_ltl.specs.declared.lasso.Lasso.{Lasso}
use Rattle.core_ltl.specs.declared.question.SignedNode.{SignedNode}
use Rattle.core_ltl.specs.Nodes.{members, IsClosure}
use Rattle.tableau.specs.TableauStates.{ClosureOverPorts, TableauState}
use Rattle.first_lasso.specs.Lassos.{WordHas}
use Rattle.first_lasso.specs.FirstLassos.{IsNotAfter, IsWitness, IsFirstLasso, HasNoneUpTo}
use Rattle.tableau.specs.Questions.{IsQuestionOver, BreaksQuestion}
use Rattle.lasso_search.specs.TableauLassos.{IsTableauLasso, HasTableauLasso}
use Rattle.lasso_search.specs.Laws.{BreakingLassosAreTableauLassos}
use Rattle.lasso_search.specs.Loops.{ranks_of, HasNoLoop, HasNoLoopOf, IsLeastLoop, IsBestLoop}

module _ (law : BreakingLassosAreTableauLassos) (t : ClosureOverPorts) (closed : IsClosure (members t.closure)) (question : List SignedNode)
    (over : IsQuestionOver t question) where
  abbrev Breaking : Lasso → Type 0
  Breaking lasso = IsWitness t.ports (WordHas (BreaksQuestion t question)) lasso

  shape_of : (lasso : Lasso) → Breaking lasso → HasTableauLasso t question lasso
  shape_of lasso w = (law t question lasso closed over).0 w

  as_many : (lasso : Lasso) (h : HasTableauLasso t question lasso) → length h.states ≡ length lasso.states
  as_many lasso h =
      sym (length-map h.states (λ (s : TableauState). s.now)) ∙ ap (λ (vs : List (List Value)). length vs) h.shown

  has_none : (lasso : Lasso) → Breaking lasso → HasNoLoop t question (length lasso.states) lasso.loop_at → ⊥
  has_none lasso w none = let h = shape_of lasso w in none h.states (as_many lasso h) h.path

  pub none_up_to : (k : ℕ) → ((count : ℕ) → count ≤ k → HasNoLoopOf t question count)
      → HasNoneUpTo t.ports (WordHas (BreaksQuestion t question)) k
  none_up_to k none lasso w =
      elim (cases_lt k (length lasso.states)) [
        | inl lt ↦ lt
        | inr le ↦ absurd (has_none lasso w (none (length lasso.states) le lasso.loop_at lasso.in_range))
      ]

  pub first_of_best : (n k : ℕ) → n ≤ k → ((count : ℕ) → count < n → HasNoLoopOf t question count) → (lasso : Lasso)
      → IsBestLoop t question n lasso → IsFirstLasso t.ports (WordHas (BreaksQuestion t question)) k lasso
  first_of_best n k le none lasso best = record {
    witness = (law t question lasso closed over).1 best.least.has;
    short = omega (arith, le, best.least.size);
    fewest = λ other w.
        elim (cases_lt (length other.states) n) [
          | inl lt ↦ absurd (has_none other w (none (length other.states) lt other.loop_at other.in_range))
          | inr ge ↦ omega (arith, ge, best.least.size)
        ];
    greatest = λ other w e.
        let size : length other.states ≡ n = e ∙ best.least.size in
        elim (cases_lt lasso.loop_at other.loop_at) [
          | inl lt ↦
              absurd (has_none other w
              (subst (λ (m : ℕ). HasNoLoop t question m other.loop_at) (sym size) (best.latest other.loop_at lt (omega (arith, size, other.in_range)))))
          | inr ge ↦ ge
        ];
    least = λ other w e place.
        let h = shape_of other w in
        let after = best.least.least h.states (as_many other h ∙ (e ∙ best.least.size))
        (subst (IsTableauLasso t question h.states) place h.path) in
        subst (λ (vs : List (List Value)). IsNotAfter (ranks_of t.ports lasso.states) (ranks_of t.ports vs)) h.shown after;
  }

-- ---- what is not there, one more at a time

-- of one number of states, from the greatest place down
pub none_later : (t : ClosureOverPorts) (question : List SignedNode) (size later place : ℕ) → place + (later + 1) ≡ size
    → ((at : ℕ) → size ≤ at + later → at < size → HasNoLoop t question size at) → HasNoLoop t question size place
    → (at : ℕ) → size ≤ at + (later + 1) → at < size → HasNoLoop t question size at
none_later t question size later place e none this at le lt =
    elim (cases_lt (at + later) size) [
      | inl low ↦
          let same : place ≡ at = omega (arith, e, le, low) in
          subst (λ (p : ℕ). HasNoLoop t question size p) same this
      | inr high ↦ none at high lt
    ]

-- the one that is found is the best
pub best_loop : (t : ClosureOverPorts) (question : List SignedNode) (size later place : ℕ) (lasso : Lasso) → place + (later + 1) ≡ size
    → IsLeastLoop t question size place lasso → ((at : ℕ) → size ≤ at + later → at < size → HasNoLoop t question size at)
    → IsBestLoop t question size lasso
best_loop t question size later place lasso e least none = record {
  least = subst (λ (p : ℕ). IsLeastLoop t question size p lasso) (sym least.place) least;
  latest = λ at lt inside. none at (omega (arith, e, lt, least.place)) inside;
}

-- of one more state
pub none_longer : (t : ClosureOverPorts) (question : List SignedNode) (done : ℕ) → ((count : ℕ) → count ≤ done → HasNoLoopOf t question count)
    → HasNoLoopOf t question (done + 1) → (count : ℕ) → count ≤ done + 1 → HasNoLoopOf t question count
none_longer t question done none this count le =
    elim (cases_lt done count) [
      | inl low ↦
          let same : done + 1 ≡ count = omega (arith, le, low) in
          subst (λ (c : ℕ). HasNoLoopOf t question c) same this
      | inr high ↦ none count high
    ]
