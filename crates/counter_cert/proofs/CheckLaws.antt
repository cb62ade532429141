-- What a check by logs shows: entries that are not unmet are met, since that is decided by a number.
use Rattle.std.proofs.Common.{◌≡◌, ℕ, ◌<◌, ◌≤◌, ◌↔◌, ℤ, pos, negsuc, List, [], ◌∷◌, suc, zero, length, get_or, inl, inr, refl, sym, ap, ◌∙◌, subst, arith}
use Rattle.std.specs.Prelude.{All, ◌≢◌, slice_get, Some}
use Rattle.std.proofs.lemmas.Bool.{cases_lt}
use Rattle.std.proofs.lemmas.List.Elements.{All-weaker}
use Rattle.core_ltl.specs.declared.question.SignedNode.{SignedNode}
use Rattle.cnf.specs.Clauses.{Problem, HasNoModel}
use Rattle.tableau.specs.TableauStates.{ClosureOverPorts, TableauState}
use Rattle.counter_cert.specs.declared.bounds.GuardedBound.{GuardedBound}
use Rattle.counter_cert.specs.Progress.{most_progress}
use Rattle.counter_cert.specs.Certificates.{IsUpTo, MeetsAll, MetAtStart, KeptBySteps, IsGuardedBound, IsProgressBound}
use Rattle.counter_cert.specs.Checking.{HasModel, BreaksStart, BreaksStep}

up_stable : (p : ℕ) (bound : ℤ) → ((IsUpTo p bound → ⊥) → ⊥) → IsUpTo p bound
up_stable p (pos b) h = elim (cases_lt b p) [
  | inl over ↦ absurd (h (λ up. omega (arith, up, over)))
  | inr up ↦ up
]
up_stable p (negsuc n) h = h (λ up. up)

pub meets_stable : (s : TableauState) (p : ℕ) (entries : List GuardedBound) → ((MeetsAll s p entries → ⊥) → ⊥) → MeetsAll s p entries
meets_stable s p entries h = λ k d lt guard.
    up_stable p (get_or entries k d).bound (λ unmet. h (λ all. unmet (all k d lt guard)))

pub met_at_start : (t : ClosureOverPorts) (question : List SignedNode) (entries : List GuardedBound) (problem : Problem)
    → (HasModel problem ↔ BreaksStart t question entries) → HasNoModel problem.vars problem.clauses → MetAtStart t question entries
met_at_start t question entries problem models none = λ s is asked.
    meets_stable s 0 entries (λ unmet.
    let has = models.1 (record { state = s; is = is; asked = asked; unmet = unmet }) in
    none has.model has.is)

pub kept_by_steps : (t : ClosureOverPorts) (k : ℕ) (entries : List GuardedBound) (problem : Problem)
    → (HasModel problem ↔ BreaksStep t k entries) → HasNoModel problem.vars problem.clauses → KeptBySteps t k entries
kept_by_steps t k entries problem models none = λ s next p is is_next step met.
    meets_stable next _ entries (λ unmet.
    let has = models.1 (record {
      from = s;
      to = next;
      progress = p;
      from_is = is;
      to_is = is_next;
      step = step;
      met = met;
      unmet = unmet;
    }) in
    none has.model has.is)

pub guards_of : (t : ClosureOverPorts) (k w : ℕ) (entries : List GuardedBound) → All (IsGuardedBound t k w) entries
    → All (λ entry. All (λ x. x.node.0 < length t.closure.nodes) entry.guard) entries
guards_of t k w entries h =
    All-weaker (IsGuardedBound t k w) (λ entry. All (λ x. x.node.0 < length t.closure.nodes) entry.guard) (λ entry is. is.guard.known) entries h

pub bounds_of : (t : ClosureOverPorts) (k w : ℕ) (entries : List GuardedBound) → All (IsGuardedBound t k w) entries
    → All (λ entry. IsProgressBound (most_progress t k) entry.bound) entries
bounds_of t k w entries h =
    All-weaker (IsGuardedBound t k w) (λ entry. IsProgressBound (most_progress t k) entry.bound) (λ entry is. is.bound) entries h
