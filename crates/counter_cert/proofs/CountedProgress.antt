-- A question that has a certificate is valid. On a trace that breaks it each entry would be met at each position, and
-- progress would pass each number up to one more than the most that is counted: so it would pass the bound that has no
-- guard.
use Rattle.std.proofs.Common.{◌≡◌, ℕ, zero, suc, ◌+◌, ◌-◌, ◌<◌, ◌≤◌, Bool, true, false, ◌&&◌, List, map, length, ℤ, pos, negsuc, get_or}
use Rattle.std.proofs.Common.{inl, inr, refl, sym, ap, ◌∙◌, subst, arith}
use Rattle.std.specs.Prelude.{All, nat_le, if◌then◌else◌}
use Rattle.std.proofs.lemmas.Bool.{cases_lt, le-leb, true≢false}
use Rattle.std.proofs.lemmas.List.Elements.{All-nil}
use Rattle.std.proofs.lemmas.Option.{get_or_from_slice_get, slice_get_within}
use Rattle.typed_ltl.specs.Formulas.{proposition_of}
use Rattle.typed_ltl.specs.Traces.{Trace, IsOver}
use Rattle.core_ltl.specs.declared.question.SignedNode.{SignedNode}
use Rattle.core_ltl.specs.Nodes.{members, NodeHolds, IsClosure}
use Rattle.state_coding.specs.Reads.{ReadsPorts}
use Rattle.tableau.specs.TableauStates.{ClosureOverPorts}
use Rattle.tableau.specs.Questions.{IsQuestionOver, BreaksQuestion, IsSignedIn}
use Rattle.counter_cert.specs.declared.bounds.GuardedBound.{GuardedBound}
use Rattle.counter_cert.specs.Progress.{most_progress, meets_turn, progress_after}
use Rattle.counter_cert.specs.Certificates.{GuardHolds, IsUpTo, MeetsBound, MeetsAll, IsProgressBound, IsCertificate}
use Rattle.counter_cert.specs.Laws.{CertificatesMakeValid}
use Rattle.counter_cert.proofs.DecidedLists.{some_list_tells}
use Rattle.counter_cert.proofs.TraceValues.{ValuesByKind}
use Rattle.counter_cert.proofs.Turns.{turn_at, turn_is}
use Rattle.counter_cert.proofs.TraceStates.{TellsNodes, state_on, IsMetAt, met_again, condition_told, sign_told, is_state, step_on}

-- at position i the state of the trace meets all entries with some progress, p at least
record Reaches (t : ClosureOverPorts) (w : Trace) (entries : List GuardedBound) (p i : ℕ) : Type 0 where
  holding : List Bool
  tell : TellsNodes t w i holding
  progress : ℕ
  enough : p ≤ progress
  meets : MeetsAll (state_on t w i holding) progress entries

not_less : (b : Bool) (q : ℕ) → q ≤ (if b then q + 1 else q)
not_less true q = omega arith
not_less false q = omega arith

one_more : (a b : Bool) (q : ℕ) → a ≡ true → b ≡ true → (if a && b then q + 1 else q) ≡ q + 1
one_more true true q h k = refl
one_more true false q h k = absurd (true≢false (sym k))
one_more false b q h k = absurd (true≢false (sym h))

-- progress that is beyond every number that is counted is beyond a bound
beyond : (most q : ℕ) (b : ℤ) → most < q → IsProgressBound most b → IsUpTo q b → ⊥
beyond most q (pos b) h bound up = omega (arith, h, bound, up)
beyond most q (negsuc n) h bound up = up

module _ (by_kind : ValuesByKind) (t : ClosureOverPorts) (question : List SignedNode) (k width : ℕ) (entries : List GuardedBound)
    (closed : IsClosure (members t.closure)) (reads : All (ReadsPorts t.ports) (map proposition_of t.closure.atoms))
    (cert : IsCertificate t question k width entries) (w : Trace) (over : IsOver t.ports w) where
  -- to the next position, with as much progress as there is after this one
  to_next : (p q i : ℕ) (r : Reaches t w entries p i) → q ≤ progress_after t k (state_on t w i r.holding) r.progress
      → (Reaches t w entries q (i + 1) → ⊥) → ⊥
  to_next p q i r enough none =
      some_list_tells (λ n. NodeHolds (members t.closure) w n (i + 1)) (length t.closure.nodes) (λ later tell.
      let s = state_on t w i r.holding in
      let next = state_on t w (i + 1) later in
      none (record {
        holding = later;
        tell = tell;
        progress = progress_after t k s r.progress;
        enough = enough;
        meets =
            cert.step s next r.progress (is_state t closed w i r.holding r.tell by_kind reads over)
            (is_state t closed w (i + 1) later tell by_kind reads over) (step_on t closed w i r.holding r.tell later tell) r.meets;
      }))

  stays : (p i : ℕ) → Reaches t w entries p i → (Reaches t w entries p (i + 1) → ⊥) → ⊥
  stays p i r none =
      let s = state_on t w i r.holding in
      let grows : r.progress ≤ progress_after t k s r.progress =
      not_less (nat_le r.progress (most_progress t k) && meets_turn t s r.progress) r.progress in
      to_next p p i r (omega (arith, r.enough, grows)) none

  later_on : (p i d : ℕ) → Reaches t w entries p i → (Reaches t w entries p (i + d) → ⊥) → ⊥
  later_on p i zero r none =
      let here : i ≡ i + 0 = omega arith in
      none (subst (Reaches t w entries p) here r)
  later_on p i (suc d) r none =
      let next : (i + d) + 1 ≡ i + suc d = omega arith in
      later_on p i d r (λ x. stays p (i + d) x (λ y. none (subst (Reaches t w entries p) next y)))

  -- one more where the condition is met whose turn it is
  rises : (p i : ℕ) → p ≤ most_progress t k → IsMetAt t w (turn_at t p) i → Reaches t w entries p i
      → ((j : ℕ) → Reaches t w entries (suc p) j → ⊥) → ⊥
  rises p i few met r none =
      elim (cases_lt p r.progress) [
        | inl more ↦ none i (record { holding = r.holding; tell = r.tell; progress = r.progress; enough = omega arith; meets = r.meets })
        | inr same ↦
            let s = state_on t w i r.holding in
            let exact : p ≡ r.progress = omega (arith, same, r.enough) in
            let turn : meets_turn t s p ≡ true = condition_told t closed w i r.holding r.tell (turn_at t p) (turn_is t p) met in
            let counts : progress_after t k s p ≡ p + 1 =
            one_more (nat_le p (most_progress t k)) (meets_turn t s p) p (le-leb p (most_progress t k) few) turn in
            let after : progress_after t k s r.progress ≡ p + 1 = ap (progress_after t k s) (sym exact) ∙ counts in
            to_next p (suc p) i r (omega (arith, after)) (none (i + 1))
      ]

  climbs : (p : ℕ) → p ≤ most_progress t k + 1 → IsQuestionOver t question → BreaksQuestion t question w
      → ((i : ℕ) → Reaches t w entries p i → ⊥) → ⊥
  climbs zero few asked breaks none =
      some_list_tells (λ n. NodeHolds (members t.closure) w n 0) (length t.closure.nodes) (λ holding tell.
      none 0 (record {
        holding = holding;
        tell = tell;
        progress = 0;
        enough = omega arith;
        meets =
            cert.start (state_on t w 0 holding) (is_state t closed w 0 holding tell by_kind reads over)
            (λ n d h. sign_told t closed w 0 holding tell (get_or question n d) (asked n d h) (breaks n d h));
      }))
  climbs (suc p) few asked breaks none =
      climbs p (omega arith) asked breaks (λ i r.
      met_again t closed w (turn_at t p) (turn_is t p) i (λ j le met.
      let there : i + (j - i) ≡ j = omega arith in
      later_on p i (j - i) r (λ x.
      rises p j (omega arith) met (subst (Reaches t w entries p) there x) none)))

  not_broken : IsQuestionOver t question → BreaksQuestion t question w → ⊥
  not_broken asked breaks =
      climbs (most_progress t k + 1) (omega arith) asked breaks (λ i r.
      let alone = cert.unguarded in
      let within = slice_get_within entries alone.place alone.entry alone.listed in
      let is = get_or_from_slice_get entries alone.place alone.entry alone.entry alone.listed in
      let s = state_on t w i r.holding in
      let bound : IsProgressBound (most_progress t k) alone.entry.bound =
      subst (λ (e : GuardedBound). IsProgressBound (most_progress t k) e.bound) is (cert.bounds alone.place alone.entry within).bound in
      let meets : MeetsBound s r.progress alone.entry = subst (MeetsBound s r.progress) is (r.meets alone.place alone.entry within) in
      let guard : GuardHolds s alone.entry.guard = subst (GuardHolds s) (sym alone.unguarded) (All-nil (IsSignedIn s)) in
      beyond (most_progress t k) r.progress alone.entry.bound (omega (arith, r.enough)) bound (meets guard))

pub certificates_valid : ValuesByKind → CertificatesMakeValid
certificates_valid by_kind t question k width entries closed reads asked cert w over breaks =
    not_broken by_kind t question k width entries closed reads cert w over asked breaks
